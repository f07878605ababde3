-- The first failure among some sign vectors, by what breaks a condition, as a walk over the leaves keeps it.
use Rattle.std.proofs.Common.{◌≡◌, ℕ, zero, suc, ◌-◌, ◌<◌, ◌≤◌, Bool, true, ◌⊎◌, inl, inr, nat_lt, nat_eq, refl, ap, subst, arith, List, [], ◌∷◌, ◌++◌, length, slice_get}
use Rattle.std.proofs.lemmas.Bool.Decides.{nat_tests}
use Rattle.std.proofs.lemmas.Option.{slice_get_within}
use Rattle.std.specs.declared.option.Option.{Option}
use Rattle.std.specs.declared.option.Option.TheVariants.{None, Some}
use Rattle.sem_query.specs.declared.atom.Attr.{Attr}
use Rattle.sem_query.specs.declared.condition.Condition.{Condition}
use Rattle.sem_query.specs.declared.condition.Condition.TheVariants.{C1, C2, C3}
use Rattle.sem_query.specs.declared.part.Sign.{Sign}
use Rattle.sem_query.specs.Query.{QueryValue, attr_lt}
use Rattle.sem_query.specs.Violation.{Breaks, Failure, failure_lt, condition_lt, condition_index, Fails, IsFirstFailure}
use Rattle.plan_constraints.proofs.Numbers.{slice_get-append}
use Rattle.cert_checker.specs.Shown.{FailsBy, IsFirstFailureBy}

-- what stands at a place of a list with one more stood there before, or is the one
data Last {A : Type 0} (xs : List A) (x : A) (k : ℕ) (y : A) : Type 0 where
  old : slice_get xs k ≡ Some y → Last xs x k y
  new : k ≡ length xs → y ≡ x → Last xs x k y

last_cases : {A : Type 0} (xs : List A) (x : A) (k : ℕ) (y : A) → slice_get (xs ++ x ∷ []) k ≡ Some y → Last xs x k y
last_cases [] x zero y h = new refl cc
last_cases [] x (suc k) y h = absurd cc
last_cases (z ∷ xs) x zero y h = old h
last_cases (z ∷ xs) x (suc k) y h = elim (last_cases xs x k y h) [ old e ↦ old e | new e f ↦ new (ap suc e) f ]

front_of : {A : Type 0} (xs ys : List A) (k : ℕ) (y : A) → k < length xs → slice_get (xs ++ ys) k ≡ Some y → slice_get xs k ≡ Some y
front_of [] ys k y l h = absurd (omega arith)
front_of (x ∷ xs) ys zero y l h = h
front_of (x ∷ xs) ys (suc k) y l h = front_of xs ys k y (omega arith) h

pub same_condition : (c d : Condition) → condition_index c ≡ condition_index d → c ≡ d
same_condition C1 C1 e = refl
same_condition C1 C2 e = absurd (omega (arith, e))
same_condition C1 C3 e = absurd (omega (arith, e))
same_condition C2 C1 e = absurd (omega (arith, e))
same_condition C2 C2 e = refl
same_condition C2 C3 e = absurd (omega (arith, e))
same_condition C3 C1 e = absurd (omega (arith, e))
same_condition C3 C2 e = absurd (omega (arith, e))
same_condition C3 C3 e = refl

-- how a failure comes before another
data ComesBefore (f g : Failure) : Type 0 where
  by_part : f.part < g.part → ComesBefore f g
  by_condition : f.part ≡ g.part → condition_lt f.condition g.condition ≡ true → ComesBefore f g
  by_attr : f.part ≡ g.part → f.condition ≡ g.condition → attr_lt f.attr g.attr ≡ true → ComesBefore f g

before_cases : (f g : Failure) → failure_lt f g ≡ true → ComesBefore f g
before_cases f g h = elim (parted (nat_lt f.part g.part) (nat_eq f.part g.part) (condition_lt f.condition g.condition) (nat_eq (condition_index f.condition) (condition_index g.condition)) (attr_lt f.attr g.attr) refl refl refl refl refl h) [
  | inl p ↦ by_part p
  | inr r ↦ elim r.1 [ inl c ↦ by_condition r.0 c | inr a ↦ by_attr r.0 (same_condition f.condition g.condition a.0) a.1 ]
]
  where
    parted : (a b c d e : Bool) → nat_lt f.part g.part ≡ a → nat_eq f.part g.part ≡ b → condition_lt f.condition g.condition ≡ c → nat_eq (condition_index f.condition) (condition_index g.condition) ≡ d → attr_lt f.attr g.attr ≡ e
        → failure_lt f g ≡ true → (f.part < g.part) ⊎ ((f.part ≡ g.part) × ((condition_lt f.condition g.condition ≡ true) ⊎ ((condition_index f.condition ≡ condition_index g.condition) × (attr_lt f.attr g.attr ≡ true))))
    parted a b c d e pa pb pc pd pe h = grind (arith, nat_tests)

not_after : (f g : Failure) → failure_lt f g ≡ true → f.part ≤ g.part
not_after f g h = elim (before_cases f g h) [
  | by_part p ↦ omega (arith, p)
  | by_condition e c ↦ omega (arith, e)
  | by_attr e c a ↦ omega (arith, e)
]

module _ (B : List Sign → Condition → Attr → Type 0) where
  -- where there is no sign vector there is no failure
  pub none_fails_yet : IsFirstFailureBy B [] None
  none_fails_yet f h = let e = h.at in absurd cc

  fails_cases : (xs : List (List Sign)) (s : List Sign) (f : Failure) → FailsBy B (xs ++ s ∷ []) f → FailsBy B xs f ⊎ ((f.part ≡ suc (length xs)) × B s f.condition f.attr)
  fails_cases xs s f h = elim (last_cases xs s (f.part - 1) h.signs h.at) [
    | old e ↦ inl record { signs = h.signs; number = h.number; at = e; breaks = h.breaks }
    | new e g ↦ inr ((let l : 0 < f.part = h.number in omega (arith, e, l)), subst (λ z. B z f.condition f.attr) g h.breaks)
  ]

  -- one more that breaks no condition leaves none that fails
  pub none_fails_more : (xs : List (List Sign)) (s : List Sign) → IsFirstFailureBy B xs None → ((c : Condition) (a : Attr) → ¬ B s c a) → IsFirstFailureBy B (xs ++ s ∷ []) None
  none_fails_more xs s n m f h = elim (fails_cases xs s f h) [ inl g ↦ n f g | inr g ↦ m f.condition f.attr g.1 ]

  -- the first that breaks a condition is the first failure, by its first condition and the first column that shows it
  pub first_fails_now : (xs : List (List Sign)) (s : List Sign) (c : Condition) (a : Attr) → IsFirstFailureBy B xs None
      → B s c a → ((d : Condition) (b : Attr) → condition_lt d c ≡ true → ¬ B s d b) → ((b : Attr) → attr_lt b a ≡ true → ¬ B s c b)
      → IsFirstFailureBy B (xs ++ s ∷ []) (Some record { part = suc (length xs); condition = c; attr = a })
  first_fails_now xs s c a n b earlier sooner = (
    record { signs = s; number = omega arith; at = subst (λ z. slice_get (xs ++ s ∷ []) z ≡ Some s) (let e : length xs ≡ suc (length xs) - 1 = omega arith in e) (last xs); breaks = b },
    λ g l h. elim (fails_cases xs s g h) [
      | inl k ↦ n g k
      | inr k ↦ elim (before_cases g (record { part = suc (length xs); condition = c; attr = a }) l) [
        | by_part p ↦ absurd (let e : g.part ≡ suc (length xs) = k.0 in omega (arith, p, e))
        | by_condition e r ↦ earlier g.condition g.attr r k.1
        | by_attr e r t ↦ sooner g.attr t (subst (λ z. B s z g.attr) r k.1)
      ]
    ],
  )
    where
      last : (ys : List (List Sign)) → slice_get (ys ++ s ∷ []) (length ys) ≡ Some s
      last [] = refl
      last (y ∷ ys) = last ys

  -- the first failure stays the first
  pub first_fails_still : (xs ys : List (List Sign)) (f : Failure) → IsFirstFailureBy B xs (Some f) → IsFirstFailureBy B (xs ++ ys) (Some f)
  first_fails_still xs ys f h = (
    record { signs = h.0.signs; number = h.0.number; at = slice_get-append xs ys (f.part - 1) h.0.signs h.0.at; breaks = h.0.breaks },
    λ g l k.
        let place : f.part - 1 < length xs = slice_get_within xs (f.part - 1) h.0.signs h.0.at in
        let most : g.part ≤ f.part = not_after g f l in
        let number : 0 < g.part = k.number in
        h.1 g l record { signs = k.signs; number = k.number; at = front_of xs ys (g.part - 1) k.signs (omega (arith, place, most, number)) k.at; breaks = k.breaks },
  )

-- by the conditions of a part it is the first failure of the model
module _ (q : QueryValue) (xs : List (List Sign)) where
  fails_to : (f : Failure) → Fails q xs f → FailsBy (Breaks q) xs f
  fails_to f h = record { signs = h.signs; number = h.number; at = h.at; breaks = h.breaks }

  fails_from : (f : Failure) → FailsBy (Breaks q) xs f → Fails q xs f
  fails_from f h = record { signs = h.signs; number = h.number; at = h.at; breaks = h.breaks }

  pub plain_failures : (r : Option Failure) → IsFirstFailureBy (Breaks q) xs r → IsFirstFailure q xs r
  plain_failures None n = λ f h. n f (fails_to f h)
  plain_failures (Some f) h = (fails_from f h.0, λ g l k. h.1 g l (fails_to g k))
