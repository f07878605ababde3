-- The first failure among the parts, one part after another.
use Rattle.std.proofs.Common.{◌≡◌, ℕ, zero, suc, ◌+◌, ◌-◌, ◌<◌, ◌≤◌, Bool, true, false, ◌⊎◌, inl, inr, nat_lt, nat_eq, List, [], ◌∷◌, length, All, Option, None, Some, slice_get, slice_index_or, refl, sym, ap, subst, arith}
use Rattle.std.proofs.lemmas.Bool.Decides.{nat_tests}
use Rattle.std.proofs.lemmas.List.Elements.{All-get_or}
use Rattle.sem_query.specs.declared.atom.Attr.{Attr}
use Rattle.sem_query.specs.declared.part.Part.{Part}
use Rattle.sem_query.specs.declared.part.Sign.{Sign}
use Rattle.sem_query.specs.declared.condition.Condition.{Condition}
use Rattle.sem_query.specs.declared.condition.Condition.TheVariants.{C1, C2, C3}
use Rattle.sem_query.specs.Query.{QueryValue, attr_lt, is_filter}
use Rattle.sem_query.specs.Parts.{IsPart, AreParts, sign_lists}
use Rattle.sem_query.specs.Violation.{Failure, failure_lt, condition_lt, condition_index, Breaks, IsViolation, first}
use Rattle.sem_query.specs.declared.first_break.Break.{Break}
use Rattle.sem_query.specs.FirstBreak.{IsFirstBreak}
use Rattle.plan_conditions.specs.Deciding.{NoneBefore}

pub signs_at : (ps : List Part) (i : ℕ) (d : Part) → i < length ps → slice_get (sign_lists ps) i ≡ Some (slice_index_or ps i d).signs.items
signs_at [] i d l = absurd (omega arith)
signs_at (p ∷ ps) zero d l = refl
signs_at (p ∷ ps) (suc i) d l = signs_at ps i d (omega arith)

beyond : (xs : List (List Sign)) (k : ℕ) (s : List Sign) → slice_get xs k ≡ Some s → k < length xs
beyond [] k s e = absurd cc
beyond (x ∷ xs) zero s e = omega arith
beyond (x ∷ xs) (suc k) s e = let r = beyond xs k s e in omega (arith, r)

same_length : (ps : List Part) → length (sign_lists ps) ≡ length ps
same_length [] = refl
same_length (p ∷ ps) = ap suc (same_length ps)

pub part_there : (q : QueryValue) (xs : List (List Sign)) (i : ℕ) (s : List Sign) → All (IsPart q) xs → slice_get xs i ≡ Some s → IsPart q s
part_there q xs i s a e = subst (IsPart q) (is xs i s e) (All-get_or (IsPart q) xs i s (beyond xs i s e) a)
  where
    is : (xs : List (List Sign)) (i : ℕ) (s : List Sign) → slice_get xs i ≡ Some s → slice_index_or xs i s ≡ s
    is [] i s e = absurd cc
    is (x ∷ xs) zero s e = cc
    is (x ∷ xs) (suc i) s e = is xs i s e

last_or_before : (k i : ℕ) → k < i + 1 → (k < i) ⊎ (k ≡ i)
last_or_before k i l = grind arith

pub none_more : (q : QueryValue) (ps : List Part) (i : ℕ) (d : Part) → i < length ps → NoneBefore q (sign_lists ps) i → IsFirstBreak q (slice_index_or ps i d).signs.items None → NoneBefore q (sign_lists ps) (i + 1)
none_more q ps i d l n f = record {
  none = λ k s m e c a b. elim (last_or_before k i m) [
    | inl o ↦ n.none k s o e c a b
    | inr o ↦
        (let t : slice_get (sign_lists ps) i ≡ Some s = subst (λ (z : ℕ). slice_get (sign_lists ps) z ≡ Some s) o e in
        let u = signs_at ps i d l in
        let w : s ≡ (slice_index_or ps i d).signs.items = cc in
        f c a (subst (λ (z : List Sign). Breaks q z c a) w b))
  ];
}

pub none_fails : (q : QueryValue) (ps : List Part) (i : ℕ) → is_filter q ≡ false → AreParts q (sign_lists ps) → length ps ≤ i → NoneBefore q (sign_lists ps) i → IsViolation q None
none_fails q ps i f a l n =
    first f (sign_lists ps) a
    (λ g h. n.none (g.part - 1) h.signs (let b = beyond (sign_lists ps) (g.part - 1) h.signs h.at in omega (arith, b, same_length ps, l)) h.at g.condition g.attr h.breaks)

-- how a failure comes before another
before : (f g : Failure) → failure_lt f g ≡ true → (f.part < g.part) ⊎ ((f.part ≡ g.part) × ((condition_lt f.condition g.condition ≡ true) ⊎ ((condition_index f.condition ≡ condition_index g.condition) × (attr_lt f.attr g.attr ≡ true))))
before f g h = parted (nat_lt f.part g.part) (nat_eq f.part g.part) (condition_lt f.condition g.condition) (nat_eq (condition_index f.condition) (condition_index g.condition)) (attr_lt f.attr g.attr) refl refl refl refl refl h
  where
    parted : (a b c d e : Bool) → nat_lt f.part g.part ≡ a → nat_eq f.part g.part ≡ b → condition_lt f.condition g.condition ≡ c → nat_eq (condition_index f.condition) (condition_index g.condition) ≡ d → attr_lt f.attr g.attr ≡ e
        → failure_lt f g ≡ true → (f.part < g.part) ⊎ ((f.part ≡ g.part) × ((condition_lt f.condition g.condition ≡ true) ⊎ ((condition_index f.condition ≡ condition_index g.condition) × (attr_lt f.attr g.attr ≡ true))))
    parted a b c d e pa pb pc pd pe h = grind (arith, nat_tests)

same_condition : (c d : Condition) → condition_index c ≡ condition_index d → c ≡ d
same_condition C1 C1 e = refl
same_condition C1 C2 e = absurd (omega (arith, e))
same_condition C1 C3 e = absurd (omega (arith, e))
same_condition C2 C1 e = absurd (omega (arith, e))
same_condition C2 C2 e = refl
same_condition C2 C3 e = absurd (omega (arith, e))
same_condition C3 C1 e = absurd (omega (arith, e))
same_condition C3 C2 e = absurd (omega (arith, e))
same_condition C3 C3 e = refl

pub one_fails : (q : QueryValue) (ps : List Part) (i n : ℕ) (d : Part) (b : Break) → is_filter q ≡ false → AreParts q (sign_lists ps) → i < length ps → n ≡ i + 1 → NoneBefore q (sign_lists ps) i → IsFirstBreak q (slice_index_or ps i d).signs.items (Some b)
    → IsViolation q (Some record { part = n; condition = b.condition; attr = b.attr })
one_fails q ps i n d b f a l e m h =
    let here : slice_get (sign_lists ps) i ≡ Some (slice_index_or ps i d).signs.items = signs_at ps i d l in
    let k : n - 1 ≡ i = omega (arith, e) in
    let there : slice_get (sign_lists ps) (n - 1) ≡ Some (slice_index_or ps i d).signs.items = subst (λ (z : ℕ). slice_get (sign_lists ps) z ≡ Some (slice_index_or ps i d).signs.items) (sym k) here in
    first f (sign_lists ps) a (
      record { signs = (slice_index_or ps i d).signs.items; number = omega (arith, e); at = there; breaks = h.0 },
      λ g t w. elim (before g (record { part = n; condition = b.condition; attr = b.attr }) t) [
        | inl o ↦ (let u : 0 < g.part = w.number in m.none (g.part - 1) w.signs (omega (arith, o, e, u)) w.at g.condition g.attr w.breaks)
        | inr o ↦
            (let r : g.part - 1 ≡ n - 1 = ap (λ (z : ℕ). z - 1) o.0 in
            let x : slice_get (sign_lists ps) (n - 1) ≡ Some w.signs = subst (λ (z : ℕ). slice_get (sign_lists ps) z ≡ Some w.signs) r w.at in
            let y : w.signs ≡ (slice_index_or ps i d).signs.items = cc in
            let z : Breaks q (slice_index_or ps i d).signs.items g.condition g.attr = subst (λ (z : List Sign). Breaks q z g.condition g.attr) y w.breaks in
            elim o.1 [
              | inl c ↦ h.1 g.condition g.attr c z
              | inr c ↦ h.2 g.attr c.1 (subst (λ (z : Condition). Breaks q (slice_index_or ps i d).signs.items z g.attr) (same_condition g.condition b.condition c.0) z)
            ])
      ],
    )
