-- What tests over lists and places say.
use Rattle.std.proofs.Common.{◌≡◌, ◌⊎◌, inl, inr, List, [], ◌∷◌, filter, cond, Bool, true, false, ◌&&◌, ◌||◌, refl, sym, arith, nat_eq, ℕ, ◌++◌, ap}
use Rattle.std.specs.List.{list_all, list_any}
use Rattle.sem_query.proofs.Has.{Has, first, later}
use Rattle.sem_query.specs.declared.atom.Attr.{Attr}
use Rattle.sem_query.specs.declared.part.Sign.{Sign}
use Rattle.sem_query.specs.Admission.{sign_eq}
use Rattle.sem_query.specs.Query.{attr_eq}

pub and-left : (a b : Bool) → (a && b) ≡ true → a ≡ true
and-left true b h = refl
and-left false b h = h

pub and-right : (a b : Bool) → (a && b) ≡ true → b ≡ true
and-right true b h = h
and-right false b h = absurd (cc)

pub and-both : (a b : Bool) → a ≡ true → b ≡ true → (a && b) ≡ true
and-both a b h k = rw h k

pub or-cases : (a b : Bool) → (a || b) ≡ true → (a ≡ true) ⊎ (b ≡ true)
or-cases true b h = inl refl
or-cases false b h = inr h

pub or-left : (a b : Bool) → a ≡ true → (a || b) ≡ true
or-left a b h = rw h refl

pub or-right : (a b : Bool) → b ≡ true → (a || b) ≡ true
or-right true b h = refl
or-right false b h = h

pub or-false : (a b : Bool) → (a || b) ≡ false → (a ≡ false) × (b ≡ false)
or-false true b h = absurd cc
or-false false b h = (refl, h)

pub true_or_false : (b : Bool) → (b ≡ true) ⊎ (b ≡ false)
true_or_false true = inl refl
true_or_false false = inr refl

pub not_both : (b : Bool) → b ≡ true → b ≡ false → ⊥
not_both true h k = cc
not_both false h k = cc

pub false_if : (b : Bool) → (b ≡ true → ⊥) → b ≡ false
false_if true h = absurd (h refl)
false_if false h = refl

pub same_bool : (a b : Bool) → (a ≡ true → b ≡ true) → (b ≡ true → a ≡ true) → a ≡ b
same_bool true b f g = sym (f refl)
same_bool false true f g = g refl
same_bool false false f g = refl

pub all_at : {X : Type 0} (t : X → Bool) (xs : List X) (x : X) → list_all t xs ≡ true → Has xs x → t x ≡ true
all_at t [] x h k = elim k [ ]
all_at t (y ∷ xs) x h first = and-left _ _ h
all_at t (y ∷ xs) x h (later k) = all_at t xs x (and-right (t y) _ h) k

pub all_if : {X : Type 0} (t : X → Bool) (xs : List X) → ((x : X) → Has xs x → t x ≡ true) → list_all t xs ≡ true
all_if t [] h = refl
all_if t (y ∷ xs) h = and-both _ _ (h y first) (all_if t xs (λ x k. h x (later k)))

passes_cond : {X : Type 0} (t : X → Bool) (b : Bool) (y : X) (zs : List X) (x : X) → t y ≡ b → Has (cond b (y ∷ zs) zs) x
    → (Has zs x → t x ≡ true) → t x ≡ true
passes_cond t true y zs x e first f = e
passes_cond t true y zs x e (later k) f = f k
passes_cond t false y zs x e k f = f k

pub filter-passes : {X : Type 0} (t : X → Bool) (xs : List X) (x : X) → Has (filter t xs) x → t x ≡ true
filter-passes t [] x h = elim h [ ]
filter-passes t (y ∷ xs) x h = passes_cond t (t y) y (filter t xs) x refl h (filter-passes t xs x)

pub sign_eq-is : (s t : Sign) → sign_eq s t ≡ true → s ≡ t
sign_eq-is Sign.Lt Sign.Lt h = refl
sign_eq-is Sign.Lt Sign.Eq h = absurd cc
sign_eq-is Sign.Lt Sign.Gt h = absurd cc
sign_eq-is Sign.Eq Sign.Lt h = absurd cc
sign_eq-is Sign.Eq Sign.Eq h = refl
sign_eq-is Sign.Eq Sign.Gt h = absurd cc
sign_eq-is Sign.Gt Sign.Lt h = absurd cc
sign_eq-is Sign.Gt Sign.Eq h = absurd cc
sign_eq-is Sign.Gt Sign.Gt h = refl

pub sign_eq-itself : (s : Sign) → sign_eq s s ≡ true
sign_eq-itself Sign.Lt = refl
sign_eq-itself Sign.Eq = refl
sign_eq-itself Sign.Gt = refl

pub attr_eq-is : (a b : Attr) → attr_eq a b ≡ true → a ≡ b
attr_eq-is a b h =
    let s : a.stream ≡ b.stream = grind (arith, and-left (nat_eq a.stream b.stream) (nat_eq a.column b.column) h) in
    let c : a.column ≡ b.column = grind (arith, and-right (nat_eq a.stream b.stream) (nat_eq a.column b.column) h) in
    λ i. record { stream = s i; column = c i }

pub attr_eq-itself : (a : Attr) → attr_eq a a ≡ true
attr_eq-itself a = grind arith

-- a test that some member passes
pub any_from : {X : Type 0} (t : X → Bool) (xs : List X) → list_any t xs ≡ true → (x : X) × Has xs x × (t x ≡ true)
any_from t [] h = absurd cc
any_from t (y ∷ xs) h = elim (or-cases (t y) _ h) [
  | inl e ↦ (y, first, e)
  | inr e ↦ (let r = any_from t xs e in (r.0, later r.1, r.2))
]

pub any_if : {X : Type 0} (t : X → Bool) (xs : List X) (x : X) → Has xs x → t x ≡ true → list_any t xs ≡ true
any_if t [] x h e = elim h [ ]
any_if t (y ∷ xs) x first e = or-left _ _ e
any_if t (y ∷ xs) x (later h) e = or-right (t y) _ (any_if t xs x h e)

pub nat_true : (a b : ℕ) → nat_eq a b ≡ true → a ≡ b
nat_true a b h = grind (arith, h)

pub append-nothing : {X : Type 0} (xs : List X) → xs ++ [] ≡ xs
append-nothing [] = refl
append-nothing (x ∷ xs) = ap (λ l. x ∷ l) (append-nothing xs)
