-- A query has one violation, or none.
use Rattle.std.proofs.Common.{◌≡◌, ℕ, ◌<◌, Bool, true, ◌⊎◌, inl, inr, refl, sym, ◌∙◌, ap, ap₂, subst, arith, nat_lt, Option, Some, None, List}
use Rattle.sem_query.specs.declared.atom.Attr.{Attr}
use Rattle.sem_query.specs.declared.part.Sign.{Sign}
use Rattle.sem_query.specs.declared.condition.Condition.{Condition}
use Rattle.sem_query.specs.declared.condition.Condition.TheVariants.{C1, C2, C3}
use Rattle.sem_query.specs.Query.{QueryValue, attr_lt}
use Rattle.sem_query.specs.Violation.{Failure, failure_lt, condition_lt, condition_index, IsFirstFailure, filter, first}
use Rattle.sem_query.specs.Laws.{HasOneViolation}
use Rattle.sem_query.proofs.Unique.{one_list_of_parts}

data Three {A : Type 0} (lt : A → A → Bool) (x y : A) : Type 0 where
  under : lt x y ≡ true → Three lt x y
  over : lt y x ≡ true → Three lt x y
  same : x ≡ y → Three lt x y

nats : (x y : ℕ) → Three nat_lt x y
nats x y = elim (pick x y) [ inl h ↦ under (grind (arith, h)) | inr o ↦ elim o [ inl h ↦ over (grind (arith, h)) | inr e ↦ same e ] ]
  where
    pick : (x y : ℕ) → (x < y) ⊎ ((y < x) ⊎ (x ≡ y))
    pick x y = grind arith

conditions : (c d : Condition) → Three condition_lt c d
conditions C1 C1 = same refl
conditions C1 C2 = under refl
conditions C1 C3 = under refl
conditions C2 C1 = over refl
conditions C2 C2 = same refl
conditions C2 C3 = under refl
conditions C3 C1 = over refl
conditions C3 C2 = over refl
conditions C3 C3 = same refl

attrs : (a b : Attr) → Three attr_lt a b
attrs a b = elim (nats a.stream b.stream) [
  | under h ↦ under (grind (arith, h))
  | over h ↦ over (grind (arith, h))
  | same e ↦ elim (nats a.column b.column) [
    | under h ↦ under (grind (arith, e, h))
    | over h ↦ over (grind (arith, e, h))
    | same f ↦ same (ap₂ (λ (s c : ℕ). let r : Attr = record { stream = s; column = c } in r) e f)
  ]
]

failures : (f g : Failure) → Three failure_lt f g
failures f g = elim (nats f.part g.part) [
  | under h ↦ under (grind (arith, h))
  | over h ↦ over (grind (arith, h))
  | same e ↦ elim (conditions f.condition g.condition) [
    | under h ↦ under (grind (arith, e, h))
    | over h ↦ over (grind (arith, e, h))
    | same c ↦
        let i : condition_index f.condition ≡ condition_index g.condition = ap condition_index c in
        elim (attrs f.attr g.attr) [
          | under h ↦ under (grind (arith, e, i, h))
          | over h ↦ over (grind (arith, e, i, h))
          | same a ↦ same (ap₂ (λ (u : ℕ × Condition) (t : Attr). let r : Failure = record { part = u.0; condition = u.1; attr = t } in r) (ap₂ (λ (p : ℕ) (c : Condition). let u : ℕ × Condition = (p, c) in u) e c) a)
        ]
  ]
]

first_is_one : (q : QueryValue) (ps : List (List Sign)) (r s : Option Failure) → IsFirstFailure q ps r → IsFirstFailure q ps s → r ≡ s
first_is_one q ps None None a b = refl
first_is_one q ps None (Some g) a b = absurd (a g b.0)
first_is_one q ps (Some f) None a b = absurd (b f a.0)
first_is_one q ps (Some f) (Some g) a b = elim (failures f g) [
  | under h ↦ absurd (b.1 f h a.0)
  | over h ↦ absurd (a.1 g h b.0)
  | same e ↦ ap (λ z. let r : Option Failure = Some z in r) e
]

-- a query has one violation, or none
pub one_violation : HasOneViolation
one_violation q r s (filter h e) (filter k f) = e ∙ sym f
one_violation q r s (filter h e) (first k ps a b) = cc
one_violation q r s (first k ps a b) (filter h e) = cc
one_violation q r s (first k ps a b) (first k' ps' a' b') =
    let e : ps ≡ ps' = one_list_of_parts q ps ps' a a' in
    first_is_one q ps r s b (subst (λ z. IsFirstFailure q z s) (sym e) b')
