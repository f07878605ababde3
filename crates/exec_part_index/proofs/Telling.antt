-- The code of a part and the conditions that it does not tell say whether a row in the ranges of its dims keeps what it asks.
use Rattle.std.proofs.Common.{◌≡◌, ℕ, ◌&&◌, nat_eq, true, false, ℤ, List, Bool, get_or, slice_get, Some, inl, inr, refl, sym, ap, ap₂, ◌∙◌, arith}
use Rattle.std.proofs.lemmas.Bool.Decides.{nat_tests}
use Rattle.std.specs.List.{list_all}
use Rattle.sem_query.specs.declared.plan.PartPlan.{PartPlan}
use Rattle.sem_query.specs.Query.{QueryValue}
use Rattle.sem_query.specs.Parts.{pairs}
use Rattle.sem_query.specs.Plan.{dims_at}
use Rattle.sem_query.specs.Admission.{alone, meets_local, in_range, admits}
use Rattle.sem_laws.proofs.Tests.{and-both, false_if, nat_true, not_both, true_or_false}
use Rattle.exec_synopsis.specs.Keeping.{keeps_part}
use Rattle.exec_part_index.specs.declared.part_index.PartIndex.{PartIndex}
use Rattle.exec_part_index.specs.PartIndex.{row_code, asked_at, IsPartIndex}

pub and-true : (b : Bool) → (b && true) ≡ b
and-true true = refl
and-true false = refl

pub and-false : (a b : Bool) → b ≡ false → (a && b) ≡ false
and-false true b e = e
and-false false b e = refl

module _ (q : QueryValue) (parts : List PartPlan) (place : ℕ) (c : PartIndex) (are : IsPartIndex q parts place c) (v : ℕ → ℤ) (k : ℕ) (part : PartPlan) (at_k : slice_get parts k ≡ Some part) where
  -- a row of another code does not keep what a part asks, if it lies in the ranges of its dims
  other_code : list_all (in_range v) (dims_at part place) ≡ true → nat_eq (get_or c.codes.items k 0) (row_code c.tested.items v) ≡ false → keeps_part (pairs q) part place v ≡ false
  other_code inside other = false_if (keeps_part (pairs q) part place v) (λ keeps.
      let same = are.codes k part at_k v (and-both (keeps_part (pairs q) part place v) (list_all (in_range v) (dims_at part place)) keeps inside) in
      not_both (nat_eq (get_or c.codes.items k 0) (row_code c.tested.items v)) (grind (arith, nat_tests, same)) other)

  -- the code of a part and its conditions, for a row in its ranges
  pub told : list_all (in_range v) (dims_at part place) ≡ true
      → (nat_eq (get_or c.codes.items k 0) (row_code c.tested.items v) && list_all (meets_local (alone v)) (asked_at c k)) ≡ keeps_part (pairs q) part place v
  told inside = elim (true_or_false (nat_eq (get_or c.codes.items k 0) (row_code c.tested.items v))) [
    | inl same ↦ ap (λ b. b && list_all (meets_local (alone v)) (asked_at c k)) same
        ∙ sym (are.asks k part at_k v inside (sym (nat_true (get_or c.codes.items k 0) (row_code c.tested.items v) same)))
    | inr other ↦ ap (λ b. b && list_all (meets_local (alone v)) (asked_at c k)) other ∙ sym (other_code inside other)
  ]

  -- a row of the part's code is admitted where it lies in the ranges of the dims and meets the conditions
  pub coded : get_or c.codes.items k 0 ≡ row_code c.tested.items v → admits q part place v ≡ (list_all (in_range v) (dims_at part place) && list_all (meets_local (alone v)) (asked_at c k))
  coded same = elim (true_or_false (list_all (in_range v) (dims_at part place))) [
    | inl inside ↦ ap₂ (λ a b. a && b) (are.asks k part at_k v inside (sym same)) inside
        ∙ and-true (list_all (meets_local (alone v)) (asked_at c k))
        ∙ sym (ap (λ b. b && list_all (meets_local (alone v)) (asked_at c k)) inside)
    | inr outside ↦ and-false (keeps_part (pairs q) part place v) (list_all (in_range v) (dims_at part place)) outside
        ∙ sym (ap (λ b. b && list_all (meets_local (alone v)) (asked_at c k)) outside)
  ]

  -- a row of another code is not admitted
  pub refused : nat_eq (get_or c.codes.items k 0) (row_code c.tested.items v) ≡ false → admits q part place v ≡ false
  refused other = false_if (admits q part place v) (λ h.
      let same = are.codes k part at_k v h in
      not_both (nat_eq (get_or c.codes.items k 0) (row_code c.tested.items v)) (grind (arith, nat_tests, same)) other)
