-- Where a row that has the code of a part stands in it.
use Rattle.std.proofs.Common.{◌≡◌, ℕ, ◌-◌, ◌&&◌, Bool, true, false, ℤ, List, take, drop, slice_get, Some, refl, sym, ap, subst, ◌∙◌, arith}
use Rattle.std.specs.List.{list_all}
use Rattle.sem_query.specs.declared.plan.LocalCondition.{LocalCondition}
use Rattle.sem_query.specs.declared.plan.PartPlan.{PartPlan}
use Rattle.sem_query.specs.Query.{QueryValue}
use Rattle.sem_query.specs.Parts.{pairs}
use Rattle.sem_query.specs.Meaning.{by_column}
use Rattle.sem_query.specs.Plan.{dims_at}
use Rattle.sem_query.specs.Admission.{alone, meets_local, in_range, admits}
use Rattle.exec_synopsis.specs.Keeping.{keeps_part}
use Rattle.exec_synopsis.specs.declared.axes.Placement.{Placement}
use Rattle.exec_synopsis.specs.Axes.{is_inside, IsPlacement}
use Rattle.exec_part_index.specs.declared.part_entry.PartEntry.{PartEntry}
use Rattle.exec_part_index.specs.declared.part_index.PartIndex.{PartIndex}
use Rattle.exec_part_index.specs.declared.span.Span.{Span}
use Rattle.exec_part_index.specs.PartEntry.{IsPartEntry}
use Rattle.exec_part_index.specs.PartIndex.{row_code, asked_at, IsPartIndex}
use Rattle.exec_part_index.specs.Span.{in_span}
use Rattle.exec_part_index.proofs.Telling.{and-true, and-false, coded}

-- no condition of a list stands before the first
none_before : (f : LocalCondition → Bool) (ts : List LocalCondition) (a b : ℕ) → b ≡ 0 → list_all f (take (b - a) (drop a ts)) ≡ true
none_before f ts a b none = let e : b - a ≡ 0 = omega (arith, none) in subst (λ n. list_all f (take n (drop a ts)) ≡ true) (sym e) refl

module _ (q : QueryValue) (parts : List PartPlan) (place : ℕ) (c : PartIndex) (are : IsPartIndex q parts place c) (row : List ℤ) (i : ℕ) (part : PartPlan) (at_i : slice_get parts i ≡ Some part)
    (entry : PartEntry) (is : IsPartEntry parts place c.codes.items c.links.items c.spans.items i entry) (code : entry.code ≡ row_code c.tested.items (by_column row)) where
  -- it is admitted where it lies in the ranges of the dims and meets the conditions
  admits_if : (met : Bool) → list_all (meets_local (alone (by_column row))) (in_span c.conditions.items entry.span) ≡ met
      → admits q part place (by_column row) ≡ (list_all (in_range (by_column row)) (dims_at part place) && met)
  admits_if met e =
      let spans : in_span c.conditions.items entry.span ≡ asked_at c i = ap (λ (s : Span). in_span c.conditions.items s) is.span in
      coded q parts place c are (by_column row) i part at_i (sym is.code ∙ code)
      ∙ ap (λ b. list_all (in_range (by_column row)) (dims_at part place) && b) (ap (λ (ts : List LocalCondition). list_all (meets_local (alone (by_column row))) ts) (sym spans) ∙ e)

  -- where it meets the conditions it stands as its box says
  pub met : (placement : Placement) → IsPlacement part place row (list_all (in_range (by_column row)) (dims_at part place)) placement
      → list_all (meets_local (alone (by_column row))) (in_span c.conditions.items entry.span) ≡ true → IsPlacement part place row (admits q part place (by_column row)) placement
  met placement there meets =
      subst (λ b. IsPlacement part place row b placement) (sym (admits_if true meets ∙ and-true (list_all (in_range (by_column row)) (dims_at part place)))) there

  -- so it does where there are none
  pub unasked_there : (placement : Placement) → IsPlacement part place row (list_all (in_range (by_column row)) (dims_at part place)) placement → entry.span.to ≡ 0
      → IsPlacement part place row (admits q part place (by_column row)) placement
  unasked_there placement there none = met placement there (none_before (meets_local (alone (by_column row))) c.conditions.items entry.span.from entry.span.to none)

  -- where it does not meet them it is outside
  pub unmet : list_all (meets_local (alone (by_column row))) (in_span c.conditions.items entry.span) ≡ false → IsPlacement part place row (admits q part place (by_column row)) Placement.Outside
  unmet fails = record {
    inside = sym (admits_if false fails ∙ and-false (list_all (in_range (by_column row)) (dims_at part place)) false refl);
    cell = tt;
  }

  -- a row outside of its box is outside of the part
  pub outside_box : (placement : Placement) → IsPlacement part place row (list_all (in_range (by_column row)) (dims_at part place)) placement → is_inside placement ≡ false
      → IsPlacement part place row (admits q part place (by_column row)) placement
  outside_box placement there out = record {
    inside = out ∙ sym (and-false (keeps_part (pairs q) part place (by_column row)) (list_all (in_range (by_column row)) (dims_at part place)) (sym there.inside ∙ out));
    cell = there.cell;
  }
