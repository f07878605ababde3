-- A cell that is not empty is saturated exactly where the table has all that the row is answered that the cell is read as.
use Rattle.std.proofs.Common.{◌≡◌, ℕ, ◌<◌, ◌↔◌, ℤ, List, [], ◌∷◌, sym, subst, refl, arith, inl, inr, Contains}
use Rattle.sem_query.specs.declared.cell.Cell.{Cell}
use Rattle.sem_query.specs.declared.plan.Kind.{Kind}
use Rattle.sem_query.specs.declared.plan.PartPlan.{PartPlan}
use Rattle.sem_query.specs.Query.{QueryValue, IsWithinLimits}
use Rattle.sem_query.specs.Boxes.{values_at}
use Rattle.sem_query.specs.Meaning.{by_column}
use Rattle.sem_query.specs.Plan.{dims_at}
use Rattle.sem_query.specs.Cells.{FitsKind}
use Rattle.sem_query.specs.Combinations.{Choice, choice, choice_of, cell_choice, row_of_values, row_of_cell, Reading}
use Rattle.sem_query.specs.Future.{spelled_out}
use Rattle.sem_query.specs.Probing.{found_beside}
use Rattle.sem_query.proofs.Has.{Has, first, Has-from_contains, Contains-from_has}
use Rattle.sem_laws.specs.Closed.{IsSaturated}
use Rattle.sem_laws.proofs.OnePartFits.{has_cases}
use Rattle.exec_ranges.specs.Values.{extreme_of, rows_in}
use Rattle.exec_synopsis.specs.Premises.{IsWalked}
use Rattle.exec_saturation.specs.Saturated.{HasColumns, HasEach}
use Rattle.exec_saturation.proofs.Beside.{found-alike}

-- the one choice of a cell that is not empty
one-choice : (q : QueryValue) (part : PartPlan) (place : ℕ) (xs : List ℤ) (held : Cell) → (held ≡ Cell.Empty → ⊥)
    → choice_of q part place xs held ≡ choice (row_of_values q part place xs (extreme_of held)) (rows_in held)
one-choice q part place xs Cell.Empty n = absurd (n refl)
one-choice q part place xs (Cell.Count m) n = refl
one-choice q part place xs Cell.Present n = refl
one-choice q part place xs (Cell.Extreme z) n = refl

-- stands for rows
some-rows : (kind : Kind) (held : Cell) → FitsKind kind held → (held ≡ Cell.Empty → ⊥) → 0 < rows_in held
some-rows kind Cell.Empty f n = absurd (n refl)
some-rows Kind.Count (Cell.Count m) f n = f.0
some-rows Kind.Present (Cell.Count m) f n = absurd f
some-rows (Kind.Least a) (Cell.Count m) f n = absurd f
some-rows (Kind.Greatest a) (Cell.Count m) f n = absurd f
some-rows kind Cell.Present f n = omega arith
some-rows kind (Cell.Extreme z) f n = omega arith

module _ (q : QueryValue) (part : PartPlan) (within : IsWithinLimits q) (walked : IsWalked q part) (read : Reading) (table : List (List ℤ)) (place i : ℕ) (kind : Kind)
    (held : Cell) (is : held ≡ read part place i) (fits : FitsKind kind held) (some : held ≡ Cell.Empty → ⊥)
    (row : List ℤ) (columns : HasColumns (row_of_cell q part place i (extreme_of held)) row) where
  abbrev own : Choice
  own = record { values = row_of_cell q part place i (extreme_of held); times = rows_in held }

  only : (c : Choice) → Contains (cell_choice q part place i (read part place i)) c → own ≡ c
  only c k =
      let h : Has (cell_choice q part place i (read part place i)) c = Has-from_contains _ c k in
      let j : Has (cell_choice q part place i held) c = subst (λ (d : Cell). Has (cell_choice q part place i d) c) (sym is) h in
      let o : Has (own ∷ []) c = subst (λ cs. Has cs c) (one-choice q part place (values_at (dims_at part place) i) held some) j in
      elim (has_cases own c [] o) [ inl e ↦ e | inr o ↦ elim o [ ] ]

  there : Contains (cell_choice q part place i (read part place i)) own
  there =
      let o : Has (cell_choice q part place i held) own = subst (λ cs. Has cs own) (sym (one-choice q part place (values_at (dims_at part place) i) held some)) first in
      Contains-from_has _ own (subst (λ (d : Cell). Has (cell_choice q part place i d) own) is o)

  pub saturated-by-row : HasEach table (spelled_out (found_beside q part read place (by_column row))) ↔ IsSaturated q part read table place i
  saturated-by-row = (
    λ each c k p t h.
        each t (Contains-from_has _ t (found-alike q part within walked read place (row_of_cell q part place i (extreme_of held)) (by_column row) (λ column l. sym (columns column l)) t
        (Has-from_contains _ t (subst (λ (d : Choice). Contains (spelled_out (found_beside q part read place d.values)) t) (sym (only c k)) h)))),
    λ saturated t h.
        saturated own there (some-rows kind held fits some) t (Contains-from_has _ t (found-alike q part within walked read place (by_column row) (row_of_cell q part place i (extreme_of held)) columns t
        (Has-from_contains _ t h))),
  )
