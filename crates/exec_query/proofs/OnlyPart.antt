-- A query of one part: what that part does is all that is done.
use Rattle.std.proofs.Common.{◌≡◌, ℕ, ◌+◌, ◌<◌, ◌&&◌, nat_lt, ℤ, Bool, true, false, List, [], ◌∷◌, length, append-nil, refl, sym, ap, ◌∙◌, subst, arith, slice_get, Some}
use Rattle.std.proofs.lemmas.Bool.Decides.{nat_tests}
use Rattle.std.proofs.lemmas.List.{take_all}
use Rattle.sem_query.specs.declared.plan.PartPlan.{PartPlan}
use Rattle.sem_query.specs.Query.{QueryValue}
use Rattle.sem_query.specs.Meaning.{by_column}
use Rattle.exec_query.specs.Reads.{most_reads, row_reads}
use Rattle.sem_query.specs.Admission.{admits, in_range}
use Rattle.sem_query.specs.Parts.{pairs}
use Rattle.sem_query.specs.Plan.{dims_at}
use Rattle.std.specs.List.{list_all}
use Rattle.sem_query.specs.Combinations.{Reading, read_from, found_in}
use Rattle.exec_pool.specs.declared.pool.Extent.{Extent}
use Rattle.exec_pool.specs.Extents.{PoolValue, cells_of}
use Rattle.exec_synopsis.specs.Keeping.{keeps_part}
use Rattle.exec_synopsis.specs.Premises.{IsReady}
use Rattle.exec_part_index.specs.Owners.{takes_rows}
use Rattle.exec_query.specs.CellSteps.{arrives, all_found, with_row, CanCount, HasTaken, AreReady}
use Rattle.exec_query.specs.Signed.{IsSigned}
use Rattle.exec_query.proofs.Inserting.{part_plan}
use Rattle.exec_query.proofs.InPart.{found_refused, row_refused}
use Rattle.exec_query.proofs.PartCells.{taken_start, taken_step, ready_part, room_part, work_more}

one-is : (plan : List PartPlan) (part : PartPlan) → length plan ≡ 1 → slice_get plan 0 ≡ Some part → plan ≡ part ∷ []
one-is [] part n e = absurd (omega (arith, n))
one-is (p ∷ []) part n e = let s : p ≡ part = cc in ap (λ (x : PartPlan). x ∷ []) s
one-is (p ∷ o ∷ plan) part n e = absurd (omega (arith, n))

-- where the ranges of the dims tell all that is asked, a part admits just the rows that lie in them
pub only-signed : (q : QueryValue) (plan : List PartPlan) (pos : ℕ) (part : PartPlan) → slice_get plan 0 ≡ Some part → IsSigned q plan pos → (v : ℕ → ℤ)
    → admits q part pos v ≡ list_all (in_range v) (dims_at part pos)
only-signed q plan pos part at_0 signed v = by (list_all (in_range v) (dims_at part pos)) refl
  where
    none : (b : Bool) → (b && false) ≡ false
    none true = refl
    none false = refl

    by : (b : Bool) → list_all (in_range v) (dims_at part pos) ≡ b → (keeps_part (pairs q) part pos v && list_all (in_range v) (dims_at part pos)) ≡ list_all (in_range v) (dims_at part pos)
    by true e = ap (λ b. b && list_all (in_range v) (dims_at part pos)) (signed part at_0 v e)
    by false e = ap (λ b. keeps_part (pairs q) part pos v && b) e ∙ none (keeps_part (pairs q) part pos v) ∙ sym e

module _ (q : QueryValue) (plan : List PartPlan) (e : Extent) (pos : ℕ) (here : pos < length q.from) (values : List ℤ) (before : PoolValue) (ready : AreReady q plan before e) (one : length plan ≡ 1) (part : PartPlan) (at_0 : slice_get plan 0 ≡ Some part) where
  taken : HasTaken q plan e (arrives q pos values) 0 before before
  taken = taken_start q plan e (arrives q pos values) before ready.live

  -- the part is ready, and its cells can count one row more
  pub only-ready : IsReady q part before e
  only-ready = ready_part q plan e pos here values before ready 0 part at_0 before taken

  pub only-counts : CanCount part (read_from (cells_of before e))
  only-counts = room_part q plan e pos here values before ready 0 part at_0 before taken refl

  -- what it finds is all that is found, and its reads are all reads
  pub only-found : (read : Reading) → all_found q plan read (arrives q pos values) ≡ found_in q part read (arrives q pos values)
  only-found read = ap (λ ps. all_found q ps read (arrives q pos values)) (one-is plan part one at_0) ∙ append-nil (found_in q part read (arrives q pos values))

  pub only-work : row_reads plan ≡ most_reads part
  only-work =
      let more = work_more q plan e pos here values before ready 0 part at_0 before taken in
      let none : row_reads [] ≡ 0 = refl in
      ap row_reads (sym (take_all (0 + 1) plan (omega (arith, one)))) ∙ more ∙ omega (arith, none)

  module _ (several : 1 < length q.from) where
    owns : true ≡ takes_rows q plan pos 0 part
    owns = let t : nat_lt 1 (length q.from) ≡ true = grind (arith, nat_tests) in ap (λ b. b && true) (sym t)

    -- the row is taken
    pub only-taken : (after : PoolValue) → after ≡ with_row true q part pos values e before → HasTaken q plan e (arrives q pos values) (length plan) before after
    only-taken after is =
        let n : 0 + 1 ≡ length plan = omega (arith, one) in
        subst (λ m. HasTaken q plan e (arrives q pos values) m before after) n
        (taken_step q plan e pos here values before ready 0 part at_0 before taken true owns after is)

    -- or it is not admitted
    pub only-refused : admits q part pos (by_column values) ≡ false → HasTaken q plan e (arrives q pos values) (length plan) before before
    only-refused refused = only-taken before (row_refused true q part pos values e before refused)

  pub only-none : (read : Reading) → admits q part pos (by_column values) ≡ false → all_found q plan read (arrives q pos values) ≡ []
  only-none read refused =
      only-found read ∙ found_refused q part ready.limits (part_plan q plan ready.limits ready.plan 0 part at_0) pos here values read refused
