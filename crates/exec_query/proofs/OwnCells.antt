-- A part and the cell that a row falls into: where it is left as it is, and what is known of it while the parts take the row.
use Rattle.std.proofs.Common.{◌≡◌, ℕ, ◌<◌, ◌&&◌, not, ◌⊎◌, inl, inr, cond, Bool, true, false, ℤ, List, length, take, sym, ap, ◌∙◌, subst, refl, arith, slice_get, Some, Contains}
use Rattle.sem_query.specs.declared.cell.Cell.{Cell}
use Rattle.sem_query.specs.declared.plan.PartPlan.{PartPlan}
use Rattle.sem_query.specs.Query.{QueryValue}
use Rattle.sem_query.specs.Meaning.{by_column}
use Rattle.sem_query.specs.Plan.{stream_at}
use Rattle.sem_query.specs.Admission.{admits}
use Rattle.sem_query.specs.Merge.{merged}
use Rattle.sem_query.specs.Combinations.{read_from, found_in}
use Rattle.sem_query.proofs.Has.{Contains-from_has}
use Rattle.sem_laws.specs.Closed.{own_place, own_content}
use Rattle.exec_pool.specs.declared.pool.Extent.{Extent}
use Rattle.exec_pool.specs.Extents.{PoolValue, cells_of, with_cells, IsLive}
use Rattle.exec_synopsis.specs.declared.own.OwnCell.{OwnCell}
use Rattle.exec_synopsis.specs.Premises.{HasRoom}
use Rattle.exec_synopsis.specs.Inserting.{cells_with_row}
use Rattle.exec_synopsis.specs.Own as own_cells
use Rattle.exec_synopsis.specs.Own.{IsOwnCell}
use Rattle.exec_synopsis.proofs.OwnLaws.{stays-put}
use Rattle.exec_answer_table.specs.Entries.{TableValue, with_entries}
use Rattle.exec_query.specs.FoundTable.{with_all, AreOld}
use Rattle.exec_query.specs.CellSteps.{arrives, all_found, with_row, HasTaken, CanCount, AreReady, AnswersNothingNew}
use Rattle.exec_part_index.specs.Leaving.{LeavesCell}
use Rattle.exec_part_index.specs.Owners.{takes_rows}
use Rattle.exec_part_index.proofs.Owning.{first-has}
use Rattle.exec_query.proofs.InPart.{place_inside}
use Rattle.exec_query.proofs.Inserting.{part_plan, get_has}
use Rattle.exec_query.proofs.PartCells.{same_owned, found_now}
use Rattle.exec_query.proofs.OldAnswers.{has-later}

-- a test that failed
pub turned : (b : Bool) → not b ≡ true → b ≡ false
turned true h = absurd cc
turned false h = refl

module _ (q : QueryValue) (part : PartPlan) (pos : ℕ) (values : List ℤ) (e : Extent) (pool : PoolValue) where
  -- then the pool is as if the cell had taken the row
  pub left-alone : (owns : Bool) (own : OwnCell) → IsLive pool e → IsOwnCell part pos values (cells_of pool e) own → own_cells.with_row own values ≡ own.held
      → pool ≡ with_row owns q part pos values e pool
  left-alone owns own live o stays = by (admits q part pos (by_column values) && owns)
    where
      by : (b : Bool) → pool ≡ cond b (with_cells pool e (cells_with_row part pos values (cells_of pool e))) pool
      by true = stays-put pool e part pos values own live o stays
      by false = refl

  -- a part that takes rows into a box of its own puts the row into its cell
  pub put-there : (owns : Bool) (after : PoolValue) → owns ≡ true → admits q part pos (by_column values) ≡ true
      → after ≡ with_cells pool e (cells_with_row part pos values (cells_of pool e)) → after ≡ with_row owns q part pos values e pool
  put-there owns after o admitted is =
      is ∙ sym (ap (λ b. cond b (with_cells pool e (cells_with_row part pos values (cells_of pool e))) pool) ((λ i. admitted i && o i)))

module _ (q : QueryValue) (plan : List PartPlan) (e : Extent) (pos : ℕ) (here : pos < length q.from) (values : List ℤ) (before : PoolValue) (ready : AreReady q plan before e) where
  module _ (n : ℕ) (part : PartPlan) (at_n : slice_get plan n ≡ Some part) (now : PoolValue) (taken : HasTaken q plan e (arrives q pos values) n before now)
      (owns : Bool) (owner : owns ≡ takes_rows q plan pos n part) where
    -- the cells of a part that takes rows into a box of its own are as before the row
    own-same : owns ≡ true → (place i : ℕ) → place < length q.from → i < (stream_at part place).size
        → read_from (cells_of now e) part place i ≡ read_from (cells_of before e) part place i
    own-same o place i l k = same_owned q plan e pos here values before ready n part at_n now taken (first-has q plan part pos n (sym owner ∙ o)) place i l k

    contained : Contains plan part
    contained = Contains-from_has plan part (get_has plan n part at_n)

    count : (place : ℕ) → place < length part.streams.items → place < length q.from
    count place l = (let c = (part_plan q plan ready.limits ready.plan n part at_n).count in omega (arith, c, l))

    -- they can count one row more
    pub can-count : owns ≡ true → CanCount part (read_from (cells_of now e))
    can-count o place i l k = subst HasRoom (sym (own-same o place i (count place l) k)) (ready.room part contained place i l k)

    module _ (same : Bool) (unchanged : same ≡ true → now ≡ before) where
      -- so are all as long as no cell changed
      same-cells : (owns ≡ true) ⊎ (same ≡ true) → (place i : ℕ) → place < length q.from → i < (stream_at part place).size
          → read_from (cells_of now e) part place i ≡ read_from (cells_of before e) part place i
      same-cells (inl o) place i l k = own-same o place i l k
      same-cells (inr s) place i l k = ap (λ (p : PoolValue). read_from (cells_of p e) part place i) (unchanged s)

      -- what it answers to a row that leaves its own cell as it is has an entry
      pub old-now : (start table : TableValue) → AnswersNothingNew q plan (read_from (cells_of before e)) start.entries
          → table ≡ with_entries start (with_all q.distinct (all_found q (take n plan) (read_from (cells_of before e)) (arrives q pos values)) start.entries)
          → admits q part pos (by_column values) ≡ true → (owns ≡ true) ⊎ (same ≡ true) → LeavesCell part (read_from (cells_of now e)) pos values
          → AreOld q.distinct (found_in q part (read_from (cells_of now e)) (arrives q pos values)) table.entries
      old-now start table tells is admitted either leaves =
          let own = part_plan q plan ready.limits ready.plan n part at_n in
          let inside = place_inside q part ready.limits own pos here values tells.several admitted in
          let cell : read_from (cells_of now e) part pos (own_place part pos values) ≡ read_from (cells_of before e) part pos (own_place part pos values)
          = same-cells either pos (own_place part pos values) here inside in
          let left : LeavesCell part (read_from (cells_of before e)) pos values
          = ap (λ (c : Cell). merged (stream_at part pos).kind c (own_content part pos values)) (sym cell) ∙ leaves ∙ cell in
          record {
            once = tells.once;
            old = λ f c.
                has-later f.tuple q.distinct _ start table tells.once is
                (tells.old part contained pos values here admitted left f
                (subst (λ fs. Contains fs f) (found_now q plan e pos here values before ready n part at_n now taken) c));
          }
