-- What the parts did to a row so far, and that parts which are passed over did nothing, since they do not admit it.
use Rattle.std.proofs.Common.{◌≡◌, ℕ, zero, suc, ◌+◌, ◌-◌, ◌<◌, ◌≤◌, ℤ, List, length, take, refl, sym, subst, arith, slice_get, Some, false}
use Rattle.sem_query.specs.declared.plan.PartPlan.{PartPlan}
use Rattle.sem_query.specs.Query.{QueryValue}
use Rattle.sem_query.specs.Meaning.{by_column}
use Rattle.exec_query.specs.Reads.{row_reads}
use Rattle.sem_query.specs.Admission.{admits}
use Rattle.sem_query.specs.Combinations.{read_from}
use Rattle.exec_pool.specs.declared.pool.Extent.{Extent}
use Rattle.exec_pool.specs.Extents.{PoolValue, cells_of}
use Rattle.exec_pool.specs.Counted.{StepsValue}
use Rattle.exec_answer_table.specs.Entries.{TableValue, with_entries}
use Rattle.exec_query.specs.FoundTable.{with_all}
use Rattle.exec_query.specs.CellSteps.{arrives, all_found, HasTaken, AreReady}
use Rattle.exec_part_index.specs.Owners.{takes_rows}
use Rattle.exec_query.proofs.Inserting.{part_plan}
use Rattle.exec_query.proofs.InPart.{none_added, found_refused, row_refused}
use Rattle.exec_query.proofs.PartCells.{taken_start, taken_step, table_more, work_more}
use Rattle.exec_part_index.proofs.PreparedParts.{part_at}
use Rattle.exec_part_index.proofs.Linked.{NoneAdmits}

-- the first n parts took the row, the table has what they found, and their work and number bound the reads and the writes
pub record HaveDone (q : QueryValue) (plan : List PartPlan) (e : Extent) (pos : ℕ) (values : List ℤ) (before : PoolValue) (start : TableValue) (paid : StepsValue) (n : ℕ) (now : PoolValue) (table : TableValue) (steps : StepsValue) : Type 0 where
  pub taken : HasTaken q plan e (arrives q pos values) n before now
  pub found : table ≡ with_entries start (with_all q.distinct (all_found q (take n plan) (read_from (cells_of before e)) (arrives q pos values)) start.entries)
  pub reads : steps.reads ≤ paid.reads + row_reads (take n plan) + n
  pub writes : steps.writes ≤ paid.writes + n

-- the same of a state that is the same
pub same_state : (q : QueryValue) (plan : List PartPlan) (e : Extent) (pos : ℕ) (values : List ℤ) (before : PoolValue) (start : TableValue) (paid : StepsValue) (n : ℕ) (now pool : PoolValue) (table others : TableValue) (steps s : StepsValue)
    → pool ≡ now → others ≡ table → s ≡ steps → HaveDone q plan e pos values before start paid n now table steps → HaveDone q plan e pos values before start paid n pool others s
same_state q plan e pos values before start paid n now pool table others steps s is_pool is_table is_steps done =
    subst (λ x. HaveDone q plan e pos values before start paid n x others s) (sym is_pool)
    (subst (λ x. HaveDone q plan e pos values before start paid n now x s) (sym is_table)
    (subst (λ x. HaveDone q plan e pos values before start paid n now table x) (sym is_steps) done))

module _ (q : QueryValue) (plan : List PartPlan) (e : Extent) (pos : ℕ) (here : pos < length q.from) (values : List ℤ) (before : PoolValue) (ready : AreReady q plan before e) (start : TableValue) (paid : StepsValue) where
  -- nothing is done before the first part
  pub nothing_done : HaveDone q plan e pos values before start paid 0 before start paid
  nothing_done = record {
    taken = taken_start q plan e (arrives q pos values) before ready.live;
    found = none_added q.distinct _ start refl;
    reads = omega arith;
    writes = omega arith;
  }

  module _ (now : PoolValue) (table : TableValue) (steps : StepsValue) where
    -- a part that does not admit the row does nothing
    pub passed_one : (n : ℕ) (part : PartPlan) → slice_get plan n ≡ Some part → admits q part pos (by_column values) ≡ false
        → HaveDone q plan e pos values before start paid n now table steps → HaveDone q plan e pos values before start paid (n + 1) now table steps
    passed_one n part at_n refused done =
        let whole = part_plan q plan ready.limits ready.plan n part at_n in
        let more = work_more q plan e pos here values before ready n part at_n now done.taken in
        record {
          taken = taken_step q plan e pos here values before ready n part at_n now done.taken (takes_rows q plan pos n part) refl now
              (row_refused (takes_rows q plan pos n part) q part pos values e now refused);
          found =
              table_more q plan e pos here values before ready n part at_n now done.taken q.distinct start table table done.found
              (none_added q.distinct _ table (found_refused q part ready.limits whole pos here values (read_from (cells_of now e)) refused));
          reads = (let c = done.reads in omega (arith, more, c));
          writes = (let c = done.writes in omega (arith, c));
        }

    passed_more : (k n : ℕ) → n + k ≤ length plan → NoneAdmits q plan pos (by_column values) n (n + k)
        → HaveDone q plan e pos values before start paid n now table steps → HaveDone q plan e pos values before start paid (n + k) now table steps
    passed_more zero n inside none done =
        let same : n ≡ n + 0 = omega arith in
        subst (λ m. HaveDone q plan e pos values before start paid m now table steps) same done
    passed_more (suc k) n inside none done =
        let there = part_at plan n (omega (arith, inside)) in
        let same : n + 1 + k ≡ n + suc k = omega arith in
        subst (λ m. HaveDone q plan e pos values before start paid m now table steps) same
        (passed_more k (n + 1) (omega (arith, inside)) (λ i part low high. none i part (omega (arith, low)) (omega (arith, high)))
        (passed_one n there.0 there.1 (none n there.0 (omega arith) (omega arith) there.1) done))

    -- nor do several
    pub passed_over : (n m : ℕ) → n ≤ m → m ≤ length plan → NoneAdmits q plan pos (by_column values) n m
        → HaveDone q plan e pos values before start paid n now table steps → HaveDone q plan e pos values before start paid m now table steps
    passed_over n m low high none done =
        let same : n + (m - n) ≡ m = omega (arith, low) in
        subst (λ x. HaveDone q plan e pos values before start paid x now table steps) same
        (passed_more (m - n) n (omega (arith, low, high)) (λ i part l h. none i part l (omega (arith, h, low))) done)
