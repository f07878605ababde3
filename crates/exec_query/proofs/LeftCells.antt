-- The parts that a row passes over: it leaves their cells as they are, and it is known that such a row is answered nothing new.
use Rattle.std.proofs.Common.{◌≡◌, ℕ, zero, suc, ◌+◌, ◌-◌, ◌*◌, ◌<◌, ◌≤◌, ◌&&◌, ◌||◌, ◌⊎◌, inl, inr, Bool, true, false, ℤ, List, length, take, get_or, refl, sym, ap, ◌∙◌, subst, arith, slice_get, Some, Option, None}
use Rattle.std.specs.Option.{IfSome}
use Rattle.sem_query.specs.declared.cell.Cell.TheVariants.{Empty}
use Rattle.sem_query.specs.declared.plan.PartPlan.{PartPlan}
use Rattle.sem_query.specs.Query.{QueryValue}
use Rattle.sem_query.specs.Meaning.{by_column}
use Rattle.exec_query.specs.Reads.{row_reads}
use Rattle.sem_query.specs.Plan.{stream_at}
use Rattle.sem_query.specs.Admission.{admits}
use Rattle.sem_query.specs.Combinations.{read_from}
use Rattle.sem_query.proofs.Has.{Contains-from_has}
use Rattle.sem_laws.proofs.Tests.{true_or_false}
use Rattle.exec_pool.specs.declared.pool.Extent.{Extent}
use Rattle.exec_pool.specs.Extents.{PoolValue, cells_of, IsLive}
use Rattle.exec_pool.specs.Counted.{StepsValue}
use Rattle.exec_synopsis.specs.declared.own.OwnCell.{OwnCell}
use Rattle.exec_synopsis.specs.Own.{IsOwnCell}
use Rattle.exec_synopsis.specs.Premises.{row_cell}
use Rattle.exec_answer_table.specs.Entries.{TableValue, with_entries}
use Rattle.exec_part_index.specs.Owners.{takes_rows, EachTakes}
use Rattle.exec_part_index.proofs.PreparedParts.{part_at}
use Rattle.exec_part_index.specs.declared.part_index.PartIndex.{PartIndex}
use Rattle.exec_query.specs.CellSteps.{arrives, all_found, HasTaken, AreReady, AnswersNothingNew}
use Rattle.exec_query.specs.FoundTable.{with_all}
use Rattle.exec_part_index.specs.Leaving.{AreHeld, LeavesCells, IsCellOf, HasPassed, reads_of, LeavesCell}
use Rattle.exec_query.proofs.Inserting.{get_has}
use Rattle.exec_query.proofs.HeldParts.{held-part}
use Rattle.exec_query.proofs.PartCells.{taken_step, table_more, work_more}
use Rattle.exec_query.proofs.OldAnswers.{old-adds-none}
use Rattle.exec_query.proofs.OwnCells.{left-alone, old-now}
use Rattle.exec_query.proofs.PassedOver.{HaveDone, passed_one}

-- what is known before the row is known of cells of their own, and of all as long as no cell changed
known-of : (known each same : Bool) → (known && (each || same)) ≡ true → (known ≡ true) × ((each ≡ true) ⊎ (same ≡ true))
known-of true true same h = (refl, inl refl)
known-of true false true h = (refl, inr refl)
known-of true false false h = absurd cc
known-of false each same h = absurd cc

-- all parts have their cells in the extent, while the parts take a row
pub held-parts : (q : QueryValue) (plan : List PartPlan) (e : Extent) (pos : ℕ) (here : pos < length q.from) (values : List ℤ) (before : PoolValue) (ready : AreReady q plan before e) (now : PoolValue)
    → IsLive now e → AreHeld q plan now e
held-parts q plan e pos here values before ready now live k part at_k = held-part q plan e before ready now live part (Contains-from_has plan part (get_has plan k part at_k))

module _ (q : QueryValue) (plan : List PartPlan) (e : Extent) (pos : ℕ) (here : pos < length q.from) (values : List ℤ) (before : PoolValue) (ready : AreReady q plan before e) (start : TableValue) (paid : StepsValue)
    (tells : AnswersNothingNew q plan (read_from (cells_of before e)) start.entries) (now : PoolValue) (table : TableValue) (each same : Bool) (all : each ≡ true → EachTakes q plan pos) (unchanged : same ≡ true → now ≡ before) where
  -- a part whose cell stays as it is did nothing
  left_alone : (either : (each ≡ true) ⊎ (same ≡ true)) → (n : ℕ) (part : PartPlan) → slice_get plan n ≡ Some part → (steps : StepsValue)
      → admits q part pos (by_column values) ≡ true → LeavesCell part (read_from (cells_of now e)) pos values
      → HaveDone q plan e pos values before start paid n now table steps → HaveDone q plan e pos values before start paid (n + 1) now table steps
  left_alone either n part at_n steps admitted leaves done =
      let owns : Bool = takes_rows q plan pos n part in
      let own : OwnCell = record { number = row_cell part pos values; kind = (stream_at part pos).kind; held = get_or (cells_of now e) (row_cell part pos values) Empty } in
      let is : IsOwnCell part pos values (cells_of now e) own = record { number = refl; kind = refl; held = refl } in
      let more = work_more q plan e pos here values before ready n part at_n now done.taken in
      record {
        taken = taken_step q plan e pos here values before ready n part at_n now done.taken owns refl now (left-alone q part pos values e now owns own done.taken.live is leaves);
        found =
            table_more q plan e pos here values before ready n part at_n now done.taken q.distinct start table table done.found
            (old-adds-none q.distinct _ table
            (old-now q plan e pos here values before ready n part at_n now done.taken owns refl same unchanged start table tells done.found admitted (is_known either n part at_n) leaves));
        reads = (let c = done.reads in omega (arith, more, c));
        writes = (let c = done.writes in omega (arith, c));
      }
    where
      is_known : (each ≡ true) ⊎ (same ≡ true) → (n : ℕ) (part : PartPlan) → slice_get plan n ≡ Some part → (takes_rows q plan pos n part ≡ true) ⊎ (same ≡ true)
      is_known (inl o) n part at_n = inl (all o n part at_n)
      is_known (inr s) n part at_n = inr s

  -- what was read for one part more is paid by it
  one_paid : (n : ℕ) (steps others : StepsValue) → others.reads ≤ steps.reads + 1 → others.writes ≤ steps.writes → (part : PartPlan) → slice_get plan n ≡ Some part
      → HaveDone q plan e pos values before start paid n now table steps → HaveDone q plan e pos values before start paid (n + 1) now table steps → HaveDone q plan e pos values before start paid (n + 1) now table others
  one_paid n steps others reads writes part at_n done next =
      let more = work_more q plan e pos here values before ready n part at_n now done.taken in
      record {
        taken = next.taken;
        found = next.found;
        reads = (let c = done.reads in omega (arith, more, c, reads));
        writes = (let c = done.writes in omega (arith, c, writes));
      }

  -- one part more that does not admit the row, or leaves its cell as it is
  left_one : (either : (each ≡ true) ⊎ (same ≡ true)) → (n : ℕ) (part : PartPlan) → slice_get plan n ≡ Some part → (steps others : StepsValue) → others.reads ≤ steps.reads + 1 → others.writes ≤ steps.writes
      → (admits q part pos (by_column values) ≡ true → LeavesCell part (read_from (cells_of now e)) pos values)
      → HaveDone q plan e pos values before start paid n now table steps → HaveDone q plan e pos values before start paid (n + 1) now table others
  left_one either n part at_n steps others reads writes leaves done =
      one_paid n steps others reads writes part at_n done
      (elim (true_or_false (admits q part pos (by_column values))) [
        | inl admitted ↦ left_alone either n part at_n steps admitted (leaves admitted) done
        | inr refused ↦ passed_one q plan e pos here values before ready start paid now table steps n part at_n refused done
      ])

  left_many : (either : (each ≡ true) ⊎ (same ≡ true)) → (k n : ℕ) (steps others : StepsValue) → n + k ≤ length plan → others.reads ≤ steps.reads + k → others.writes ≤ steps.writes
      → LeavesCells q plan (read_from (cells_of now e)) pos values n (n + k)
      → HaveDone q plan e pos values before start paid n now table steps → HaveDone q plan e pos values before start paid (n + k) now table others
  left_many either zero n steps others inside reads writes leaves done = record {
    taken = subst (λ m. HasTaken q plan e (arrives q pos values) m before now) none done.taken;
    found = subst (λ m. table ≡ with_entries start (with_all q.distinct (all_found q (take m plan) (read_from (cells_of before e)) (arrives q pos values)) start.entries)) none done.found;
    reads = (let w : row_reads (take n plan) ≡ row_reads (take (n + 0) plan) = ap (λ m. row_reads (take m plan)) none in let c = done.reads in omega (arith, c, w, reads));
    writes = (let c = done.writes in omega (arith, c, writes));
  }
    where
      none : n ≡ n + 0
      none = omega arith
  left_many either (suc k) n steps others inside reads writes leaves done =
      let there = part_at plan n (omega (arith, inside)) in
      let same_end : n + 1 + k ≡ n + suc k = omega arith in
      let mid : StepsValue = record { reads = steps.reads + 1; writes = steps.writes } in
      subst (λ m. HaveDone q plan e pos values before start paid m now table others) same_end
      (left_many either k (n + 1) mid others (omega (arith, inside)) (omega (arith, reads)) writes
      (λ i part low high. leaves i part (omega (arith, low)) (omega (arith, high)))
      (left_one either n there.0 there.1 steps mid (omega arith) (omega arith) (λ a. leaves n there.0 (omega arith) (omega arith) there.1 a) done))

  -- so did several, each of which was read at most once
  pub left_over : (either : (each ≡ true) ⊎ (same ≡ true)) → (n m : ℕ) (steps others : StepsValue) → n ≤ m → m ≤ length plan → others.reads + n ≤ steps.reads + m → others.writes ≤ steps.writes
      → LeavesCells q plan (read_from (cells_of now e)) pos values n m
      → HaveDone q plan e pos values before start paid n now table steps → HaveDone q plan e pos values before start paid m now table others
  left_over either n m steps others low high reads writes leaves done =
      let same_end : n + (m - n) ≡ m = omega (arith, low) in
      subst (λ x. HaveDone q plan e pos values before start paid x now table others) same_end
      (left_many either (m - n) n steps others (omega (arith, low, high)) (omega (arith, low, reads)) writes
      (λ i part l h. leaves i part l (omega (arith, h, low))) done)

-- where nothing is passed over, the state is the same, and no more was paid
module _ (q : QueryValue) (plan : List PartPlan) (e : Extent) (pos : ℕ) (here : pos < length q.from) (values : List ℤ) (before : PoolValue) (ready : AreReady q plan before e) (start : TableValue) (paid : StepsValue) where
  pub paid_less : (n m : ℕ) (now : PoolValue) (table : TableValue) (steps others : StepsValue) → n ≡ m → others.reads ≤ steps.reads → others.writes ≤ steps.writes
      → HaveDone q plan e pos values before start paid n now table steps → HaveDone q plan e pos values before start paid m now table others
  paid_less n m now table steps others same reads writes done =
      subst (λ x. HaveDone q plan e pos values before start paid x now table others) same record {
        taken = done.taken;
        found = done.found;
        reads = (let c = done.reads in omega (arith, c, reads));
        writes = (let c = done.writes in omega (arith, c, writes));
      }

  -- a row that came to a part did what it does in all parts before that
  pub reached_done : (known each same passes : Bool) → (known ≡ true → AnswersNothingNew q plan (read_from (cells_of before e)) start.entries) → (each ≡ true → EachTakes q plan pos)
      → passes ≡ (known && (each || same)) → (n m : ℕ) (now : PoolValue) (table : TableValue) (steps others : StepsValue) → (same ≡ true → now ≡ before) → (passes ≡ false → n ≡ m) → n ≤ m → m ≤ length plan
      → others.reads + n ≤ steps.reads + m → others.writes ≤ steps.writes → LeavesCells q plan (read_from (cells_of now e)) pos values n m
      → HaveDone q plan e pos values before start paid n now table steps → HaveDone q plan e pos values before start paid m now table others
  reached_done known each same passes tells all is n m now table steps others unchanged none low high reads writes leaves done = elim (true_or_false passes) [
    | inl t ↦ (
        let k = known-of known each same (sym is ∙ t) in
        left_over q plan e pos here values before ready start paid (tells k.0) now table each same all unchanged k.1 n m steps others low high reads writes leaves done)
    | inr f ↦ (
        let equal : n ≡ m = none f in
        paid_less n m now table steps others equal (omega (arith, equal, reads)) writes done)
  ]

-- what was paid until a row came from the part of number n to that of number m, of each of which it read one cell at most
abbrev pub paid_to : StepsValue → ℕ → ℕ → StepsValue
paid_to steps n m = record { reads = steps.reads + (m - n); writes = steps.writes }

module _ (q : QueryValue) (plan : List PartPlan) (e : Extent) (pos : ℕ) (here : pos < length q.from) (values : List ℤ) (before : PoolValue) (ready : AreReady q plan before e) (start : TableValue) (paid : StepsValue) where
  -- the state where a row came to
  pub met_done : (known each same passes : Bool) → (known ≡ true → AnswersNothingNew q plan (read_from (cells_of before e)) start.entries) → (each ≡ true → EachTakes q plan pos)
      → passes ≡ (known && (each || same)) → (c : PartIndex) (n m : ℕ) (now : PoolValue) (table : TableValue) (steps : StepsValue) → (same ≡ true → now ≡ before) → (passes ≡ false → n ≡ m)
      → HasPassed q plan c pos values now e n m → HaveDone q plan e pos values before start paid n now table steps → HaveDone q plan e pos values before start paid m now table (paid_to steps n m)
  met_done known each same passes tells all is c n m now table steps unchanged none passed done =
      let low = passed.behind in
      reached_done q plan e pos here values before ready start paid known each same passes tells all is n m now table steps (paid_to steps n m) unchanged none low passed.there.within
      (omega (arith, low)) (omega arith) passed.left done

-- the own cell that was read is that of the part
pub own-there : (parts : List PartPlan) (pos : ℕ) (row : List ℤ) (pool : PoolValue) (e : Extent) (i : ℕ) (part : PartPlan) → slice_get parts i ≡ Some part → (own : Option OwnCell)
    → IfSome own (λ cell. IsCellOf parts pos row pool e i cell) → IfSome own (λ cell. IsOwnCell part pos row (cells_of pool e) cell × (cell.number < 64 * e.pages))
own-there parts pos row pool e i part at_i None is = tt
own-there parts pos row pool e i part at_i (Some cell) is = (is.own part at_i, is.inside)

pub few-read : (own : Option OwnCell) → reads_of own ≤ 1
few-read None = omega arith
few-read (Some own) = omega arith
