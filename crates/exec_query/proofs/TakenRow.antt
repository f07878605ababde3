-- What a row does to an executor: one that takes it up, and one that refuses it.
use Rattle.std.proofs.Common.{◌≡◌, ◌+◌, Bool, IsTrue, length, refl, sym, subst}
use Rattle.sem_query.specs.declared.plan.Plan.{Plan}
use Rattle.sem_query.specs.declared.plan.Plan.TheVariants as plan
use Rattle.sem_query.specs.Query.{QueryValue, is_filter}
use Rattle.sem_query.specs.Meaning.{Arrival}
use Rattle.sem_query.specs.Domains.{RowKeeps}
use Rattle.sem_query.specs.Combinations.{read_from}
use Rattle.sem_laws.proofs.Tests.{not_both}
use Rattle.exec_pool.specs.Extents.{PoolValue, cells_of}
use Rattle.sem_forms.specs.Forms.{IsServingForm}
use Rattle.exec_query.specs.Executor.{ExecutorValue, IsSound, parts_in, with_given, cleared}
use Rattle.exec_query.specs.Standing.{KeepsWithin, IsReady, Took}
use Rattle.exec_query.specs.FoundTable.{with_all}
use Rattle.exec_query.specs.CellSteps.{answered_by, HasTaken}
use Rattle.exec_query.specs.Row.{TakesRow}
use Rattle.exec_query.proofs.Bases.{taking-keeps-on}
use Rattle.exec_query.proofs.Keeping.{counted-within}
use Rattle.exec_query.proofs.Rows.{sound_later, waits, cells, tuples, kept, within, history}

-- a filter is planned as one
pub filter-plan : (shared : Bool) (q : QueryValue) (p : Plan) → IsServingForm shared q p → IsTrue (is_filter q) → p ≡ plan.Filter
filter-plan shared q plan.Filter is filter = refl
filter-plan shared q (plan.Parts list numbers) is filter = absurd (not_both (is_filter q) filter is.0)

-- what an executor does that took up a row
pub row-taken : (e : ExecutorValue) → IsSound e → (pool : PoolValue) → IsReady e pool → (r : Arrival) → RowKeeps e.query r → (after : PoolValue)
    → HasTaken e.query (parts_in e) e.extent r (length (parts_in e)) pool after
    → TakesRow e pool r (with_given e (e.given + 1) (with_all e.query.distinct (answered_by e.query e.plan (read_from (cells_of pool e.extent)) r) (cleared e.query.distinct e.table.entries))) after
row-taken e sound pool ready r keep after taken =
    let a = sound.ascends in
    let later : ExecutorValue = with_given e (e.given + 1) (with_all e.query.distinct (answered_by e.query e.plan (read_from (cells_of pool e.extent)) r) (cleared e.query.distinct e.table.entries)) in
    let took : Took e pool r later after
    = record {
      waits = waits e sound pool ready r a;
      cells = cells e sound pool ready r a after taken;
      tuples = tuples e sound pool ready r a;
      same = refl;
      kept = kept e sound pool ready r a after taken;
      history = history e sound pool ready r a after taken keep;
    } in
    record {
      row = took;
      within = within e sound pool ready r a after taken;
      bases = taking-keeps-on e later pool after r sound keep (sound_later e sound pool ready r a).ascends took;
    }

-- what one does that refused a row by its prefilter, seen by another name
pub row-refused : (e x : ExecutorValue) → e ≡ x → IsSound e → (pool : PoolValue) (r : Arrival) → RowKeeps x.query r
    → Took x pool r (with_given e (e.given + 1) e.table.entries) pool → TakesRow x pool r (with_given e (e.given + 1) e.table.entries) pool
row-refused e x same sound pool r keep took = record {
  row = took;
  within = λ w. counted-within e (e.given + 1) pool (subst (λ (y : ExecutorValue). KeepsWithin y pool) (sym same) w);
  bases = taking-keeps-on x (with_given e (e.given + 1) e.table.entries) pool pool r (subst IsSound same sound) keep sound.ascends took;
}
