-- What a row does by the plan of a query: a filter answers it by the row alone, the parts take a row of a stream of FROM, and any other row does nothing.
use Rattle.std.proofs.Common.{◌≡◌, ℕ, ◌+◌, ◌≤◌, ◌==◌, nat_eq, cond, not, Bool, true, false, ℤ, List, [], ◌∷◌, length, refl, sym, ap, ◌∙◌, subst, arith}
use Rattle.std.specs.List.{list_any}
use Rattle.sem_query.specs.declared.plan.Plan.{Plan}
use Rattle.sem_query.specs.declared.plan.Plan.TheVariants as plan
use Rattle.sem_query.specs.declared.plan.PartPlan.{PartPlan}
use Rattle.sem_query.specs.declared.plan.Numbers.{Numbers}
use Rattle.sem_query.specs.Query.{QueryValue}
use Rattle.sem_query.specs.Meaning.{Arrival}
use Rattle.sem_query.specs.Domains.{RowKeeps}
use Rattle.sem_query.specs.Combinations.{Reading, Found, read_from}
use Rattle.sem_query.specs.Numbers.{parts_of}
use Rattle.sem_laws.proofs.Tests.{nat_true}
use Rattle.exec_pool.specs.declared.pool.Extent.{Extent}
use Rattle.exec_pool.specs.Extents.{PoolValue, cells_of}
use Rattle.exec_pool.specs.Counted.{StepsValue}
use Rattle.exec_answer_table.specs.Entries.{Entry, TableValue, with_entries}
use Rattle.exec_query.specs.Executor.{ExecutorValue, IsSound, arrival, cleared}
use Rattle.exec_query.specs.Standing.{IsReady}
use Rattle.exec_query.specs.FoundTable.{with_all}
use Rattle.exec_query.specs.CellSteps.{answered_by, all_found, arrives, own_found, AreReady, HasTaken, IsPlanReady}
use Rattle.exec_query.specs.Reads.{row_reads}
use Rattle.exec_query.specs.Row.{HasLooked, KeepsToReads, KeepsToWork, TakesRow}
use Rattle.exec_query.proofs.InPart.{none_added}
use Rattle.exec_query.proofs.Named.{taken_outside, answered_nothing}
use Rattle.exec_query.proofs.PlainRows.{filter_taken}
use Rattle.exec_query.proofs.PlanFacts.{serving_in}
use Rattle.exec_query.proofs.TakenRow.{filter-plan, row-taken}
use Rattle.exec_query.proofs.LookedRows.{looked-keeps, looked-ready, looked-takes, looked-steps}
use Rattle.exec_query.proofs.Rows.{table_later, sound_later}

-- where none of some entries are counted there is none
pub none-long : (n : ℕ) (es : List Entry) → n ≡ length es → n ≡ 0 → es ≡ []
none-long n [] is e = refl
none-long n (x ∷ xs) is e = absurd (omega (arith, is, e))

unnot : (b : Bool) → not b ≡ false → b ≡ true
unnot true h = refl
unnot false h = absurd cc

pub none-counted : (n : ℕ) (es : List Entry) → n ≡ length es → not (nat_eq n 0) ≡ false → es ≡ []
none-counted n es is h = none-long n es is (nat_true n 0 (unnot (nat_eq n 0) h))

-- what the plan answers to a row is in the table, its cells took the row, and no more was read and written than for a row
pub record DidRow (q : QueryValue) (p : Plan) (e : Extent) (r : Arrival) (before : PoolValue) (start : TableValue) (paid : StepsValue) (after : PoolValue) (table : TableValue) (steps : StepsValue) : Type 0 where
  pub answers : table ≡ with_entries start (with_all q.distinct (answered_by q p (read_from (cells_of before e)) r) start.entries)
  pub taken : HasTaken q (parts_of p) e r (length (parts_of p)) before after
  pub reads : steps.reads ≤ paid.reads + row_reads (parts_of p) + length (parts_of p)
  pub writes : steps.writes ≤ paid.writes + length (parts_of p)
  pub alone : p ≡ plan.Filter → steps ≡ paid
  pub outside : list_any (λ stream. r.stream == stream) q.from ≡ false → steps ≡ paid

-- what a plan of parts answers to a row of a stream of FROM
pub named-answers : (q : QueryValue) (p : Plan) (parts : List PartPlan) (numbers : Numbers) → p ≡ plan.Parts parts numbers → (r : Arrival) (place : ℕ) → arrives q place r.values ≡ r
    → list_any (λ s. r.stream == s) q.from ≡ true → (read : Reading) → answered_by q p read r ≡ all_found q parts read (arrives q place r.values)
named-answers q p parts numbers is r place same named read =
    ap (λ (o : Plan). answered_by q o read r) is ∙ ap (λ b. cond b (all_found q parts read r) []) named ∙ ap (all_found q parts read) (sym same)

module _ (q : QueryValue) (p : Plan) (e : Extent) (r : Arrival) (before : PoolValue) (ready : IsPlanReady q p before e) (start : TableValue) (paid : StepsValue) where
  -- a filter has no cells
  pub did-filter : (table : TableValue) → p ≡ plan.Filter → table ≡ with_entries start (with_all q.distinct (own_found q r) start.entries) → DidRow q p e r before start paid before table paid
  did-filter table is has = record {
    answers = has ∙ ap (λ (o : Plan). with_entries start (with_all q.distinct (answered_by q o (read_from (cells_of before e)) r) start.entries)) (sym is);
    taken = filter_taken q p e r before is ready;
    reads = omega arith;
    writes = omega arith;
    alone = λ k. refl;
    outside = λ k. refl;
  }

  -- a row of a stream outside FROM does nothing
  pub did-none : (parts : List PartPlan) (numbers : Numbers) → p ≡ plan.Parts parts numbers → list_any (λ s. r.stream == s) q.from ≡ false → DidRow q p e r before start paid before start paid
  did-none parts numbers is none =
      let are : AreReady q parts before e = subst (λ (o : Plan). IsPlanReady q o before e) is ready in
      record {
        answers = none_added q.distinct _ start (answered_nothing q p parts numbers (read_from (cells_of before e)) r is none);
        taken =
            subst (λ (o : Plan). HasTaken q (parts_of o) e r (length (parts_of o)) before before) (sym is)
            (taken_outside q parts are.limits are.plan e r (length parts) before are.live none);
        reads = omega arith;
        writes = omega arith;
        alone = λ k. refl;
        outside = λ k. refl;
      }

  -- the parts take a row of a stream of FROM
  pub did-parts : (parts : List PartPlan) (numbers : Numbers) → p ≡ plan.Parts parts numbers → (place : ℕ) → arrives q place r.values ≡ r → list_any (λ s. r.stream == s) q.from ≡ true
      → (after : PoolValue) (table : TableValue) (steps : StepsValue)
      → table ≡ with_entries start (with_all q.distinct (all_found q parts (read_from (cells_of before e)) (arrives q place r.values)) start.entries)
      → HasTaken q parts e (arrives q place r.values) (length parts) before after
      → steps.reads ≤ paid.reads + row_reads parts + length parts → steps.writes ≤ paid.writes + length parts → DidRow q p e r before start paid after table steps
  did-parts parts numbers is place same named after table steps has takes read wrote = record {
    answers =
        has
        ∙ ap (λ (fs : List Found). with_entries start (with_all q.distinct fs start.entries)) (sym (named-answers q p parts numbers is r place same named (read_from (cells_of before e))));
    taken =
        subst (λ (o : Plan). HasTaken q (parts_of o) e r (length (parts_of o)) before after) (sym is)
        (subst (λ (s : Arrival). HasTaken q parts e s (length parts) before after) same takes);
    reads = subst (λ (o : Plan). steps.reads ≤ paid.reads + row_reads (parts_of o) + length (parts_of o)) (sym is) read;
    writes = subst (λ (o : Plan). steps.writes ≤ paid.writes + length (parts_of o)) (sym is) wrote;
    alone = λ k. (let both : plan.Parts parts numbers ≡ plan.Filter = sym is ∙ k in absurd cc);
    outside = λ k. (let both : true ≡ false = sym named ∙ k in absurd cc);
  }

-- an executor that looked at cells, gave up what waited, and then did what its plan says
module _ (x : ExecutorValue) (pool : PoolValue) (stream : ℕ) (values : List ℤ) (start : StepsValue) (seen : ExecutorValue) (paid : StepsValue) (looked : HasLooked x pool stream seen start paid) (ready : IsReady x pool)
    (e : ExecutorValue) (view : e ≡ seen) (sound : IsSound e) where
  pub is-ready : IsReady e pool
  is-ready = subst (λ (y : ExecutorValue). IsReady y pool) (sym view) (looked-ready x seen pool stream start paid looked ready)

  module _ (d : Bool) (once : d ≡ e.query.distinct) (left : TableValue) (is : left ≡ with_entries e.table (cleared d e.table.entries)) (after : PoolValue) (table : TableValue) (steps : StepsValue)
      (did : DidRow e.query e.plan e.extent (arrival stream values) pool left paid after table steps) where
    abbrev later : TableValue → ExecutorValue
    later t = record { query = e.query; shared = e.shared; plan = e.plan; extent = e.extent; given = e.given + 1; table = t; saturation = e.saturation }

    pub did-sound : IsSound (later table)
    did-sound =
        let has = table_later e sound pool is-ready (arrival stream values) sound.ascends d once left table is did.answers in
        subst (λ (t : TableValue). IsSound (later t)) (sym has) (sound_later e sound pool is-ready (arrival stream values) sound.ascends)

    pub did-take : RowKeeps x.query (arrival stream values) → TakesRow x pool (arrival stream values) (later table) after
    did-take keeps =
        let r = arrival stream values in
        let has = table_later e sound pool is-ready r sound.ascends d once left table is did.answers in
        let kept : RowKeeps e.query r = subst (λ (y : ExecutorValue). RowKeeps y.query r) (sym view) (looked-keeps x seen pool stream start paid looked r keeps) in
        looked-takes x seen pool r (later table) after looked.same
        (subst (λ (y : ExecutorValue). TakesRow y pool r (later table) after) view
        (subst (λ (t : TableValue). TakesRow e pool r (later t) after) (sym has) (row-taken e sound pool is-ready r kept after did.taken)))

    pub did-work : KeepsToWork x (arrival stream values) start steps
    did-work =
        let r = arrival stream values in
        let own : KeepsToReads e r paid steps
        = record {
          reads = did.reads;
          writes = did.writes;
          alone = λ filter. did.alone (filter-plan e.shared e.query e.plan (serving_in e sound) filter);
          outside = did.outside;
        } in
        looked-steps x seen r pool start paid steps looked (subst (λ (y : ExecutorValue). KeepsToReads y r paid steps) view own)
