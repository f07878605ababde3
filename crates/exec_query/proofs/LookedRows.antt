-- An executor that looked at cells beside a row, and then took it.
use Rattle.std.proofs.Common.{◌≡◌, ℕ, ◌+◌, ◌-◌, ◌*◌, ◌/◌, ◌≤◌, ◌<◌, ◌^◌, nat_eq, cond, Bool, true, false, List, [], length, refl, sym, ◌∙◌, subst, arith, All}
use Rattle.std.proofs.lemmas.List.Elements.{All-contains}
use Rattle.sem_query.specs.declared.plan.Plan.{Plan}
use Rattle.sem_query.specs.declared.plan.Plan.TheVariants as plan
use Rattle.sem_query.specs.Query.{QueryValue}
use Rattle.sem_query.specs.Meaning.{Arrival}
use Rattle.sem_query.specs.Domains.{RowKeeps}
use Rattle.sem_query.specs.Serving.{KeepsStreams}
use Rattle.sem_query.specs.Combinations.{read_from}
use Rattle.sem_query.specs.Numbers.{parts_of, work}
use Rattle.sem_query.proofs.Has.{Contains-from_has}
use Rattle.sem_laws.proofs.Tests.{nat_true}
use Rattle.exec_pool.specs.Counted.{StepsValue}
use Rattle.exec_pool.specs.Extents.{PoolValue, cells_of}
use Rattle.exec_saturation.specs.declared.saturation.Saturation.{Saturation}
use Rattle.exec_saturation.specs.Known.{AreSaturated}
use Rattle.exec_saturation.specs.Looking.{spare_reads}
use Rattle.exec_query.specs.Executor.{ExecutorValue, IsSound, parts_in, tuples_in, with_saturation}
use Rattle.exec_query.specs.Standing.{StandsFor, AreKept, IsReady}
use Rattle.exec_query.specs.Reads.{row_reads}
use Rattle.exec_query.specs.Row.{HasLooked, KeepsToReads, KeepsToWork, TakesRow}
use Rattle.exec_query.proofs.Closing.{within-saturated, stands-saturated}
use Rattle.exec_query.proofs.CursorCells.{AnnouncesWork, are-same}
use Rattle.exec_query.proofs.RowReads.{rows-upto, rows-two}
use Rattle.exec_query.proofs.Rows.{plans, agree}

module _ (e : ExecutorValue) (sound : IsSound e) (pool : PoolValue) (ready : IsReady e pool) where
  abbrev none : Arrival
  none = record { stream = 0; values = [] }

  -- what is known of the cells of the plan is so of all cells of the extent
  pub known-in-extent : e.query.distinct ≡ true → AreSaturated e.saturation e.query (parts_in e) (read_from (cells_of pool e.extent)) (tuples_in e)
  known-in-extent d =
      are-same e.saturation e.query (parts_in e) (plans e sound pool ready none sound.ascends) _ (read_from (cells_of pool e.extent))
      (λ part k place i l s. sym (agree e sound pool ready none sound.ascends part k place i l s)) (tuples_in e) (ready.kept.saturated d)

  -- what was found by a look is known of the cells of the plan
  pub kept-looked : (s : Saturation) → (e.query.distinct ≡ true → AreSaturated s e.query (parts_in e) (read_from (cells_of pool e.extent)) (tuples_in e))
      → AreKept (with_saturation e s) pool
  kept-looked s are = record {
    live = ready.kept.live;
    fitting = ready.kept.fitting;
    counts = ready.kept.counts;
    saturated = λ d. are-same s e.query (parts_in e) (plans e sound pool ready none sound.ascends) (read_from (cells_of pool e.extent)) _
        (agree e sound pool ready none sound.ascends) (tuples_in e) (are d);
  }

stands-looked : (e : ExecutorValue) (s : Saturation) (pool : PoolValue) (history : List Arrival) → StandsFor e pool history → StandsFor (with_saturation e s) pool history
stands-looked e s pool history h = record { live = h.live; cells = h.cells; rest = h.rest; given = h.given; rows = h.rows; tuples = h.tuples }

-- what it does to the row is what the executor does that did not look
pub looked-takes : (e x : ExecutorValue) (pool : PoolValue) (r : Arrival) (after : ExecutorValue) (later : PoolValue) → x ≡ with_saturation e x.saturation
    → TakesRow x pool r after later → TakesRow e pool r after later
looked-takes e x pool r after later same takes = by x.saturation (subst (λ (y : ExecutorValue). TakesRow y pool r after later) same takes)
  where
    by : (s : Saturation) → TakesRow (with_saturation e s) pool r after later → TakesRow e pool r after later
    by s t = record {
      row = record {
        waits = t.row.waits;
        cells = t.row.cells;
        tuples = t.row.tuples;
        same = t.row.same;
        kept = t.row.kept;
        history = λ history h. t.row.history history (stands-looked e s pool history h);
      };
      within = λ w. t.within (within-saturated e s pool w);
      bases = λ base history h. t.bases base history (stands-saturated e s pool base history h);
    }

-- a look leaves room for the row
pub rows-and-spare : (q : QueryValue) (p : Plan) → AnnouncesWork p → All (KeepsStreams q) (parts_of p) → row_reads (parts_of p) + spare_reads q p ≤ 3 * work (parts_of p)
rows-and-spare q plan.Filter announced own = (let none = rows-upto [] in omega (arith, none))
rows-and-spare q (plan.Parts parts numbers) announced own = by (nat_eq (length q.from) 2) (nat_true (length q.from) 2)
  where
    by : (b : Bool) → (b ≡ true → length q.from ≡ 2) → row_reads parts + cond b (2 * numbers.work - numbers.work / 2) 0 ≤ 3 * work parts
    by true two = (let few = rows-two parts (λ part k. (All-contains (KeepsStreams q) parts part own (Contains-from_has parts part k)).count ∙ two refl) in omega (arith, few, announced))
    by false two = (let few = rows-upto parts in omega (arith, few))

pub looked-steps : (e x : ExecutorValue) (r : Arrival) (pool : PoolValue) (before looked later : StepsValue)
    → HasLooked e pool r.stream x before looked → KeepsToReads x r looked later → KeepsToWork e r before later
looked-steps e x r pool before looked later look keeps =
    let k : KeepsToReads (with_saturation e x.saturation) r looked later = subst (λ (y : ExecutorValue). KeepsToReads y r looked later) look.same keeps in
    record {
      reads = (let a = look.reads in let b = k.reads in omega (arith, a, b));
      writes = (let a = look.writes in let b = k.writes in omega (arith, a, b));
      alone = λ filter. k.alone filter ∙ look.alone filter;
      outside = λ no. k.outside no ∙ look.outside no;
    }

-- it is as ready for the row as before, and the row keeps the domains
pub looked-ready : (e x : ExecutorValue) (pool : PoolValue) (stream : ℕ) (before looked : StepsValue) → HasLooked e pool stream x before looked → IsReady e pool → IsReady x pool
looked-ready e x pool stream before looked look ready = record { kept = look.kept; few = subst (λ (y : ExecutorValue). y.given < 2 ^ 40) (sym look.same) ready.few }

pub looked-keeps : (e x : ExecutorValue) (pool : PoolValue) (stream : ℕ) (before looked : StepsValue) → HasLooked e pool stream x before looked → (r : Arrival) → RowKeeps e.query r → RowKeeps x.query r
looked-keeps e x pool stream before looked look r keeps = subst (λ (y : ExecutorValue). RowKeeps y.query r) (sym look.same) keeps

-- where no cell was loaded none is looked at
pub none-looked : (e : ExecutorValue) (pool : PoolValue) (stream : ℕ) (steps : StepsValue) → IsReady e pool → HasLooked e pool stream e steps steps
none-looked e pool stream steps ready = record {
  same = refl;
  kept = ready.kept;
  reads = (let few = rows-upto (parts_in e) in omega (arith, few));
  writes = refl;
  alone = λ filter. refl;
  outside = λ no. refl;
}
