-- A row that the prefilter refuses while nothing waits: only the count of rows grows.
use Rattle.std.proofs.Common.{◌≡◌, ℕ, ◌+◌, nat_lt, Bool, true, false, cond, ℤ, List, [], ◌∷◌, refl, sym, ap, ◌∙◌, subst, arith}
use Rattle.std.proofs.lemmas.Bool.Decides.{nat_tests}
use Rattle.sem_query.specs.Domains.{RowKeeps}
use Rattle.sem_query.specs.Meaning.{Arrival}
use Rattle.sem_query.specs.Combinations.{Found, read_from}
use Rattle.exec_answer_table.specs.Entries.{Entry, entry_of, settled, tuples_of, waiting_of, waiting_entries}
use Rattle.exec_pool.specs.Extents.{PoolValue, cells_of}
use Rattle.exec_saturation.specs.Known.{AreSaturated}
use Rattle.exec_query.specs.Executor.{ExecutorValue, IsSound, parts_in, cells_in, cleared, spelled, with_given}
use Rattle.exec_query.specs.Standing.{IsReady, Took}
use Rattle.exec_query.specs.FoundTable.{with_all}
use Rattle.exec_query.specs.CellSteps.{answered_by}
use Rattle.exec_filter.specs.Prefilter.{IsRefused}
use Rattle.exec_query.proofs.Answered.{settled-tuples, settled-waits}
use Rattle.exec_query.proofs.ClearedNone.{spelled-cleared}
use Rattle.exec_query.proofs.PrefilterLaws.{refused_answers, refused_taken}
use Rattle.exec_query.proofs.Rows.{ready_row, waits, cells, tuples, kept, history}
use Rattle.exec_query.proofs.Settled.{settled-spelled}

none-left : (b : Bool) (e : Entry) (others : List Entry) → cond b (e ∷ others) others ≡ [] → b ≡ false
none-left true e others h = absurd cc
none-left false e others h = refl

others-left : (b : Bool) (e : Entry) (others : List Entry) → cond b (e ∷ others) others ≡ [] → others ≡ []
others-left true e others h = absurd cc
others-left false e others h = h

no-more : (n : ℕ) → nat_lt 0 n ≡ false → 0 ≡ n
no-more n h = grind (arith, nat_tests)

-- where nothing waits all entries are settled
settled-quiet : (es : List Entry) → waiting_entries es ≡ [] → settled es ≡ es
settled-quiet [] none = refl
settled-quiet (e ∷ es) none =
    let own : entry_of e.tuple 0 ≡ e = ap (entry_of e.tuple) (no-more e.waiting (none-left (nat_lt 0 e.waiting) e (waiting_entries es) none)) in
    (λ k. own k ∷ settled-quiet es (others-left (nat_lt 0 e.waiting) e (waiting_entries es) none) k)

-- and none of them is spelled
pub quiet-spelled : (es : List Entry) → waiting_entries es ≡ [] → spelled es ≡ []
quiet-spelled es none = ap spelled (sym (settled-quiet es none)) ∙ settled-spelled es

cleared-waits : (d : Bool) (es : List Entry) (t : List ℤ) → waiting_of t (cleared d es) ≡ 0
cleared-waits true es t = settled-waits t es
cleared-waits false es t = settled-waits t []

-- a tuple waits no more in cleared entries than in entries of which none waits
quiet-waits : (d : Bool) (es : List Entry) → waiting_entries es ≡ [] → (t : List ℤ) → waiting_of t es ≡ waiting_of t (cleared d es)
quiet-waits d es none t = ap (waiting_of t) (sym (settled-quiet es none)) ∙ settled-waits t es ∙ sym (cleared-waits d es t)

-- nothing is added where nothing is found
nothing-added : (d : Bool) (fs : List Found) (es : List Entry) → fs ≡ [] → with_all d fs es ≡ es
unfolding with_all
nothing-added d fs es found = ap (λ (gs : List Found). with_all d gs es) found

-- other entries do as well, of which each tuple waits as often, and which with DISTINCT have the same tuples
took-alike : (e : ExecutorValue) (pool : PoolValue) (r : Arrival) (later : PoolValue) (es fs : List Entry)
    → ((t : List ℤ) → waiting_of t fs ≡ waiting_of t es) → spelled fs ≡ spelled es → (e.query.distinct ≡ true → tuples_of fs ≡ tuples_of es)
    → Took e pool r (with_given e (e.given + 1) es) later → Took e pool r (with_given e (e.given + 1) fs) later
took-alike e pool r later es fs often same alike took = record {
  waits = λ t. often t ∙ took.waits t;
  cells = took.cells;
  tuples = λ d. alike d ∙ took.tuples d;
  same = refl;
  kept = record {
    live = took.kept.live;
    fitting = took.kept.fitting;
    counts = took.kept.counts;
    saturated = λ d. subst (λ (ts : List (List ℤ)). AreSaturated e.saturation e.query (parts_in e) (read_from (cells_in e later)) ts) (sym (alike d)) (took.kept.saturated d);
  };
  history = λ h stands.
      (let was = took.history h stands in
      (same ∙ was.0, record { live = was.1.live; cells = was.1.cells; rest = was.1.rest; given = was.1.given; rows = was.1.rows; tuples = λ d. alike d ∙ was.1.tuples d }));
}

pub refused_took : (e : ExecutorValue) → IsSound e → (pool : PoolValue) → IsReady e pool → (r : Arrival) → RowKeeps e.query r
    → waiting_entries e.table.entries ≡ [] → IsRefused e.query e.plan r → Took e pool r (with_given e (e.given + 1) e.table.entries) pool
refused_took e sound pool ready r keeps none refused =
    let a = sound.ascends in
    let es : List Entry = e.table.entries in
    let left : List Entry = cleared e.query.distinct es in
    let plan_ready = ready_row e sound pool ready r a in
    let taken = refused_taken e.query e.plan pool e.extent plan_ready r refused in
    let all : Took e pool r (with_given e (e.given + 1) (with_all e.query.distinct (answered_by e.query e.plan (read_from (cells_of pool e.extent)) r) left)) pool
    = record {
      waits = waits e sound pool ready r a;
      cells = cells e sound pool ready r a pool taken;
      tuples = tuples e sound pool ready r a;
      same = refl;
      kept = kept e sound pool ready r a pool taken;
      history = history e sound pool ready r a pool taken keeps;
    } in
    let cleared_all : Took e pool r (with_given e (e.given + 1) left) pool
    = subst (λ (xs : List Entry). Took e pool r (with_given e (e.given + 1) xs) pool)
    (nothing-added e.query.distinct _ left (refused_answers e.query e.plan pool e.extent plan_ready (read_from (cells_of pool e.extent)) r refused)) all in
    took-alike e pool r pool left es (quiet-waits e.query.distinct es none) (quiet-spelled es none ∙ sym (spelled-cleared e.query.distinct es))
    (λ d. subst (λ b. tuples_of es ≡ tuples_of (cleared b es)) (sym d) (sym (settled-tuples es))) cleared_all

-- the same, where the executor is seen by another name
pub refused_took_as : (e x : ExecutorValue) → e ≡ x → IsSound e → (pool : PoolValue) → IsReady x pool → (r : Arrival) → RowKeeps x.query r
    → waiting_entries x.table.entries ≡ [] → IsRefused x.query x.plan r → Took x pool r (with_given e (e.given + 1) e.table.entries) pool
refused_took_as e x same sound pool ready r keeps none refused =
    subst (λ (y : ExecutorValue). Took x pool r (with_given y (y.given + 1) y.table.entries) pool) (sym same)
    (refused_took x (subst IsSound same sound) pool ready r keeps none refused)
