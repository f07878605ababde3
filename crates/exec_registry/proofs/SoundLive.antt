-- What is true of each live query that a registry stands for.
use Rattle.std.proofs.Common.{◌≡◌, ℕ, zero, suc, ◌+◌, ◌<◌, cond, true, false, Bool, ℤ, List, [], ◌∷◌, length, refl, ap, ◌∙◌, subst, arith, slice_index_or, Contains, All}
use Rattle.std.specs.declared.cmp.Ordering.TheVariants.{Less, Equal, Greater}
use Rattle.std.proofs.lemmas.List.{get_or_default, length-map}
use Rattle.sem_query.specs.declared.cell.Cell.{Cell}
use Rattle.sem_query.specs.Tuples.{is_before}
use Rattle.sem_query.specs.Plan.{stream_at}
use Rattle.sem_query.specs.Cells.{FitsKind}
use Rattle.sem_query.specs.Ranges.{all_tuples}
use Rattle.sem_query.specs.Sharing.{sizes_in}
use Rattle.sem_query.specs.Bases.{Base, kept}
use Rattle.sem_laws.proofs.SharedCells.{into-size}
use Rattle.exec_answer_table.specs.Entries.{Entry, AllAbove, Ascends, tuples_of}
use Rattle.exec_pool.specs.Extents.{PoolValue}
use Rattle.exec_query.specs.Executor as executor
use Rattle.exec_query.specs.Executor.{ExecutorValue, parts_in, list_in, cells_in, tuples_in}
use Rattle.exec_query.specs.Standing.{CountsUpto, AreKept}
use Rattle.exec_query.specs.Bases.{StandsFrom, kept_in}
use Rattle.exec_query.proofs.PlanFacts.{serving_in}
use Rattle.exec_registry.specs.Live.{Live, LiveQuery, base_in}
use Rattle.exec_registry.specs.Registry.{IsLiveFor}
use Rattle.exec_registry.specs.Sound.{IsCellOf, AreAscending, IsSoundLive, LiveQueriesAreSound, LiveQueriesAreGiven}
use Rattle.exec_registry.proofs.KindThere.{IsKindAt, kind_there}

-- the live query that what is kept tells, on a base with rows since
abbrev told : Live → LiveQuery → LiveQuery
told l q = record { name = l.name; query = l.executor.query; shared = l.executor.shared; plan = l.executor.plan; base = q.base; history = q.history }

told_is : (pool : PoolValue) (l : Live) (q : LiveQuery) → IsLiveFor pool l q → told l q ≡ q
told_is pool l q h = (λ j. let x : LiveQuery = record { name = h.name j; query = h.query j; shared = h.shared j; plan = h.plan j; base = q.base; history = q.history } in x)

-- what is kept of a live query: cells, rows given, and with DISTINCT the tuples are those of its base and the rows since
pub record KeepsBase (pool : PoolValue) (l : Live) (q : LiveQuery) : Type 0 where
  pub cells : cells_in l.executor pool ≡ (base_in q).cells
  pub given : l.executor.given ≡ (base_in q).given
  pub tuples : q.query.distinct ≡ true → tuples_in l.executor ≡ (base_in q).table

pub keeps_base : (pool : PoolValue) (l : Live) (q : LiveQuery) → IsLiveFor pool l q → KeepsBase pool l q
keeps_base pool l q h = subst (λ (x : LiveQuery). KeepsBase pool l x) (told_is pool l q h) (let s = h.stands in record { cells = s.cells; given = s.given; tuples = s.tuples })

-- each tuple of an ascending list stands before the later ones
below : (t : List ℤ) (es : List Entry) (j : ℕ) (d : List ℤ) → AllAbove t es → j < length (tuples_of es) → is_before t (slice_index_or (tuples_of es) j d) ≡ true
below t [] j d a l = absurd (omega (arith, l))
below t (e ∷ es) zero d a l = less_is (is_before t e.tuple) (is_before e.tuple t) a.0
  where
    less_is : (b c : Bool) → cond b Less (cond c Greater Equal) ≡ Less → b ≡ true
    less_is true c e = refl
    less_is false true e = absurd cc
    less_is false false e = absurd cc
below t (e ∷ es) (suc j) d a l = below t es j d a.1 (omega (arith, l))

ascending_tuples : (es : List Entry) → Ascends es → AreAscending (tuples_of es)
ascending_tuples [] a i j d l m = absurd (omega (arith, m))
ascending_tuples (e ∷ es) a i zero d l m = absurd (omega (arith, l))
ascending_tuples (e ∷ es) a zero (suc j) d l m = below e.tuple es j d a.0 (omega (arith, m))
ascending_tuples (e ∷ es) a (suc i) (suc j) d l m = ascending_tuples es a.1 i j d (omega (arith, l)) (omega (arith, m))

module _ (pool : PoolValue) (l : Live) (q : LiveQuery) (sound : executor.IsSound l.executor) (kept : AreKept l.executor pool) (stands : StandsFrom l.executor pool q.base q.history) where
  abbrev e : ExecutorValue
  e = l.executor

  abbrev now : Base
  now = kept_in e q.base q.history

  whole : length now.cells ≡ sizes_in (list_in e)
  whole = into-size e.query (list_in e) q.base.cells stands.size q.history

  cell_there : (i : ℕ) (d : Cell) → i < sizes_in (list_in e) → IsCellOf (list_in e) now.given i (slice_index_or now.cells i d)
  cell_there i d within =
      let k : IsKindAt (parts_in e) (list_in e) i = kind_there e.shared e.query e.plan (serving_in e sound) i within in
      let c = k.cell in
      let is : slice_index_or (cells_in e pool) ((stream_at c.part c.place).base + c.i) Cell.Empty ≡ slice_index_or now.cells i d
      = (λ j. slice_index_or (stands.cells j) (c.at j) Cell.Empty) ∙ get_or_default now.cells i Cell.Empty d (omega (arith, whole, within)) in
      record {
        kind = (stream_at c.part c.place).kind;
        there = k.kind;
        fits = subst (λ (x : Cell). FitsKind (stream_at c.part c.place).kind x) is (kept.fitting c.part c.known c.place c.i c.there c.inside);
        counts = subst (λ (x : Cell). CountsUpto now.given x) is (subst (λ n. CountsUpto n (slice_index_or (cells_in e pool) ((stream_at c.part c.place).base + c.i) Cell.Empty)) stands.given
            (kept.counts c.part c.known c.place c.i c.there c.inside));
      }

  told_sound : IsSoundLive (told l q)
  told_sound = record {
    limits = sound.limits;
    accepted = sound.accepted;
    rows = stands.rows;
    size = stands.size;
    whole = whole;
    cells = cell_there;
    ascends = λ distinct. subst AreAscending (stands.tuples distinct) (ascending_tuples e.table.entries sound.ascends);
    few = λ distinct.
        (let n = ap length (stands.tuples distinct) in
        let m : length (tuples_in e) ≡ length e.table.entries = length-map e.table.entries (λ (x : Entry). x.tuple) in
        let f = sound.entries in
        omega (arith, n, m, f));
    tuples = λ distinct. subst (λ (ts : List (List ℤ)). All (Contains (all_tuples e.query (parts_in e))) ts) (stands.tuples distinct) (sound.tuples distinct);
  }

pub sound_live : (pool : PoolValue) (l : Live) (q : LiveQuery) → executor.IsSound l.executor → AreKept l.executor pool → IsLiveFor pool l q → IsSoundLive q
sound_live pool l q sound kept h = subst (λ (x : LiveQuery). IsSoundLive x) (told_is pool l q h) (told_sound pool l q sound kept h.stands)

-- some element of a list that has one
some_of : (live : List Live) (k : ℕ) → k < length live → Live
some_of [] k within = absurd (omega (arith, within))
some_of (l ∷ live) k within = l

pub live-queries-are-sound : LiveQueriesAreSound
live-queries-are-sound r queries sound all k d within =
    let size = all.size in
    let here : k < length r.live = omega (arith, size, within) in
    let l : Live = some_of r.live k here in
    sound_live r.pool (slice_index_or r.live k l) (slice_index_or queries k d) (sound.sound k l here) (sound.kept k l here) (all.each k l d here)

pub live-queries-are-given : LiveQueriesAreGiven
live-queries-are-given n r queries given all k d within =
    let size = all.size in
    let here : k < length r.live = omega (arith, size, within) in
    let l : Live = some_of r.live k here in
    let same = (keeps_base r.pool (slice_index_or r.live k l) (slice_index_or queries k d) (all.each k l d here)).given in
    let most = given k l here in
    omega (arith, same, most)
