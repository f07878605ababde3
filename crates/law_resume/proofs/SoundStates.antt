-- What is true of each state that a session stands for.
use Rattle.std.proofs.Common.{◌≡◌, ℕ, ◌<◌, ◌≤◌, List, [], ◌∷◌, length, subst, arith, slice_index_or}
use Rattle.sql_catalog.specs.Streams.{Shape}
use Rattle.exec_pool.specs.Extents.{PoolValue}
use Rattle.sql_parser.specs.Resolution.{HasNamed}
use Rattle.exec_query.specs.Executor as executor
use Rattle.exec_query.specs.Bases.{StandsFrom}
use Rattle.exec_registry.specs.Live.{Live, LiveQuery}
use Rattle.exec_registry.specs.Registry.{IsLiveFor}
use Rattle.law_resume.specs.Sound.{IsSoundIn, StatesAreSound}

-- the live query that what is kept tells, on a base with rows since
abbrev told : Live → LiveQuery → LiveQuery
told l q = record { name = l.name; query = l.executor.query; shared = l.executor.shared; plan = l.executor.plan; base = q.base; history = q.history }

told_is : (pool : PoolValue) (l : Live) (q : LiveQuery) → IsLiveFor pool l q → told l q ≡ q
told_is pool l q h = (λ j. let x : LiveQuery = record { name = h.name j; query = h.query j; shared = h.shared j; plan = h.plan j; base = q.base; history = q.history } in x)

told_sound : (streams : List Shape) (taken : ℕ) (pool : PoolValue) (l : Live) (q : LiveQuery) → executor.IsSound l.executor → StandsFrom l.executor pool q.base q.history
    → HasNamed streams l.executor.query → l.executor.given ≤ taken → IsSoundIn streams taken (told l q)
told_sound streams taken pool l q sound stands named given =
    let same = stands.given in
    record {
      limits = sound.limits;
      met = sound.accepted.met;
      named = named;
      plan = sound.accepted.plan;
      rows = stands.rows;
      size = stands.size;
      given = omega (arith, same, given);
    }

live_is_sound : (streams : List Shape) (taken : ℕ) (pool : PoolValue) (l : Live) (q : LiveQuery) → executor.IsSound l.executor → IsLiveFor pool l q
    → HasNamed streams l.executor.query → l.executor.given ≤ taken → IsSoundIn streams taken q
live_is_sound streams taken pool l q sound h named given = subst (IsSoundIn streams taken) (told_is pool l q h) (told_sound streams taken pool l q sound h.stands named given)

-- some element of a list that has one
some_of : (live : List Live) (i : ℕ) → i < length live → Live
some_of [] i within = absurd (omega (arith, within))
some_of (l ∷ live) i within = l

pub states_are_sound : StatesAreSound
states_are_sound k s sound kept stands =
    let limit = sound.limit in
    let within = sound.within in
    let same_limit = stands.limit in
    let same_taken = stands.taken in
    let size = stands.queries.size in
    record {
      limit = omega (arith, limit, same_limit);
      within = omega (arith, within, same_limit, same_taken);
      queries =
          λ i d there.
          let here : i < length k.registry.live = omega (arith, size, there) in
          let l : Live = some_of k.registry.live i here in
          let given = sound.given i l here in
          live_is_sound s.streams s.taken k.registry.pool (slice_index_or k.registry.live i l) (slice_index_or s.queries i d) (kept.sound i l here) (stands.queries.each i l d here)
          (subst (λ (x : List Shape). HasNamed x (slice_index_or k.registry.live i l).executor.query) stands.streams (sound.named i l here))
          (omega (arith, given, same_taken));
    }
