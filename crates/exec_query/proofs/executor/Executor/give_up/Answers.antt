use Rattle.std.proofs.Common.{◌≡◌, ◌∙◌, ℤ, List, ap, sym, subst}
use Rattle.exec_pool.specs.Extents.{PoolValue}
use Rattle.sem_query.specs.Meaning.{Arrival}
use Rattle.exec_answer_table.specs.Entries.{TableValue, tuples_of}
use Rattle.sem_query.specs.Combinations.{read_from}
use Rattle.exec_saturation.specs.Known.{AreSaturated}
use Rattle.exec_query.specs.Executor.{ExecutorValue, IsSound, parts_in, cells_in, tuples_in, waiting_in}
use Rattle.exec_query.specs.Standing.{StandsFor, AreKept, KeepsWithin}
use Rattle.sem_query.specs.Bases.{Base}
use Rattle.exec_query.specs.Bases.{StandsFrom}
use Rattle.exec_query.proofs.Bases.{written-from}
use Rattle.exec_query.proofs.Keeping.{written-within}
use Rattle.exec_query.proofs.Answered.{settled-tuples}
use Rattle.exec_query.proofs.Settled.{settled-spelled, written-sound, written-stands}
use Rattle.exec_query.proofs.executor.Executor.give_up.Goals as goal

pub invariant_of-self : goal.invariant_of-self
invariant_of-self c =
    let e : ExecutorValue = record { query = c.self.inside.planned.query; shared = c.self.inside.shared; plan = c.self.inside.planned.plan; extent = c.self.inside.planned.extent; given = c.self.inside.given; table = c.self.inside.table; saturation = c.self.inside.saturation } in
    (subst (λ (t : TableValue). IsSound (let o : ExecutorValue = record { query = c.self.inside.planned.query; shared = c.self.inside.shared; plan = c.self.inside.planned.plan; extent = c.self.inside.planned.extent; given = c.self.inside.given; table = t; saturation = c.self.inside.saturation } in o)) (sym c.settle.ensures) (written-sound e c.self.invariant.0), c.self.invariant.1, c.self.invariant.2, c.self.invariant.3)

pub returns-clause-none : goal.returns-clause-none
returns-clause-none c =
    ap (λ (t : TableValue). waiting_in (let o : ExecutorValue = record { query = c.self.inside.planned.query; shared = c.self.inside.shared; plan = c.self.inside.planned.plan; extent = c.self.inside.planned.extent; given = c.self.inside.given; table = t; saturation = c.self.inside.saturation } in o)) c.settle.ensures ∙ settled-spelled c.self.inside.table.entries

pub returns-clause-tuples : goal.returns-clause-tuples
returns-clause-tuples c =
    ap (λ (t : TableValue). tuples_in (let o : ExecutorValue = record { query = c.self.inside.planned.query; shared = c.self.inside.shared; plan = c.self.inside.planned.plan; extent = c.self.inside.planned.extent; given = c.self.inside.given; table = t; saturation = c.self.inside.saturation } in o)) c.settle.ensures ∙ settled-tuples c.self.inside.table.entries
    ∙ ap tuples_in c.self.view_is

pub returns-clause-history : goal.returns-clause-history
returns-clause-history c =
    let e : ExecutorValue = record { query = c.self.inside.planned.query; shared = c.self.inside.shared; plan = c.self.inside.planned.plan; extent = c.self.inside.planned.extent; given = c.self.inside.given; table = c.self.inside.table; saturation = c.self.inside.saturation } in
    subst (λ (x : ExecutorValue). (pool : PoolValue) (history : List Arrival) → StandsFor x pool history → StandsFor (let o : ExecutorValue = record { query = c.self.inside.planned.query; shared = c.self.inside.shared; plan = c.self.inside.planned.plan; extent = c.self.inside.planned.extent; given = c.self.inside.given; table = c.settle.new.self; saturation = c.self.inside.saturation } in o) pool history) c.self.view_is
    (λ pool history h. subst (λ (t : TableValue). StandsFor (let o : ExecutorValue = record { query = c.self.inside.planned.query; shared = c.self.inside.shared; plan = c.self.inside.planned.plan; extent = c.self.inside.planned.extent; given = c.self.inside.given; table = t; saturation = c.self.inside.saturation } in o) pool history) (sym c.settle.ensures) (written-stands e pool history h))

pub returns-clause-within : goal.returns-clause-within
returns-clause-within c =
    let e : ExecutorValue = record { query = c.self.inside.planned.query; shared = c.self.inside.shared; plan = c.self.inside.planned.plan; extent = c.self.inside.planned.extent; given = c.self.inside.given; table = c.self.inside.table; saturation = c.self.inside.saturation } in
    subst (λ (x : ExecutorValue). (pool : PoolValue) → KeepsWithin x pool → KeepsWithin (let o : ExecutorValue = record { query = c.self.inside.planned.query; shared = c.self.inside.shared; plan = c.self.inside.planned.plan; extent = c.self.inside.planned.extent; given = c.self.inside.given; table = c.settle.new.self; saturation = c.self.inside.saturation } in o) pool) c.self.view_is
    (λ pool w. subst (λ (t : TableValue). KeepsWithin (let o : ExecutorValue = record { query = c.self.inside.planned.query; shared = c.self.inside.shared; plan = c.self.inside.planned.plan; extent = c.self.inside.planned.extent; given = c.self.inside.given; table = t; saturation = c.self.inside.saturation } in o) pool) (sym c.settle.ensures) (written-within e c.self.invariant.0 pool w))

pub returns-clause-bases : goal.returns-clause-bases
returns-clause-bases c =
    let e : ExecutorValue = record { query = c.self.inside.planned.query; shared = c.self.inside.shared; plan = c.self.inside.planned.plan; extent = c.self.inside.planned.extent; given = c.self.inside.given; table = c.self.inside.table; saturation = c.self.inside.saturation } in
    subst (λ (x : ExecutorValue). (pool : PoolValue) (base : Base) (history : List Arrival) → StandsFrom x pool base history → StandsFrom (let o : ExecutorValue = record { query = c.self.inside.planned.query; shared = c.self.inside.shared; plan = c.self.inside.planned.plan; extent = c.self.inside.planned.extent; given = c.self.inside.given; table = c.settle.new.self; saturation = c.self.inside.saturation } in o) pool base history) c.self.view_is
    (λ pool base history h. subst (λ (t : TableValue). StandsFrom (let o : ExecutorValue = record { query = c.self.inside.planned.query; shared = c.self.inside.shared; plan = c.self.inside.planned.plan; extent = c.self.inside.planned.extent; given = c.self.inside.given; table = t; saturation = c.self.inside.saturation } in o) pool base history) (sym c.settle.ensures) (written-from e pool base history h))

pub returns-clause-kept : goal.returns-clause-kept
returns-clause-kept c pool k =
    let e : ExecutorValue = record { query = c.self.inside.planned.query; shared = c.self.inside.shared; plan = c.self.inside.planned.plan; extent = c.self.inside.planned.extent; given = c.self.inside.given; table = c.self.inside.table; saturation = c.self.inside.saturation } in
    let own : AreKept e pool = subst (λ (x : ExecutorValue). AreKept x pool) (sym c.self.view_is) k in
    let tuples : tuples_of c.settle.new.self.entries ≡ tuples_of c.self.inside.table.entries = ap (λ (t : TableValue). tuples_of t.entries) c.settle.ensures ∙ settled-tuples c.self.inside.table.entries in
    record {
      live = own.live;
      fitting = own.fitting;
      counts = own.counts;
      saturated = λ d. subst (λ (ts : List (List ℤ)). AreSaturated e.saturation e.query (parts_in e) (read_from (cells_in e pool)) ts) (sym tuples) (own.saturated d);
    }
