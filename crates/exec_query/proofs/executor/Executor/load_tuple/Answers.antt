use Rattle.std.proofs.Common.{◌≡◌, [], length, sym, ap, ◌∙◌, subst}
use Rattle.sem_query.specs.Bases.{Base}
use Rattle.exec_pool.specs.Extents.{PoolValue}
use Rattle.exec_answer_table.specs.Entries.{TableValue}
use Rattle.exec_query.specs.Executor.{ExecutorValue, parts_in, waiting_in}
use Rattle.exec_query.specs.Standing.{AreKept, KeepsWithin}
use Rattle.exec_query.specs.Bases.{StandsFrom}
use Rattle.exec_query.specs.Loading.{loaded_tuple, Loads}
use Rattle.exec_query.proofs.LoadedTuples.{tuple-room, tuple-sound, tuple-quiet, tuple-kept, tuple-within, tuple-loads}
use Rattle.exec_query.proofs.executor.Executor.load_tuple.Goals as goal

pub put_printed-requires-clause-room : goal.put_printed-requires-clause-room
put_printed-requires-clause-room c =
    let e : ExecutorValue = record { query = c.self.inside.planned.query; shared = c.self.inside.shared; plan = c.self.inside.planned.plan; extent = c.self.inside.planned.extent; given = c.self.inside.given; table = c.self.inside.table; saturation = c.self.inside.saturation } in
    tuple-room e c.self.invariant.0 c.args.t.now.items

pub invariant_of-self : goal.invariant_of-self
invariant_of-self c =
    let e : ExecutorValue = record { query = c.self.inside.planned.query; shared = c.self.inside.shared; plan = c.self.inside.planned.plan; extent = c.self.inside.planned.extent; given = c.self.inside.given; table = c.self.inside.table; saturation = c.self.inside.saturation } in
    let told : TableValue → ExecutorValue = λ t. record { query = c.self.inside.planned.query; shared = c.self.inside.shared; plan = c.self.inside.planned.plan; extent = c.self.inside.planned.extent; given = c.self.inside.given; table = t; saturation = c.self.inside.saturation } in
    let wide = c.requires.width ∙ sym (ap (λ (x : ExecutorValue). length x.query.select) c.self.view_is) in
    (tuple-sound e c.self.invariant.0 c.args.t.now.items wide c.put_printed.result c.put_printed.ensures.value c.put_printed.new.table c.put_printed.ensures.table, c.self.invariant.1, c.self.invariant.2, c.self.invariant.3)

pub returns-clause-loads : goal.returns-clause-loads
returns-clause-loads c =
    let e : ExecutorValue = record { query = c.self.inside.planned.query; shared = c.self.inside.shared; plan = c.self.inside.planned.plan; extent = c.self.inside.planned.extent; given = c.self.inside.given; table = c.self.inside.table; saturation = c.self.inside.saturation } in
    let told : TableValue → ExecutorValue = λ t. record { query = c.self.inside.planned.query; shared = c.self.inside.shared; plan = c.self.inside.planned.plan; extent = c.self.inside.planned.extent; given = c.self.inside.given; table = t; saturation = c.self.inside.saturation } in
    let wide = c.requires.width ∙ sym (ap (λ (x : ExecutorValue). length x.query.select) c.self.view_is) in
    subst (λ (x : ExecutorValue). (pool : PoolValue) (base : Base) → StandsFrom x pool base [] → Loads c.put_printed.result (loaded_tuple x.query (parts_in x) c.args.t.now.items base) x pool (told c.put_printed.new.table) pool) c.self.view_is
    (tuple-loads e c.self.invariant.0 c.args.t.now.items wide c.put_printed.result c.put_printed.ensures.value c.put_printed.new.table c.put_printed.ensures.table)

pub returns-clause-quiet : goal.returns-clause-quiet
returns-clause-quiet c =
    let e : ExecutorValue = record { query = c.self.inside.planned.query; shared = c.self.inside.shared; plan = c.self.inside.planned.plan; extent = c.self.inside.planned.extent; given = c.self.inside.given; table = c.self.inside.table; saturation = c.self.inside.saturation } in
    let told : TableValue → ExecutorValue = λ t. record { query = c.self.inside.planned.query; shared = c.self.inside.shared; plan = c.self.inside.planned.plan; extent = c.self.inside.planned.extent; given = c.self.inside.given; table = t; saturation = c.self.inside.saturation } in
    let wide = c.requires.width ∙ sym (ap (λ (x : ExecutorValue). length x.query.select) c.self.view_is) in
    subst (λ (x : ExecutorValue). waiting_in x ≡ [] → waiting_in (told c.put_printed.new.table) ≡ []) c.self.view_is (tuple-quiet e c.self.invariant.0 c.args.t.now.items wide c.put_printed.result c.put_printed.ensures.value c.put_printed.new.table c.put_printed.ensures.table)

pub returns-clause-kept : goal.returns-clause-kept
returns-clause-kept c =
    let e : ExecutorValue = record { query = c.self.inside.planned.query; shared = c.self.inside.shared; plan = c.self.inside.planned.plan; extent = c.self.inside.planned.extent; given = c.self.inside.given; table = c.self.inside.table; saturation = c.self.inside.saturation } in
    let told : TableValue → ExecutorValue = λ t. record { query = c.self.inside.planned.query; shared = c.self.inside.shared; plan = c.self.inside.planned.plan; extent = c.self.inside.planned.extent; given = c.self.inside.given; table = t; saturation = c.self.inside.saturation } in
    let wide = c.requires.width ∙ sym (ap (λ (x : ExecutorValue). length x.query.select) c.self.view_is) in
    subst (λ (x : ExecutorValue). (pool : PoolValue) → AreKept x pool → AreKept (told c.put_printed.new.table) pool) c.self.view_is (tuple-kept e c.self.invariant.0 c.args.t.now.items wide c.put_printed.result c.put_printed.ensures.value c.put_printed.new.table c.put_printed.ensures.table)

pub returns-clause-within : goal.returns-clause-within
returns-clause-within c =
    let e : ExecutorValue = record { query = c.self.inside.planned.query; shared = c.self.inside.shared; plan = c.self.inside.planned.plan; extent = c.self.inside.planned.extent; given = c.self.inside.given; table = c.self.inside.table; saturation = c.self.inside.saturation } in
    let told : TableValue → ExecutorValue = λ t. record { query = c.self.inside.planned.query; shared = c.self.inside.shared; plan = c.self.inside.planned.plan; extent = c.self.inside.planned.extent; given = c.self.inside.given; table = t; saturation = c.self.inside.saturation } in
    let wide = c.requires.width ∙ sym (ap (λ (x : ExecutorValue). length x.query.select) c.self.view_is) in
    subst (λ (x : ExecutorValue). (pool : PoolValue) → KeepsWithin x pool → KeepsWithin (told c.put_printed.new.table) pool) c.self.view_is (tuple-within e c.self.invariant.0 c.args.t.now.items wide c.put_printed.result c.put_printed.ensures.value c.put_printed.new.table c.put_printed.ensures.table)
