use Rattle.std.proofs.Common.{◌∙◌, [], ap, refl, subst, sym, arith}
use Rattle.sem_query.specs.Combinations.{read_from}
use Rattle.exec_pool.specs.Extents.{cells_of}
use Rattle.exec_saturation.specs.declared.saturation.Saturation.{Saturation}
use Rattle.exec_saturation.specs.Known.{AreSaturated}
use Rattle.exec_query.specs.Executor.{ExecutorValue, arrival, parts_in, tuples_in}
use Rattle.exec_query.specs.Standing.{IsReady}
use Rattle.exec_query.specs.Row.{HasLooked}
use Rattle.exec_query.proofs.CursorCells.{announces-work, can-look-at}
use Rattle.exec_query.proofs.LookedRows.{known-in-extent, kept-looked, rows-and-spare}
use Rattle.exec_query.proofs.Rows.{plans, ready_row}
use Rattle.exec_query.proofs.TakenRow.{filter-plan}
use Rattle.exec_query.proofs.PlanFacts.{serving_in}
use Rattle.exec_query.proofs.executor.Executor.look_on.Goals as goal

pub look_beside_row-self-inside-requires-clause-look : goal.look_beside_row-self-inside-requires-clause-look
look_beside_row-self-inside-requires-clause-look g c =
    let e : ExecutorValue = record { query = c.self.inside.planned.query; shared = c.self.inside.shared; plan = c.self.inside.planned.plan; extent = c.self.inside.planned.extent; given = c.self.inside.given; table = c.self.inside.table; saturation = c.self.inside.saturation } in
    let ready : IsReady e c.args.pool.now = subst (λ (x : ExecutorValue). IsReady x c.args.pool.now) (sym c.self.view_is) c.requires.ready in
    let sound = c.self.invariant.0 in
    can-look-at e.query e.plan c.self.inside.planned.prepared c.args.pool.now e.extent e.table.width (ready_row e sound c.args.pool.now ready (arrival 0 []) sound.ascends)
    (announces-work e.shared e.query e.plan (serving_in e sound)) c.self.invariant.1 sound.width

pub look_beside_row-self-inside-requires-clause-known : goal.look_beside_row-self-inside-requires-clause-known
look_beside_row-self-inside-requires-clause-known g c = λ d.
    let e : ExecutorValue = record { query = c.self.inside.planned.query; shared = c.self.inside.shared; plan = c.self.inside.planned.plan; extent = c.self.inside.planned.extent; given = c.self.inside.given; table = c.self.inside.table; saturation = c.self.inside.saturation } in
    let ready : IsReady e c.args.pool.now = subst (λ (x : ExecutorValue). IsReady x c.args.pool.now) (sym c.self.view_is) c.requires.ready in
    subst (λ (s : Saturation). AreSaturated s e.query (parts_in e) (read_from (cells_of c.args.pool.now e.extent)) (tuples_in e)) (ap (λ (x : ExecutorValue). x.saturation) c.self.view_is ∙ c.requires.here)
    (known-in-extent e c.self.invariant.0 c.args.pool.now ready d)

pub returns : goal.returns
returns g c =
    let e : ExecutorValue = record { query = c.self.inside.planned.query; shared = c.self.inside.shared; plan = c.self.inside.planned.plan; extent = c.self.inside.planned.extent; given = c.self.inside.given; table = c.self.inside.table; saturation = c.self.inside.saturation } in
    let ready : IsReady e c.args.pool.now = subst (λ (x : ExecutorValue). IsReady x c.args.pool.now) (sym c.self.view_is) c.requires.ready in
    let looked = c.look_beside_row-self-inside in
    let later : ExecutorValue = record { query = c.self.inside.planned.query; shared = c.self.inside.shared; plan = c.self.inside.planned.plan; extent = c.self.inside.planned.extent; given = c.self.inside.given; table = c.self.inside.table; saturation = looked.result } in
    let own : HasLooked e c.args.pool.now c.args.stream later c.args.steps.now looked.new.steps
    = record {
      same = refl;
      kept = kept-looked e c.self.invariant.0 c.args.pool.now ready looked.result looked.ensures.known;
      reads =
          (let room = rows-and-spare e.query e.plan (announces-work e.shared e.query e.plan (serving_in e c.self.invariant.0)) (plans e c.self.invariant.0 c.args.pool.now ready (arrival 0 []) c.self.invariant.0.ascends) in
          let few = looked.ensures.reads in omega (arith, room, few));
      writes = looked.ensures.writes;
      alone = λ filter. looked.ensures.alone (filter-plan e.shared e.query e.plan (serving_in e c.self.invariant.0) filter);
      outside = looked.ensures.outside;
    } in
    subst (λ (x : ExecutorValue). HasLooked x c.args.pool.now c.args.stream later c.args.steps.now looked.new.steps) c.self.view_is own
