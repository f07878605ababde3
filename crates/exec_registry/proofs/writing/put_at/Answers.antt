use Rattle.std.proofs.Common.{ℕ, ◌<◌, List, length, arith, refl, sym, ap, subst}
use Rattle.exec_answer_lines.specs.Gathering.{Gathers}
use Rattle.exec_query.specs.Executor.{ExecutorValue}
use Rattle.exec_registry.specs.declared.queries.Runner.{Runner}
use Rattle.exec_registry.specs.Live.{Live, named}
use Rattle.exec_registry.specs.Counted.{run_to, shown}
use Rattle.exec_registry.specs.Registry.{waiting_text}
use Rattle.exec_registry.specs.Written.{GathersNext}
use Rattle.exec_registry.proofs.InWriting.{wrote_at}
use Rattle.exec_registry.proofs.SideBySide.{live_named, name_there}
use Rattle.exec_registry.proofs.Shown.{sized, size_run, run_stands}
use Rattle.exec_registry.proofs.writing.put_at.Goals.{in-Ok, in-Err}
use Rattle.exec_registry.proofs.writing.put_at.Goals as goal

pub unwrap-name-requires : goal.unwrap-name-requires
unwrap-name-requires g c =
    let size = size_run c.live.inside.rows c.live.inside.names.keys c.live.inside.runners.items c.args.live.now c.live.invariant.0 c.live.view_is in
    let here : c.args.place < length c.live.inside.names.keys = omega (arith, c.requires.there, size, c.live.invariant.0) in
    c.get_index.ensures.found.1 here

pub returns-clause-gathered : goal.returns-clause-gathered
returns-clause-gathered g c = λ l.
    let rows : ℕ = c.live.inside.rows in
    let names : List (List ℕ) = c.live.inside.names.keys in
    let items : List Runner = c.live.inside.runners.items in
    let own : Runner = c.index_mut-runner.result.now in
    let name : List ℕ = c.unwrap-name.result.now in
    let size = size_run rows names items c.args.live.now c.live.invariant.0 c.live.view_is in
    let there = name_there names c.args.place c.get_index.result c.unwrap-name.result c.get_index.ensures.key c.unwrap-name.ensures in
    let stands = run_stands rows items c.args.place own (omega (arith, c.requires.there, size)) c.index_mut-runner.ensures.value in
    let at = live_named names (shown rows items) c.args.live.now c.args.place name (run_to rows own) l (sized rows names items c.live.invariant.0) c.live.view_is there stands in
    subst (λ (x : Live). GathersNext c.args.gathered c.match-gathered.result (g.O.Sink.seen c.args.out.now) (g.O.Sink.seen c.match-gathered.out) c.args.lines.now c.match-gathered.lines (waiting_text x)) (sym at)
    (elim c.match-gathered.branch [
      | in-Ok w ↦ rw (w.in-Ok.is, w.result-is, w.out-is, w.lines-is)
          (subst (λ (e : ExecutorValue). Gathers w.emit.result (g.O.Sink.seen c.args.out.now) (g.O.Sink.seen w.emit.new.out) c.args.lines.now w.emit.new.lines (waiting_text (named name e))) c.pass.ensures w.emit.ensures.gathers)
      | in-Err w ↦ rw w.in-Err.is (w.result-is, ap g.O.Sink.seen w.out-is)
    ])

pub returns-clause-wrote : goal.returns-clause-wrote
returns-clause-wrote g c =
    let rows : ℕ = c.live.inside.rows in
    let names : List (List ℕ) = c.live.inside.names.keys in
    let items : List Runner = c.live.inside.runners.items in
    let own : Runner = c.index_mut-runner.result.now in
    let name : List ℕ = c.unwrap-name.result.now in
    let size = size_run rows names items c.args.live.now c.live.invariant.0 c.live.view_is in
    let within : c.args.place < length items = omega (arith, c.requires.there, size) in
    let there = name_there names c.args.place c.get_index.result c.unwrap-name.result c.get_index.ensures.key c.unwrap-name.ensures in
    elim c.match-gathered.branch [
      | in-Ok w ↦ rw w.live-inside-is
          (wrote_at names items rows c.args.place c.args.live.now name own (record { executor = w.emit.new.self; before = own.before }) c.pass.new.self
          c.live.invariant.0 c.live.view_is there within c.index_mut-runner.ensures.value c.pass.ensures refl w.emit.ensures.same record {
            name = refl;
            none = w.emit.ensures.none;
            same = w.emit.ensures.same;
            kept = w.emit.ensures.kept;
            within = w.emit.ensures.within;
            bases = w.emit.ensures.bases;
          })
      | in-Err w ↦ rw w.live-inside-is
          (wrote_at names items rows c.args.place c.args.live.now name own (record { executor = w.give_up.new.self; before = own.before }) c.pass.new.self
          c.live.invariant.0 c.live.view_is there within c.index_mut-runner.ensures.value c.pass.ensures refl w.give_up.ensures.same record {
            name = refl;
            none = w.give_up.ensures.none;
            same = w.give_up.ensures.same;
            kept = w.give_up.ensures.kept;
            within = w.give_up.ensures.within;
            bases = w.give_up.ensures.bases;
          })
    ]
