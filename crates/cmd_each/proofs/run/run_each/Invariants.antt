use Rattle.std.proofs.Common.{◌≡◌, ◌-◌, ◌^◌}
use Rattle.cmd_session.specs.State.{State}
use Rattle.cmd_session.specs.Session.{StandsFor}
use Rattle.cmd_each.specs.OneLine.{joined}
use Rattle.cmd_each.proofs.FormedProgress.{Progress}
use Rattle.cmd_each.proofs.run.run_each.Given as goal

abbrev pub invariant-answering : goal.invariant-answering
invariant-answering g l = record {
  progress : (s : State) → StandsFor l.fn.session s
      → Progress joined s (g.I.Source.seen l.fn.input) (g.I.Source.seen l.input) l.reader l.session (g.O.Sink.seen l.fn.output.sink.now) (g.O.Sink.seen l.output.sink.now) l.output.held.items;
  same : l.output.sink.ghost_name ≡ l.fn.output.sink.ghost_name;
}

abbrev pub decreases-answering : goal.decreases-answering
decreases-answering g l = 2 ^ 64 - l.reader.lines
