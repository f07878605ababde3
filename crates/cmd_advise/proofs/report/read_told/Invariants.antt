use Rattle.std.proofs.Common.{◌-◌, ◌^◌, ◌≤◌}
use Rattle.cmd_advise.proofs.Progress.{Progress}
use Rattle.cmd_advise.proofs.report.read_told.Given as goal

abbrev pub invariant-reading : goal.invariant-reading
invariant-reading g l = record {
  progress : Progress (g.I.Source.seen l.fn.input) (g.I.Source.seen l.input) l.reader l.held.bytes l.state;
  later : (g.I.Source.seen l.fn.input).faults ≤ (g.I.Source.seen l.input).faults;
}

abbrev pub decreases-reading : goal.decreases-reading
decreases-reading g l = 2 ^ 64 - l.reader.lines
