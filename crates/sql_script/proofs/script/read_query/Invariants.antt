use Rattle.std.proofs.Common.{◌-◌, ◌^◌, ◌≤◌}
use Rattle.sql_script.proofs.Progress.{Progress}
use Rattle.sql_script.proofs.script.read_query.Given as goal

abbrev pub invariant-reading : goal.invariant-reading
invariant-reading g l = record {
  progress : Progress (g.I.Source.seen l.fn.input) (g.I.Source.seen l.input) l.reader l.catalog;
  later : (g.I.Source.seen l.fn.input).faults ≤ (g.I.Source.seen l.input).faults;
}

abbrev pub decreases-reading : goal.decreases-reading
decreases-reading g l = 2 ^ 64 - l.reader.lines
