use Rattle.std.proofs.Common.{◌≡◌, ◌≤◌, ◌++◌, codes, length}
use Rattle.std.specs.Fmt.{signed_decimal}
use Rattle.sql_printer.specs.PrintedParts.{each_behind}
use Rattle.cmd_session.specs.ResumeLines.{AllFit}
use Rattle.cmd_session.proofs.resume_line.spaced_integers.Given as goal

-- the integers so far stand before the rest
abbrev pub invariant-loop-rest : goal.invariant-loop-rest
invariant-loop-rest l = record {
  text : l.text ≡ each_behind (codes " ") signed_decimal l.values.items ++ l.rest;
  fit : AllFit l.values.items;
  few : length l.values.items ≤ 8;
}

abbrev pub decreases-loop-rest : goal.decreases-loop-rest
decreases-loop-rest l = length l.rest
