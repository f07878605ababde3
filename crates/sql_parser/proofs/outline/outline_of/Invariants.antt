use Rattle.std.proofs.Common.{◌≤◌, ◌-◌, length}
use Rattle.sql_parser.proofs.Outlining.{Outlined}
use Rattle.sql_parser.proofs.outline.outline_of.Given as goal

-- the tokens so far have the outline
abbrev pub invariant-loop-outline : goal.invariant-loop-outline
invariant-loop-outline l = record {
  so_far : Outlined l.line l.place l.outline;
  inside : l.place ≤ length l.line;
}

abbrev pub decreases-loop-outline : goal.decreases-loop-outline
decreases-loop-outline l = length l.line - l.place
