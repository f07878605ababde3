use Rattle.std.proofs.Common.{◌≤◌, ◌-◌, length}
use Rattle.sql_parser.proofs.Outlining.{Drafted}
use Rattle.sql_parser.proofs.reading.read_draft.Given as goal

-- the tokens so far have the outline and the draft
abbrev pub invariant-loop-outline : goal.invariant-loop-outline
invariant-loop-outline l = record {
  so_far : Drafted l.line l.place l.outline l.draft;
  inside : l.place ≤ length l.line;
}

abbrev pub decreases-loop-outline : goal.decreases-loop-outline
decreases-loop-outline l = length l.line - l.place
