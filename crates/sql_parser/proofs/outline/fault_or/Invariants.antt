use Rattle.std.proofs.Common.{◌≡◌, ◌≤◌, ◌-◌, length}
use Rattle.sql_lexer.specs.Tokens.{tokens_at}
use Rattle.sql_parser.specs.Outlines.{fault_or}
use Rattle.sql_parser.proofs.outline.fault_or.Given as goal

-- what is left tells the same
abbrev pub invariant-loop-from : goal.invariant-loop-from
invariant-loop-from l = record {
  told : fault_or (tokens_at l.line l.place) l.at ≡ fault_or (tokens_at l.line l.from) l.at;
  inside : l.from ≤ length l.line;
}

abbrev pub decreases-loop-from : goal.decreases-loop-from
decreases-loop-from l = length l.line - l.from
