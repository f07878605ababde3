use Rattle.std.proofs.Common.{◌≡◌, ◌+◌, ◌≤◌, length}
use Rattle.sql_parser.specs.Limits.{number_of_different, same_column}
use Rattle.sql_parser.proofs.limits.different_columns.Given as goal

-- those counted so far and those of the rest
abbrev pub invariant-counting : goal.invariant-counting
invariant-counting l = record {
  counted : l.count + number_of_different same_column l.rest ≡ number_of_different same_column l.columns;
  room : l.count + length l.rest ≤ length l.columns;
}

abbrev pub decreases-counting : goal.decreases-counting
decreases-counting l = length l.rest
