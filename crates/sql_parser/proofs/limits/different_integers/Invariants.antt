use Rattle.std.proofs.Common.{◌≡◌, ◌+◌, ◌≤◌, length}
use Rattle.std.specs.Ordering.{int_eq}
use Rattle.sql_parser.specs.Limits.{number_of_different}
use Rattle.sql_parser.proofs.limits.different_integers.Given as goal

-- those counted so far and those of the rest
abbrev pub invariant-counting : goal.invariant-counting
invariant-counting l = record {
  counted : l.count + number_of_different int_eq l.rest ≡ number_of_different int_eq l.integers;
  room : l.count + length l.rest ≤ length l.integers;
}

abbrev pub decreases-counting : goal.decreases-counting
decreases-counting l = length l.rest
