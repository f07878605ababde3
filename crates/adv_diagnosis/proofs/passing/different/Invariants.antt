use Rattle.std.proofs.Common.{◌≡◌, ◌+◌, ◌≤◌, length}
use Rattle.std.specs.Ordering.{int_eq}
use Rattle.sql_parser.specs.Limits.{number_of_different}
use Rattle.adv_diagnosis.proofs.passing.different.Given as goal

-- those counted so far and those of the rest
abbrev pub invariant-counting : goal.invariant-counting
invariant-counting l = record {
  counted : l.count + number_of_different int_eq l.rest ≡ number_of_different int_eq l.values;
  room : l.count + length l.rest ≤ length l.values;
}

abbrev pub decreases-counting : goal.decreases-counting
decreases-counting l = length l.rest
