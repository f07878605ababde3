use Rattle.std.proofs.Common.{◌≤◌, length}
use Rattle.std.specs.List.{list_all}
use Rattle.exec_filter.specs.Prefilter.{is_within, Passes}
use Rattle.exec_filter.proofs.prefilter.ranges_at.Given as goal

abbrev pub invariant-columns : goal.invariant-columns
invariant-columns l = record {
  few : length l.ranges.items ≤ l.column;
  so_far : Passes l.parts l.place (λ v. list_all (is_within v) l.ranges.items);
}
