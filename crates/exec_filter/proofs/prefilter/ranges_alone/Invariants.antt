use Rattle.std.proofs.Common.{◌≡◌, ◌≤◌, ℤ, List, [], ◌∷◌, true, length}
use Rattle.std.specs.List.{list_all}
use Rattle.sem_query.specs.Assignment.{meets}
use Rattle.sem_query.specs.Meaning.{by_column, assignment_of}
use Rattle.exec_filter.specs.Prefilter.{is_within}
use Rattle.exec_filter.proofs.prefilter.ranges_alone.Given as goal

abbrev pub invariant-columns : goal.invariant-columns
invariant-columns l = record {
  few : length l.ranges.items ≤ l.column;
  so_far : (values : List ℤ) → list_all (meets (assignment_of (values ∷ []))) l.atoms ≡ true → list_all (is_within (by_column values)) l.ranges.items ≡ true;
}
