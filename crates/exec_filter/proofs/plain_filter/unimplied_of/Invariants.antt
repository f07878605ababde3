use Rattle.std.proofs.Common.{◌≡◌, ◌≤◌, ℤ, List, [], ◌∷◌, true, length, take}
use Rattle.std.specs.List.{list_all}
use Rattle.sem_query.specs.Assignment.{meets}
use Rattle.sem_query.specs.Meaning.{by_column, assignment_of}
use Rattle.exec_filter.specs.Prefilter.{lets_in}
use Rattle.exec_filter.proofs.plain_filter.unimplied_of.Given as goal

abbrev pub invariant-atoms : goal.invariant-atoms
invariant-atoms l = record {
  few : length l.unimplied.items ≤ l.atom-index;
  so_far : (values : List ℤ) → lets_in l.stream_filter (by_column values) ≡ true
      → list_all (meets (assignment_of (values ∷ []))) l.unimplied.items ≡ list_all (meets (assignment_of (values ∷ []))) (take l.atom-index l.atoms);
}
