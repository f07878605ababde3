use Rattle.std.proofs.Common.{◌≡◌, ℤ, List, [], ◌∷◌, true, take}
use Rattle.std.specs.List.{list_all}
use Rattle.sem_query.specs.Assignment.{meets}
use Rattle.sem_query.specs.Meaning.{by_column, assignment_of}
use Rattle.exec_filter.specs.Prefilter.{lies_in}
use Rattle.exec_filter.proofs.interval.interval_alone.Given as goal

abbrev pub invariant-atoms : goal.invariant-atoms
invariant-atoms l =
    (values : List ℤ) → list_all (meets (assignment_of (values ∷ []))) (take l.atom-index l.atoms) ≡ true → lies_in l.interval (by_column values l.column) ≡ true
