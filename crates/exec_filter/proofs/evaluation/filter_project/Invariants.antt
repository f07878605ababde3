use Rattle.std.proofs.Common.{◌≡◌, [], ◌∷◌, map, take}
use Rattle.sem_query.specs.Meaning.{assignment_of}
use Rattle.exec_filter.proofs.evaluation.filter_project.Given as goal

abbrev pub invariant-columns : goal.invariant-columns
invariant-columns l = l.tuple.items ≡ map (assignment_of (l.row.items ∷ [])) (take l.attr-index l.select)
