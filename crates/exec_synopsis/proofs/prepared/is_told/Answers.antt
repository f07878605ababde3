use Rattle.std.proofs.Common.{rules, FitsSigned, w64}
use Rattle.std.proofs.lemmas.Int.{to_z-of_z}
use Rattle.sem_query.specs.Assignment.{value}
use Rattle.sem_query.specs.Admission.{alone}
use Rattle.exec_synopsis.proofs.prepared.is_told.Goals as goal

pub returns-in-Some-range_of : goal.returns-in-Some-range_of
returns-in-Some-range_of c = λ told v inside.
    let fits : FitsSigned w64 c.args.condition.by = search rules in
    let left = c.in-Some.ensures v inside in
    let right = c.in-Some-range_of.ensures v inside in
    simp to_z-of_z at (c.is_always.ensures told (v c.args.condition.left.column) (value c.args.condition.right (alone v)) left.0 left.1 right.0 right.1)
