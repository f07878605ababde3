use Rattle.std.proofs.Common.{◌*◌, sym, subst, arith}
use Rattle.sem_query.specs.Boxes.{AreInside}
use Rattle.sem_query.specs.Meaning.{by_column}
use Rattle.sem_query.specs.Plan.{dims_at}
use Rattle.sem_query.specs.Cells.{dim_values}
use Rattle.sem_laws.proofs.Inverse.{admitted-rows-have-places}
use Rattle.exec_synopsis.proofs.PlanLaws.{laid-from}
use Rattle.exec_synopsis.proofs.own.own_cell.Goals as goal

pub cell_of-number-requires-clause-here : goal.cell_of-number-requires-clause-here
cell_of-number-requires-clause-here g c = omega (arith, c.requires.here, c.requires.held.walked.plan.count)

pub cell_of-number-requires-clause-laid : goal.cell_of-number-requires-clause-laid
cell_of-number-requires-clause-laid g c =
    laid-from c.args.q.now c.args.part.now c.requires.held.walked (64 * c.args.e.now.pages) c.requires.held.within c.requires.several c.args.at.pos c.requires.here

pub cell_of-number-requires-clause-inside : goal.cell_of-number-requires-clause-inside
cell_of-number-requires-clause-inside g c =
    subst (λ row. AreInside (dims_at c.args.part.now c.args.at.pos) (dim_values (dims_at c.args.part.now c.args.at.pos) (by_column row))) (sym c.as_slice-values.ensures.value)
    (admitted-rows-have-places c.args.q.now c.args.part.now c.args.at.pos (by_column c.args.row.now.items) c.requires.admitted)
