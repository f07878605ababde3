use Rattle.std.proofs.Common.{subst, arith}
use Rattle.sem_query.specs.Meaning.{by_column}
use Rattle.sem_query.specs.Plan.{dims_at}
use Rattle.sem_query.specs.Cells.{dim_values}
use Rattle.sem_query.proofs.BoxLaws.{place-below}
use Rattle.exec_synopsis.specs.Axes.{IsCell}
use Rattle.exec_synopsis.proofs.cells.cell_of.Goals as goal

pub returns-in-Cell-clause-below : goal.returns-in-Cell-clause-below
returns-in-Cell-clause-below c =
    let told = subst (IsCell c.args.part.now c.args.pos c.args.row.now) c.in-Cell.is c.requires.placement in
    let below = place-below (dims_at c.args.part.now c.args.pos) (dim_values (dims_at c.args.part.now c.args.pos) (by_column c.args.row.now)) c.requires.inside in
    omega (arith, below, c.requires.laid.size, c.requires.laid.room, told.1)
