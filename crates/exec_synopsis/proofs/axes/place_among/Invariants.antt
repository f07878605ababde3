use Rattle.sem_query.specs.Meaning.{by_column}
use Rattle.exec_synopsis.proofs.AxisLaws.{SoFar}
use Rattle.exec_synopsis.proofs.axes.place_among.Given as goal

abbrev pub invariant-axes : goal.invariant-axes
invariant-axes l = SoFar (by_column l.row) l.dims l.axis-index l.place
