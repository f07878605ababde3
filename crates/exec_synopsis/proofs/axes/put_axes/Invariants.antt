use Rattle.exec_synopsis.proofs.AxisLaws.{Listed}
use Rattle.exec_synopsis.proofs.axes.put_axes.Given as goal

abbrev pub invariant-dims : goal.invariant-dims
invariant-dims l = Listed l.dims l.axes.items l.dim-index l.cells
