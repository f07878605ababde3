use Rattle.std.proofs.Common.{length}
use Rattle.exec_restore.proofs.loading.+lie_inside.Given as goal

abbrev pub decreases-lie_inside : goal.decreases-lie_inside
decreases-lie_inside l = length l.columns.now
