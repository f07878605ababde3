use Rattle.std.proofs.Common.{length}
use Rattle.adv_diagnosis.proofs.rows.+first_outside.Given as goal

abbrev pub decreases-first_outside : goal.decreases-first_outside
decreases-first_outside l = length l.columns.now
