use Rattle.std.proofs.Common.{length}
use Rattle.adv_diagnosis.proofs.marks.+behind_commas.Given as goal

abbrev pub decreases-behind_commas : goal.decreases-behind_commas
decreases-behind_commas l = length l.text.now
