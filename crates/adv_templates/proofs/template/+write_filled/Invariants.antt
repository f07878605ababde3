use Rattle.std.proofs.Common.{length}
use Rattle.adv_templates.proofs.template.+write_filled.Given as goal

abbrev pub decreases-write_filled : goal.decreases-write_filled
decreases-write_filled g l = length l.fillings.now
