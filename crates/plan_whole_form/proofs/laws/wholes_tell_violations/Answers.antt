use Rattle.plan_whole_form.proofs.Assembling.{wholes_tell_violations}
use Rattle.plan_whole_form.proofs.laws.wholes_tell_violations.Goals as goal

pub returns : goal.returns
returns c = wholes_tell_violations
