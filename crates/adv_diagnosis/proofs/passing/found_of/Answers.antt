use Rattle.std.proofs.Common.{ap, ◌∙◌}
use Rattle.adv_diagnosis.specs.Counted.{found_by}
use Rattle.adv_diagnosis.proofs.LimitsFound.{found_is}
use Rattle.adv_diagnosis.proofs.passing.found_of.Goals as goal

pub returns-in-Ok : goal.returns-in-Ok
returns-in-Ok c s is limit = found_is c.args.what s c.args.text.now c.in-Ok.tokens.items c.number_found.result (c.number_found.ensures ∙ ap (found_by c.args.what c.args.text.now) c.as_slice.ensures.value) c.in-Ok.ensures.tokens c.in-Ok.ensures.stand is limit
