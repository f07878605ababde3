use Rattle.plan_whole_form.proofs.Conditioned.{unlikes_signed}
use Rattle.plan_whole_form.proofs.conditions.unlikes.Goals as goal

pub returns : goal.returns
returns c = unlikes_signed c.args.place _ c.query.result.now c.args.closed.now _ c.atoms.ensures.value c.query.ensures.signed c.unlikes_among.ensures
