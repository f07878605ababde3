use Rattle.plan_whole_form.proofs.Opening.{unlike_told}
use Rattle.plan_whole_form.proofs.sides.is_unlike.Goals as goal

pub returns : goal.returns
returns c = unlike_told c.args.closed.now c.args.links.now c.args.a c.differs.result c.differs.ensures
