use Rattle.sem_whole.proofs.Formed.{well_formed}
use Rattle.plan_forms.proofs.Fitted.{none_contradicting}
use Rattle.plan_forms.proofs.fitting.whole_plan.Goals as goal

pub returns-in-None : goal.returns-in-None
returns-in-None c = none_contradicting c.args.q.now (well_formed c.args.q.now c.from-from.ensures.limits) c.in-None.ensures
