use Rattle.plan_motion.proofs.Motion.{still}
use Rattle.plan_motion.proofs.moving.has_motion.Goals as goal

pub returns-in-None : goal.returns-in-None
returns-in-None c = (λ h. absurd cc, λ m. absurd (still c.args.q.now c.in-None.ensures m))
