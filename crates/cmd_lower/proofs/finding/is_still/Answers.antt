use Rattle.std.proofs.Common.{subst}
use Rattle.std.specs.Prelude.{IsTrue, IsFalse}
use Rattle.sem_laws.proofs.Tests.{not_both}
use Rattle.cmd_lower.proofs.Found.{few-enough, many-needed}
use Rattle.cmd_lower.proofs.finding.is_still.Goals as goal

pub returns-then-has_motion-clause-many : goal.returns-then-has_motion-clause-many
returns-then-has_motion-clause-many c f d = many-needed c.args.query.now c.atoms-atoms.ensures.limits c.requires (c.has_motion.ensures.0 c.if-has_motion.true) d

pub returns-clause-few : goal.returns-clause-few
returns-clause-few c t =
    few-enough c.args.query.now c.has_motion.result c.atoms-atoms.ensures.limits c.has_motion.ensures c.if-has_motion.false (subst (λ b. IsTrue b) c.distinct.ensures t)

pub returns-clause-many : goal.returns-clause-many
returns-clause-many c f d = absurd (not_both c.args.query.now.distinct d (subst (λ b. IsFalse b) c.distinct.ensures f))
