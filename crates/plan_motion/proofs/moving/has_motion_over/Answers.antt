use Rattle.std.proofs.Common.{◌↔◌, IsTrue, subst}
use Rattle.sem_whole.specs.System.{system}
use Rattle.plan_motion.specs.Moving.{MovesByTests}
use Rattle.plan_motion.proofs.Motion.{tests_tell}
use Rattle.plan_motion.proofs.moving.has_motion_over.Goals as goal

pub returns : goal.returns
returns c =
    let q = c.args.q.now in
    let e = subst (λ s. IsTrue c.moves_by_tests.result ↔ MovesByTests q (system s)) c.requires c.moves_by_tests.ensures in
    (λ h. (tests_tell q).0 (e.0 h), λ m. e.1 ((tests_tell q).1 m))
