use Rattle.std.proofs.Common.{not, ap}
use Rattle.sem_laws.proofs.Tests.{and-left, not_both}
use Rattle.plan_whole.proofs.Following.{and_then}
use Rattle.plan_whole.proofs.Classing.{right_alone_told}
use Rattle.plan_whole.proofs.classes.is_right_alone.Goals as goal

pub returns-then-not-kept : goal.returns-then-not-kept
returns-then-not-kept c =
    and_then (not c.is_kept_as_it_is-kept.result) c.is_right_at_each-right.result
    (right_alone_told c.args.closed.now c.args.links.now c.args.a c.is_kept_as_it_is-kept.result c.is_right_at_each-right.result c.is_kept_as_it_is-kept.ensures c.is_right_at_each-right.ensures) (ap not c.if-not-kept.true)

pub returns-else-not-kept : goal.returns-else-not-kept
returns-else-not-kept c =
    let f = right_alone_told c.args.closed.now c.args.links.now c.args.a c.is_kept_as_it_is-kept.result c.is_right_at_each-right.result c.is_kept_as_it_is-kept.ensures c.is_right_at_each-right.ensures in
    (λ h. absurd (not_both (not c.is_kept_as_it_is-kept.result) h (ap not c.if-not-kept.false)), λ p. and-left (not c.is_kept_as_it_is-kept.result) c.is_right_at_each-right.result (f.1 p))
