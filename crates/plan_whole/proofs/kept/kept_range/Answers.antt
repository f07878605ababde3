use Rattle.std.proofs.Common.{subst}
use Rattle.sem_laws.proofs.Tests.{not_both}
use Rattle.sem_whole.specs.System.{system}
use Rattle.plan_whole.specs.Asked.{AreAskedBy}
use Rattle.plan_whole.proofs.Asking.{kept_as_own, kept_as_asked, read_is_asked}
use Rattle.plan_whole.proofs.kept.kept_range.Goals as goal

pub returns-then-is_kept_as_it_is : goal.returns-then-is_kept_as_it_is
returns-then-is_kept_as_it_is c = kept_as_own c.args.closed.now c.args.links.now c.args.a c.ends-own.result c.asked-asked.result c.ends-own.ensures.ends (c.is_kept_as_it_is.ensures.0 c.if-is_kept_as_it_is.true) c.asked-asked.ensures

pub returns-in-Some : goal.returns-in-Some
returns-in-Some c =
    kept_as_asked c.args.closed.now c.args.links.now c.args.a c.ends-own.result c.in-Some.asked c.cut.result c.ends-own.ensures.ends (λ k. not_both c.is_kept_as_it_is.result (c.is_kept_as_it_is.ensures.1 k) c.if-is_kept_as_it_is.false)
    (subst (AreAskedBy (system c.args.closed.now) c.args.a c.args.links.now) c.in-Some.is c.asked-asked.ensures) c.cut.ensures

pub returns-in-None : goal.returns-in-None
returns-in-None c =
    absurd (read_is_asked c.args.closed.now c.args.links.now c.args.a c.requires (λ k. not_both c.is_kept_as_it_is.result (c.is_kept_as_it_is.ensures.1 k) c.if-is_kept_as_it_is.false)
    (subst (AreAskedBy (system c.args.closed.now) c.args.a c.args.links.now) c.in-None.is c.asked-asked.ensures))
