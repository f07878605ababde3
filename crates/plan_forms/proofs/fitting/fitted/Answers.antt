use Rattle.std.proofs.Common.{subst}
use Rattle.sem_laws.proofs.Tests.{not_both}
use Rattle.plan_forms.specs.Made.{IsMadeOr}
use Rattle.plan_forms.proofs.Fitted.{none_open, too_large, fits_made}
use Rattle.plan_forms.proofs.fitting.fitted.Goals as goal

pub returns-then-is_within : goal.returns-then-is_within
returns-then-is_within c =
    fits_made c.args.closed.now c.in-Ok.whole (subst (IsMadeOr c.args.closed.now c.args.part.now) c.in-Ok.is c.in_ok-whole.ensures) (c.is_within.ensures.0 c.if-is_within.true) c.plan_of.result.part c.plan_of.result.numbers c.plan_of.ensures.part c.plan_of.ensures.numbers

pub returns-else-is_within : goal.returns-else-is_within
returns-else-is_within c =
    too_large c.args.closed.now c.in-Ok.whole (subst (IsMadeOr c.args.closed.now c.args.part.now) c.in-Ok.is c.in_ok-whole.ensures) (λ few. not_both c.is_within.result (c.is_within.ensures.1 few) c.if-is_within.false)

pub returns-in-Err : goal.returns-in-Err
returns-in-Err c =
    none_open c.args.closed.now c.query-query.ensures.formed c.args.part.now c.requires c.in-Err._open (subst (IsMadeOr c.args.closed.now c.args.part.now) c.in-Err.is c.in_ok-whole.ensures).0
