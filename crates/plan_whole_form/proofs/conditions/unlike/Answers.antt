use Rattle.sem_laws.proofs.Tests.{not_both}
use Rattle.plan_whole_form.proofs.conditions.unlike.Goals as goal

pub turned-requires : goal.turned-requires
turned-requires c = (c.is_own_unlike.ensures.0 c.if-is_own_unlike.true).column

pub returns-then-is_own_unlike : goal.returns-then-is_own_unlike
returns-then-is_own_unlike c = (c.is_own_unlike.ensures.0 c.if-is_own_unlike.true, c.turned.ensures)

pub returns-else-is_own_unlike : goal.returns-else-is_own_unlike
returns-else-is_own_unlike c = λ o. not_both c.is_own_unlike.result (c.is_own_unlike.ensures.1 o) c.if-is_own_unlike.false
