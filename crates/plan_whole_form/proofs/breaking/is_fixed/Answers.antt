use Rattle.std.proofs.Common.{inl}
use Rattle.plan_whole.proofs.Following.{or_then, or_else}
use Rattle.plan_whole_form.proofs.Breaks.{either_told}
use Rattle.plan_whole_form.proofs.breaking.is_fixed.Goals as goal

pub returns-then-is_kept_as_it_is : goal.returns-then-is_kept_as_it_is
returns-then-is_kept_as_it_is c = or_then c.is_kept_as_it_is.result (λ k. inl k) c.is_kept_as_it_is.ensures c.if-is_kept_as_it_is.true

pub returns-else-is_kept_as_it_is : goal.returns-else-is_kept_as_it_is
returns-else-is_kept_as_it_is c = or_else c.is_kept_as_it_is.result c.is_unlike.result (either_told c.is_kept_as_it_is.result c.is_unlike.result c.is_kept_as_it_is.ensures c.is_unlike.ensures) c.if-is_kept_as_it_is.false
