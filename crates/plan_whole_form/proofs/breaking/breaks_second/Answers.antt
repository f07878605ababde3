use Rattle.plan_whole.proofs.Following.{and_then, and_else}
use Rattle.plan_whole_form.proofs.Breaks.{both_told}
use Rattle.plan_whole_form.proofs.breaking.breaks_second.Goals as goal

pub returns-then-is_open_side : goal.returns-then-is_open_side
returns-then-is_open_side c = and_then c.is_open_side.result c.is_fixed.result (both_told c.is_open_side.result c.is_fixed.result c.is_open_side.ensures c.is_fixed.ensures) c.if-is_open_side.true

pub returns-else-is_open_side : goal.returns-else-is_open_side
returns-else-is_open_side c = and_else c.is_open_side.result (λ b. b.0) c.is_open_side.ensures c.if-is_open_side.false
