use Rattle.std.proofs.Common.{◌∙◌, sym}
use Rattle.plan_parts.proofs.Failing.{next_told}
use Rattle.plan_parts.proofs.soft.next_fails.Goals as goal

pub returns-then-place-fails : goal.returns-then-place-fails
returns-then-place-fails c = c.by.ensures ∙ next_told c.args.q.now c.args.fails.now _ c.args.sign _ c.requires c.if-place-fails.true

pub returns-else-place-fails : goal.returns-else-place-fails
returns-else-place-fails c = sym (c.requires.others _ c.args.sign c.if-place-fails.false)
