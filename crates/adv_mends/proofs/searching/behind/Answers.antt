use Rattle.std.proofs.Common.{sym, ◌∙◌}
use Rattle.adv_mends.proofs.Sublists.{behind-same, behind-other, behind-none}
use Rattle.adv_mends.proofs.searching.behind.Goals as goal

pub returns-in-empty : goal.returns-in-empty
returns-in-empty c = behind-none c.args.columns.now c.args.column c.in-empty.len_below

pub returns-then-is_same : goal.returns-then-is_same
returns-then-is_same c = behind-same c.args.columns.now _ c.args.column c.in-len1-up.len_at_least (sym c.is_same.ensures ∙ c.if-is_same.true)

pub returns-else-is_same : goal.returns-else-is_same
returns-else-is_same c = behind-other c.args.columns.now _ c.args.column c.in-len1-up.len_at_least (sym c.is_same.ensures ∙ c.if-is_same.false)
