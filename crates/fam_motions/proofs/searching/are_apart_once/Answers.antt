use Rattle.std.proofs.Common.{inl, inr}
use Rattle.fam_motions.proofs.searching.are_apart_once.Goals as goal

pub returns-then-later_fails : goal.returns-then-later_fails
returns-then-later_fails c t = inl (c.later_fails.ensures c.if-later_fails.true)

pub returns : goal.returns
returns c t = inr (c.earlier_fails.ensures t)
