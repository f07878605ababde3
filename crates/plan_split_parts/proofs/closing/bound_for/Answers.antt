use Rattle.std.proofs.Common.{arith}
use Rattle.plan_split_parts.proofs.closing.bound_for.Goals as goal

pub upper-requires-clause-left : goal.upper-requires-clause-left
upper-requires-clause-left c = let l = (c.are_within.ensures.0 c.if-are_within.true).0 in let e = c.requires.last in omega (arith, l, e)

pub upper-requires-clause-right : goal.upper-requires-clause-right
upper-requires-clause-right c = let l = (c.are_within.ensures.0 c.if-are_within.true).1 in let e = c.requires.last in omega (arith, l, e)

pub returns-then-are_within : goal.returns-then-are_within
returns-then-are_within c = λ n cs h l m. (c.upper.ensures.answer n cs h, c.upper.ensures.small)
