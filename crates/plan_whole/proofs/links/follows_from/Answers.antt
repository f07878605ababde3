use Rattle.sem_whole.specs.System.{system}
use Rattle.plan_whole.proofs.Following.{and_then, and_else, from_alike, follows_from_told}
use Rattle.plan_whole.proofs.links.follows_from.Goals as goal

pub returns-then-are_alike : goal.returns-then-are_alike
returns-then-are_alike c =
    and_then c.are_alike.result c.is_within.result
    (follows_from_told (system c.args.closed.now) c.args.other c.args.bound c.above-first.result c.above-second.result c.summed-sum.result c.are_alike.result c.is_within.result
    c.above-first.ensures.bound c.above-second.ensures.bound c.are_alike.ensures c.summed-sum.ensures c.is_within.ensures)
    c.if-are_alike.true

pub returns-else-are_alike : goal.returns-else-are_alike
returns-else-are_alike c = and_else c.are_alike.result (from_alike (system c.args.closed.now) c.args.other c.args.bound) c.are_alike.ensures c.if-are_alike.false
