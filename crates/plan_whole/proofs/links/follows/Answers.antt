use Rattle.sem_whole.specs.System.{system}
use Rattle.plan_whole.proofs.Following.{or_then, or_else, by_ranges, follows_told}
use Rattle.plan_whole.proofs.links.follows.Goals as goal

pub returns-then-follows_by_ranges : goal.returns-then-follows_by_ranges
returns-then-follows_by_ranges c = or_then c.follows_by_ranges.result (by_ranges (system c.args.closed.now) c.args.kept.now c.args.rest.now c.args.bound) c.follows_by_ranges.ensures c.if-follows_by_ranges.true

pub returns-else-follows_by_ranges : goal.returns-else-follows_by_ranges
returns-else-follows_by_ranges c =
    or_else c.follows_by_ranges.result c.follows_by_either.result
    (follows_told (system c.args.closed.now) c.args.kept.now c.args.rest.now c.args.bound c.follows_by_ranges.result c.follows_by_either.result c.follows_by_ranges.ensures c.follows_by_either.ensures)
    c.if-follows_by_ranges.false
