use Rattle.sem_whole.specs.System.{system}
use Rattle.plan_whole.proofs.Following.{or_then, or_else, kept_one, either_told}
use Rattle.plan_whole.proofs.links.follows_by_either.Goals as goal

pub returns-then-follows_by_links : goal.returns-then-follows_by_links
returns-then-follows_by_links c = or_then c.follows_by_links.result (kept_one (system c.args.closed.now) c.args.kept.now c.args.rest.now c.args.bound) c.follows_by_links.ensures c.if-follows_by_links.true

pub returns-else-follows_by_links : goal.returns-else-follows_by_links
returns-else-follows_by_links c =
    or_else c.follows_by_links.result c.follows_by_links-else-follows_by_links.result
    (either_told (system c.args.closed.now) c.args.kept.now c.args.rest.now c.args.bound c.follows_by_links.result c.follows_by_links-else-follows_by_links.result c.follows_by_links.ensures c.follows_by_links-else-follows_by_links.ensures)
    c.if-follows_by_links.false
