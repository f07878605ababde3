use Rattle.std.proofs.Common.{◌↔◌, IsTrue, subst}
use Rattle.sem_whole.specs.System.{system}
use Rattle.plan_whole.specs.Columns.{difference_of, FollowsFrom}
use Rattle.plan_whole.proofs.Following.{or_then, or_else, eq_by, by_eq}
use Rattle.plan_whole.proofs.links.follows_from_equal.Goals as goal

pub returns-then-follows_from : goal.returns-then-follows_from
returns-then-follows_from c = or_then c.follows_from.result (eq_by (system c.args.closed.now) c.args.left c.args.right (difference_of c.args.bound)) c.follows_from.ensures c.if-follows_from.true

pub returns-else-follows_from : goal.returns-else-follows_from
returns-else-follows_from c =
    or_else c.follows_from.result c.follows_from-else-follows_from.result
    (by_eq (system c.args.closed.now) c.args.left c.args.right (difference_of c.args.bound) c.follows_from.result c.follows_from-else-follows_from.result c.follows_from.ensures
    (subst (λ z. IsTrue c.follows_from-else-follows_from.result ↔ FollowsFrom (system c.args.closed.now) (difference_of z) (difference_of c.args.bound)) c.turned_bound.ensures c.follows_from-else-follows_from.ensures))
    c.if-follows_from.false
