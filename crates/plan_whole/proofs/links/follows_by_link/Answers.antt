use Rattle.std.proofs.Common.{◌↔◌, IsTrue, sym, subst}
use Rattle.sem_query.specs.declared.atom.Element.TheVariants as element
use Rattle.sem_whole.specs.System.{system}
use Rattle.sem_whole.specs.Links.{comparison}
use Rattle.plan_whole.specs.Columns.{difference_of, FollowsFrom, FollowsByLink}
use Rattle.plan_whole.proofs.Following.{by_lt, by_le, by_gt, by_ge}
use Rattle.plan_whole.proofs.links.follows_by_link.Goals as goal

pub returns-in-Lt : goal.returns-in-Lt
returns-in-Lt c =
    subst (λ o. IsTrue c.follows_from.result ↔ FollowsByLink (system c.args.closed.now) (comparison (element.Attr c.args.link.left) o (element.Attr c.args.link.right)) (difference_of c.args.bound)) (sym c.in-Lt.is)
    (by_lt (system c.args.closed.now) c.args.link.left c.args.link.right (difference_of c.args.bound) c.follows_from.result c.follows_from.ensures)

pub returns-in-Le : goal.returns-in-Le
returns-in-Le c =
    subst (λ o. IsTrue c.follows_from-in-Le.result ↔ FollowsByLink (system c.args.closed.now) (comparison (element.Attr c.args.link.left) o (element.Attr c.args.link.right)) (difference_of c.args.bound)) (sym c.in-Le.is)
    (by_le (system c.args.closed.now) c.args.link.left c.args.link.right (difference_of c.args.bound) c.follows_from-in-Le.result c.follows_from-in-Le.ensures)

pub returns-in-Gt : goal.returns-in-Gt
returns-in-Gt c =
    subst (λ o. IsTrue c.follows_from-in-Gt.result ↔ FollowsByLink (system c.args.closed.now) (comparison (element.Attr c.args.link.left) o (element.Attr c.args.link.right)) (difference_of c.args.bound)) (sym c.in-Gt.is)
    (by_gt (system c.args.closed.now) c.args.link.left c.args.link.right (difference_of c.args.bound) c.follows_from-in-Gt.result (subst (λ z. IsTrue c.follows_from-in-Gt.result ↔ FollowsFrom (system c.args.closed.now) (difference_of z) (difference_of c.args.bound)) c.turned_bound.ensures c.follows_from-in-Gt.ensures))

pub returns-in-Ge : goal.returns-in-Ge
returns-in-Ge c =
    subst (λ o. IsTrue c.follows_from-in-Ge.result ↔ FollowsByLink (system c.args.closed.now) (comparison (element.Attr c.args.link.left) o (element.Attr c.args.link.right)) (difference_of c.args.bound)) (sym c.in-Ge.is)
    (by_ge (system c.args.closed.now) c.args.link.left c.args.link.right (difference_of c.args.bound) c.follows_from-in-Ge.result (subst (λ z. IsTrue c.follows_from-in-Ge.result ↔ FollowsFrom (system c.args.closed.now) (difference_of z) (difference_of c.args.bound)) c.turned_bound-in-Ge.ensures c.follows_from-in-Ge.ensures))
