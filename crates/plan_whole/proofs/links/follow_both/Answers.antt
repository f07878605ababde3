use Rattle.std.proofs.Common.{◌↔◌, ◌++◌, IsTrue, map, subst}
use Rattle.sem_query.specs.declared.atom.Element.TheVariants as element
use Rattle.sem_whole.specs.System.{system}
use Rattle.sem_whole.specs.Links.{Follows}
use Rattle.plan_whole.specs.Columns.{atom_of}
use Rattle.plan_whole.proofs.Following.{and_then, and_else, eq_back, goes_eq}
use Rattle.plan_whole.proofs.links.follow_both.Goals as goal

pub returns-then-follows : goal.returns-then-follows
returns-then-follows c =
    and_then c.follows.result c.follows-then-follows.result
    (goes_eq (system c.args.closed.now) (map atom_of (c.args.kept.now ++ c.args.rest.now)) (element.Attr c.args.left) (element.Attr c.args.right) c.follows.result c.follows-then-follows.result c.follows.ensures
    (subst (λ z. IsTrue c.follows-then-follows.result ↔ Follows (system c.args.closed.now) (map atom_of (c.args.kept.now ++ c.args.rest.now)) (element.Attr z.left) (element.Attr z.right) z.by) c.turned_bound.ensures c.follows-then-follows.ensures))
    c.if-follows.true

pub returns-else-follows : goal.returns-else-follows
returns-else-follows c = and_else c.follows.result (eq_back (system c.args.closed.now) (map atom_of (c.args.kept.now ++ c.args.rest.now)) (element.Attr c.args.left) (element.Attr c.args.right)) c.follows.ensures c.if-follows.false
