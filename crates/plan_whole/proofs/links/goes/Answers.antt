use Rattle.std.proofs.Common.{◌↔◌, ◌++◌, IsTrue, map, sym, subst}
use Rattle.sem_query.specs.declared.atom.Element.TheVariants as element
use Rattle.sem_whole.specs.System.{system}
use Rattle.sem_whole.specs.Links.{comparison, Follows, Goes}
use Rattle.plan_whole.specs.Columns.{atom_of}
use Rattle.plan_whole.proofs.Following.{goes_lt, goes_le, goes_gt, goes_ge}
use Rattle.plan_whole.proofs.links.goes.Goals as goal

pub returns-in-Lt : goal.returns-in-Lt
returns-in-Lt c =
    subst (λ o. IsTrue c.follows.result ↔ Goes (system c.args.closed.now) (map atom_of (c.args.kept.now ++ c.args.rest.now)) (comparison (element.Attr c.args.link.left) o (element.Attr c.args.link.right))) (sym c.in-Lt.is)
    (goes_lt (system c.args.closed.now) (map atom_of (c.args.kept.now ++ c.args.rest.now)) (element.Attr c.args.link.left) (element.Attr c.args.link.right) c.follows.result c.follows.ensures)

pub returns-in-Le : goal.returns-in-Le
returns-in-Le c =
    subst (λ o. IsTrue c.follows-in-Le.result ↔ Goes (system c.args.closed.now) (map atom_of (c.args.kept.now ++ c.args.rest.now)) (comparison (element.Attr c.args.link.left) o (element.Attr c.args.link.right))) (sym c.in-Le.is)
    (goes_le (system c.args.closed.now) (map atom_of (c.args.kept.now ++ c.args.rest.now)) (element.Attr c.args.link.left) (element.Attr c.args.link.right) c.follows-in-Le.result c.follows-in-Le.ensures)

pub returns-in-Gt : goal.returns-in-Gt
returns-in-Gt c =
    subst (λ o. IsTrue c.follows-in-Gt.result ↔ Goes (system c.args.closed.now) (map atom_of (c.args.kept.now ++ c.args.rest.now)) (comparison (element.Attr c.args.link.left) o (element.Attr c.args.link.right))) (sym c.in-Gt.is)
    (goes_gt (system c.args.closed.now) (map atom_of (c.args.kept.now ++ c.args.rest.now)) (element.Attr c.args.link.left) (element.Attr c.args.link.right) c.follows-in-Gt.result (subst (λ z. IsTrue c.follows-in-Gt.result ↔ Follows (system c.args.closed.now) (map atom_of (c.args.kept.now ++ c.args.rest.now)) (element.Attr z.left) (element.Attr z.right) z.by) c.turned_bound.ensures c.follows-in-Gt.ensures))

pub returns-in-Ge : goal.returns-in-Ge
returns-in-Ge c =
    subst (λ o. IsTrue c.follows-in-Ge.result ↔ Goes (system c.args.closed.now) (map atom_of (c.args.kept.now ++ c.args.rest.now)) (comparison (element.Attr c.args.link.left) o (element.Attr c.args.link.right))) (sym c.in-Ge.is)
    (goes_ge (system c.args.closed.now) (map atom_of (c.args.kept.now ++ c.args.rest.now)) (element.Attr c.args.link.left) (element.Attr c.args.link.right) c.follows-in-Ge.result (subst (λ z. IsTrue c.follows-in-Ge.result ↔ Follows (system c.args.closed.now) (map atom_of (c.args.kept.now ++ c.args.rest.now)) (element.Attr z.left) (element.Attr z.right) z.by) c.turned_bound-in-Ge.ensures c.follows-in-Ge.ensures))

pub returns-in-Eq : goal.returns-in-Eq
returns-in-Eq c =
    subst (λ o. IsTrue c.follow_both.result ↔ Goes (system c.args.closed.now) (map atom_of (c.args.kept.now ++ c.args.rest.now)) (comparison (element.Attr c.args.link.left) o (element.Attr c.args.link.right))) (sym c.in-Eq.is)
    c.follow_both.ensures

pub returns-in-Ne : goal.returns-in-Ne
returns-in-Ne c =
    subst (λ o. IsTrue c.follows_one.result ↔ Goes (system c.args.closed.now) (map atom_of (c.args.kept.now ++ c.args.rest.now)) (comparison (element.Attr c.args.link.left) o (element.Attr c.args.link.right))) (sym c.in-Ne.is)
    c.follows_one.ensures
