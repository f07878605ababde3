use Rattle.sem_query.specs.declared.atom.Element.TheVariants as element
use Rattle.plan_constraints.proofs.Meaning.{meaning_if}
use Rattle.plan_constraints.proofs.NodeFacts.{within_if}
use Rattle.plan_constraints.proofs.nodes.constraints.Goals as goal

pub returns-in-Attr-clause-within : goal.returns-in-Attr-clause-within
returns-in-Attr-clause-within c =
    within_if c.args.q.now (element.Attr c.in-Attr.field-0) c.args.sign c.args.right _ (rw (c.attrs-attrs.ensures.value, c.in-Attr.is) at c.compared.ensures) c.attrs-attrs.ensures.limits
    (rw c.in-Attr.is at c.requires.left) c.requires.right (rw c.in-Attr.is at c.requires.one)

pub returns-in-Const-clause-within : goal.returns-in-Const-clause-within
returns-in-Const-clause-within c =
    within_if c.args.q.now (element.Const c.in-Const.field-0) c.args.sign c.args.right _ (rw (c.attrs-attrs.ensures.value, c.turn.ensures, c.in-Const.is) at c.compared-in-Const.ensures) c.attrs-attrs.ensures.limits
    (rw c.in-Const.is at c.requires.left) c.requires.right (rw c.in-Const.is at c.requires.one)

pub returns-in-Attr-clause-meaning : goal.returns-in-Attr-clause-meaning
returns-in-Attr-clause-meaning c =
    rw c.in-Attr.is (meaning_if c.args.q.now (element.Attr c.in-Attr.field-0) c.args.sign c.args.right _ (rw (c.attrs-attrs.ensures.value, c.in-Attr.is) at c.compared.ensures) (rw c.in-Attr.is at c.requires.left) c.requires.right)

pub returns-in-Const-clause-meaning : goal.returns-in-Const-clause-meaning
returns-in-Const-clause-meaning c =
    rw c.in-Const.is (meaning_if c.args.q.now (element.Const c.in-Const.field-0) c.args.sign c.args.right _ (rw (c.attrs-attrs.ensures.value, c.turn.ensures, c.in-Const.is) at c.compared-in-Const.ensures) (rw c.in-Const.is at c.requires.left) c.requires.right)
