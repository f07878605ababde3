use Rattle.std.proofs.Common.{◌∙◌}
use Rattle.cert_maker.proofs.AtNode.{next_sides, node_deeper}
use Rattle.cert_maker.proofs.node.deeper.Goals as goal

pub of_sign-added-requires-clause-left : goal.of_sign-added-requires-clause-left
of_sign-added-requires-clause-left c = (next_sides _ _ _ _ _ c.requires.node c.requires.room _).0

pub of_sign-added-requires-clause-right : goal.of_sign-added-requires-clause-right
of_sign-added-requires-clause-right c = (next_sides _ _ _ _ _ c.requires.node c.requires.room _).1

pub returns : goal.returns
returns c =
    node_deeper _ _ _ _ _ c.requires.node c.requires.room _ _ _ _ c.requires.agree c.of_sign-added.ensures.value c.of_sign-added.ensures.within (c.add_all.ensures.attrs ∙ c.copy-next.ensures.attrs)
    (rw (c.copy-next.ensures.constraints, c.as_slice.ensures.value) at c.add_all.ensures.constraints)
