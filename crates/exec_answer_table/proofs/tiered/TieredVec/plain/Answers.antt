use Rattle.std.proofs.Common.{◌∙◌}
use Rattle.exec_answer_table.proofs.Tiers.{plain_items}
use Rattle.exec_answer_table.proofs.tiered.TieredVec.plain.Goals as goal

pub returns : goal.returns
returns c =
    rw (← c.self.view_is)
    (c.as_slice.ensures.value ∙ plain_items c.self.inside.numbers.items c.self.inside.heads.items (c.self.invariant.2 c.if-self.false))
