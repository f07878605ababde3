use Rattle.std.proofs.Common.{arith}
use Rattle.exec_answer_table.proofs.Tiers.{length-items_of}
use Rattle.exec_answer_table.proofs.tiered.TieredVec.len.Goals as goal

pub returns : goal.returns
returns c =
    let l = length-items_of c.self.inside.numbers.items c.self.inside.heads.items in
    let n = c.self.inside.numbers.ok.0 in
    rw (← c.self.view_is) (omega (arith, c.len.ensures))
