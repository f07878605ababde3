use Rattle.std.proofs.Common.{arith}
use Rattle.std.proofs.lemmas.Grind.{div_ceil_times}
use Rattle.exec_answer_table.proofs.Tiers.{length-items_of}
use Rattle.exec_answer_table.proofs.tiered.TieredVec.blocks.Goals as goal

pub returns-clause-enough : goal.returns-clause-enough
returns-clause-enough c =
    let l = length-items_of c.self.inside.numbers.items c.self.inside.heads.items in
    let n = c.self.inside.numbers.ok.0 in
    let times = div_ceil_times c.len.result 256 (omega arith) in
    rw (← c.self.view_is, c.div_ceil.ensures) (omega (arith, l, n, c.len.ensures, times.0))

pub returns-clause-most : goal.returns-clause-most
returns-clause-most c =
    let l = length-items_of c.self.inside.numbers.items c.self.inside.heads.items in
    let n = c.self.inside.numbers.ok.0 in
    let times = div_ceil_times c.len.result 256 (omega arith) in
    rw (← c.self.view_is, c.div_ceil.ensures) (omega (arith, l, n, c.len.ensures, times.1))

pub returns-clause-few : goal.returns-clause-few
returns-clause-few c =
    let l = length-items_of c.self.inside.numbers.items c.self.inside.heads.items in
    let n = c.self.inside.numbers.ok.0 in
    rw (← c.self.view_is) (omega (arith, l, n, c.len.ensures))
