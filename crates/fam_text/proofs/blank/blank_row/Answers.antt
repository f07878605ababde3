use Rattle.std.proofs.Common.{◌∙◌, ap, arith, length}
use Rattle.sem_laws.proofs.LaidOut.{length-upto}
use Rattle.fam_text.proofs.blank.blank_row.Goals as goal

pub push-requires : goal.push-requires
push-requires c =
    let e = ap length c.loop-column.invariant ∙ length-upto _ c.loop-column.column in
    (omega arith, omega (arith, e, c.loop-column-test.true, c.width-width.ensures.few))
