use Rattle.std.proofs.Common.{rules, ◌≡◌, ◌∙◌, ap, arith, length, refl, ◌+◌, to_z, of_z, w64}
use Rattle.std.proofs.lemmas.Int.{to_z-of_z}
use Rattle.sem_laws.proofs.LaidOut.{length-upto}
use Rattle.fam_fooling_sets.proofs.Cells.{upto-next}
use Rattle.fam_fooling_sets.proofs.point.row_at.Goals as goal

pub push-requires : goal.push-requires
push-requires c =
    let e = ap length c.loop-column.invariant ∙ length-upto _ c.loop-column.column in
    (omega arith, omega (arith, e, c.loop-column-test.true, c.as_slice-blank.ensures.fits))

pub loop-column-preserved : goal.loop-column-preserved
loop-column-preserved c =
    let w : to_z w64 (of_z w64 c.cell_in.result) ≡ c.cell_in.result = to_z-of_z w64 c.cell_in.result (search rules) in
    c.push.ensures.items ∙ upto-next _ c.loop-column.row.items c.loop-column.column (c.loop-column.column + 1) _ c.loop-column.invariant (w ∙ c.cell_in.ensures) refl
