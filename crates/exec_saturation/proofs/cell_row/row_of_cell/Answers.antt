use Rattle.std.proofs.Common.{◌∙◌, sym, ap, subst, arith}
use Rattle.sem_query.specs.Boxes.{AreNumbered}
use Rattle.sem_query.specs.Plan.{dims_at}
use Rattle.sem_query.proofs.BoxLaws.{sound-full}
use Rattle.exec_saturation.proofs.cell_row.row_of_cell.Goals as goal

pub values_at-values-requires-clause-sound : goal.values_at-values-requires-clause-sound
values_at-values-requires-clause-sound c =
    let out = c.requires.laid in
    subst AreNumbered (sym (c.dims_at.ensures.value ∙ ap (dims_at c.args.part.now) c.from.ensures))
    (sound-full (dims_at c.args.part.now c.args.pos) out.full (omega (arith, out.size, out.few)))
