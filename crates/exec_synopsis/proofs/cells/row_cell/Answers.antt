use Rattle.std.proofs.Common.{◌∙◌, sym, subst, ap, arith}
use Rattle.sem_query.specs.Boxes.{AreNumbered}
use Rattle.sem_query.specs.Plan.{dims_at}
use Rattle.sem_query.proofs.BoxLaws.{sound-full}
use Rattle.exec_synopsis.proofs.cells.row_cell.Goals as goal

pub row_place-requires-clause-sound : goal.row_place-requires-clause-sound
row_place-requires-clause-sound c =
    let out = c.requires.laid in
    subst AreNumbered (sym (c.as_slice.ensures.value ∙ ap (λ s. s.dims.items) c.stream_at-plan.ensures ∙ ap (dims_at c.args.part.now) c.from.ensures))
    (sound-full (dims_at c.args.part.now c.args.pos) out.full (omega (arith, out.size, out.few)))
