use Rattle.std.proofs.Common.{subst}
use Rattle.sem_query.specs.Meaning.{by_column}
use Rattle.sem_query.specs.Admission.{admits}
use Rattle.exec_synopsis.specs.Axes.{IsPlacement}
use Rattle.exec_part_index.proofs.Shifting.{stands_of}
use Rattle.exec_part_index.proofs.part_index.Led.cell_after.Goals as goal

pub cell_behind-requires-clause-stands : goal.cell_behind-requires-clause-stands
cell_behind-requires-clause-stands c =
    let o = c.args.self.now in
    stands_of o.q.now o.parts.now o.pos o.row.now.items c.args.i c.args.part.now c.requires.inside c.requires.part (record { number = c.in-Cell.number; kind = c.in-Cell.kind })
    (subst (IsPlacement c.args.part.now o.pos o.row.now.items (admits o.q.now c.args.part.now o.pos (by_column o.row.now.items))) c.in-Cell.is c.requires.placement)
