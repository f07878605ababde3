use Rattle.std.proofs.Common.{◌∙◌, refl, sym, ap₂}
use Rattle.sem_query.specs.Sharing.{same_dims}
use Rattle.exec_part_index.proofs.ShiftLaws.{shift-is}
use Rattle.exec_part_index.proofs.shift.shift_to.Goals as goal

pub returns-then-are_dims : goal.returns-then-are_dims
returns-then-are_dims c =
    shift-is c.args.part.now c.args.other.now c.args.listed.now c.args.place c.from-at.result c.base_at.result _ c.shift_of.result c.requires c.from-at.ensures
    (ap₂ same_dims (sym c.dims_at.ensures.value) (sym c.dims_at-2.ensures.value) ∙ sym c.are_dims.ensures ∙ c.if-are_dims.true)
    c.base_at.ensures refl c.shift_of.ensures
