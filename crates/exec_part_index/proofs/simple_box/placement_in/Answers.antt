use Rattle.std.proofs.Common.{◌∙◌, sym}
use Rattle.exec_synopsis.specs.declared.axes.Placement.TheVariants.{Outside, Inside}
use Rattle.exec_part_index.proofs.SimpleBoxLaws.{in_one_range}
use Rattle.exec_part_index.proofs.simple_box.placement_in.Goals as goal

pub returns-then-is_in_range : goal.returns-then-is_in_range
returns-then-is_in_range c =
    in_one_range c.args.part.now c.args.pos c.args.dim c.requires c.args.row.now Inside (sym c.if-is_in_range.true ∙ c.is_in_range.ensures) tt

pub returns-else-is_in_range : goal.returns-else-is_in_range
returns-else-is_in_range c =
    in_one_range c.args.part.now c.args.pos c.args.dim c.requires c.args.row.now Outside (sym c.if-is_in_range.false ∙ c.is_in_range.ensures) tt
