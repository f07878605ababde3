use Rattle.std.proofs.Common.{arith, sym, subst}
use Rattle.exec_part_index.specs.SimpleBox.{axis_in, IsSimpleBox, IsInBox}
use Rattle.exec_part_index.proofs.SimpleBoxLaws.{only, outside, number_fits, in_line}
use Rattle.exec_part_index.proofs.simple_box.SimpleBox.placement.Goals as goal

pub returns-in-Cell : goal.returns-in-Cell
returns-in-Cell c =
    subst (IsInBox c.args.part.now c.args.pos c.args.row.now) (sym c.placement.ensures)
    (only c.args.part.now c.args.pos c.in-Cell.cell (subst (IsSimpleBox c.args.part.now c.args.pos) c.in-Cell.is c.requires) c.args.row.now)

pub offset_in-requires : goal.offset_in-requires
offset_in-requires c =
    let is = subst (IsSimpleBox c.args.part.now c.args.pos) c.in-OneDim.is c.requires in
    is.axes.short 0 (axis_in c.in-OneDim.single.range) (omega arith)

pub overflow_add-result : goal.overflow_add-result
overflow_add-result c =
    let is = subst (IsSimpleBox c.args.part.now c.args.pos) c.in-OneDim.is c.requires in
    let fits = number_fits c.args.part.now c.args.pos c.in-OneDim.single is c.args.row.now c.in-Some.offset c.in-Some.ensures.0 c.in-Some.ensures.1 in
    omega (arith, fits)

pub returns-in-Some : goal.returns-in-Some
returns-in-Some c =
    let is = subst (IsSimpleBox c.args.part.now c.args.pos) c.in-OneDim.is c.requires in
    in_line c.args.part.now c.args.pos c.in-OneDim.single is c.args.row.now c.in-Some.offset c.in-Some.ensures.0 c.in-Some.ensures.1

pub returns-in-None : goal.returns-in-None
returns-in-None c =
    let is = subst (IsSimpleBox c.args.part.now c.args.pos) c.in-OneDim.is c.requires in
    outside c.args.part.now c.args.pos c.in-OneDim.single is c.args.row.now c.in-None.ensures
