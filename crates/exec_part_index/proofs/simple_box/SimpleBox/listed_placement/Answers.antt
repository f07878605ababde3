use Rattle.std.proofs.Common.{arith, subst}
use Rattle.exec_part_index.specs.SimpleBox.{axis_in, IsSimpleBox}
use Rattle.exec_part_index.proofs.SimpleBoxLaws.{outside_first, outside_second, place_fits, two_fit, in_lines}
use Rattle.exec_part_index.proofs.simple_box.SimpleBox.listed_placement.Goals as goal

pub offset_in-requires : goal.offset_in-requires
offset_in-requires c =
    let is = subst (IsSimpleBox c.args.part.now c.args.pos) c.in-TwoDim.is c.requires in
    is.axes.short 0 (axis_in c.in-TwoDim.double.first) (omega arith)

pub returns-in_default-offset_in : goal.returns-in_default-offset_in
returns-in_default-offset_in c =
    let is = subst (IsSimpleBox c.args.part.now c.args.pos) c.in-TwoDim.is c.requires in
    outside_first c.args.part.now c.args.pos c.in-TwoDim.double is c.args.row.now c.in_default-offset_in.ensures

pub offset_in-requires-in-TwoDim : goal.offset_in-requires-in-TwoDim
offset_in-requires-in-TwoDim c =
    let is = subst (IsSimpleBox c.args.part.now c.args.pos) c.in-TwoDim.is c.requires in
    is.axes.short 1 (axis_in c.in-TwoDim.double.second) (omega arith)

pub overflow_mul-result : goal.overflow_mul-result
overflow_mul-result c =
    let is = subst (IsSimpleBox c.args.part.now c.args.pos) c.in-TwoDim.is c.requires in
    let fits = place_fits c.args.part.now c.args.pos c.in-TwoDim.double is c.args.row.now c.in-Some.line c.in-Some.ensures.0 c.in-Some.ensures.1 c.in-Some-offset_in.offset c.in-Some-offset_in.ensures.0 c.in-Some-offset_in.ensures.1 in
    omega (arith, fits)

pub overflow_add-result : goal.overflow_add-result
overflow_add-result c =
    let is = subst (IsSimpleBox c.args.part.now c.args.pos) c.in-TwoDim.is c.requires in
    let fits = place_fits c.args.part.now c.args.pos c.in-TwoDim.double is c.args.row.now c.in-Some.line c.in-Some.ensures.0 c.in-Some.ensures.1 c.in-Some-offset_in.offset c.in-Some-offset_in.ensures.0 c.in-Some-offset_in.ensures.1 in
    omega (arith, fits)

pub overflow_add-result-in-Some-offset_in : goal.overflow_add-result-in-Some-offset_in
overflow_add-result-in-Some-offset_in c =
    let is = subst (IsSimpleBox c.args.part.now c.args.pos) c.in-TwoDim.is c.requires in
    let fits = two_fit c.args.part.now c.args.pos c.in-TwoDim.double is c.args.row.now c.in-Some.line c.in-Some.ensures.0 c.in-Some.ensures.1 c.in-Some-offset_in.offset c.in-Some-offset_in.ensures.0 c.in-Some-offset_in.ensures.1 in
    omega (arith, fits)

pub returns-in-Some-offset_in : goal.returns-in-Some-offset_in
returns-in-Some-offset_in c =
    let is = subst (IsSimpleBox c.args.part.now c.args.pos) c.in-TwoDim.is c.requires in
    in_lines c.args.part.now c.args.pos c.in-TwoDim.double is c.args.row.now c.in-Some.line c.in-Some.ensures.0 c.in-Some.ensures.1 c.in-Some-offset_in.offset c.in-Some-offset_in.ensures.0 c.in-Some-offset_in.ensures.1

pub returns-in-None : goal.returns-in-None
returns-in-None c =
    let is = subst (IsSimpleBox c.args.part.now c.args.pos) c.in-TwoDim.is c.requires in
    outside_second c.args.part.now c.args.pos c.in-TwoDim.double is c.args.row.now c.in-Some.line c.in-Some.ensures.0 c.in-Some.ensures.1 c.in-None.ensures
