use Rattle.std.proofs.Common.{map}
use Rattle.plan_whole.specs.Columns.{atom_of}
use Rattle.plan_whole_form.proofs.Breaks.{not_open, is_fixed, third_told}
use Rattle.plan_whole_form.proofs.breaking.breaks_third.Goals as goal

pub returns-then-not-is_open_side : goal.returns-then-not-is_open_side
returns-then-not-is_open_side c = not_open c.args.closed.now (map atom_of c.args.links.now) c.args.a c.is_open_side.result c.is_open_side.ensures c.if-not-is_open_side.true

pub returns-then-is_fixed : goal.returns-then-is_fixed
returns-then-is_fixed c = is_fixed c.args.closed.now (map atom_of c.args.links.now) c.args.a c.is_fixed.result c.is_fixed.ensures c.if-is_fixed.true

pub returns : goal.returns
returns c = third_told c.args.closed.now (map atom_of c.args.links.now) c.args.a c.is_open_side.result c.is_fixed.result c.may_not_be_extreme.result c.is_open_side.ensures c.if-not-is_open_side.false c.is_fixed.ensures c.if-is_fixed.false c.may_not_be_extreme.ensures
