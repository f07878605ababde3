use Rattle.std.proofs.Common.{map}
use Rattle.plan_whole.specs.Columns.{atom_of}
use Rattle.plan_whole_form.proofs.Breaks.{first_break_is}
use Rattle.plan_whole_form.proofs.breaking.first_break.Goals as goal

pub returns : goal.returns
returns c = first_break_is c.args.closed.now (map atom_of c.args.links.now) c.first_selected-first.result c.first_fixed-second.result c.first_other-third.result c.first_of_three.result c.first_selected-first.ensures c.first_fixed-second.ensures c.first_other-third.ensures c.first_of_three.ensures
