use Rattle.plan_forms.proofs.Fitted.{cells_room}
use Rattle.plan_forms.proofs.fitting.plan_of.Goals as goal

pub placed-requires-clause-cells : goal.placed-requires-clause-cells
placed-requires-clause-cells c = cells_room c.args.made.streams.items c.as_slice.result.now c.args.made.numbers c.as_slice.ensures.value c.requires.cells c.requires.few
