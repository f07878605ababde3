use Rattle.std.proofs.Common.{take}
use Rattle.plan_whole_form.specs.Part.{AreRangesOf}
use Rattle.plan_whole_form.proofs.selected.selected_ranges.Given as goal

abbrev pub invariant-columns : goal.invariant-columns
invariant-columns l = AreRangesOf l.closed (take l.i l.columns.items) l.list.items
