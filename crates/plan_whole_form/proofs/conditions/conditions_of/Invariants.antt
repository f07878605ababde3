use Rattle.std.proofs.Common.{◌≤◌, length}
use Rattle.plan_whole_form.proofs.Streamed.{AreConditionsTo}
use Rattle.plan_whole_form.proofs.conditions.conditions_of.Given as goal

abbrev pub invariant-loop-place : goal.invariant-loop-place
invariant-loop-place l = record {
  within : l.place ≤ length l.closed.from;
  asked : AreConditionsTo l.closed l.place l.list.items;
}
