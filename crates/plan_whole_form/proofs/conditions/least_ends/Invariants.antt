use Rattle.std.proofs.Common.{◌≤◌}
use Rattle.plan_whole.specs.Extremes.{column_at}
use Rattle.plan_whole_form.specs.Conditions.{IsLeastEnd}
use Rattle.plan_whole_form.specs.Listed.{AreListed}
use Rattle.plan_whole_form.proofs.conditions.least_ends.Given as goal

abbrev pub invariant-loop-column : goal.invariant-loop-column
invariant-loop-column l = record {
  within : l.column ≤ 8;
  listed : AreListed (λ n o. IsLeastEnd l.closed (column_at l.place n) o) l.column l.list.items;
}
