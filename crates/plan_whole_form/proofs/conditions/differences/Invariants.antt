use Rattle.std.proofs.Common.{◌≤◌, ◌/◌, ◌%◌}
use Rattle.plan_whole.specs.Extremes.{column_at}
use Rattle.plan_whole_form.specs.Conditions.{IsBetween}
use Rattle.plan_whole_form.specs.Listed.{AreListed}
use Rattle.plan_whole_form.proofs.conditions.differences.Given as goal

abbrev pub invariant-loop-i : goal.invariant-loop-i
invariant-loop-i l = record {
  within : l.i ≤ 64;
  listed : AreListed (λ n o. IsBetween l.closed (column_at l.place (n / 8)) (column_at l.place (n % 8)) o) l.i l.list.items;
}
