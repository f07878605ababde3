use Rattle.std.proofs.Common.{◌≡◌, ℕ, ◌<◌, ◌≤◌, length, get_or}
use Rattle.plan_whole.specs.Extremes.{column_at}
use Rattle.plan_whole_form.specs.Conditions.{IsKnownColumn}
use Rattle.plan_whole_form.proofs.Conditioned.{no_column}
use Rattle.plan_whole_form.proofs.conditions.columns_at.Given as goal

abbrev pub invariant-loop-column : goal.invariant-loop-column
invariant-loop-column l = record {
  within : l.column ≤ 8;
  long : length l.columns ≡ 8;
  known : (c : ℕ) → c < l.column → IsKnownColumn l.closed (column_at l.place c) (get_or l.columns c no_column);
}
