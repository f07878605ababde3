use Rattle.std.proofs.Common.{◌≤◌, length}
use Rattle.sem_query.specs.Query.{QueryValue}
use Rattle.plan_whole.specs.Extremes.{column_at}
use Rattle.plan_whole_form.specs.Conditions.{AreKnownColumns, IsTie}
use Rattle.plan_whole_form.specs.Listed.{AreListed}
use Rattle.plan_whole_form.proofs.conditions.ties.Given as goal

abbrev pub invariant-loop-column : goal.invariant-loop-column
invariant-loop-column l = record {
  within : l.column ≤ 8;
  few : length l.list.items ≤ l.column;
  listed : (q : QueryValue) → AreKnownColumns q l.place l.columns → AreListed (λ n o. IsTie q (column_at l.place n) o) l.column l.list.items;
}
