-- What live queries announce.
use Rattle.std.specs.Prelude.{ℕ, List}
use Rattle.std.specs.List.{sum_by}
use Rattle.sem_query.specs.declared.plan.Plan.{Plan}
use Rattle.sem_query.specs.declared.plan.Plan.TheVariants as plans
use Rattle.exec_registry.specs.Live.{LiveQuery, plan_cells}
use Rattle.cmd_session.specs.declared.announced.Announced.{Announced}

-- the answers that a plan announces: a filter says no number
abbrev pub answers_of : Plan → ℕ
answers_of plans.Filter = 0
answers_of (plans.Parts parts numbers) = numbers.answers

-- the sums over live queries
abbrev pub announced_by : List LiveQuery → Announced
announced_by queries = record {
  cells = sum_by (λ (q : LiveQuery). plan_cells q.plan) queries;
  answers = sum_by (λ (q : LiveQuery). answers_of q.plan) queries;
}
