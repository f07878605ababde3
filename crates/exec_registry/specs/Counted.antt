-- What runs the live queries, and how many rows were given to each, also of those that did not concern it.
use Rattle.std.specs.Prelude.{ℕ, ◌+◌, ◌≤◌, ◌^◌, List, map}
use Rattle.exec_query.specs.Executor.{ExecutorValue, with_given}
use Rattle.exec_registry.specs.declared.queries.Runner.{Runner}

-- what runs a query, after so many rows beside those before
abbrev pub run_to : ℕ → Runner → ExecutorValue
run_to rows r = with_given r.executor (r.before + rows) r.executor.table.entries

-- so each of some
abbrev pub shown : ℕ → List Runner → List ExecutorValue
shown rows runners = map (run_to rows) runners

-- what runs a query counts no more rows than were given, and these are at most 2^40
pub record IsCounted (rows : ℕ) (r : Runner) : Type 0 where
  pub behind : r.executor.given ≤ r.before + rows
  pub few : r.before + rows ≤ 2 ^ 40
