-- Live queries: as they are kept, and with their plans and histories.
use Rattle.std.specs.Prelude.{ℕ, ℤ, Bool, ◌+◌, ◌-◌, ◌*◌, List, [], ◌∷◌, ◌++◌, map, length, if◌then◌else◌}
use Rattle.std.specs.List.{sum_by}
use Rattle.std.specs.Str.{bytes_eq}
use Rattle.sem_query.specs.declared.plan.Plan.{Plan}
use Rattle.sem_query.specs.declared.plan.Plan.TheVariants as plans
use Rattle.sem_query.specs.Query.{QueryValue}
use Rattle.sem_query.specs.Meaning.{Arrival}
use Rattle.sem_query.specs.Numbers.{parts_of, pages_of, work}
use Rattle.sem_query.specs.Sharing.{Box, kept_boxes}
use Rattle.sem_query.specs.Bases.{Base, first_base, kept}
use Rattle.exec_query.specs.Executor.{ExecutorValue}
use Rattle.exec_query.specs.Bases.{answers_by}

-- a live query as it is kept: its name, and what runs it
pub record Live : Type 0 where
  pub name : List ℕ
  pub executor : ExecutorValue

-- what runs a live query, under its name
abbrev pub named : List ℕ → ExecutorValue → Live
named name executor = record { name = name; executor = executor }

-- names and what runs the queries, side by side
abbrev pub live_of : List (List ℕ) → List ExecutorValue → List Live
live_of [] executors = []
live_of (name ∷ names) [] = []
live_of (name ∷ names) (executor ∷ executors) = named name executor ∷ live_of names executors

-- a live query, whether its cells are shared, the plan that it was given, the base that it goes on from, and all rows since it was created
pub record LiveQuery : Type 0 where
  pub name : List ℕ
  pub query : QueryValue
  pub shared : Bool
  pub plan : Plan
  pub base : Base
  pub history : List Arrival

-- the boxes whose cells are kept of a query with this plan
abbrev pub boxes_for : QueryValue → Bool → Plan → List Box
boxes_for query shared plan = kept_boxes shared query (parts_of plan)

-- a query that was just created: it goes on from nothing, and has seen no row
abbrev pub newly : List ℕ → QueryValue → Bool → Plan → LiveQuery
newly name query shared plan =
    record { name = name; query = query; shared = shared; plan = plan; base = first_base (boxes_for query shared plan); history = [] }

-- the boxes whose cells are kept of a live query
abbrev pub boxes_of : LiveQuery → List Box
boxes_of live = boxes_for live.query live.shared live.plan

-- what is kept of a live query: what its base and the rows since come to
abbrev pub base_in : LiveQuery → Base
base_in live = kept live.query (parts_of live.plan) (boxes_of live) live.base live.history

-- what a live query answers to a row
abbrev pub answers_of : Arrival → LiveQuery → List (List ℤ)
answers_of r live = answers_by live.query (parts_of live.plan) (boxes_of live) live.base live.history r

-- the live query goes on from another base
abbrev pub with_base : Base → LiveQuery → LiveQuery
with_base base live = record live { base = base }

-- a row is added to the history
abbrev pub with_row : Arrival → LiveQuery → LiveQuery
with_row r live = record live { history = live.history ++ r ∷ [] }

-- the names of live queries
abbrev pub names : List LiveQuery → List (List ℕ)
names queries = map (λ (q : LiveQuery). q.name) queries

-- of so many pages, those that are free beside those of the live queries
abbrev pub free_pages : ℕ → List LiveQuery → ℕ
free_pages pages queries = pages - sum_by (λ (q : LiveQuery). pages_of q.plan) queries

-- the most cells that a row reads by a plan: three times its work, and its own cell in each part
abbrev pub plan_reads : Plan → ℕ
plan_reads plan = 3 * work (parts_of plan) + length (parts_of plan)

-- the most cells that it writes: its own cell in each part
abbrev pub plan_writes : Plan → ℕ
plan_writes plan = length (parts_of plan)

-- the cells that a plan announces: a filter has none
abbrev pub plan_cells : Plan → ℕ
plan_cells plans.Filter = 0
plan_cells (plans.Parts parts numbers) = numbers.cells

-- the cells that the plans of live queries announce
abbrev pub announced_cells : List LiveQuery → ℕ
announced_cells queries = sum_by (λ (q : LiveQuery). plan_cells q.plan) queries

-- the most cells that a row reads over live queries, and the most that it writes
abbrev pub announced_reads : List LiveQuery → ℕ
announced_reads queries = sum_by (λ (q : LiveQuery). plan_reads q.plan) queries

abbrev pub announced_writes : List LiveQuery → ℕ
announced_writes queries = sum_by (λ (q : LiveQuery). plan_writes q.plan) queries

-- the live queries without the first of this name
abbrev pub without : List ℕ → List LiveQuery → List LiveQuery
without name [] = []
without name (q ∷ queries) = if bytes_eq q.name name then queries else q ∷ without name queries
