-- What is true of each state that a session stands for.
use Rattle.std.specs.Prelude.{◌≡◌, ℕ, ◌≤◌, ◌^◌, List, length, All}
use Rattle.sem_query.specs.Query.{IsWithinLimits}
use Rattle.sem_query.specs.Domains.{RowsKeep}
use Rattle.sem_query.specs.Sharing.{sizes_in}
use Rattle.sem_forms.specs.Forms.{MeetsForm, IsFormPlanOf}
use Rattle.sql_catalog.specs.Streams.{Shape}
use Rattle.sql_parser.specs.Resolution.{HasNamed}
use Rattle.exec_registry.specs.Live.{LiveQuery, boxes_of, base_in}
use Rattle.exec_registry.specs.Registry as registry
use Rattle.cmd_session.specs.State.{State}
use Rattle.cmd_session.specs.Session as session
use Rattle.cmd_session.specs.Session.{SessionValue}

-- the query is within the limits and breaks no condition, its streams, columns and domains are those of the catalog, the plan is its own,
-- the rows since its base keep to the domains, the base has a cell for each place in its boxes, and no more rows were given than were taken
pub record IsSoundIn (streams : List Shape) (taken : ℕ) (q : LiveQuery) : Type 0 where
  pub limits : IsWithinLimits q.query
  pub met : MeetsForm q.query
  pub named : HasNamed streams q.query
  pub plan : IsFormPlanOf q.shared q.query q.plan
  pub rows : RowsKeep q.query q.history
  pub size : length q.base.cells ≡ sizes_in (boxes_of q)
  pub given : (base_in q).given ≤ taken

-- no more rows were taken than may be, which are at most 2^40, and each live query is such a one
pub record IsSoundState (s : State) : Type 0 where
  pub limit : s.limit ≤ 2 ^ 40
  pub within : s.taken ≤ s.limit
  pub queries : All (IsSoundIn s.streams s.taken) s.queries

-- each state that a session stands for is such a one
abbrev pub StatesAreSound : Type 0
StatesAreSound =
    (k : SessionValue) (s : State) → session.IsSound k → registry.IsSound k.registry.pool k.registry.live → session.StandsFor k s → IsSoundState s
