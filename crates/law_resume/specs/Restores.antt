-- What the lines of a checkpoint lead to.
use Rattle.std.specs.Prelude.{◌≡◌, ℕ, ◌+◌, ◌≤◌, Bool, true, false, List, [], length, map, Some, None, IsTrue, IsFalse, All}
use Rattle.std.specs.List.{list_any, sum_by}
use Rattle.sql_text.specs.Lines.{is_line_feed}
use Rattle.sem_query.specs.Numbers.{pages_of}
use Rattle.sql_catalog.specs.Streams.{Shape, IsCatalog, all_differ}
use Rattle.sql_parser.specs.Resolution.{HasNamed}
use Rattle.exec_registry.specs.Live.{LiveQuery, newly, base_in, names}
use Rattle.exec_registry.specs.Sound.{IsSoundLive}
use Rattle.cmd_session.specs.Answer.{Answer, plain, registered, decided}
use Rattle.cmd_session.specs.Checkpoint.{stream_line, query_line, kept_lines, checkpoint_lines}
use Rattle.cmd_session.specs.Replies.{AreAnswers}
use Rattle.cmd_session.specs.Request.{silent, created, asked, explained, dropped, taken, saved, resumed, based, locked, unlocked, refused}
use Rattle.cmd_session.specs.Requests.{live_named}
use Rattle.cmd_session.specs.Restoring.{AreAlike}
use Rattle.cmd_session.specs.State.{State, initial, set_base, after}
use Rattle.law_resume.specs.Small.{HasShortLines}
use Rattle.law_resume.specs.Sound.{IsSoundState}
use Rattle.law_resume.specs.Continuing.{GoOnAlike}

-- no byte of the line is an LF
abbrev pub IsOneLine : List ℕ → Type 0
IsOneLine line = IsFalse (list_any is_line_feed line)

-- whether a line that comes to this is refused
abbrev pub is_refused : Answer → Bool
is_refused (plain silent) = false
is_refused (plain (created name columns)) = false
is_refused (plain (asked name query shared)) = false
is_refused (plain (explained name)) = false
is_refused (plain (dropped name)) = false
is_refused (plain (taken stream values)) = false
is_refused (plain saved) = false
is_refused (plain (resumed n)) = false
is_refused (plain (based name base)) = false
is_refused (plain (locked lock)) = false
is_refused (plain unlocked) = false
is_refused (plain (refused word)) = true
is_refused (registered name query shared plan) = false
is_refused (decided name query verdict) = true

-- lines, each without an LF, come to answers from one state on, none of which refuses its line, and lead to another
pub record LeadsTo (s : State) (lines : List (List ℕ)) (t : State) : Type 0 where
  pub answers : List Answer
  pub answered : AreAnswers s lines answers
  pub is : after s answers ≡ t
  pub whole : All IsOneLine lines
  pub taken : All (λ (answer : Answer). is_refused answer ≡ false) answers

-- the lines of the streams of a catalog lead from the first state to one with these streams and nothing else
abbrev pub StreamsAreRestored : Type 0
StreamsAreRestored =
    (limit pages : ℕ) (streams : List Shape) → IsCatalog streams
    → LeadsTo (initial limit pages) (map stream_line streams) (record (initial limit pages) { streams = streams; lines = length streams })

-- a live query without DISTINCT keeps no printed tuple
abbrev pub KeepsTuplesDistinct : LiveQuery → Type 0
KeepsTuplesDistinct q = q.query.distinct ≡ false → (base_in q).table ≡ []

-- From a state in which a live query was just created, no row was taken and no lock stands, the lines that tell what is kept of such a one lead to the
-- state in which it goes on from that.
abbrev pub KeptIsRestored : Type 0
KeptIsRestored =
    (s : State) (q : LiveQuery) → s.began ≡ false → s.lock ≡ None → live_named q.name s.queries ≡ Some (newly q.name q.query q.shared q.plan)
    → IsSoundLive q → HasShortLines s.streams q → (base_in q).given ≤ s.taken → KeepsTuplesDistinct q
    → LeadsTo s (kept_lines q) (record s { queries = set_base q.name (base_in q) s.queries; lines = s.lines + length (kept_lines q) })

-- what is true of each live query of a session: its streams and columns are there, with their domains; what is kept of it fits its plan; its
-- lines are short; no more rows were given to it than were taken; and it keeps printed tuples only with DISTINCT
pub record IsRestorable (streams : List Shape) (taken : ℕ) (q : LiveQuery) : Type 0 where
  pub named : HasNamed streams q.query
  pub sound : IsSoundLive q
  pub short : HasShortLines streams q
  pub given : (base_in q).given ≤ taken
  pub tuples : KeepsTuplesDistinct q

-- at most 64 live queries with different names, whose plans have at most so many pages
pub record FitTogether (most : ℕ) (queries : List LiveQuery) : Type 0 where
  pub few : length queries ≤ 64
  pub differ : IsTrue (all_differ (names queries))
  pub pages : sum_by (λ (q : LiveQuery). pages_of q.plan) queries ≤ most

-- a live query that was just created
abbrev pub anew : LiveQuery → LiveQuery
anew q = newly q.name q.query q.shared q.plan

-- From a state with no live query and no lock, the lines of live queries lead to one in which each was just created.
abbrev pub QueriesAreRestored : Type 0
QueriesAreRestored =
    (s : State) (taken : ℕ) (queries : List LiveQuery) → s.queries ≡ [] → s.lock ≡ None → IsCatalog s.streams → All (IsRestorable s.streams taken) queries → FitTogether s.pages queries
    → LeadsTo s (map (query_line s.streams) queries) (record s { queries = map anew queries; lines = s.lines + length queries })

-- From the first state with the same row limit and as many pages, the lines of its checkpoint lead to a state that is alike, and no row was taken.
pub record Restores (s : State) : Type 0 where
  pub state : State
  pub leads : LeadsTo (initial s.limit s.pages) (checkpoint_lines s) state
  pub alike : AreAlike state s
  pub quiet : state.began ≡ false

-- so it is with each sound state without a lock whose streams are those of a catalog
abbrev pub CheckpointRestores : Type 0
CheckpointRestores = (s : State) → s.lock ≡ None → IsSoundState s → IsCatalog s.streams → All (IsRestorable s.streams s.taken) s.queries → FitTogether s.pages s.queries → Restores s

-- and that state goes on as the one whose checkpoint was read, and that one as it does
abbrev pub CheckpointGoesOn : Type 0
CheckpointGoesOn =
    (s : State) → s.lock ≡ None → IsSoundState s → IsCatalog s.streams → All (IsRestorable s.streams s.taken) s.queries → FitTogether s.pages s.queries
    → (r : Restores s) × GoOnAlike s r.state × GoOnAlike r.state s
