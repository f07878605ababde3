-- What a session stands for, and what a line does to it.
use Rattle.std.specs.Prelude.{◌≡◌, ℕ, ◌+◌, ◌≤◌, ◌^◌, Bool, true, false, List, [], map, max, length, IsTrue, All, Option}
use Rattle.std.specs.declared.result.Result.{Result}
use Rattle.std.specs.declared.result.Result.TheVariants.{Ok, Err}
use Rattle.io_streams.specs.Sink.{SinkState, Wrote, BrokeOff}
use Rattle.sql_catalog.specs.Streams.{Shape}
use Rattle.sql_parser.specs.Resolution.{HasNamed}
use Rattle.sql_parser.specs.declared.line.LineKind.{LineKind}
use Rattle.sql_parser.specs.declared.line.LineKind.TheVariants as kinds
use Rattle.exec_pool.specs.Counted.{StepsValue}
use Rattle.exec_registry.specs.Live.{Live, LiveQuery, announced_reads, announced_writes, announced_cells}
use Rattle.cmd_session.specs.Checkpoint.{create_again}
use Rattle.exec_registry.specs.Registry.{RegistryValue, IsQuiet, GivenUpto, most_reads, most_writes, most_cells}
use Rattle.exec_registry.specs.Registry as registry
use Rattle.cmd_session.specs.declared.outcome.LineOutcome.{LineOutcome}
use Rattle.cmd_session.specs.declared.outcome.LineOutcome.TheVariants.{Done, WriteFault, Memory}
use Rattle.cmd_session.specs.Request.{Request, silent, created, asked, explained, dropped, taken, saved, resumed, based, locked, unlocked, refused}
use Rattle.cmd_session.specs.Lock.{Lock}
use Rattle.cmd_session.specs.Requests.{IsRequest, IsStatementRequest}
use Rattle.cmd_session.specs.Answer.{Answer}
use Rattle.cmd_session.specs.Answers.{Settles}
use Rattle.cmd_session.specs.State.{State, next_of, one_line_more}
use Rattle.cmd_session.specs.Replies.{reply_to}

-- what a session keeps: no row
pub record SessionValue : Type 0 where
  pub limit : ℕ
  pub streams : List Shape
  pub registry : RegistryValue
  pub taken : ℕ
  pub lines : ℕ
  pub began : Bool
  pub lock : Option Lock

-- what holds of all that a session keeps: no more rows were taken than may be, no live query was given more, the streams and columns
-- that the live queries name are there, and have the domains that the queries have, and each live query can be created again by a line
pub record IsSound (k : SessionValue) : Type 0 where
  pub within : k.taken ≤ k.limit
  pub limit : k.limit ≤ 2 ^ 40
  pub given : GivenUpto k.taken k.registry
  pub named : All (λ (l : Live). HasNamed k.streams l.executor.query) k.registry.live
  pub short : All (λ (l : Live). length (create_again k.streams l.name l.executor.query l.executor.shared) ≤ 1024) k.registry.live

-- the names of the live queries
abbrev pub names_in : RegistryValue → List (List ℕ)
names_in r = map (λ (l : Live). l.name) r.live

-- The session stands for a state: row limit, streams, numbers, lock and pages agree, its registry stands for the live queries, and no answer
-- waits. The bases and histories are in the state alone.
pub record StandsFor (k : SessionValue) (s : State) : Type 0 where
  pub limit : k.limit ≡ s.limit
  pub streams : k.streams ≡ s.streams
  pub queries : registry.StandsFor k.registry s.queries
  pub quiet : IsQuiet k.registry
  pub taken : k.taken ≡ s.taken
  pub lines : k.lines ≡ s.lines
  pub began : k.began ≡ s.began
  pub lock : k.lock ≡ s.lock
  pub pages : k.registry.pool.pages ≡ s.pages

-- the most cells that a line of a kind reads over what is kept: a row line those of a row, a statement those that plans announce
abbrev pub line_reads : LineKind → List Live → ℕ
line_reads kinds.Nothing live = 0
line_reads kinds.RowLine live = most_reads live
line_reads kinds.StatementLine live = most_cells live

-- and the most that it writes
abbrev pub line_writes : LineKind → List Live → ℕ
line_writes kinds.Nothing live = 0
line_writes kinds.RowLine live = most_writes live
line_writes kinds.StatementLine live = most_cells live

-- the same over live queries
abbrev pub announced_line_reads : LineKind → List LiveQuery → ℕ
announced_line_reads kinds.Nothing queries = 0
announced_line_reads kinds.RowLine queries = announced_reads queries
announced_line_reads kinds.StatementLine queries = announced_cells queries

abbrev pub announced_line_writes : LineKind → List LiveQuery → ℕ
announced_line_writes kinds.Nothing queries = 0
announced_line_writes kinds.RowLine queries = announced_writes queries
announced_line_writes kinds.StatementLine queries = announced_cells queries

-- the most cells that a line reads over what is kept, whatever its kind is, and the most that it writes
abbrev pub most_line_reads : List Live → ℕ
most_line_reads live = max (most_reads live) (most_cells live)

abbrev pub most_line_writes : List Live → ℕ
most_line_writes live = max (most_writes live) (most_cells live)

-- a line took no more cells than that, whatever its kind is
abbrev pub TakesCells : List Live → StepsValue → StepsValue → Type 0
TakesCells live old new = (new.reads ≤ old.reads + most_line_reads live) × (new.writes ≤ old.writes + most_line_writes live)

-- the same over live queries
abbrev pub most_announced_reads : List LiveQuery → ℕ
most_announced_reads queries = max (announced_reads queries) (announced_cells queries)

abbrev pub most_announced_writes : List LiveQuery → ℕ
most_announced_writes queries = max (announced_writes queries) (announced_cells queries)

-- how a line went whose reply was written so
abbrev pub outcome_of : {T E : Type 0} → Result T E → LineOutcome
outcome_of (Ok x) = Done
outcome_of (Err e) = WriteFault

-- the line asks for a stream or a query: no word refuses it
abbrev pub creates : Request → Bool
creates (created name columns) = true
creates (asked name query shared) = true
creates silent = false
creates (explained name) = false
creates (dropped name) = false
creates (taken stream values) = false
creates saved = false
creates (resumed n) = false
creates (based name base) = false
creates (locked lock) = false
creates unlocked = false
creates (refused word) = false

-- the request comes to an answer, the session stands for the next state, and P holds of the reply
pub record Gives (s : State) (request : Request) (new : SessionValue) (P : List ℕ → Type 0) : Type 0 where
  pub answer : Answer
  pub settles : Settles s request answer
  pub stands : StandsFor new (next_of s answer)
  pub reply : P (reply_to s answer)

-- What a line does that asks for this, by its outcome. Done: its reply was written, and the state is the next one. WriteFault: the
-- reply broke off, and the state is the next one. Memory: nothing was written, the state has one line more, and the line creates
-- something.
abbrev pub Does : LineOutcome → State → Request → SessionValue → SinkState → SinkState → Type 0
Does Done s request new before after = Gives s request new (Wrote before after)
Does WriteFault s request new before after = Gives s request new (BrokeOff before after)
Does Memory s request new before after = IsTrue (creates request) × StandsFor new (one_line_more s) × Wrote before after []

-- What a line does: it asks for something, and does what such a line does.
pub record Answered (outcome : LineOutcome) (s : State) (line : List ℕ) (new : SessionValue) (before after : SinkState) : Type 0 where
  pub request : Request
  pub asks : IsRequest s line request
  pub does : Does outcome s request new before after

-- What a line does whose text is read as a statement.
pub record StatementDoes (outcome : LineOutcome) (s : State) (text : List ℕ) (new : SessionValue) (before after : SinkState) : Type 0 where
  pub request : Request
  pub asks : IsStatementRequest s text request
  pub does : Does outcome s request new before after
