-- The state of a session, and the state after a line.
use Rattle.std.specs.Prelude.{ℕ, ◌+◌, Bool, true, false, List, [], ◌∷◌, ◌++◌, map, nat_lt, if◌then◌else◌, Option, Some, None}
use Rattle.std.specs.Str.{bytes_eq}
use Rattle.sem_query.specs.Bases.{Base}
use Rattle.sql_catalog.specs.Streams.{Shape}
use Rattle.exec_registry.specs.Live.{LiveQuery, newly, with_row, without, names}
use Rattle.cmd_session.specs.Request.{Request, silent, created, asked, explained, dropped, taken, saved, resumed, based, locked, unlocked, refused}
use Rattle.cmd_session.specs.Lock.{Lock}
use Rattle.cmd_session.specs.Answer.{Answer, plain, registered, decided}

-- how many rows may be taken, how many pages all live queries may have together, the streams with their columns and the columns' domains,
-- the live queries in order of creation, how many rows were taken and lines read, whether a row line was taken, and the lock, where one stands
pub record State : Type 0 where
  pub limit : ℕ
  pub pages : ℕ
  pub streams : List Shape
  pub queries : List LiveQuery
  pub taken : ℕ
  pub lines : ℕ
  pub began : Bool
  pub lock : Option Lock

-- the live query goes on from another base, as one that has seen no row since
abbrev pub from_base : Base → LiveQuery → LiveQuery
from_base base live = record live { base = base; history = [] }

-- so does the first live query of this name
abbrev pub set_base : List ℕ → Base → List LiveQuery → List LiveQuery
set_base name base [] = []
set_base name base (q ∷ queries) = if bytes_eq q.name name then from_base base q ∷ queries else q ∷ set_base name base queries

-- the state before the first line, with so many pages
abbrev pub initial : ℕ → ℕ → State
initial limit pages = record { limit = limit; pages = pages; streams = []; queries = []; taken = 0; lines = 0; began = false; lock = None }

-- the same with as many pages as there are where none says otherwise
abbrev pub empty : ℕ → State
empty limit = initial limit 16384

-- the names of the live queries
abbrev pub live_names : State → List (List ℕ)
live_names s = names s.queries

-- whether one more row may be taken
abbrev pub has_room : State → Bool
has_room s = nat_lt s.taken s.limit

abbrev pub one_line_more : State → State
one_line_more s = record s { lines = s.lines + 1 }

-- the state after a line that asks for this, where no verdict is due
abbrev pub next_by : State → Request → State
next_by s silent = one_line_more s
next_by s (created name columns) = record s { streams = s.streams ++ record { name = name; columns = columns } ∷ []; lines = s.lines + 1 }
next_by s (asked name query shared) = one_line_more s
next_by s (explained name) = one_line_more s
next_by s (dropped name) = record s { queries = without name s.queries; lines = s.lines + 1 }
next_by s (taken stream values) = record s { queries = map (with_row (record { stream = stream; values = values })) s.queries; taken = s.taken + 1; lines = s.lines + 1; began = true }
next_by s saved = one_line_more s
next_by s (resumed n) = record s { taken = n; lines = s.lines + 1 }
next_by s (based name base) = record s { queries = set_base name base s.queries; lines = s.lines + 1 }
next_by s (locked lock) = record s { lock = Some lock; lines = s.lines + 1 }
next_by s unlocked = record s { lock = None; lines = s.lines + 1 }
next_by s (refused word) = one_line_more s

-- The state after a line that comes to this. A refused line, and a refused query, change nothing but the number of lines.
abbrev pub next_of : State → Answer → State
next_of s (plain request) = next_by s request
next_of s (registered name query shared plan) = record s { queries = s.queries ++ newly name query shared plan ∷ []; lines = s.lines + 1 }
next_of s (decided name query verdict) = one_line_more s

-- the state after lines that come to these, one after another
unfoldable pub after : State → List Answer → State
after s [] = s
after s (answer ∷ others) = after (next_of s answer) others
