-- Rows that are only counted.
use Rattle.std.specs.Prelude.{◌≡◌, ℕ, ◌+◌, List, take, drop, IsTrue, Option}
use Rattle.io_streams.specs.Sink.{SinkState}
use Rattle.exec_registry.specs.Concerned.{SparesStream}
use Rattle.exec_registry.specs.Live.{Live}
use Rattle.io_row_reader.specs.Counted.{IsSomeRowAhead, IsSomeRowOf}
use Rattle.io_row_reader.specs.Open.{is_open}
use Rattle.sql_catalog.specs.Streams.{Shape}
use Rattle.cmd_session.specs.Lock.{open_in}
use Rattle.cmd_session.specs.declared.outcome.LineOutcome.TheVariants.{Done}
use Rattle.cmd_session.specs.Session.{Answered, SessionValue, StandsFor}
use Rattle.cmd_session.specs.State.{State}

-- the first line of a text has this length, and is a row of an open stream of which each live query refuses each row
pub record IsSparedRow (streams : List Shape) (opened : Option (List ℕ)) (live : List Live) (text : List ℕ) (len : ℕ) : Type 0 where
  pub stream : ℕ
  pub row : IsSomeRowOf streams text stream len
  pub opens : IsTrue (is_open opened stream)
  pub spared : SparesStream stream live

-- so many such rows stand one after another at the front of a text, the last from this place on, and end at that one
pub data AreSparedRows (streams : List Shape) (opened : Option (List ℕ)) (live : List Live) (text : List ℕ) : ℕ → ℕ → ℕ → Type 0 where
  none : {count begin end : ℕ} → count ≡ 0 → end ≡ 0 → AreSparedRows streams opened live text count begin end
  more : {count begin end : ℕ} → (before start len : ℕ) → AreSparedRows streams opened live text before start begin → IsSparedRow streams opened live (drop begin text) len → count ≡ before + 1 → end ≡ begin + len + 1
      → AreSparedRows streams opened live text count begin end

-- the session answers a line by nothing, for every state that it stands for, whatever was written
abbrev pub AnswersNothing : SessionValue → List ℕ → SessionValue → Type 0
AnswersNothing old line new = (s : State) → (seen : SinkState) → StandsFor old s → Answered Done s line new seen seen

-- So many rows of open streams stand one after another at the front of a text, the last from this place on, and end at that one. They were
-- answered one after another, each by nothing.
pub data AreCounted (text : List ℕ) (session : SessionValue) : ℕ → ℕ → ℕ → SessionValue → Type 0 where
  no_row : {count begin end : ℕ} {kept : SessionValue} → count ≡ 0 → end ≡ 0 → kept ≡ session → AreCounted text session count begin end kept
  row_more : {count begin end : ℕ} {kept : SessionValue} → (before start len : ℕ) → (left : SessionValue) → AreCounted text session before start begin left → IsSomeRowAhead left.streams (open_in left.lock) (drop begin text) len
      → AnswersNothing left (take len (drop begin text)) kept → count ≡ before + 1 → end ≡ begin + len + 1 → AreCounted text session count begin end kept
