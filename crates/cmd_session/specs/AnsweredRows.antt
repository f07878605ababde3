-- Rows that are answered one after another before the source is read again.
use Rattle.std.specs.Prelude.{◌≡◌, ℕ, ◌+◌, List, take, drop}
use Rattle.io_streams.specs.Gathered.{gathered_seen}
use Rattle.io_streams.specs.Sink.{SinkState}
use Rattle.io_streams.specs.Source.{SourceState}
use Rattle.io_line_reader.specs.Reading.{Reading}
use Rattle.exec_pool.specs.Counted.{StepsValue}
use Rattle.io_row_reader.specs.Counted.{IsSomeRowAhead}
use Rattle.cmd_session.specs.declared.one_turn.Turn.{Turn}
use Rattle.cmd_session.specs.declared.outcome.LineOutcome.{LineOutcome}
use Rattle.cmd_session.specs.declared.outcome.LineOutcome.TheVariants.{Done}
use Rattle.cmd_session.specs.Session.{Answered, SessionValue, StandsFor, TakesCells}
use Rattle.cmd_session.specs.Lock.{open_in}
use Rattle.cmd_session.specs.State.{State}
use Rattle.cmd_session.specs.Turned.{AnsweredLine, Turned}

-- the session answers a line so, for every state that it stands for, by the sink, what is held, and the reference to the sink before and after
pub record AnswersText (how : LineOutcome) (old : SessionValue) (line : List ℕ) (new : SessionValue) (below after : SinkState) (held kept : List ℕ) : Type 0 where
  pub name : ℕ
  pub name' : ℕ
  pub answers : (s : State) → StandsFor old s → Answered how s line new (gathered_seen below name held) (gathered_seen after name' kept)

-- So many rows of open streams stand one after another at the front of a text, the last from this place on, and end at that one. They were answered one after
-- another: the last so, and each one before it done. Each took no more cells than a line may.
pub data AreAnswered (text : List ℕ) (session : SessionValue) (below : SinkState) (held : List ℕ) (steps : StepsValue) : LineOutcome → ℕ → ℕ → ℕ → SessionValue → SinkState → List ℕ → StepsValue → Type 0 where
  none : {how : LineOutcome} {count begin end : ℕ} {kept : SessionValue} {after : SinkState} {full : List ℕ} {now : StepsValue} → how ≡ Done → count ≡ 0 → end ≡ 0 → kept ≡ session → after ≡ below → full ≡ held → now ≡ steps
      → AreAnswered text session below held steps how count begin end kept after full now
  more : {how : LineOutcome} {count begin end : ℕ} {kept : SessionValue} {after : SinkState} {full : List ℕ} {now : StepsValue} → (before start len : ℕ) → (left : SessionValue) → (between : SinkState) → (part : List ℕ) → (spent : StepsValue)
      → AreAnswered text session below held steps Done before start begin left between part spent → IsSomeRowAhead left.streams (open_in left.lock) (drop begin text) len → AnswersText how left (take len (drop begin text)) kept between after part full
      → TakesCells left.registry.live spent now → count ≡ before + 1 → end ≡ begin + len + 1 → AreAnswered text session below held steps how count begin end kept after full now

-- Lines came one after another and were answered, the last so, and each one before it done. The source was not read. Each took no more cells than a line may.
pub data AnswersRows (old : Reading) (session : SessionValue) (source : SourceState) (below : SinkState) (held : List ℕ) (steps : StepsValue) : LineOutcome → Reading → SessionValue → SinkState → List ℕ → StepsValue → Type 0 where
  no_row : {how : LineOutcome} {new : Reading} {kept : SessionValue} {after : SinkState} {full : List ℕ} {now : StepsValue} → how ≡ Done → new ≡ old → kept ≡ session → after ≡ below → full ≡ held → now ≡ steps
      → AnswersRows old session source below held steps how new kept after full now
  row_more : {how : LineOutcome} {new : Reading} {kept : SessionValue} {after : SinkState} {full : List ℕ} {now : StepsValue} → (reader : Reading) → (left : SessionValue) → (between : SinkState) → (part : List ℕ) → (spent : StepsValue)
      → AnswersRows old session source below held steps Done reader left between part spent → ((s : State) → StandsFor left s → AnsweredLine how s reader new source source kept between after part full)
      → TakesCells left.registry.live spent now → AnswersRows old session source below held steps how new kept after full now

-- Rows were answered one after another, all of them done, and then a turn was taken.
pub record TurnedBehind (how : Turn) (old new : Reading) (source now : SourceState) (session session' : SessionValue) (below after : SinkState) (held kept : List ℕ) (steps now' : StepsValue) : Type 0 where
  pub reader : Reading
  pub left : SessionValue
  pub between : SinkState
  pub part : List ℕ
  pub spent : StepsValue
  pub rows : AnswersRows old session source below held steps Done reader left between part spent
  pub turned : (s : State) → StandsFor left s → Turned how s reader new source now left session' between after part kept
  pub takes : TakesCells left.registry.live spent now'
