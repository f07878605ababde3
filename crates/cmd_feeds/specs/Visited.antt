-- What the turn of a feed at a place does.
use Rattle.std.specs.Prelude.{◌≡◌, ℕ, ◌+◌, ◌-◌, ◌^◌, Bool, true, false, List, nat_lt}
use Rattle.std.specs.List.{slice_index_or, slice_set, list_any}
use Rattle.std.specs.declared.option.Option.{Option}
use Rattle.std.specs.declared.option.Option.TheVariants.{None, Some}
use Rattle.io_streams.specs.Source.{SourceState}
use Rattle.io_streams.specs.Sink.{SinkState, Wrote}
use Rattle.io_streams.specs.Gathered.{StaysHeld}
use Rattle.io_streams.specs.declared.status.Status.{Status}
use Rattle.io_streams.specs.declared.status.Status.TheVariants as status
use Rattle.io_line_reader.specs.Reading.{fresh}
use Rattle.cmd_session.specs.State.{State}
use Rattle.cmd_session.specs.Session.{SessionValue}
use Rattle.cmd_session.specs.declared.one_turn.Turn.{Turn}
use Rattle.cmd_session.specs.declared.one_turn.Turn.TheVariants as turns
use Rattle.cmd_feeds.specs.declared.stage.Stage.TheVariants.{Open}
use Rattle.cmd_feeds.specs.declared.stage.Lane.{Lane}
use Rattle.cmd_feeds.specs.Lanes.{is_open, is_failed, LaneTurned}

-- a lane of which nothing was taken, and a source of which nothing is told
abbrev pub new_lane : Lane
new_lane = record { reader = fresh; stage = Open }

abbrev pub no_source : SourceState
no_source = record { left = None; faults = 0; last = 0 }

-- the element of a place, from 0, or another where there is none
abbrev pub slot : {X : Type 0} → List X → ℕ → X → X
slot xs place other = slice_index_or xs place other

-- the status to which a turn leads; none where the session goes on
abbrev pub status_after : Turn → Option Status
status_after turns.Answered = None
status_after turns.Ended = None
status_after turns.Failed = None
status_after turns.Full = Some status.ByteLimit
status_after turns.Stopped = Some status.WriteFault
status_after turns.Memory = Some status.Memory

-- how many lines were given after a turn
abbrev pub lines_after : Turn → ℕ → ℕ
lines_after turns.Answered lines = lines + 1
lines_after turns.Ended lines = lines
lines_after turns.Failed lines = lines
lines_after turns.Full lines = lines
lines_after turns.Stopped lines = lines
lines_after turns.Memory lines = lines

-- The feed of this place took a turn, and the others stayed as they were.
pub record FeedTurned (turn : Turn) (more : Bool) (s : State) (place : ℕ) (lanes lanes' : List Lane) (nows nows' : List SourceState) (session session' : SessionValue) (below after : SinkState) (held kept : List ℕ) : Type 0 where
  pub lane : Lane
  pub source : SourceState
  pub lanes_set : lanes' ≡ slice_set lanes place lane
  pub sources_set : nows' ≡ slice_set nows place source
  pub turned : LaneTurned turn more s (place + 1) (slot lanes place new_lane) lane (slot nows place no_source) source session session' below after held kept

-- What a visit to the feed of a place does. It has ended, and nothing is changed; or it took its turn, in which a line was taken only where fewer
-- were given than a session over feeds takes.
pub data Visited (result : Option Status) (s : State) (place : ℕ) (lanes lanes' : List Lane) (nows nows' : List SourceState) (session session' : SessionValue) (below after : SinkState) (held kept : List ℕ) (lines lines' : ℕ) : Type 0 where
  skipped : result ≡ None → is_open (slot lanes place new_lane).stage ≡ false → lanes' ≡ lanes → nows' ≡ nows → session' ≡ session → after ≡ below → kept ≡ held → lines' ≡ lines
      → Visited result s place lanes lanes' nows nows' session session' below after held kept lines lines'
  turned : (turn : Turn) → result ≡ status_after turn → is_open (slot lanes place new_lane).stage ≡ true → FeedTurned turn (nat_lt lines (2 ^ 64 - 2)) s place lanes lanes' nows nows' session session' below after held kept → lines' ≡ lines_after turn lines
      → Visited result s place lanes lanes' nows nows' session session' below after held kept lines lines'

-- How a session ends whose feeds have ended: what was held was written, and then it tells whether a feed failed; or the sink failed.
pub data Finished (result : Status) (lanes : List Lane) (below after : SinkState) (held kept : List ℕ) : Type 0 where
  well : result ≡ status.Done → list_any (λ (lane : Lane). is_failed lane.stage) lanes ≡ false → Wrote below after held → Finished result lanes below after held kept
  faulty : result ≡ status.ReadFault → list_any (λ (lane : Lane). is_failed lane.stage) lanes ≡ true → Wrote below after held → Finished result lanes below after held kept
  unwritten : result ≡ status.WriteFault → StaysHeld below after held kept → Finished result lanes below after held kept
