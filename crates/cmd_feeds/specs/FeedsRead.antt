-- What was taken of the feeds of a call, and what was written over them.
use Rattle.std.specs.Prelude.{Option, ◌≡◌, ◌⊎◌, ℕ, ◌+◌, ◌-◌, ◌^◌, ◌<◌, ◌≤◌, ⊤, IfSome, IsTrue, List, [], ◌∷◌, ◌++◌, map, length, take}
use Rattle.std.specs.List.{flat_map, range_with_len}
use Rattle.std.specs.Io.KnownBytes.{Consumes, Appends}
use Rattle.io_streams.specs.Counts.{Rose}
use Rattle.io_streams.specs.Source.{SourceState}
use Rattle.io_streams.specs.Sink.{SinkState}
use Rattle.sql_text.specs.Lines.{lines}
use Rattle.io_line_reader.specs.Texts.{ended_part}
use Rattle.cmd_session.specs.Answer.{Answer}
use Rattle.cmd_session.specs.Answers.{IsAnswer}
use Rattle.cmd_session.specs.Request.{Request}
use Rattle.cmd_session.specs.Requests.{IsRequest}
use Rattle.cmd_session.specs.Session.{creates}
use Rattle.cmd_session.specs.Lock.{Lock}
use Rattle.cmd_session.specs.State.{State}
use Rattle.cmd_session.specs.Replies.{reply_to}
use Rattle.cmd_session.specs.Events.{Event, line, fault, fault_text, lines_of, IsClose}
use Rattle.cmd_feeds.specs.declared.stage.Stage.{Stage}
use Rattle.cmd_feeds.specs.declared.stage.Stage.TheVariants.{Open, Ended, Failed}
use Rattle.cmd_feeds.specs.Lanes.{is_failed}
use Rattle.cmd_feeds.specs.Turns.{Feed, round_of, turns}
use Rattle.cmd_feeds.specs.Gates.{under}
use Rattle.cmd_feeds.specs.FeedsText.{AreEvents, event_replies, state_behind, AreEventReplies}

-- A feed of a call: its source before and after the call, how far it is, the bytes that were taken from it, and its lines.
pub record TakenFeed : Type 0 where
  pub source : SourceState
  pub now : SourceState
  pub stage : Stage
  pub text : List ℕ
  pub lines : List (List ℕ)

-- its lines, and whether it ended by a fault
abbrev pub feed_of : TakenFeed → Feed
feed_of t = record { lines = t.lines; failed = is_failed t.stage }

-- the source was read to its end: these are all its bytes
abbrev pub IsAll : SourceState → List ℕ → Type 0
IsAll source text = IfSome source.left (λ bytes. bytes ≡ text)

-- The lines of a feed, by how far it is. Where its source is at its end they are the lines of all its bytes, and else those that have
-- ended. It has failed only where the count of its own source rose.
abbrev pub AreLinesOf : Stage → TakenFeed → Type 0
AreLinesOf Open t = (t.lines ≡ lines (ended_part t.text)) ⊎ (IsAll t.source t.text × (t.lines ≡ lines t.text))
AreLinesOf Ended t = IsAll t.source t.text × (length t.text < 2 ^ 64 - 1) × (t.lines ≡ lines t.text)
AreLinesOf Failed t = Rose t.source.faults t.now.faults × (t.lines ≡ lines (ended_part t.text))

-- These bytes were taken from the source, and these are the lines. The count of faults did not fall.
pub record IsTaken (t : TakenFeed) : Type 0 where
  pub taken : Consumes t.source.left t.now.left t.text
  pub are : AreLinesOf t.stage t
  pub later : t.source.faults ≤ t.now.faults

-- this holds of each feed, by its number
abbrev pub OfEach : (ℕ → TakenFeed → Type 0) → ℕ → List TakenFeed → Type 0
OfEach P number [] = ⊤
OfEach P number (t ∷ ts) = P number t × OfEach P (number + 1) ts

-- the feeds of a call, by their sources before and after it
pub record FeedsTaken (sources nows : List SourceState) : Type 0 where
  pub taken : List TakenFeed
  pub before : map (λ (t : TakenFeed). t.source) taken ≡ sources
  pub after : map (λ (t : TakenFeed). t.now) taken ≡ nows
  pub are : OfEach (λ number t. IsTaken t) 1 taken

abbrev pub feeds_of : {sources nows : List SourceState} → FeedsTaken sources nows → List Feed
feeds_of f = map feed_of f.taken

-- what belongs to these events was written, from a state on
pub record WroteEvents (gates : List (Option Lock)) (s : State) (events : List Event) (before now : SinkState) : Type 0 where
  pub text : List ℕ
  pub is_text : AreEventReplies gates s events text
  pub written : Appends before.written now.written text

-- One event of the turns, and what those before it came to. Of each feed that has not ended little was taken beyond its lines up to that
-- event, and it was not read behind that event.
pub record AtEvent {sources nows : List SourceState} (gates : List (Option Lock)) (s : State) (f : FeedsTaken sources nows) : Type 0 where
  pub told : List Event
  pub event : Event
  pub others : List Event
  pub whole : turns (feeds_of f) ≡ told ++ event ∷ others
  pub near : OfEach (λ number t. t.stage ≡ Open → IsClose t.text (lines_of number (told ++ event ∷ [])) t.now.last) 1 f.taken
  pub answers : List Answer
  pub are : AreEvents gates s told answers

-- the text of an event in a state: the reply to its line, or the line of its fault
abbrev pub IsEventText : List (Option Lock) → State → Event → List ℕ → Type 0
IsEventText gates s (line number text) reply = (answer : Answer) × IsAnswer (under gates number s) text answer × (reply ≡ reply_to (under gates number s) answer)
IsEventText gates s (fault number) reply = reply ≡ fault_text number

-- The texts of the events before one event were written, and a front of its text.
pub record StopsAtEvent {sources nows : List SourceState} (gates : List (Option Lock)) (s : State) (f : FeedsTaken sources nows) (before now : SinkState) : Type 0 where
  pub at_event : AtEvent gates s f
  pub front : List ℕ
  pub rest : List ℕ
  pub part : IsEventText gates (state_behind gates s at_event.told at_event.answers) at_event.event (front ++ rest)
  pub written : Appends before.written now.written (event_replies gates s at_event.told at_event.answers ++ front)

-- The texts of the events before one event were written, and nothing else. That event is a line that asks for a stream or a query, and no
-- word refuses it; no memory was found for it.
pub record StopsAtCreate {sources nows : List SourceState} (gates : List (Option Lock)) (s : State) (f : FeedsTaken sources nows) (before now : SinkState) : Type 0 where
  pub at_event : AtEvent gates s f
  pub number : ℕ
  pub text : List ℕ
  pub is_line : at_event.event ≡ line number text
  pub request : Request
  pub asks : IsRequest (under gates number (state_behind gates s at_event.told at_event.answers)) text request
  pub creates : IsTrue (creates request)
  pub written : Appends before.written now.written (event_replies gates s at_event.told at_event.answers)

-- the events before the turn of the feed of this place, from 0, in a round
abbrev pub told_in : ℕ → ℕ → List Feed → List Event
told_in round place feeds = flat_map (λ r. round_of r 1 feeds) (range_with_len 0 round) ++ round_of round 1 (take place feeds)

-- how many lines are among the events
abbrev pub line_count : List Event → ℕ
line_count [] = 0
line_count (line number text ∷ events) = line_count events + 1
line_count (fault number ∷ events) = line_count events
