-- What feeds for rows alone leave as it was.
use Rattle.std.specs.Prelude.{◌≡◌, ◌⊎◌, ⊤, ℕ, ◌+◌, ◌<◌, ◌≤◌, ◌^◌, List, [], ◌∷◌, map, length, IsTrue, Option}
use Rattle.std.specs.List.{All}
use Rattle.sem_query.specs.Meaning.{Arrival}
use Rattle.exec_registry.specs.Live.{free_pages}
use Rattle.io_row_reader.specs.Open.{is_open}
use Rattle.cmd_session.specs.Answer.{Answer}
use Rattle.cmd_session.specs.Lock.{Lock, open_in}
use Rattle.cmd_session.specs.State.{State, next_of}
use Rattle.cmd_session.specs.Replies.{reply_to}
use Rattle.cmd_session.specs.Events.{Event, line, fault}
use Rattle.law_lock.specs.Kept.{row_in, rows_in, NoneUnlocks, HaveRows}
use Rattle.law_lock.specs.Lets.{IsShortReply}
use Rattle.cmd_feeds.specs.Gates.{gate, gates_in, under}
use Rattle.cmd_feeds.specs.Turns.{Feed, turns}
use Rattle.cmd_feeds.specs.FeedsText.{AreEvents, state_behind}
use Rattle.cmd_feeds.specs.FeedsRead.{line_count}

-- each row that is taken is of a stream that is open for its feed
abbrev pub RowsAreLet : List (Option Lock) → List Event → List Answer → Type 0
RowsAreLet gates [] answers = ⊤
RowsAreLet gates (line number text ∷ events) [] = ⊤
RowsAreLet gates (line number text ∷ events) (answer ∷ others) = All (λ (r : Arrival). IsTrue (is_open (open_in (gate gates number)) r.stream)) (row_in answer) × RowsAreLet gates events others
RowsAreLet gates (fault number ∷ events) answers = RowsAreLet gates events answers

-- the lock that stands behind the events: that of the feed which gave the last line
abbrev pub lock_behind : List (Option Lock) → Option Lock → List Event → Option Lock
lock_behind gates lock [] = lock
lock_behind gates lock (line number text ∷ events) = lock_behind gates (gate gates number) events
lock_behind gates lock (fault number ∷ events) = lock_behind gates lock events

-- From one state to another nothing was changed but the numbers of lines and rows, the rows that were taken, at most one a line, and whose lock
-- stands.
pub record IsFed (gates : List (Option Lock)) (s t : State) (events : List Event) (answers : List Answer) : Type 0 where
  pub limit : t.limit ≡ s.limit
  pub streams : t.streams ≡ s.streams
  pub queries : HaveRows (rows_in answers) s.queries t.queries
  pub pages : free_pages t.pages t.queries ≡ free_pages s.pages s.queries
  pub size : t.pages ≡ s.pages
  pub taken : t.taken ≡ s.taken + length (rows_in answers)
  pub lines : t.lines ≡ s.lines + line_count events
  pub stands : t.lock ≡ lock_behind gates s.lock events
  pub none : NoneUnlocks answers
  pub opens : RowsAreLet gates events answers
  pub few : length (rows_in answers) ≤ line_count events

-- so it is over feeds behind a script, from the state on that the script led to
abbrev pub FeedsKeep : Type 0
FeedsKeep =
    (s : State) (words : List (List ℕ)) (events : List Event) (answers : List Answer) → (words ≡ [] → ⊥) → AreEvents (gates_in s words) s events answers
    → IsFed (gates_in s words) s (state_behind (gates_in s words) s events answers) events answers

-- at each place stands the same event, or two lines of one feed of which neither is taken as a row
abbrev pub AreEventsExchanged : List Event → List Event → List Answer → List Answer → Type 0
AreEventsExchanged [] [] [] [] = ⊤
AreEventsExchanged (line number text ∷ events) (line place other ∷ others) (x ∷ xs) (y ∷ ys) = (number ≡ place) × ((text ≡ other) ⊎ ((row_in x ≡ []) × (row_in y ≡ []))) × AreEventsExchanged events others xs ys
AreEventsExchanged (fault number ∷ events) (fault place ∷ others) xs ys = (number ≡ place) × AreEventsExchanged events others xs ys
AreEventsExchanged _ _ _ _ = ⊥

-- at each place with the same line stands the same reply
abbrev pub AreToldAlike : List (Option Lock) → State → State → List Event → List Event → List Answer → List Answer → Type 0
AreToldAlike gates s t [] [] [] [] = ⊤
AreToldAlike gates s t (line number text ∷ events) (line place other ∷ others) (x ∷ xs) (y ∷ ys) =
    (text ≡ other → reply_to (under gates number s) x ≡ reply_to (under gates place t) y) × AreToldAlike gates (next_of (under gates number s) x) (next_of (under gates place t) y) events others xs ys
AreToldAlike gates s t (fault number ∷ events) (fault place ∷ others) xs ys = AreToldAlike gates s t events others xs ys
AreToldAlike gates s t _ _ _ _ = ⊥

-- over feeds behind a script, lines that are exchanged so come to the same state, and are replied to alike
abbrev pub FeedLinesAreExchanged : Type 0
FeedLinesAreExchanged =
    (s : State) (words : List (List ℕ)) (events others : List Event) (xs ys : List Answer) → (words ≡ [] → ⊥) → AreEvents (gates_in s words) s events xs → AreEvents (gates_in s words) s others ys
    → AreEventsExchanged events others xs ys
    → (state_behind (gates_in s words) s events xs ≡ state_behind (gates_in s words) s others ys) × AreToldAlike (gates_in s words) s s events others xs ys

-- an event without what its line says
abbrev pub bare_event : Event → Event
bare_event (line number text) = line number []
bare_event (fault number) = fault number

-- feeds that have as many lines as others, and failed where these did
abbrev pub AreOfOneShape : List Feed → List Feed → Type 0
AreOfOneShape [] [] = ⊤
AreOfOneShape (feed ∷ feeds) (other ∷ others) = (length feed.lines ≡ length other.lines) × (feed.failed ≡ other.failed) × AreOfOneShape feeds others
AreOfOneShape _ _ = ⊥

-- they take their turns in one order, whatever their lines say
abbrev pub TurnsComeInOneOrder : Type 0
TurnsComeInOneOrder = (feeds others : List Feed) → AreOfOneShape feeds others → map bare_event (turns feeds) ≡ map bare_event (turns others)

-- each reply is empty, at most 41 bytes, or the answers to a row
abbrev pub AreShortReplies : List (Option Lock) → State → List Event → List Answer → Type 0
AreShortReplies gates s [] answers = ⊤
AreShortReplies gates s (line number text ∷ events) [] = ⊤
AreShortReplies gates s (line number text ∷ events) (answer ∷ others) = IsShortReply answer (reply_to (under gates number s) answer) × AreShortReplies gates (next_of (under gates number s) answer) events others
AreShortReplies gates s (fault number ∷ events) answers = AreShortReplies gates s events answers

-- so it is over feeds behind a script, as long as their lines can be counted
abbrev pub FeedRepliesAreShort : Type 0
FeedRepliesAreShort =
    (s : State) (words : List (List ℕ)) (events : List Event) (answers : List Answer) → (words ≡ [] → ⊥) → s.lines + line_count events + 1 < 2 ^ 64 → AreEvents (gates_in s words) s events answers
    → AreShortReplies (gates_in s words) s events answers
