-- What is written over feeds.
use Rattle.std.specs.Prelude.{Option, ◌≡◌, ℕ, List, [], ◌∷◌, ◌++◌, ⊤}
use Rattle.cmd_session.specs.Answer.{Answer}
use Rattle.cmd_session.specs.Answers.{IsAnswer}
use Rattle.cmd_session.specs.Lock.{Lock}
use Rattle.cmd_session.specs.State.{State, empty, next_of}
use Rattle.cmd_session.specs.Replies.{reply_to}
use Rattle.cmd_session.specs.Events.{Event, line, fault, fault_text}
use Rattle.cmd_feeds.specs.Gates.{under}
use Rattle.cmd_feeds.specs.Turns.{Feed, turns}

-- the lines among the events come to these answers, each in the state after those before it, under the lock of its feed; a fault leaves the state as
-- it is
abbrev pub AreEvents : List (Option Lock) → State → List Event → List Answer → Type 0
AreEvents gates s [] [] = ⊤
AreEvents gates s [] (answer ∷ others) = ⊥
AreEvents gates s (line number text ∷ events) [] = ⊥
AreEvents gates s (line number text ∷ events) (answer ∷ others) = IsAnswer (under gates number s) text answer × AreEvents gates (next_of (under gates number s) answer) events others
AreEvents gates s (fault number ∷ events) answers = AreEvents gates s events answers

-- what is written at the events: the reply to each line, and a line for each fault
abbrev pub event_replies : List (Option Lock) → State → List Event → List Answer → List ℕ
event_replies gates s [] answers = []
event_replies gates s (line number text ∷ events) [] = []
event_replies gates s (line number text ∷ events) (answer ∷ others) = reply_to (under gates number s) answer ++ event_replies gates (next_of (under gates number s) answer) events others
event_replies gates s (fault number ∷ events) answers = fault_text number ++ event_replies gates s events answers

-- the state behind the events
abbrev pub state_behind : List (Option Lock) → State → List Event → List Answer → State
state_behind gates s [] answers = s
state_behind gates s (line number text ∷ events) [] = s
state_behind gates s (line number text ∷ events) (answer ∷ others) = state_behind gates (next_of (under gates number s) answer) events others
state_behind gates s (fault number ∷ events) answers = state_behind gates s events answers

-- the lines among the events come to answers from a state on, and this is written
pub record AreEventReplies (gates : List (Option Lock)) (s : State) (events : List Event) (written : List ℕ) : Type 0 where
  pub answers : List Answer
  pub are : AreEvents gates s events answers
  pub replied : written ≡ event_replies gates s events answers

-- The text of a session over feeds: what is written at all their turns, from the empty state on. Feeds without a script have no locks.
abbrev pub IsFeedsText : ℕ → List Feed → List ℕ → Type 0
IsFeedsText limit feeds written = AreEventReplies [] (empty limit) (turns feeds) written
