-- Events with what each comes to, one after another from a state on, each line under the lock of its feed.
use Rattle.std.proofs.Common.{◌≡◌, ℕ, List, [], ◌∷◌, ◌++◌, refl, sym, ap, ◌∙◌, append_assoc, append-nil}
use Rattle.std.specs.Prelude.{⊤}
use Rattle.std.specs.declared.option.Option.{Option}
use Rattle.cmd_session.specs.Lock.{Lock}
use Rattle.cmd_session.specs.State.{State, next_of}
use Rattle.cmd_session.specs.Answers.{IsAnswer}
use Rattle.cmd_session.specs.Replies.{reply_to}
use Rattle.cmd_session.specs.Events.{fault_text}
use Rattle.cmd_session.proofs.ToldEvents.{Told, line, fault, events_of, answers_of}
use Rattle.cmd_feeds.specs.Gates.{under}
use Rattle.cmd_feeds.specs.FeedsText.{AreEvents, event_replies, state_behind}

-- the state after an event
abbrev pub next : List (Option Lock) → State → Told → State
next gates s (line number text answer) = next_of (under gates number s) answer
next gates s (fault number) = s

-- what is written at an event
abbrev pub reply : List (Option Lock) → State → Told → List ℕ
reply gates s (line number text answer) = reply_to (under gates number s) answer
reply gates s (fault number) = fault_text number

-- the event comes to this
abbrev pub IsTold : List (Option Lock) → State → Told → Type 0
IsTold gates s (line number text answer) = IsAnswer (under gates number s) text answer
IsTold gates s (fault number) = ⊤

-- the state after the events
unfoldable pub at : List (Option Lock) → State → List Told → State
at gates s [] = s
at gates s (t ∷ ts) = at gates (next gates s t) ts

-- what is written at the events
unfoldable pub replied : List (Option Lock) → State → List Told → List ℕ
replied gates s [] = []
replied gates s (t ∷ ts) = reply gates s t ++ replied gates (next gates s t) ts

-- each event comes to this, in the state after those before it
abbrev pub AreTold : List (Option Lock) → State → List Told → Type 0
AreTold gates s [] = ⊤
AreTold gates s (t ∷ ts) = IsTold gates s t × AreTold gates (next gates s t) ts

pub at-append : (gates : List (Option Lock)) (s : State) (front others : List Told) → at gates (at gates s front) others ≡ at gates s (front ++ others)
unfolding at
at-append gates s [] others = refl
at-append gates s (t ∷ front) others = at-append gates (next gates s t) front others

pub at-push : (gates : List (Option Lock)) (s : State) (front : List Told) (t : Told) → at gates s (front ++ t ∷ []) ≡ next gates (at gates s front) t
unfolding at
at-push gates s [] t = refl
at-push gates s (x ∷ front) t = at-push gates (next gates s x) front t

pub at-none : (gates : List (Option Lock)) (s : State) → at gates s [] ≡ s
unfolding at
at-none gates s = refl

pub replied-none : (gates : List (Option Lock)) (s : State) → replied gates s [] ≡ []
unfolding replied
replied-none gates s = refl

pub replied-cons : (gates : List (Option Lock)) (s : State) (t : Told) (others : List Told) → replied gates s (t ∷ others) ≡ reply gates s t ++ replied gates (next gates s t) others
unfolding replied
replied-cons gates s t others = refl

pub replied-append : (gates : List (Option Lock)) (s : State) (front others : List Told) → replied gates s (front ++ others) ≡ replied gates s front ++ replied gates (at gates s front) others
unfolding at replied
replied-append gates s [] others = refl
replied-append gates s (t ∷ front) others = ap (λ l. reply gates s t ++ l) (replied-append gates (next gates s t) front others) ∙ sym (append_assoc (reply gates s t) _ _)

pub replied-push : (gates : List (Option Lock)) (s : State) (answered pending : List Told) (t : Told)
    → replied gates (at gates s answered) (pending ++ t ∷ []) ≡ replied gates (at gates s answered) pending ++ reply gates (at gates s (answered ++ pending)) t
replied-push gates s answered pending t =
    replied-append gates (at gates s answered) pending (t ∷ [])
    ∙ ap (λ l. replied gates (at gates s answered) pending ++ l)
    (replied-cons gates (at gates (at gates s answered) pending) t [] ∙ ap (λ l. reply gates (at gates (at gates s answered) pending) t ++ l) (replied-none gates (next gates (at gates (at gates s answered) pending) t))
    ∙ append-nil (reply gates (at gates (at gates s answered) pending) t) ∙ ap (λ u. reply gates u t) (at-append gates s answered pending))

-- one more event
pub AreTold-push : (gates : List (Option Lock)) (s : State) (front : List Told) (t : Told) → AreTold gates s front → IsTold gates (at gates s front) t → AreTold gates s (front ++ t ∷ [])
unfolding at
AreTold-push gates s [] t p q = (q, tt)
AreTold-push gates s (x ∷ front) t p q = (p.0, AreTold-push gates (next gates s x) front t p.1 q)

-- the events before one, and that event
pub AreTold-front : (gates : List (Option Lock)) (s : State) (front : List Told) (t : Told) (others : List Told) → AreTold gates s (front ++ t ∷ others) → AreTold gates s front × IsTold gates (at gates s front) t
unfolding at
AreTold-front gates s [] t others p = (tt, p.0)
AreTold-front gates s (x ∷ front) t others p =
    let rest = AreTold-front gates (next gates s x) front t others p.1 in
    ((p.0, rest.0), rest.1)

-- the state after the events, by their answers
pub at-behind : (gates : List (Option Lock)) (s : State) (ts : List Told) → at gates s ts ≡ state_behind gates s (events_of ts) (answers_of ts)
unfolding at
at-behind gates s [] = refl
at-behind gates s (line number text answer ∷ ts) = at-behind gates (next_of (under gates number s) answer) ts
at-behind gates s (fault number ∷ ts) = at-behind gates s ts

-- what was told, as answers
pub are-events : (gates : List (Option Lock)) (s : State) (ts : List Told) → AreTold gates s ts → AreEvents gates s (events_of ts) (answers_of ts)
are-events gates s [] p = tt
are-events gates s (line number text answer ∷ ts) p = (p.0, are-events gates (next_of (under gates number s) answer) ts p.1)
are-events gates s (fault number ∷ ts) p = are-events gates s ts p.1

pub replied-events : (gates : List (Option Lock)) (s : State) (ts : List Told) → replied gates s ts ≡ event_replies gates s (events_of ts) (answers_of ts)
unfolding replied
replied-events gates s [] = refl
replied-events gates s (line number text answer ∷ ts) = ap (λ l. reply_to (under gates number s) answer ++ l) (replied-events gates (next_of (under gates number s) answer) ts)
replied-events gates s (fault number ∷ ts) = ap (λ l. fault_text number ++ l) (replied-events gates s ts)

-- the lock of one feed stands in place of that of another
pub under-over : (gates : List (Option Lock)) (m n : ℕ) (s : State) → under gates m (under gates n s) ≡ under gates m s
under-over [] m n s = refl
under-over (lock ∷ locks) m n s = refl

-- a lock takes no line and gives none
pub under-lines : (gates : List (Option Lock)) (n : ℕ) (s : State) → (under gates n s).lines ≡ s.lines
under-lines [] n s = refl
under-lines (lock ∷ locks) n s = refl
