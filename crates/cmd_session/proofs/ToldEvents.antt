-- Events with what each comes to, one after another from a state on.
use Rattle.std.proofs.Common.{◌≡◌, ℕ, List, [], ◌∷◌, ◌++◌, map, refl, sym, ap, ◌∙◌, append_assoc, append-nil, nat_eq, Bool, true, false, cond}
use Rattle.std.specs.Prelude.{⊤}
use Rattle.std.proofs.lemmas.Bool.{eq-eqb}
use Rattle.cmd_session.specs.Answer.{Answer}
use Rattle.cmd_session.specs.State.{State, next_of, after}
use Rattle.cmd_session.specs.Answers.{IsAnswer}
use Rattle.cmd_session.specs.Replies.{reply_to, replies, AreAnswers}
use Rattle.cmd_session.specs.Events.{Event, fault_text, lines_of}
use Rattle.cmd_session.specs.Events as events

-- a line of the source of this number and what it comes to, or that this source has failed
pub data Told : Type 0 where
  line : ℕ → List ℕ → Answer → Told
  fault : ℕ → Told

abbrev pub event_of : Told → Event
event_of (line number text answer) = events.line number text
event_of (fault number) = events.fault number

abbrev pub events_of : List Told → List Event
events_of ts = map event_of ts

abbrev pub answers_of : List Told → List Answer
answers_of [] = []
answers_of (line number text answer ∷ ts) = answer ∷ answers_of ts
answers_of (fault number ∷ ts) = answers_of ts

-- the state after an event
abbrev pub next : State → Told → State
next s (line number text answer) = next_of s answer
next s (fault number) = s

-- what is written at an event
abbrev pub reply : State → Told → List ℕ
reply s (line number text answer) = reply_to s answer
reply s (fault number) = fault_text number

-- the event comes to this
abbrev pub IsTold : State → Told → Type 0
IsTold s (line number text answer) = IsAnswer s text answer
IsTold s (fault number) = ⊤

-- the state after the events
unfoldable pub at : State → List Told → State
at s [] = s
at s (t ∷ ts) = at (next s t) ts

-- what is written at the events
unfoldable pub replied : State → List Told → List ℕ
replied s [] = []
replied s (t ∷ ts) = reply s t ++ replied (next s t) ts

-- each event comes to this, in the state after those before it
abbrev pub AreTold : State → List Told → Type 0
AreTold s [] = ⊤
AreTold s (t ∷ ts) = IsTold s t × AreTold (next s t) ts

pub events_of-append : (front others : List Told) → events_of (front ++ others) ≡ events_of front ++ events_of others
events_of-append [] others = refl
events_of-append (t ∷ front) others = ap (λ l. event_of t ∷ l) (events_of-append front others)

pub at-append : (s : State) (front others : List Told) → at (at s front) others ≡ at s (front ++ others)
unfolding at
at-append s [] others = refl
at-append s (t ∷ front) others = at-append (next s t) front others

pub at-push : (s : State) (front : List Told) (t : Told) → at s (front ++ t ∷ []) ≡ next (at s front) t
unfolding at
at-push s [] t = refl
at-push s (x ∷ front) t = at-push (next s x) front t

pub at-none : (s : State) → at s [] ≡ s
unfolding at
at-none s = refl

pub replied-none : (s : State) → replied s [] ≡ []
unfolding replied
replied-none s = refl

pub replied-cons : (s : State) (t : Told) (others : List Told) → replied s (t ∷ others) ≡ reply s t ++ replied (next s t) others
unfolding replied
replied-cons s t others = refl

pub replied-append : (s : State) (front others : List Told) → replied s (front ++ others) ≡ replied s front ++ replied (at s front) others
unfolding at replied
replied-append s [] others = refl
replied-append s (t ∷ front) others = ap (λ l. reply s t ++ l) (replied-append (next s t) front others) ∙ sym (append_assoc (reply s t) _ _)

pub replied-push : (s : State) (answered pending : List Told) (t : Told)
    → replied (at s answered) (pending ++ t ∷ []) ≡ replied (at s answered) pending ++ reply (at s (answered ++ pending)) t
replied-push s answered pending t =
    replied-append (at s answered) pending (t ∷ [])
    ∙ ap (λ l. replied (at s answered) pending ++ l)
    (replied-cons (at (at s answered) pending) t [] ∙ ap (λ l. reply (at (at s answered) pending) t ++ l) (replied-none (next (at (at s answered) pending) t))
    ∙ append-nil (reply (at (at s answered) pending) t) ∙ ap (λ u. reply u t) (at-append s answered pending))

-- one more event
pub AreTold-push : (s : State) (front : List Told) (t : Told) → AreTold s front → IsTold (at s front) t → AreTold s (front ++ t ∷ [])
unfolding at
AreTold-push s [] t p q = (q, tt)
AreTold-push s (x ∷ front) t p q = (p.0, AreTold-push (next s x) front t p.1 q)

-- the events before one, and that event
pub AreTold-front : (s : State) (front : List Told) (t : Told) (others : List Told) → AreTold s (front ++ t ∷ others) → AreTold s front × IsTold (at s front) t
unfolding at
AreTold-front s [] t others p = (tt, p.0)
AreTold-front s (x ∷ front) t others p =
    let rest = AreTold-front (next s x) front t others p.1 in
    ((p.0, rest.0), rest.1)

-- the state after the events is that after their lines
pub at-after : (s : State) (ts : List Told) → at s ts ≡ after s (answers_of ts)
unfolding at after
at-after s [] = refl
at-after s (line number text answer ∷ ts) = at-after (next_of s answer) ts
at-after s (fault number ∷ ts) = at-after s ts

pub lines_of-append : (number : ℕ) (front others : List Event) → lines_of number (front ++ others) ≡ lines_of number front ++ lines_of number others
lines_of-append number [] others = refl
lines_of-append number (events.line other text ∷ front) others = by_number (nat_eq other number) (lines_of-append number front others)
  where
    by_number : (b : Bool) → lines_of number (front ++ others) ≡ lines_of number front ++ lines_of number others
        → cond b (text ∷ lines_of number (front ++ others)) (lines_of number (front ++ others)) ≡ cond b (text ∷ lines_of number front) (lines_of number front) ++ lines_of number others
    by_number true same = ap (λ l. text ∷ l) same
    by_number false same = same
lines_of-append number (events.fault other ∷ front) others = lines_of-append number front others

-- a line of this source
pub lines_of-here : (number : ℕ) (text : List ℕ) (others : List Event) → lines_of number (events.line number text ∷ others) ≡ text ∷ lines_of number others
lines_of-here number text others = ap (λ b. cond b (text ∷ lines_of number others) (lines_of number others)) (eq-eqb number number refl)

-- These are lines of the first source, and nothing else.
abbrev pub OnlyLines : List Told → Type 0
OnlyLines [] = ⊤
OnlyLines (line number text answer ∷ ts) = (number ≡ 1) × OnlyLines ts
OnlyLines (fault number ∷ ts) = ⊥

pub only-append : (front others : List Told) → OnlyLines front → OnlyLines others → OnlyLines (front ++ others)
only-append [] others p q = q
only-append (line number text answer ∷ front) others p q = (p.0, only-append front others p.1 q)
only-append (fault number ∷ front) others p q = absurd p

-- one of them, and those before it
pub record OnlyAt (front : List Told) (t : Told) (others : List Told) : Type 0 where
  pub before : OnlyLines front
  pub text : List ℕ
  pub answer : Answer
  pub here : t ≡ line 1 text answer
  pub behind : OnlyLines others

pub only-at : (front : List Told) (t : Told) (others : List Told) → OnlyLines (front ++ t ∷ others) → OnlyAt front t others
only-at [] (line number text answer) others p = record { before = tt; text = text; answer = answer; here = ap (λ n. line n text answer) p.0; behind = p.1 }
only-at [] (fault number) others p = absurd p
only-at (line number text answer ∷ front) t others p =
    let rest = only-at front t others p.1 in
    record { before = (p.0, rest.before); text = rest.text; answer = rest.answer; here = rest.here; behind = rest.behind }
only-at (fault number ∷ front) t others p = absurd p

pub only-replied : (s : State) (ts : List Told) → OnlyLines ts → replied s ts ≡ replies s (answers_of ts)
unfolding replied replies
only-replied s [] p = refl
only-replied s (line number text answer ∷ ts) p = ap (λ l. reply_to s answer ++ l) (only-replied (next_of s answer) ts p.1)
only-replied s (fault number ∷ ts) p = absurd p

pub are-answers : (s : State) (ts : List Told) → OnlyLines ts → AreTold s ts → AreAnswers s (lines_of 1 (events_of ts)) (answers_of ts)
are-answers s [] o p = tt
are-answers s (line number text answer ∷ ts) o p = rw o.0 (p.0, are-answers (next_of s answer) ts o.1 p.1)
are-answers s (fault number ∷ ts) o p = absurd o
