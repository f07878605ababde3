-- How far a run is: which lines were given, which of them were answered, and what of the replies was passed on.
use Rattle.std.proofs.Common.{◌≡◌, ℕ, ◌+◌, ◌^◌, ◌<◌, ◌≤◌, Bool, false, List, [], ◌∷◌, ◌++◌, length, refl, sym, ap, ◌∙◌, subst, append_assoc, arith}
use Rattle.io_streams.specs.Source.{SourceState}
use Rattle.io_streams.specs.Sink.{SinkState}
use Rattle.io_line_reader.specs.Reading.{Reading, fresh, IsBegun}
use Rattle.exec_pool.specs.Counted.{StepsValue}
use Rattle.io_line_reader.proofs.GivenLines.{step-read}
use Rattle.cmd_session.specs.declared.outcome.LineOutcome.TheVariants as outcome
use Rattle.cmd_session.specs.State.{State}
use Rattle.cmd_session.specs.Session.{SessionValue, StandsFor, Answered, TakesCells}
use Rattle.cmd_session.specs.Answer.{Answer}
use Rattle.io_streams.specs.Gathered.{gathered_seen}
use Rattle.cmd_session.proofs.LineRuns.{next_of-lines}
use Rattle.cmd_session.specs.Events.{Event}
use Rattle.cmd_session.specs.Events as events
use Rattle.cmd_session.specs.Fetched.{Came, buffered, read}
use Rattle.cmd_session.specs.Run.{HasState}
use Rattle.cmd_session.specs.Turned.{AnsweredLine}
use Rattle.cmd_session.proofs.ToldEvents.{Told, at, events_of, OnlyLines, at-none, at-push, only-append, events_of-append}
use Rattle.cmd_session.proofs.ToldEvents as told
use Rattle.cmd_session.proofs.Held.{Held, Moves, stay, sink, moves-all, held-none, held-flushed, held-more}
use Rattle.cmd_session.proofs.SpentCells.{Spent, spent-none, spent-line}
use Rattle.cmd_session.proofs.GivenAmong.{Given, given-begins, given-buffered, given-read}

-- what is known of a line that came, whatever state the session stands for
pub record Counted (long : Bool) (old new : Reading) : Type 0 where
  pub lines : new.lines ≡ old.lines + 1
  pub few : new.lines < 2 ^ 64
  pub short : long ≡ false → length new.line ≤ 1024

pub counted : (long : Bool) (old new : Reading) (source now : SourceState) (below after' : SinkState) (held kept : List ℕ) → Came long old new source now below after' held kept → Counted long old new
counted long old new source now below after' held kept (buffered b short a c d) = record { lines = b.lines; few = omega (arith, b.counted.0, b.counted.1); short = λ _. b.short }
counted long old new source now below after' held kept (read r) =
    let step = step-read long old new source now r.next in
    record { lines = step.lines; few = omega (arith, step.counted.0, step.counted.1); short = step.short }

-- a line that came has a text
pub came-begun : (long : Bool) (old new : Reading) (source now : SourceState) (below after' : SinkState) (held kept : List ℕ) → Came long old new source now below after' held kept → (text : List ℕ) × IsBegun long new.line text
came-begun long old new source now below after' held kept (buffered b short a c d) = rw short (new.line, refl)
came-begun long old new source now below after' held kept (read r) =
    let step = step-read long old new source now r.next in
    (step.line, step.begun)

-- A line of the source of this number came, behind the events that there were. It waits for its answer.
pub record Waits (number : ℕ) (long : Bool) (s : State) (source now : SourceState) (reader : Reading) (before below : SinkState) (held : List ℕ) (old waiting : List Told) : Type 0 where
  pub answered : List Told
  pub pending : List Told
  pub moves : Moves old waiting answered pending
  pub has : Held s answered pending before below held
  pub text : List ℕ
  pub begun : IsBegun long reader.line text
  pub given : Given number source now reader (events_of answered) (events_of pending ++ events.line number text ∷ [])

pub waits : (number : ℕ) (long : Bool) (s : State) (source now now' : SourceState) (old new : Reading) (before below below' : SinkState) (held held' : List ℕ) (answered pending : List Told)
    → Held s answered pending before below held → Given number source now old (events_of answered) (events_of pending) → Came long old new now now' below below' held held'
    → Waits number long s source now' new before below' held' answered pending
waits number long s source now now' old new before below below' held held' answered pending h g (buffered b short kept-source kept-below kept-held) = rw (short, kept-source, kept-below, kept-held) record {
  answered = answered;
  pending = pending;
  moves = stay refl refl;
  has = h;
  text = new.line;
  begun = refl;
  given = given-buffered number source now old new (events_of answered) (events_of pending) g b;
}
waits number long s source now now' old new before below below' held held' answered pending h g (read r) =
    let step = step-read long old new now now' r.next in
    record {
      answered = answered ++ pending;
      pending = [];
      moves = sink refl refl;
      has = held-flushed s answered pending before below below' held held' h r.wrote r.none;
      text = step.line;
      begun = step.begun;
      given = subst (λ es. Given number source now' new es (events.line number step.line ∷ [])) (sym (events_of-append answered pending)) (given-read long number source now now' old new (events_of answered) (events_of pending) g step);
    }

pub only-moved : (answered pending answered' pending' : List Told) → Moves answered pending answered' pending' → OnlyLines answered → OnlyLines pending → OnlyLines answered' × OnlyLines pending'
only-moved answered pending answered' pending' (stay a p) o w = rw (a, p) (o, w)
only-moved answered pending answered' pending' (sink a p) o w = rw (a, p) (only-append answered pending o w, tt)

-- A line of the source of this number came and was answered, behind the events that there were.
pub record Pushed (number : ℕ) (s : State) (source now : SourceState) (reader : Reading) (session session' : SessionValue) (before below : SinkState) (held : List ℕ) (old waiting : List Told) : Type 0 where
  pub answered : List Told
  pub pending : List Told
  pub moves : Moves old waiting answered pending
  pub text : List ℕ
  pub answer : Answer
  pub has : Held s answered (pending ++ told.line number text answer ∷ []) before below held
  pub stands : StandsFor session' (at s (answered ++ (pending ++ told.line number text answer ∷ [])))
  pub given : Given number source now reader (events_of answered) (events_of (pending ++ told.line number text answer ∷ []))
  pub counted : session'.lines ≡ session.lines + 1

pub pushed : (number : ℕ) (s : State) (source now now' : SourceState) (old new : Reading) (session session' : SessionValue) (before below below' : SinkState) (held held' : List ℕ) (answered pending : List Told)
    → Held s answered pending before below held → Given number source now old (events_of answered) (events_of pending) → StandsFor session (at s (answered ++ pending))
    → AnsweredLine outcome.Done (at s (answered ++ pending)) old new now now' session' below below' held held' → Pushed number s source now' new session session' before below' held' answered pending
pushed number s source now now' old new session session' before below below' held held' answered pending h g stands line =
    let w = waits number line.long s source now now' old new before below line.between held line.left answered pending h g line.came in
    let same = ap (at s) (moves-all answered pending w.answered w.pending w.moves) in
    let does : Answered outcome.Done (at s (w.answered ++ w.pending)) w.text session' (gathered_seen line.between line.name line.left) (gathered_seen below' line.name' held') =
    subst (λ u. Answered outcome.Done u w.text session' (gathered_seen line.between line.name line.left) (gathered_seen below' line.name' held')) (sym same) (line.answers w.text w.begun) in
    let t = told.line number w.text does.does.answer in
    record {
      answered = w.answered;
      pending = w.pending;
      moves = w.moves;
      text = w.text;
      answer = does.does.answer;
      has = held-more s w.answered w.pending before line.between below' line.left held' line.name line.name' t w.has (record { request = does.request; asks = does.asks; settles = does.does.settles }) does.does.reply;
      stands = subst (λ u. StandsFor session' u) (sym (at-push s (w.answered ++ w.pending) t) ∙ ap (at s) (append_assoc w.answered w.pending (t ∷ []))) does.does.stands;
      given = subst (λ es. Given number source now' new (events_of w.answered) es) (sym (events_of-append w.pending (t ∷ []))) w.given;
      counted = omega (arith, does.does.stands.lines, next_of-lines (at s (w.answered ++ w.pending)) does.does.answer, stands.lines, ap (λ (u : State). u.lines) same);
    }

-- The replies to the lines that were answered before the last read stand below. Those to the pending lines, which came in that
-- read, may be held. No line took more cells than it may.
pub record Progress (s : State) (source now : SourceState) (reader : Reading) (session : SessionValue) (before below : SinkState) (held : List ℕ) (steps last : StepsValue) : Type 0 where
  pub answered : List Told
  pub pending : List Told
  pub has : Held s answered pending before below held
  pub given : Given 1 source now reader (events_of answered) (events_of pending)
  pub stands : StandsFor session (at s (answered ++ pending))
  pub only : OnlyLines answered × OnlyLines pending
  pub spent : Spent s (answered ++ pending) steps last

-- nothing was taken
pub begins : {steps : StepsValue} (s : State) (source : SourceState) (reader : Reading) (session : SessionValue) (before : SinkState) (held : List ℕ) → reader ≡ fresh → held ≡ [] → StandsFor session s
    → Progress s source source reader session before before held steps steps
begins s source reader session before held new empty stands = record {
  answered = [];
  pending = [];
  has = held-none s before held empty;
  given = given-begins 1 source reader new;
  stands = subst (λ u. StandsFor session u) (sym (at-none s)) stands;
  only = (tt, tt);
  spent = spent-none s _;
}

pub has-state : {steps spent : StepsValue} (s : State) (source now : SourceState) (reader : Reading) (session : SessionValue) (before below : SinkState) (held : List ℕ) → Progress s source now reader session before below held steps spent → HasState session
has-state s source now reader session before below held p = record { state = at s (p.answered ++ p.pending); stands = p.stands }

-- one more line was answered, and is pending
pub progress-line : (s : State) (source now now' : SourceState) (old new : Reading) (session session' : SessionValue) (before below below' : SinkState) (held held' : List ℕ) (steps spent last : StepsValue)
    → (p : Progress s source now old session before below held steps spent) → AnsweredLine outcome.Done (at s (p.answered ++ p.pending)) old new now now' session' below below' held held'
    → TakesCells session.registry.live spent last → Progress s source now' new session' before below' held' steps last
progress-line s source now now' old new session session' before below below' held held' steps spent last p line takes =
    let q = pushed 1 s source now now' old new session session' before below below' held held' p.answered p.pending p.has p.given p.stands line in
    let only = only-moved p.answered p.pending q.answered q.pending q.moves p.only.0 p.only.1 in
    record {
      answered = q.answered;
      pending = q.pending ++ told.line 1 q.text q.answer ∷ [];
      has = q.has;
      given = q.given;
      stands = q.stands;
      only = (only.0, only-append q.pending (told.line 1 q.text q.answer ∷ []) only.1 (refl, tt));
      spent = subst (λ (ts : List Told). Spent s ts steps last)
          (ap (λ ts. ts ++ told.line 1 q.text q.answer ∷ []) (sym (moves-all p.answered p.pending q.answered q.pending q.moves)) ∙ append_assoc q.answered q.pending (told.line 1 q.text q.answer ∷ []))
          (spent-line s (p.answered ++ p.pending) session steps spent last 1 q.text q.answer p.spent p.stands takes);
    }
