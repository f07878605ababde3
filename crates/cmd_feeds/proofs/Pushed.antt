-- One more line of a feed came and was answered, under the lock of the feed.
use Rattle.std.proofs.Common.{◌≡◌, ℕ, ◌+◌, Bool, List, [], ◌∷◌, ◌++◌, refl, sym, ap, ◌∙◌, subst, append_assoc, arith}
use Rattle.io_streams.specs.Source.{SourceState}
use Rattle.io_streams.specs.Sink.{SinkState}
use Rattle.io_streams.specs.Gathered.{gathered_seen}
use Rattle.io_line_reader.specs.Reading.{Reading, IsBegun}
use Rattle.io_line_reader.proofs.GivenLines.{step-read}
use Rattle.cmd_session.specs.declared.outcome.LineOutcome.TheVariants as outcome
use Rattle.cmd_session.specs.Answer.{Answer}
use Rattle.cmd_session.specs.Events as events
use Rattle.cmd_session.specs.Fetched.{Came, buffered, read}
use Rattle.std.specs.declared.option.Option.{Option}
use Rattle.cmd_session.specs.Lock.{Lock}
use Rattle.cmd_session.specs.State.{State}
use Rattle.cmd_session.specs.Session.{SessionValue, StandsFor, Answered}
use Rattle.cmd_session.specs.Turned.{AnsweredLine}
use Rattle.cmd_session.proofs.GivenAmong.{Given, given-buffered, given-read}
use Rattle.cmd_session.proofs.Held.{Moves, stay, sink, moves-all}
use Rattle.cmd_session.proofs.LineRuns.{next_of-lines}
use Rattle.cmd_session.proofs.ToldEvents.{Told, events_of, events_of-append}
use Rattle.cmd_session.proofs.ToldEvents as told
use Rattle.cmd_feeds.specs.Gates.{under}
use Rattle.cmd_feeds.proofs.Held.{Held, held-flushed, held-more}
use Rattle.cmd_feeds.proofs.Told.{at, at-push}

-- A line of the source of this number came, behind the events that there were. It waits for its answer.
pub record Waits (gates : List (Option Lock)) (number : ℕ) (long : Bool) (s : State) (source now : SourceState) (reader : Reading) (before below : SinkState) (held : List ℕ) (old waiting : List Told) : Type 0 where
  pub answered : List Told
  pub pending : List Told
  pub moves : Moves old waiting answered pending
  pub has : Held gates s answered pending before below held
  pub text : List ℕ
  pub begun : IsBegun long reader.line text
  pub given : Given number source now reader (events_of answered) (events_of pending ++ events.line number text ∷ [])

pub waits : (gates : List (Option Lock)) (number : ℕ) (long : Bool) (s : State) (source now now' : SourceState) (old new : Reading) (before below below' : SinkState) (held held' : List ℕ) (answered pending : List Told)
    → Held gates s answered pending before below held → Given number source now old (events_of answered) (events_of pending) → Came long old new now now' below below' held held'
    → Waits gates number long s source now' new before below' held' answered pending
waits gates number long s source now now' old new before below below' held held' answered pending h g (buffered b short kept-source kept-below kept-held) = rw (short, kept-source, kept-below, kept-held) record {
  answered = answered;
  pending = pending;
  moves = stay refl refl;
  has = h;
  text = new.line;
  begun = refl;
  given = given-buffered number source now old new (events_of answered) (events_of pending) g b;
}
waits gates number long s source now now' old new before below below' held held' answered pending h g (read r) =
    let step = step-read long old new now now' r.next in
    record {
      answered = answered ++ pending;
      pending = [];
      moves = sink refl refl;
      has = held-flushed gates s answered pending before below below' held held' h r.wrote r.none;
      text = step.line;
      begun = step.begun;
      given = subst (λ es. Given number source now' new es (events.line number step.line ∷ [])) (sym (events_of-append answered pending)) (given-read long number source now now' old new (events_of answered) (events_of pending) g step);
    }

-- A line of the source of this number came and was answered, behind the events that there were.
pub record Pushed (gates : List (Option Lock)) (number : ℕ) (s : State) (source now : SourceState) (reader : Reading) (session session' : SessionValue) (before below : SinkState) (held : List ℕ) (old waiting : List Told) : Type 0 where
  pub answered : List Told
  pub pending : List Told
  pub moves : Moves old waiting answered pending
  pub text : List ℕ
  pub answer : Answer
  pub has : Held gates s answered (pending ++ told.line number text answer ∷ []) before below held
  pub stands : StandsFor session' (at gates s (answered ++ (pending ++ told.line number text answer ∷ [])))
  pub given : Given number source now reader (events_of answered) (events_of (pending ++ told.line number text answer ∷ []))
  pub counted : session'.lines ≡ session.lines + 1

pub pushed : (gates : List (Option Lock)) (number : ℕ) (s : State) (source now now' : SourceState) (old new : Reading) (session session' : SessionValue) (before below below' : SinkState) (held held' : List ℕ) (answered pending : List Told)
    → Held gates s answered pending before below held → Given number source now old (events_of answered) (events_of pending) → StandsFor session (under gates number (at gates s (answered ++ pending)))
    → AnsweredLine outcome.Done (under gates number (at gates s (answered ++ pending))) old new now now' session' below below' held held' → Pushed gates number s source now' new session session' before below' held' answered pending
pushed gates number s source now now' old new session session' before below below' held held' answered pending h g stands line =
    let w = waits gates number line.long s source now now' old new before below line.between held line.left answered pending h g line.came in
    let same = ap (λ ts. under gates number (at gates s ts)) (moves-all answered pending w.answered w.pending w.moves) in
    let does : Answered outcome.Done (under gates number (at gates s (w.answered ++ w.pending))) w.text session' (gathered_seen line.between line.name line.left) (gathered_seen below' line.name' held') =
    subst (λ u. Answered outcome.Done u w.text session' (gathered_seen line.between line.name line.left) (gathered_seen below' line.name' held')) (sym same) (line.answers w.text w.begun) in
    let t = told.line number w.text does.does.answer in
    record {
      answered = w.answered;
      pending = w.pending;
      moves = w.moves;
      text = w.text;
      answer = does.does.answer;
      has = held-more gates s w.answered w.pending before line.between below' line.left held' line.name line.name' t w.has (record { request = does.request; asks = does.asks; settles = does.does.settles }) does.does.reply;
      stands = subst (λ u. StandsFor session' u) (sym (at-push gates s (w.answered ++ w.pending) t) ∙ ap (at gates s) (append_assoc w.answered w.pending (t ∷ []))) does.does.stands;
      given = subst (λ es. Given number source now' new (events_of w.answered) es) (sym (events_of-append w.pending (t ∷ []))) w.given;
      counted = omega (arith, does.does.stands.lines, next_of-lines (under gates number (at gates s (w.answered ++ w.pending))) does.does.answer, stands.lines, ap (λ (u : State). u.lines) same);
    }
