-- How a run ends, by how far it was.
use Rattle.std.proofs.Common.{◌≡◌, ℕ, ◌-◌, ◌^◌, ◌≤◌, inl, inr, Bool, true, false, List, [], ◌∷◌, ◌++◌, refl, sym, ap, ◌∙◌, subst, append_assoc, append-nil, arith, IfSome}
use Rattle.std.specs.Io.KnownBytes.{Appends}
use Rattle.io_streams.specs.Source.{SourceState}
use Rattle.io_streams.specs.Sink.{SinkState, Wrote}
use Rattle.io_streams.specs.Gathered.{gathered_seen, StaysHeld}
use Rattle.io_streams.proofs.Writing.{Rose-earlier}
use Rattle.sql_text.specs.Lines.{lines}
use Rattle.io_line_reader.specs.declared.reader.LineAnswer.{LineAnswer}
use Rattle.io_line_reader.specs.declared.reader.LineAnswer.TheVariants as reads
use Rattle.io_line_reader.specs.Reading.{Reading}
use Rattle.io_line_reader.specs.Texts.{text_of, ended_part, IsNear}
use Rattle.exec_pool.specs.Counted.{StepsValue}
use Rattle.io_line_reader.specs.GivenLines.{GivenLines}
use Rattle.io_line_reader.proofs.GivenEnds.{text-lines, all-given, last-text, last-given, rose-given}
use Rattle.io_line_reader.proofs.TextLines.{text_of-append, length-text_of-append}
use Rattle.cmd_session.specs.declared.outcome.LineOutcome.{LineOutcome}
use Rattle.cmd_session.specs.declared.outcome.LineOutcome.TheVariants as outcome
use Rattle.cmd_session.specs.State.{State}
use Rattle.cmd_session.specs.Requests.{IsRequest}
use Rattle.cmd_session.specs.Answers.{IsAnswer}
use Rattle.cmd_session.specs.Replies.{reply_to, AreAnswers}
use Rattle.cmd_session.specs.Session.{SessionValue, Answered, StandsFor}
use Rattle.cmd_session.specs.declared.run.Ending.{Ending}
use Rattle.cmd_session.specs.declared.run.Ending.TheVariants as ending
use Rattle.cmd_session.specs.Events.{Event, lines_of}
use Rattle.cmd_session.specs.Events as events
use Rattle.cmd_session.specs.Fetched.{Read, StoppedHere}
use Rattle.cmd_session.specs.Run.{AreWhole, TookAll, WroteText, AnsweredText, AtLine, StopsAtLine, Ran}
use Rattle.cmd_session.specs.Uncounted.{CameUncounted, EndsUncounted}
use Rattle.cmd_session.specs.Turned.{AnsweredLine, LacksMemory, SinkFailed, ahead, reply, behind}
use Rattle.cmd_session.proofs.Passing.{IfSome-map}
use Rattle.cmd_session.proofs.Stops.{Stopped}
use Rattle.cmd_session.proofs.ToldEvents.{Told, event_of, events_of, answers_of, at, replied, AreTold, events_of-append, at-after, lines_of-append, AreTold-front, AreTold-push, IsTold, OnlyLines, only-append, only-at, only-replied, are-answers}
use Rattle.cmd_session.proofs.ToldEvents as told
use Rattle.cmd_session.proofs.Held.{Held, moves-all, held-all, held-still, held-stopped, held-broke}
use Rattle.cmd_session.proofs.GivenAmong.{Given, NearAt, own, other}
use Rattle.cmd_session.proofs.Progress.{Progress, waits, only-moved}

-- the lines that were given are whole
given-whole : (source now : SourceState) (reader : Reading) (front : List ℕ) (given : List (List ℕ)) → GivenLines source now reader front given → AreWhole source now (front ++ reader.ahead) given
given-whole source now reader front given g = by_end reader.ended refl
  where
    by_end : (b : Bool) → reader.ended ≡ b → AreWhole source now (front ++ reader.ahead) given
    by_end false open-yet = inl (reader.ahead, ap (λ f. f ++ reader.ahead) (g.whole open-yet))
    by_end true over =
        let all : front ++ reader.ahead ≡ front = ap (λ l. front ++ l) (g.over over).0 ∙ append-nil front in
        inr record { taken = g.taken; whole = subst (λ t. IfSome source.left (λ bytes. bytes ≡ t)) (sym all) (g.over over).2 }

-- the first of some whole lines are whole
whole-front : (source now : SourceState) (text : List ℕ) (front others : List (List ℕ)) → AreWhole source now text (front ++ others) → AreWhole source now text front
whole-front source now text front others (inl t) =
    inl (text_of others ++ t.0, t.1 ∙ ap (λ l. l ++ t.0) (text_of-append front others) ∙ append_assoc (text_of front) (text_of others) t.0)
whole-front source now text front others (inr all) = inr all

-- the replies to all lines of a text were written
wrote-told : (s : State) (text : List ℕ) (ts : List Told) (before now : SinkState) → lines text ≡ lines_of 1 (events_of ts) → OnlyLines ts → AreTold s ts → Appends before.written now.written (replied s ts) → WroteText s text before now
wrote-told s text ts before now e only are w = record {
  replied = replied s ts;
  is_text = record { answers = answers_of ts; answered = rw e (are-answers s ts only are); replied = only-replied s ts only };
  written = w;
}

-- Nothing more is given, and what was held is written.
record Flushed (s : State) (given : List (List ℕ)) (before below : SinkState) : Type 0 where
  pub wrote : (text : List ℕ) → lines text ≡ given → WroteText s text before below
  pub later : before.faults ≤ below.faults

flushed : {steps spent : StepsValue} (answer : LineAnswer) (s : State) (source now now' : SourceState) (old new : Reading) (session : SessionValue) (before below below' : SinkState) (held kept : List ℕ)
    → (p : Progress s source now old session before below held steps spent) → Read answer old new now now' below below' held kept → Flushed s (lines_of 1 (events_of p.answered ++ events_of p.pending)) before below'
flushed answer s source now now' old new session before below below' held kept p r = record {
  wrote = λ text e. wrote-told s text (p.answered ++ p.pending) before below' (e ∙ ap (lines_of 1) (sym (events_of-append p.answered p.pending))) (only-append p.answered p.pending p.only.0 p.only.1)
      p.has.are (held-all s p.answered p.pending before below below' held p.has r.wrote.bytes);
  later = omega (arith, p.has.later, r.wrote.later.faults);
}

-- the source is at its end, and all was given
pub ends-done : {steps spent : StepsValue} (s : State) (source now now' : SourceState) (old new : Reading) (session : SessionValue) (before below below' : SinkState) (held kept : List ℕ)
    → Progress s source now old session before below held steps spent → Read reads.End old new now now' below below' held kept → Ran ending.Done s source now' before below'
ends-done s source now now' old new session before below below' held kept p r =
    let f = flushed reads.End s source now now' old new session before below below' held kept p r in
    let a = all-given source now now' old new p.given.front (lines_of 1 (events_of p.answered ++ events_of p.pending)) p.given.given r.next in
    record {
      ends = record { text = p.given.front; all = a.all; few = a.few; holds = f.wrote p.given.front a.are };
      input_later = a.later;
      output_later = f.later;
    }

-- and the session stands for the state after all lines
pub ends-answered : {steps spent : StepsValue} (s : State) (source now now' : SourceState) (old new : Reading) (session : SessionValue) (before below below' : SinkState) (held kept : List ℕ)
    → Progress s source now old session before below held steps spent → Read reads.End old new now now' below below' held kept → TookAll source now' (λ (text : List ℕ). AnsweredText s text before below' session)
ends-answered s source now now' old new session before below below' held kept p r =
    let all = p.answered ++ p.pending in
    let a = all-given source now now' old new p.given.front (lines_of 1 (events_of p.answered ++ events_of p.pending)) p.given.given r.next in
    let listed : lines p.given.front ≡ lines_of 1 (events_of all) = a.are ∙ ap (lines_of 1) (sym (events_of-append p.answered p.pending)) in
    let only = only-append p.answered p.pending p.only.0 p.only.1 in
    record {
      text = p.given.front;
      all = a.all;
      few = a.few;
      holds = record {
        answers = answers_of all;
        are = subst (λ ls. AreAnswers s ls (answers_of all)) (sym listed) (are-answers s all only p.has.are);
        written = subst (λ x. Appends before.written below'.written x) (only-replied s all only) (held-all s p.answered p.pending before below below' held p.has r.wrote.bytes);
        stands = subst (λ u. StandsFor session u) (at-after s all) p.stands;
      };
    }

-- the same, where nothing came between
pub ends-as : {steps spent : StepsValue} (s : State) (source now now' : SourceState) (old new : Reading) (session session' : SessionValue) (before below below' : SinkState) (held kept : List ℕ)
    → Progress s source now old session before below held steps spent → Read reads.End old new now now' below below' held kept → session' ≡ session → TookAll source now' (λ (text : List ℕ). AnsweredText s text before below' session')
ends-as s source now now' old new session session' before below below' held kept p r same =
    subst (λ (k : SessionValue). TookAll source now' (λ (text : List ℕ). AnsweredText s text before below' k)) (sym same) (ends-answered s source now now' old new session before below below' held kept p r)

-- the source failed
pub ends-read_fault : {steps spent : StepsValue} (s : State) (source now now' : SourceState) (old new : Reading) (session : SessionValue) (before below below' : SinkState) (held kept : List ℕ)
    → Progress s source now old session before below held steps spent → Read reads.ReadFault old new now now' below below' held kept → Ran ending.ReadFault s source now' before below'
ends-read_fault s source now now' old new session before below below' held kept p r =
    let f = flushed reads.ReadFault s source now now' old new session before below below' held kept p r in
    let g = p.given in
    let given = lines_of 1 (events_of p.answered ++ events_of p.pending) in
    let t = r.next.tells in
    let text = last-text reads.ReadFault old new now now' g.front r.next in
    let u = last-given reads.ReadFault source now now' old new g.front given g.given r.next t.0 t.1 t.2 in
    record {
      ends = (rose-given source now now' old new g.front given g.given r.next, record { text = text; taken = u.taken; holds = f.wrote (ended_part text) u.are });
      input_later = u.later;
      output_later = f.later;
    }

-- as many bytes were taken as can be counted
pub ends-byte_limit : {steps spent : StepsValue} (s : State) (source now now' : SourceState) (old new : Reading) (session : SessionValue) (before below below' : SinkState) (held kept : List ℕ)
    → Progress s source now old session before below held steps spent → Read reads.ByteLimit old new now now' below below' held kept → Ran ending.ByteLimit s source now' before below'
ends-byte_limit s source now now' old new session before below below' held kept p r =
    let f = flushed reads.ByteLimit s source now now' old new session before below below' held kept p r in
    let g = p.given in
    let given = lines_of 1 (events_of p.answered ++ events_of p.pending) in
    let t = r.next.tells in
    let text = last-text reads.ByteLimit old new now now' g.front r.next in
    let u = last-given reads.ByteLimit source now now' old new g.front given g.given r.next t.0 t.1 t.2 in
    record {
      ends = record { text = text; taken = u.taken; holds = inl (sym u.count ∙ t.3, f.wrote (ended_part text) u.are) };
      input_later = u.later;
      output_later = f.later;
    }

-- more lines do not end earlier
near-longer : (text : List ℕ) (front others : List (List ℕ)) (last : ℕ) → IsNear text front last → IsNear text (front ++ others) last
near-longer text front others last near =
    let longer = length-text_of-append front others in
    record { within = omega (arith, near.within, longer); recent = omega (arith, near.recent, longer) }

-- the first pending line is one of this source
near-first : (first : Told) (text : List ℕ) (before : List (List ℕ)) (last : ℕ) (rest : List Told) → OnlyLines (first ∷ rest) → NearAt 1 (event_of first) text before last → IsNear text (before ++ lines_of 1 (event_of first ∷ [])) last
near-first first text before last rest only (own l one near) = rw one near
near-first (told.line number l a) text before last rest only (other none close) =
    let bad : lines_of 1 (events.line 1 l ∷ []) ≡ [] = subst (λ n. lines_of 1 (events.line n l ∷ []) ≡ []) only.0 none in
    cc
near-first (told.fault number) text before last rest only (other none close) = absurd only

-- little lies beyond the lines up to one of those that are pending
near-here : (source now : SourceState) (reader : Reading) (answered : List Told) (waiting : List Event) (done : List Told) (here : Event) (text : List ℕ)
    → (near : (first : Event) (others : List Event) → waiting ≡ first ∷ others → NearAt 1 first text (lines_of 1 (events_of answered)) now.last)
    → (others : List Event) → waiting ≡ events_of done ++ here ∷ others → OnlyLines done → (l : List ℕ) → here ≡ events.line 1 l
    → IsNear text (lines_of 1 (events_of (answered ++ done)) ++ l ∷ []) now.last
near-here source now reader answered waiting [] here text near others e only l same =
    let at : NearAt 1 (events.line 1 l) text (lines_of 1 (events_of answered)) now.last = subst (λ x. NearAt 1 x text (lines_of 1 (events_of answered)) now.last) same (near here others e) in
    subst (λ ts. IsNear text (lines_of 1 (events_of ts) ++ l ∷ []) now.last) (sym (append-nil answered)) (by_kind at)
  where
    by_kind : NearAt 1 (events.line 1 l) text (lines_of 1 (events_of answered)) now.last → IsNear text (lines_of 1 (events_of answered) ++ l ∷ []) now.last
    by_kind (own m one near) = let eq : l ≡ m = cc in subst (λ x. IsNear text (lines_of 1 (events_of answered) ++ x ∷ []) now.last) (sym eq) near
    by_kind (other none close) = cc
near-here source now reader answered waiting (x ∷ done) here text near others e only l same =
    let first = near-first x text (lines_of 1 (events_of answered)) now.last done only (near (event_of x) (events_of done ++ here ∷ others) e) in
    let more = near-longer text (lines_of 1 (events_of answered) ++ lines_of 1 (event_of x ∷ [])) (lines_of 1 (events_of done) ++ l ∷ []) now.last first in
    let listed : (lines_of 1 (events_of answered) ++ lines_of 1 (event_of x ∷ [])) ++ (lines_of 1 (events_of done) ++ l ∷ []) ≡ lines_of 1 (events_of (answered ++ x ∷ done)) ++ l ∷ [] =
    sym (append_assoc (lines_of 1 (events_of answered) ++ lines_of 1 (event_of x ∷ [])) (lines_of 1 (events_of done)) (l ∷ []))
    ∙ ap (λ ls. ls ++ l ∷ [])
    (append_assoc (lines_of 1 (events_of answered)) (lines_of 1 (event_of x ∷ [])) (lines_of 1 (events_of done))
    ∙ ap (λ ls. lines_of 1 (events_of answered) ++ ls) (sym (lines_of-append 1 (event_of x ∷ []) (events_of done)))
    ∙ sym (lines_of-append 1 (events_of answered) (event_of x ∷ events_of done))
    ∙ ap (lines_of 1) (sym (events_of-append answered (x ∷ done)))) in
    subst (λ ls. IsNear text ls now.last) listed more

-- the lines among all events, cut at one of them
lines-cut : (answered done : List Told) (l : List ℕ) (others : List Event) → lines_of 1 (events_of answered ++ (events_of done ++ events.line 1 l ∷ others)) ≡ lines_of 1 (events_of (answered ++ done)) ++ l ∷ lines_of 1 others
lines-cut answered done l others =
    ap (lines_of 1) (sym (append_assoc (events_of answered) (events_of done) (events.line 1 l ∷ others)) ∙ ap (λ es. es ++ events.line 1 l ∷ others) (sym (events_of-append answered done)))
    ∙ lines_of-append 1 (events_of (answered ++ done)) (events.line 1 l ∷ others)

-- one of the waiting lines, and what those before it came to
abbrev at-line : (s : State) (source now : SourceState) (reader : Reading) (answered done : List Told) (waiting : List Event) (l : List ℕ) (others : List Event) → (g : Given 1 source now reader (events_of answered) waiting)
    → waiting ≡ events_of done ++ events.line 1 l ∷ others → OnlyLines answered → OnlyLines done → AreTold s (answered ++ done) → AtLine s source now (g.front ++ reader.ahead)
at-line s source now reader answered done waiting l others g e only-answered only-done are =
    let front = lines_of 1 (events_of (answered ++ done)) in
    let listed : lines_of 1 (events_of answered ++ waiting) ≡ front ++ l ∷ lines_of 1 others = ap (λ es. lines_of 1 (events_of answered ++ es)) e ∙ lines-cut answered done l others in
    record {
      answered = front;
      line = l;
      others = lines_of 1 others ++ lines reader.ahead;
      whole = text-lines source now reader g.front (lines_of 1 (events_of answered ++ waiting)) g.given ∙ ap (λ ls. ls ++ lines reader.ahead) listed ∙ append_assoc front (l ∷ lines_of 1 others) (lines reader.ahead);
      ended = whole-front source now (g.front ++ reader.ahead) (front ++ l ∷ []) (lines_of 1 others)
          (subst (AreWhole source now (g.front ++ reader.ahead)) (listed ∙ sym (append_assoc front (l ∷ []) (lines_of 1 others))) (given-whole source now reader g.front (lines_of 1 (events_of answered ++ waiting)) g.given));
      near = near-here source now reader answered waiting done (events.line 1 l) (g.front ++ reader.ahead) g.near others e only-done l refl;
      answers = answers_of (answered ++ done);
      are = are-answers s (answered ++ done) (only-append answered done only-answered only-done) are;
    }

-- the reply to one of the pending lines is not whole below
stops-at : (s : State) (source now : SourceState) (reader : Reading) (answered pending : List Told) (more : List Event) (before below : SinkState) → (g : Given 1 source now reader (events_of answered) (events_of pending ++ more))
    → OnlyLines answered → OnlyLines pending → AreTold s (answered ++ pending) → Stopped s answered pending before below → StopsAtLine s source now (g.front ++ reader.ahead) before below
stops-at s source now reader answered pending more before below g only-answered only-pending are st =
    let only = only-at st.done st.here st.others (subst OnlyLines st.whole only-pending) in
    let split : answered ++ pending ≡ (answered ++ st.done) ++ st.here ∷ st.others = ap (λ ts. answered ++ ts) st.whole ∙ sym (append_assoc answered st.done (st.here ∷ st.others)) in
    let front = AreTold-front s (answered ++ st.done) st.here st.others (subst (AreTold s) split are) in
    let waiting : events_of pending ++ more ≡ events_of st.done ++ events.line 1 only.text ∷ (events_of st.others ++ more) =
    ap (λ ts. events_of ts ++ more) st.whole
    ∙ ap (λ es. es ++ more) (events_of-append st.done (st.here ∷ st.others))
    ∙ append_assoc (events_of st.done) (event_of st.here ∷ events_of st.others) more
    ∙ ap (λ t. events_of st.done ++ event_of t ∷ (events_of st.others ++ more)) only.here in
    let told-here = subst (λ t. IsTold (at s (answered ++ st.done)) t) only.here front.1 in
    let part = subst (λ t. told.reply (at s (answered ++ st.done)) t ≡ st.front ++ st.rest) only.here st.part in
    let state = at-after s (answered ++ st.done) in
    record {
      at_line = at-line s source now reader answered st.done (events_of pending ++ more) only.text (events_of st.others ++ more) g waiting only-answered only.before front.0;
      answer = only.answer;
      comes = subst (λ u. IsAnswer u only.text only.answer) state told-here;
      front = st.front;
      rest = st.rest;
      part = subst (λ u. reply_to u only.answer ≡ st.front ++ st.rest) state part;
      written = subst (λ r. Appends before.written below.written (r ++ st.front)) (only-replied s (answered ++ st.done) (only-append answered st.done only-answered only.before)) st.written;
    }

-- the sink failed before the source was read
ends-before : {steps spent : StepsValue} (s : State) (source now now' : SourceState) (old new : Reading) (session : SessionValue) (before below below' : SinkState) (held kept : List ℕ)
    → Progress s source now old session before below held steps spent → StoppedHere old new now now' below below' held kept → Ran ending.WriteFault s source now' before below'
ends-before s source now now' old new session before below below' held kept p r =
    let g = subst (λ es. Given 1 source now old (events_of p.answered) es) (sym (append-nil (events_of p.pending))) p.given in
    rw r.left record {
      ends = (
        Rose-earlier _ _ _ p.has.later r.stays.rose,
        record {
          text = g.front ++ old.ahead;
          taken = g.given.taken;
          holds = IfSome-map before.written (λ _. Stopped s p.answered p.pending before below') (λ _. StopsAtLine s source now (g.front ++ old.ahead) before below')
              (λ _ q. stops-at s source now old p.answered p.pending [] before below' g p.only.0 p.only.1 p.has.are q)
              (held-stopped s p.answered p.pending before below below' held kept p.has r.stays);
        },
      );
      input_later = g.given.later;
      output_later = omega (arith, p.has.later, r.stays.wrote.later.faults);
    }

-- A line came that was answered so: where it waits, and the answer in the state there.
record Asked (how : LineOutcome) (s : State) (source now : SourceState) (reader : Reading) (session : SessionValue) (before between below : SinkState) (left held : List ℕ) (name name' : ℕ) : Type 0 where
  pub answered : List Told
  pub pending : List Told
  pub has : Held s answered pending before between left
  pub only : OnlyLines answered × OnlyLines pending
  pub text : List ℕ
  pub given : Given 1 source now reader (events_of answered) (events_of pending ++ events.line 1 text ∷ [])
  pub does : Answered how (at s (answered ++ pending)) text session (gathered_seen between name left) (gathered_seen below name' held)

asked : {steps spent : StepsValue} (how : LineOutcome) (s : State) (source now now' : SourceState) (old new : Reading) (session session' : SessionValue) (before below below' : SinkState) (held held' : List ℕ)
    → (p : Progress s source now old session before below held steps spent) → (line : AnsweredLine how (at s (p.answered ++ p.pending)) old new now now' session' below below' held held')
    → Asked how s source now' new session' before line.between below' line.left held' line.name line.name'
asked how s source now now' old new session session' before below below' held held' p line =
    let w = waits 1 line.long s source now now' old new before below line.between held line.left p.answered p.pending p.has p.given line.came in
    record {
      answered = w.answered;
      pending = w.pending;
      has = w.has;
      only = only-moved p.answered p.pending w.answered w.pending w.moves p.only.0 p.only.1;
      text = w.text;
      given = w.given;
      does = subst (λ u. Answered how u w.text session' (gathered_seen line.between line.name line.left) (gathered_seen below' line.name' held'))
          (ap (at s) (sym (moves-all p.answered p.pending w.answered w.pending w.moves))) (line.answers w.text w.begun);
    }

-- the sink failed in the reply to the waiting line, or in an earlier one that was held
ends-reply : {steps spent : StepsValue} (s : State) (source now now' : SourceState) (old new : Reading) (session session' : SessionValue) (before below below' : SinkState) (held held' : List ℕ)
    → (p : Progress s source now old session before below held steps spent) → AnsweredLine outcome.WriteFault (at s (p.answered ++ p.pending)) old new now now' session' below below' held held'
    → Ran ending.WriteFault s source now' before below'
ends-reply s source now now' old new session session' before below below' held held' p line =
    let a = asked outcome.WriteFault s source now now' old new session session' before below below' held held' p line in
    let broke = a.does.does.reply in
    let t = told.line 1 a.text a.does.does.answer in
    let is-told : IsTold (at s (a.answered ++ a.pending)) t = record { request = a.does.request; asks = a.does.asks; settles = a.does.does.settles } in
    let pushed = a.pending ++ t ∷ [] in
    let g = subst (λ es. Given 1 source now' new (events_of a.answered) es) (sym (events_of-append a.pending (t ∷ [])) ∙ sym (append-nil (events_of pushed))) a.given in
    record {
      ends = (
        Rose-earlier _ _ _ a.has.later broke.rose,
        record {
          text = g.front ++ new.ahead;
          taken = g.given.taken;
          holds = IfSome-map before.written (λ _. Stopped s a.answered pushed before below') (λ _. StopsAtLine s source now' (g.front ++ new.ahead) before below')
              (λ _ q. stops-at s source now' new a.answered pushed [] before below' g a.only.0 (only-append a.pending (t ∷ []) a.only.1 (refl, tt))
              (subst (AreTold s) (append_assoc a.answered a.pending (t ∷ [])) (AreTold-push s (a.answered ++ a.pending) t a.has.are is-told)) q)
              (held-broke s a.answered a.pending before line.between below' line.left held' line.name line.name' t a.has broke);
        },
      );
      input_later = g.given.later;
      output_later = omega (arith, a.has.later, broke.wrote.later.faults);
    }

-- no memory was found for the waiting line, and the sink failed in an earlier reply that was held
ends-behind : {steps spent : StepsValue} (s : State) (source now now' : SourceState) (old new : Reading) (session session' : SessionValue) (before below below' below'' : SinkState) (held held' kept : List ℕ)
    → (p : Progress s source now old session before below held steps spent) → AnsweredLine outcome.Memory (at s (p.answered ++ p.pending)) old new now now' session' below below' held held'
    → StaysHeld below' below'' held' kept → Ran ending.WriteFault s source now' before below''
ends-behind s source now now' old new session session' before below below' below'' held held' kept p line stays =
    let a = asked outcome.Memory s source now now' old new session session' before below below' held held' p line in
    let still = held-still s a.answered a.pending before line.between below' line.left held' line.name line.name' a.has a.does.does.2 in
    record {
      ends = (
        Rose-earlier _ _ _ still.later stays.rose,
        record {
          text = a.given.front ++ new.ahead;
          taken = a.given.given.taken;
          holds = IfSome-map before.written (λ _. Stopped s a.answered a.pending before below'') (λ _. StopsAtLine s source now' (a.given.front ++ new.ahead) before below'')
              (λ _ q. stops-at s source now' new a.answered a.pending (events.line 1 a.text ∷ []) before below'' a.given a.only.0 a.only.1 a.has.are q)
              (held-stopped s a.answered a.pending before below' below'' held' kept still stays);
        },
      );
      input_later = a.given.given.later;
      output_later = omega (arith, still.later, stays.wrote.later.faults);
    }

-- the sink failed
pub ends-stopped : {steps spent : StepsValue} (s : State) (source now now' : SourceState) (old new : Reading) (session session' : SessionValue) (before below below' : SinkState) (held kept : List ℕ)
    → (p : Progress s source now old session before below held steps spent) → SinkFailed (at s (p.answered ++ p.pending)) old new now now' session session' below below' held kept → Ran ending.WriteFault s source now' before below'
ends-stopped s source now now' old new session session' before below below' held kept p (ahead r same) = ends-before s source now now' old new session before below below' held kept p r
ends-stopped s source now now' old new session session' before below below' held kept p (reply line) = ends-reply s source now now' old new session session' before below below' held kept p line
ends-stopped s source now now' old new session session' before below below' held kept p (behind m) = ends-behind s source now now' old new session session' before below m.sink below' held m.full kept p m.lacks m.flushes

-- no memory was found for the waiting line, and all that was held was written
pub ends-memory : {steps spent : StepsValue} (s : State) (source now now' : SourceState) (old new : Reading) (session session' : SessionValue) (before below below'' : SinkState) (held : List ℕ)
    → (p : Progress s source now old session before below held steps spent) → LacksMemory (at s (p.answered ++ p.pending)) old new now now' session' below held (λ lower full. Wrote lower below'' full)
    → Ran ending.Memory s source now' before below''
ends-memory s source now now' old new session session' before below below'' held p m =
    let line = m.lacks in
    let a = asked outcome.Memory s source now now' old new session session' before below m.sink held m.full p line in
    let still = held-still s a.answered a.pending before line.between m.sink line.left m.full line.name line.name' a.has a.does.does.2 in
    let all = a.answered ++ a.pending in
    let state = at-after s all in
    record {
      ends = record {
        text = a.given.front ++ new.ahead;
        taken = a.given.given.taken;
        holds = record {
          at_line = at-line s source now' new a.answered a.pending (events_of a.pending ++ events.line 1 a.text ∷ []) a.text [] a.given refl a.only.0 a.only.1 a.has.are;
          request = a.does.request;
          asks = subst (λ u. IsRequest u a.text a.does.request) state a.does.asks;
          creates = a.does.does.0;
          written = subst (λ r. Appends before.written below''.written r) (only-replied s all (only-append a.answered a.pending a.only.0 a.only.1)) (held-all s a.answered a.pending before m.sink below'' m.full still m.flushes.bytes);
        };
      };
      input_later = a.given.given.later;
      output_later = omega (arith, still.later, m.flushes.later.faults);
    }

-- a line came that is not answered, since no line more can be counted, and all that was held was written
pub ends-uncounted : {steps spent : StepsValue} (s : State) (source now now' : SourceState) (old new : Reading) (session : SessionValue) (before below below'' : SinkState) (held : List ℕ)
    → (p : Progress s source now old session before below held steps spent) → 2 ^ 64 - 2 ≤ session.lines → CameUncounted old new now now' below held (λ lower full. Wrote lower below'' full) → Ran ending.ByteLimit s source now' before below''
ends-uncounted s source now now' old new session before below below'' held p full m =
    let w = waits 1 m.long s source now now' old new before below m.between held m.left p.answered p.pending p.has p.given m.came in
    let only = only-moved p.answered p.pending w.answered w.pending w.moves p.only.0 p.only.1 in
    let all = w.answered ++ w.pending in
    let same = ap (λ ts. (at s ts).lines) (moves-all p.answered p.pending w.answered w.pending w.moves) in
    let state = ap (λ (u : State). u.lines) (at-after s all) in
    record {
      ends = record {
        text = w.given.front ++ new.ahead;
        taken = w.given.given.taken;
        holds = inr record {
          at_line = at-line s source now' new w.answered w.pending (events_of w.pending ++ events.line 1 w.text ∷ []) w.text [] w.given refl only.0 only.1 w.has.are;
          counted = omega (arith, full, p.stands.lines, same, state);
          written = subst (λ r. Appends before.written below''.written r) (only-replied s all (only-append w.answered w.pending only.0 only.1)) (held-all s w.answered w.pending before m.between below'' m.left w.has m.flushes.bytes);
        };
      };
      input_later = w.given.given.later;
      output_later = omega (arith, w.has.later, m.flushes.later.faults);
    }

-- and the sink failed in what was held
ends-held : {steps spent : StepsValue} (s : State) (source now now' : SourceState) (old new : Reading) (session : SessionValue) (before below below'' : SinkState) (held kept : List ℕ)
    → (p : Progress s source now old session before below held steps spent) → CameUncounted old new now now' below held (λ lower full. StaysHeld lower below'' full kept) → Ran ending.WriteFault s source now' before below''
ends-held s source now now' old new session before below below'' held kept p m =
    let w = waits 1 m.long s source now now' old new before below m.between held m.left p.answered p.pending p.has p.given m.came in
    let only = only-moved p.answered p.pending w.answered w.pending w.moves p.only.0 p.only.1 in
    record {
      ends = (
        Rose-earlier _ _ _ w.has.later m.flushes.rose,
        record {
          text = w.given.front ++ new.ahead;
          taken = w.given.given.taken;
          holds = IfSome-map before.written (λ _. Stopped s w.answered w.pending before below'') (λ _. StopsAtLine s source now' (w.given.front ++ new.ahead) before below'')
              (λ _ q. stops-at s source now' new w.answered w.pending (events.line 1 w.text ∷ []) before below'' w.given only.0 only.1 w.has.are q)
              (held-stopped s w.answered w.pending before m.between below'' m.left kept w.has m.flushes);
        },
      );
      input_later = w.given.given.later;
      output_later = omega (arith, w.has.later, m.flushes.wrote.later.faults);
    }

-- how a run ends where no line more can be counted
pub ends-full : {steps spent : StepsValue} (how : Ending) (s : State) (source now now' : SourceState) (old new : Reading) (session : SessionValue) (before below below' : SinkState) (held kept : List ℕ)
    → Progress s source now old session before below held steps spent → 2 ^ 64 - 2 ≤ session.lines → EndsUncounted how old new now now' below below' held kept → Ran how s source now' before below'
ends-full ending.Done s source now now' old new session before below below' held kept p full e = ends-done s source now now' old new session before below below' held kept p e
ends-full ending.ReadFault s source now now' old new session before below below' held kept p full e = ends-read_fault s source now now' old new session before below below' held kept p e
ends-full ending.WriteFault s source now now' old new session before below below' held kept p full (inl e) = ends-before s source now now' old new session before below below' held kept p e
ends-full ending.WriteFault s source now now' old new session before below below' held kept p full (inr m) = ends-held s source now now' old new session before below below' held kept p m
ends-full ending.Memory s source now now' old new session before below below' held kept p full e = absurd e
ends-full ending.ByteLimit s source now now' old new session before below below' held kept p full (inl e) = ends-byte_limit s source now now' old new session before below below' held kept p e
ends-full ending.ByteLimit s source now now' old new session before below below' held kept p full (inr m) = ends-uncounted s source now now' old new session before below below' held p full m

-- where it was read to its end, nothing is held, and the session stands for the state after all lines
pub full-answered : {steps spent : StepsValue} (how : Ending) (s : State) (source now now' : SourceState) (old new : Reading) (session : SessionValue) (before below below' : SinkState) (held kept : List ℕ) → how ≡ ending.Done
    → Progress s source now old session before below held steps spent → EndsUncounted how old new now now' below below' held kept → TookAll source now' (λ (text : List ℕ). AnsweredText s text before below' session)
full-answered how s source now now' old new session before below below' held kept done p e =
    ends-answered s source now now' old new session before below below' held kept p (subst (λ h. EndsUncounted h old new now now' below below' held kept) done e)

pub full-flushed : (how : Ending) (old new : Reading) (now now' : SourceState) (below below' : SinkState) (held kept : List ℕ) → how ≡ ending.Done → EndsUncounted how old new now now' below below' held kept → kept ≡ []
full-flushed how old new now now' below below' held kept done e = (subst (λ h. EndsUncounted h old new now now' below below' held kept) done e).none
