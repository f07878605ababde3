-- A run over the input behind the lines of a file.
use Rattle.std.proofs.Common.{◌≡◌, ℕ, ◌≤◌, Bool, true, false, inl, inr, List, ◌++◌, refl, sym, ap, ◌∙◌, subst, append_assoc, arith, None, Some, IfSome, IsTrue}
use Rattle.std.specs.declared.option.Option.{Option}
use Rattle.std.specs.Io.KnownBytes.{Appends}
use Rattle.std.proofs.KnownBytes.{Appends-trans}
use Rattle.io_streams.specs.Source.{SourceState}
use Rattle.io_streams.specs.Sink.{SinkState}
use Rattle.io_streams.proofs.Writing.{Rose-earlier}
use Rattle.sql_text.specs.Lines.{lines}
use Rattle.cmd_session.specs.Request.{Request}
use Rattle.cmd_session.specs.Requests.{IsRequest}
use Rattle.cmd_session.specs.Answer.{Answer}
use Rattle.cmd_session.specs.Answers.{IsAnswer}
use Rattle.cmd_session.specs.State.{State, empty, after}
use Rattle.cmd_session.specs.Replies.{reply_to, replies, AreAnswers}
use Rattle.cmd_session.specs.Run.{WroteText, AtLine}
use Rattle.cmd_session.specs.Session.{SessionValue, StandsFor, creates}
use Rattle.cmd_session.specs.declared.run.Ending.{Ending}
use Rattle.cmd_session.specs.declared.run.Ending.TheVariants.{Done, ReadFault, WriteFault, Memory, ByteLimit}
use Rattle.cmd_session.proofs.LineRuns.{after-append, replies-append, AreAnswers-append}
use Rattle.cmd_each.specs.OneLine.{joined}
use Rattle.cmd_each.specs.Run.{WroteFormed}
use Rattle.cmd_each.proofs.FormedReplies.{formed-append}
use Rattle.cmd_dispatch.specs.Behind.{whole, reply_as, replies_as, StreamsAs, WroteAs, AtLineBehind, StopsInReply, StopsBeforeCreate, StopsUncounted, StreamsBehind}
use Rattle.cmd_dispatch.specs.Phases.{RanAs, AnsweredAs, AnsweredAll, FileRan}
use Rattle.cmd_dispatch.proofs.WholeLines.{lines-whole, lines-made}

replies_as-append : (each : Bool) (s : State) (front others : List Answer) → replies_as each s (front ++ others) ≡ replies_as each s front ++ replies_as each (after s front) others
replies_as-append false s front others = replies-append s front others
replies_as-append true s front others = formed-append joined s front others

-- The lines of a text came to these answers, and were answered.
record CameFirst (each : Bool) (s : State) (text : List ℕ) (answers : List Answer) (before middle : SinkState) : Type 0 where
  are : AreAnswers s (lines text) answers
  written : Appends before.written middle.written (replies_as each s answers)
  later : before.faults ≤ middle.faults

-- what was written first, and then more
written-behind : (each : Bool) (s : State) (answers others : List Answer) (before middle now : Option (List ℕ)) (more : List ℕ) → Appends before middle (replies_as each s answers)
    → Appends middle now (replies_as each (after s answers) others ++ more) → Appends before now (replies_as each s (answers ++ others) ++ more)
written-behind each s answers others before middle now more p q =
    subst (Appends before now)
    (sym (append_assoc (replies_as each s answers) (replies_as each (after s answers) others) more) ∙ ap (λ l. l ++ more) (sym (replies_as-append each s answers others)))
    (Appends-trans before middle now (replies_as each s answers) (replies_as each (after s answers) others ++ more) p q)

all-behind : (each : Bool) (s : State) (answers others : List Answer) (before middle now : Option (List ℕ)) → Appends before middle (replies_as each s answers)
    → Appends middle now (replies_as each (after s answers) others) → Appends before now (replies_as each s (answers ++ others))
all-behind each s answers others before middle now p q =
    subst (Appends before now) (sym (replies_as-append each s answers others)) (Appends-trans before middle now (replies_as each s answers) (replies_as each (after s answers) others) p q)

wrote-behind : (each : Bool) (s : State) (file text : List ℕ) (answers : List Answer) (before middle now : SinkState) → CameFirst each s file answers before middle → WroteAs each (after s answers) text middle now
    → WroteAs each s (whole file ++ text) before now
wrote-behind each s file text answers before middle now first w = record {
  answers = answers ++ w.answers;
  are = subst (λ ls. AreAnswers s ls (answers ++ w.answers)) (sym (lines-whole file text)) (AreAnswers-append s (lines file) (lines text) answers w.answers first.are w.are);
  written = all-behind each s answers w.answers before.written middle.written now.written first.written w.written;
}

abbrev at-behind : (s : State) (file : List ℕ) (answers : List Answer) (source now : SourceState) (text : List ℕ) → AreAnswers s (lines file) answers → AtLine (after s answers) source now text → AtLineBehind s (whole file) source now text
at-behind s file answers source now text are at = record {
  answered = at.answered;
  line = at.line;
  others = at.others;
  is_cut = at.whole;
  ended = at.ended;
  near = at.near;
  answers = answers ++ at.answers;
  are = subst (λ ls. AreAnswers s (ls ++ at.answered) (answers ++ at.answers)) (sym (lines-made file)) (AreAnswers-append s (lines file) at.answered answers at.answers are at.are);
}

in-reply : (each : Bool) (s : State) (file : List ℕ) (answers : List Answer) (source source' : SourceState) (text : List ℕ) (before middle now : SinkState) → CameFirst each s file answers before middle
    → (at : AtLine (after s answers) source source' text) (answer : Answer) → IsAnswer (after (after s answers) at.answers) at.line answer
    → (front rest : List ℕ) → reply_as each (reply_to (after (after s answers) at.answers) answer) ≡ front ++ rest → Appends middle.written now.written (replies_as each (after s answers) at.answers ++ front)
    → StopsInReply each s (whole file) source source' text before now
in-reply each s file answers source source' text before middle now first at answer comes front rest part written =
    let same = after-append s answers at.answers in
    record {
      at_line = at-behind s file answers source source' text first.are at;
      answer = answer;
      comes = subst (λ u. IsAnswer u at.line answer) (sym same) comes;
      front = front;
      rest = rest;
      part = ap (λ u. reply_as each (reply_to u answer)) same ∙ part;
      written = written-behind each s answers at.answers before.written middle.written now.written front first.written written;
    }

before-create : (each : Bool) (s : State) (file : List ℕ) (answers : List Answer) (source source' : SourceState) (text : List ℕ) (before middle now : SinkState) → CameFirst each s file answers before middle
    → (at : AtLine (after s answers) source source' text) (request : Request) → IsRequest (after (after s answers) at.answers) at.line request → IsTrue (creates request)
    → Appends middle.written now.written (replies_as each (after s answers) at.answers) → StopsBeforeCreate each s (whole file) source source' text before now
before-create each s file answers source source' text before middle now first at request asks makes written = record {
  at_line = at-behind s file answers source source' text first.are at;
  request = request;
  asks = subst (λ u. IsRequest u at.line request) (sym (after-append s answers at.answers)) asks;
  creates = makes;
  written = all-behind each s answers at.answers before.written middle.written now.written first.written written;
}

at-count : (each : Bool) (s : State) (file : List ℕ) (answers : List Answer) (source source' : SourceState) (text : List ℕ) (before middle now : SinkState) → CameFirst each s file answers before middle
    → (at : AtLine (after s answers) source source' text) → 18446744073709551614 ≤ (after (after s answers) at.answers).lines
    → Appends middle.written now.written (replies_as each (after s answers) at.answers) → StopsUncounted each s (whole file) source source' text before now
at-count each s file answers source source' text before middle now first at counted written = record {
  at_line = at-behind s file answers source source' text first.are at;
  counted = omega (arith, counted, ap (λ (u : State). u.lines) (after-append s answers at.answers));
  written = all-behind each s answers at.answers before.written middle.written now.written first.written written;
}

if-behind : (a b : Option (List ℕ)) (text : List ℕ) (P Q : Type 0) → Appends a b text → (P → Q) → IfSome b (λ _. P) → IfSome a (λ _. Q)
if-behind None b text P Q w f h = tt
if-behind (Some x) None text P Q w f h = absurd w
if-behind (Some x) (Some y) text P Q w f h = f h

text-as : (s : State) (text : List ℕ) (before now : SinkState) → WroteText s text before now → WroteAs false s text before now
text-as s text before now w = record { answers = w.is_text.answers; are = w.is_text.answered; written = subst (Appends before.written now.written) w.is_text.replied w.written }

each-as : (s : State) (text : List ℕ) (before now : SinkState) → WroteFormed joined s text before now → WroteAs true s text before now
each-as s text before now w = record { answers = w.answers; are = w.are; written = w.written }

streams-behind : (each : Bool) (how : Ending) (s : State) (file : List ℕ) (answers : List Answer) (source source' : SourceState) (before middle now : SinkState) → CameFirst each s file answers before middle
    → StreamsAs each how (after s answers) source source' middle now → StreamsBehind each (whole file) how s source source' before now
streams-behind false Done s file answers source source' before middle now first h = record {
  text = h.text;
  all = h.all;
  few = h.few;
  holds = wrote-behind false s file h.text answers before middle now first (text-as (after s answers) h.text middle now h.holds);
}
streams-behind true Done s file answers source source' before middle now first h = record {
  text = h.text;
  all = h.all;
  few = h.few;
  holds = wrote-behind true s file h.text answers before middle now first (each-as (after s answers) h.text middle now h.holds);
}
streams-behind false ReadFault s file answers source source' before middle now first h = (
  h.0,
  record {
    text = h.1.text;
    taken = h.1.taken;
    holds = wrote-behind false s file _ answers before middle now first (text-as (after s answers) _ middle now h.1.holds);
  },
)
streams-behind true ReadFault s file answers source source' before middle now first h = (
  h.0,
  record {
    text = h.1.text;
    taken = h.1.taken;
    holds = wrote-behind true s file _ answers before middle now first (each-as (after s answers) _ middle now h.1.holds);
  },
)
streams-behind false WriteFault s file answers source source' before middle now first h = (
  Rose-earlier _ _ _ first.later h.0,
  record {
    text = h.1.text;
    taken = h.1.taken;
    holds = if-behind before.written middle.written (replies_as false s answers) _ _ first.written (λ q. in-reply false s file answers source source' h.1.text before middle now first q.at_line q.answer q.comes q.front q.rest q.part q.written) h.1.holds;
  },
)
streams-behind true WriteFault s file answers source source' before middle now first h = (
  Rose-earlier _ _ _ first.later h.0,
  record {
    text = h.1.text;
    taken = h.1.taken;
    holds = if-behind before.written middle.written (replies_as true s answers) _ _ first.written (λ q. in-reply true s file answers source source' h.1.text before middle now first q.at_line q.answer q.comes q.front q.rest q.part q.written) h.1.holds;
  },
)
streams-behind false Memory s file answers source source' before middle now first h = record {
  text = h.text;
  taken = h.taken;
  holds = before-create false s file answers source source' h.text before middle now first h.holds.at_line h.holds.request h.holds.asks h.holds.creates h.holds.written;
}
streams-behind true Memory s file answers source source' before middle now first h = record {
  text = h.text;
  taken = h.taken;
  holds = before-create true s file answers source source' h.text before middle now first h.holds.at_line h.holds.request h.holds.asks h.holds.creates h.holds.written;
}
streams-behind false ByteLimit s file answers source source' before middle now first h = record {
  text = h.text;
  taken = h.taken;
  holds = elim h.holds [
    | inl q ↦ inl (q.0, wrote-behind false s file _ answers before middle now first (text-as (after s answers) _ middle now q.1))
    | inr q ↦ inr (at-count false s file answers source source' h.text before middle now first q.at_line q.counted q.written)
  ];
}
streams-behind true ByteLimit s file answers source source' before middle now first h = record {
  text = h.text;
  taken = h.taken;
  holds = elim h.holds [
    | inl q ↦ inl (q.0, wrote-behind true s file _ answers before middle now first (each-as (after s answers) _ middle now q.1))
    | inr q ↦ inr (at-count true s file answers source source' h.text before middle now first q.at_line q.counted q.written)
  ];
}

-- a run ended so
pub ran-ends : (each : Bool) (how : Ending) (s : State) (source source' : SourceState) (sink sink' : SinkState) → RanAs each how s source source' sink sink' → StreamsAs each how s source source' sink sink'
ran-ends false how s source source' sink sink' h = h.ends
ran-ends true how s source source' sink sink' h = h.ends

pub ran-input_later : (each : Bool) (how : Ending) (s : State) (source source' : SourceState) (sink sink' : SinkState) → RanAs each how s source source' sink sink' → source.faults ≤ source'.faults
ran-input_later false how s source source' sink sink' h = h.input_later
ran-input_later true how s source source' sink sink' h = h.input_later

pub ran-output_later : (each : Bool) (how : Ending) (s : State) (source source' : SourceState) (sink sink' : SinkState) → RanAs each how s source source' sink sink' → sink.faults ≤ sink'.faults
ran-output_later false how s source source' sink sink' h = h.output_later
ran-output_later true how s source source' sink sink' h = h.output_later

-- what came first, and the state behind it
record FirstAnswers (each : Bool) (s : State) (text : List ℕ) (before middle : SinkState) (new : SessionValue) : Type 0 where
  answers : List Answer
  first : CameFirst each s text answers before middle
  stands : StandsFor new (after s answers)

first-answers : (each : Bool) (s : State) (text : List ℕ) (before middle : SinkState) (new : SessionValue) → before.faults ≤ middle.faults → AnsweredAs each s text before middle new → FirstAnswers each s text before middle new
first-answers false s text before middle new later a = record { answers = a.answers; first = record { are = a.are; written = a.written; later = later }; stands = a.stands }
first-answers true s text before middle new later a = record { answers = a.answers; first = record { are = a.are; written = a.written; later = later }; stands = a.stands }

-- the session stands for some state behind the file
pub behind-stands : (each : Bool) (s : State) (file file' : SourceState) (before middle : SinkState) (new : SessionValue) → AnsweredAll each s file file' before middle new → (u : State) × StandsFor new u
behind-stands each s file file' before middle new all =
    let f = first-answers each s all.took.text before middle new all.output_later all.took.holds in
    (after s f.answers, f.stands)

-- a run over the input behind a file
pub behind-file : (each : Bool) (how : Ending) (s : State) (file file' input input' : SourceState) (before middle now : SinkState) (new : SessionValue) → AnsweredAll each s file file' before middle new
    → ((u : State) → StandsFor new u → RanAs each how u input input' middle now) → FileRan false each how s file file' input input' before now
behind-file each how s file file' input input' before middle now new all runs =
    let f = first-answers each s all.took.text before middle new all.output_later all.took.holds in
    let ran = runs (after s f.answers) f.stands in
    record {
      ends = record {
        text = all.took.text;
        all = all.took.all;
        few = all.took.few;
        ends = streams-behind each how s all.took.text f.answers input input' before middle now f.first (ran-ends each how (after s f.answers) input input' middle now ran);
      };
      file_later = all.input_later;
      input_later = ran-input_later each how (after s f.answers) input input' middle now ran;
      output_later = omega (arith, all.output_later, ran-output_later each how (after s f.answers) input input' middle now ran);
    }

pub as-one-input : (limit : ℕ) (file rest : List ℕ) (before now : SinkState) → WroteAs false (empty limit) (whole file ++ rest) before now → WroteText (empty limit) (whole file ++ rest) before now
as-one-input limit file rest before now w = record {
  replied = replies (empty limit) w.answers;
  is_text = record { answers = w.answers; answered = w.are; replied = refl };
  written = w.written;
}
