-- How far a text is fed: which of its lines were answered, and which replies were added.
use Rattle.std.proofs.Common.{◌≡◌, ℕ, ◌+◌, ◌<◌, List, [], ◌∷◌, ◌++◌, length, take, drop, length-append, refl, sym, ap, ◌∙◌, subst, append_assoc, append-nil, arith, Option, Some}
use Rattle.std.proofs.lemmas.List.{drop-drop}
use Rattle.std.specs.Io.KnownBytes.{Appends}
use Rattle.io_streams.specs.Sink.{SinkState}
use Rattle.sql_text.specs.Lines.{lines}
use Rattle.io_line_reader.specs.Reading.{IsFirstFeed}
use Rattle.cmd_session.specs.declared.outcome.LineOutcome.{LineOutcome}
use Rattle.cmd_session.specs.declared.outcome.LineOutcome.TheVariants.{Done, Memory, WriteFault}
use Rattle.cmd_session.specs.Answer.{Answer}
use Rattle.cmd_session.specs.State.{State, one_line_more, next_of, after}
use Rattle.cmd_session.specs.Replies.{reply_to, replies}
use Rattle.cmd_session.specs.Session.{SessionValue, StandsFor, Answered}
use Rattle.cmd_session.specs.Run.{HasState}
use Rattle.cmd_session.proofs.LineRuns.{after-push, replies-append, replies-one, AreAnswers-push, next_of-lines}
use Rattle.lib_session.specs.Fed.{AreBounded, FedWithin, FedToCreate, FedToReply, UpToLine}
use Rattle.lib_session.proofs.FirstLines.{first_line}

-- before any line
pub begins : (s : State) (text : List ℕ) (most : ℕ) (held : List ℕ) (session : SessionValue) → StandsFor session s → FedWithin s text 0 most held held session
unfolding after replies
begins s text most held session stands = record {
  fed = record { answered = []; whole = refl; answers = []; are = tt; written = sym (append-nil held); stands = stands };
  bounded = tt;
}

-- what is held may be told otherwise
pub same_held : (s : State) (text : List ℕ) (taken most : ℕ) (held mid now : List ℕ) (session : SessionValue) → FedWithin s text taken most held mid session → now ≡ mid → FedWithin s text taken most held now session
same_held s text taken most held mid now session p same = subst (λ (k : List ℕ). FedWithin s text taken most held k session) (sym same) p

-- one answer more, before which fewer bytes are held
bounded-push : (most : ℕ) (s : State) (held : ℕ) (answers : List Answer) (answer : Answer) → AreBounded most s held answers → held + length (replies s answers) < most → AreBounded most s held (answers ++ answer ∷ [])
unfolding replies
bounded-push most s held [] answer p few = (omega (arith, few), tt)
bounded-push most s held (a ∷ answers) answer p few =
    (p.0, bounded-push most (next_of s a) (held + length (reply_to s a)) answers answer p.1 (omega (arith, few, length-append (reply_to s a) (replies (next_of s a) answers))))

-- each line is counted, however it goes
pub counted : (how : LineOutcome) (s : State) (line : List ℕ) (old new : SessionValue) (before after : SinkState) → StandsFor old s → Answered how s line new before after → new.lines ≡ old.lines + 1
counted Done s line old new before after st a = omega (arith, a.does.stands.lines, next_of-lines s a.does.answer, st.lines)
counted WriteFault s line old new before after st a = omega (arith, a.does.stands.lines, next_of-lines s a.does.answer, st.lines)
counted Memory s line old new before after st a = omega (arith, a.does.1.lines, st.lines)

-- and the session stands for some state then
pub leaves : (how : LineOutcome) (s : State) (line : List ℕ) (new : SessionValue) (before after : SinkState) → Answered how s line new before after → HasState new
leaves Done s line new before after a = record { state = next_of s a.does.answer; stands = a.does.stands }
leaves WriteFault s line new before after a = record { state = next_of s a.does.answer; stands = a.does.stands }
leaves Memory s line new before after a = record { state = one_line_more s; stands = a.does.1 }

module _ (s : State) (text : List ℕ) (taken len most : ℕ) (held mid full rest : List ℕ) (old new : SessionValue) (before now : SinkState)
    (p : FedWithin s text taken most held mid old) (at : rest ≡ drop taken text) (feed : IsFirstFeed rest len) (few : length mid < most) (told : before.written ≡ Some mid) (told' : now.written ≡ Some full) where
  abbrev line : List ℕ
  line = take len rest

  cut : lines text ≡ p.fed.answered ++ line ∷ lines (drop (taken + (len + 1)) text)
  cut =
      let behind : drop (len + 1) rest ≡ drop (taken + (len + 1)) text = ap (λ (r : List ℕ). drop (len + 1) r) at ∙ drop-drop (len + 1) taken text in
      p.fed.whole ∙ ap (λ (l : List (List ℕ)). p.fed.answered ++ l) (ap lines (sym at) ∙ first_line rest len feed ∙ ap (λ (r : List ℕ). line ∷ lines r) behind)

  abbrev up_to : UpToLine s text (taken + (len + 1)) most (length held)
  up_to = record { answered = p.fed.answered; line = line; whole = cut; answers = p.fed.answers; are = p.fed.are; bounded = p.bounded }

  -- what is held then, by what a line adds
  adds : (reply : List ℕ) → Appends before.written now.written reply → full ≡ held ++ (replies s p.fed.answers ++ reply)
  adds reply e =
      let same : full ≡ mid ++ reply = subst (λ (o : Option (List ℕ)). Appends (Some mid) o reply) told' (subst (λ (o : Option (List ℕ)). Appends o now.written reply) told e) in
      same ∙ ap (λ (l : List ℕ). l ++ reply) p.fed.written ∙ append_assoc held (replies s p.fed.answers) reply

  pub grows : (how : LineOutcome) → how ≡ Done → Answered how (after s p.fed.answers) line new before now → FedWithin s text (taken + (len + 1)) most held full new
  grows how is given =
      let a = subst (λ (h : LineOutcome). Answered h (after s p.fed.answers) line new before now) is given in
      let answer = a.does.answer in
      let room : length held + length (replies s p.fed.answers) < most = omega (arith, few, ap length p.fed.written, length-append held (replies s p.fed.answers)) in
      let both : replies s p.fed.answers ++ reply_to (after s p.fed.answers) answer ≡ replies s (p.fed.answers ++ answer ∷ []) =
      sym (replies-append s p.fed.answers (answer ∷ []) ∙ ap (λ (l : List ℕ). replies s p.fed.answers ++ l) (replies-one (after s p.fed.answers) answer)) in
      record {
        fed = record {
          answered = p.fed.answered ++ line ∷ [];
          whole = cut ∙ sym (append_assoc p.fed.answered (line ∷ []) (lines (drop (taken + (len + 1)) text)));
          answers = p.fed.answers ++ answer ∷ [];
          are = AreAnswers-push s p.fed.answered p.fed.answers line answer p.fed.are (record { request = a.request; asks = a.asks; settles = a.does.settles });
          written = adds (reply_to (after s p.fed.answers) answer) a.does.reply.bytes ∙ ap (λ (l : List ℕ). held ++ l) both;
          stands = subst (λ (u : State). StandsFor new u) (sym (after-push s p.fed.answers answer)) a.does.stands;
        };
        bounded = bounded-push most s (length held) p.fed.answers answer p.bounded room;
      }

  pub lacks_memory : (how : LineOutcome) → how ≡ Memory → Answered how (after s p.fed.answers) line new before now → FedToCreate s text (taken + (len + 1)) most held full new
  lacks_memory how is given =
      let a = subst (λ (h : LineOutcome). Answered h (after s p.fed.answers) line new before now) is given in
      record {
        up = up_to;
        request = a.request;
        asks = a.asks;
        creates = a.does.0;
        written = adds [] a.does.2.bytes ∙ ap (λ (l : List ℕ). held ++ l) (append-nil (replies s p.fed.answers));
        stands = a.does.1;
      }

  pub breaks_off : (how : LineOutcome) → how ≡ WriteFault → Answered how (after s p.fed.answers) line new before now → FedToReply s text (taken + (len + 1)) most held full new
  breaks_off how is given =
      let a = subst (λ (h : LineOutcome). Answered h (after s p.fed.answers) line new before now) is given in
      record {
        up = up_to;
        answer = a.does.answer;
        comes = record { request = a.request; asks = a.asks; settles = a.does.settles };
        front = a.does.reply.front;
        rest = a.does.reply.rest;
        part = a.does.reply.whole;
        written = adds a.does.reply.front a.does.reply.wrote.bytes;
        stands = a.does.stands;
      }
