-- How far a load is.
use Rattle.std.proofs.Common.{◌≡◌, ℕ, ◌+◌, ◌*◌, ◌^◌, ◌<◌, ◌≤◌, cond, List, [], ◌∷◌, ◌++◌, length, refl, sym, ap, ◌∙◌, subst, append_assoc, append-nil, length-append, arith}
use Rattle.std.proofs.lemmas.List.Sums.{sum_by-append}
use Rattle.io_streams.specs.Memory.{MemSinkState, mem_sink_seen}
use Rattle.sql_text.specs.Lines.{is_line_feed}
use Rattle.cmd_load.specs.Script.{script_lines}
use Rattle.cmd_load.proofs.TextLines.{has_its_lines}
use Rattle.cmd_session.specs.declared.announced.Announced.{Announced}
use Rattle.cmd_session.specs.declared.outcome.LineOutcome.TheVariants as outcome
use Rattle.cmd_session.specs.Announced.{announced_by}
use Rattle.cmd_session.specs.State.{State, after}
use Rattle.cmd_session.specs.Session.{SessionValue, StandsFor, Answered}
use Rattle.cmd_session.specs.Replies.{reply_to, replies, AreAnswers}
use Rattle.cmd_session.specs.Answer.{Answer}
use Rattle.cmd_session.proofs.LineRuns.{after-push, replies-append, replies-one, AreAnswers-push, next_of-lines}
use Rattle.cmd_dispatch.specs.Load.{line_count, start, summary_text, Summarized}
use Rattle.cmd_dispatch.specs.Loading.{Counted, AnsweredScript}

-- the reply to a line stands alone in a sink in memory
pub counted : (s : State) (line : List ℕ) (new : SessionValue) (before now : MemSinkState) (n : ℕ) → before.bytes ≡ [] → Answered outcome.Done s line new (mem_sink_seen before) (mem_sink_seen now) → n ≡ line_count now.bytes
    → Counted s line new n
counted s line new before now n none a e = record {
  answer = a.does.answer;
  comes = record { request = a.request; asks = a.asks; settles = a.does.settles };
  stands = a.does.stands;
  count = e ∙ ap line_count (a.does.reply.bytes ∙ ap (λ l. l ++ reply_to s a.does.answer) none);
}

-- These lines of a script were answered, and these are left.
pub record LoadProgress (all left : List (List ℕ)) (session : SessionValue) (count : ℕ) : Type 0 where
  pub done : List (List ℕ)
  pub answers : List Answer
  pub whole : done ++ left ≡ all
  pub are : AreAnswers start done answers
  pub stands : StandsFor session (after start answers)
  pub lines : session.lines ≡ length done
  pub count_is : count ≡ line_count (replies start answers)
  pub few : count ≤ length done * 2 ^ 64

pub load_begins : (all : List (List ℕ)) (session : SessionValue) → StandsFor session start → LoadProgress all all session 0
unfolding after replies
load_begins all session stands = record {
  done = [];
  answers = [];
  whole = refl;
  are = tt;
  stands = stands;
  lines = stands.lines;
  count_is = refl;
  few = omega arith;
}

line_count-append : (front rest : List ℕ) → line_count (front ++ rest) ≡ line_count front + line_count rest
line_count-append front rest = sum_by-append (λ b. cond (is_line_feed b) 1 0) front rest

-- one more line was answered
pub load_next : (all left rest : List (List ℕ)) (line : List ℕ) (session new : SessionValue) (count n : ℕ) → LoadProgress all left session count → left ≡ line ∷ rest
    → ((s : State) → StandsFor session s → Counted s line new n) → n < 2 ^ 64 → LoadProgress all rest new (count + n)
load_next all left rest line session new count n p e tells small =
    let now = after start p.answers in
    let more = tells now p.stands in
    let longer : length (p.done ++ line ∷ []) ≡ length p.done + 1 = length-append p.done (line ∷ []) in
    let written : replies start (p.answers ++ more.answer ∷ []) ≡ replies start p.answers ++ reply_to now more.answer =
    replies-append start p.answers (more.answer ∷ []) ∙ ap (λ l. replies start p.answers ++ l) (replies-one now more.answer) in
    record {
      done = p.done ++ line ∷ [];
      answers = p.answers ++ more.answer ∷ [];
      whole = append_assoc p.done (line ∷ []) rest ∙ ap (λ l. p.done ++ l) (sym e) ∙ p.whole;
      are = AreAnswers-push start p.done p.answers line more.answer p.are more.comes;
      stands = subst (λ s. StandsFor new s) (sym (after-push start p.answers more.answer)) more.stands;
      lines = omega (arith, more.stands.lines, next_of-lines now more.answer, p.stands.lines, p.lines, longer);
      count_is = ap (λ m. m + n) p.count_is ∙ ap (λ m. line_count (replies start p.answers) + m) more.count
          ∙ sym (line_count-append (replies start p.answers) (reply_to now more.answer)) ∙ ap line_count (sym written);
      few = omega (arith, p.few, longer);
    }

pub load_done : (all : List (List ℕ)) (session : SessionValue) (count : ℕ) → LoadProgress all [] session count → AnsweredScript all session count
load_done all session count p = record {
  answers = p.answers;
  are = subst (λ l. AreAnswers start l p.answers) (sym (append-nil p.done) ∙ p.whole) p.are;
  stands = p.stands;
  count = p.count_is;
}

-- what holds of the summary of the numbers that were found
pub summarized : (rows lines : ℕ) (announced : Announced) (new : SessionValue) (script : List (List ℕ)) (summary : List ℕ) (P : List ℕ → Type 0) → script ≡ script_lines rows → AnsweredScript script new lines
    → ((s : State) → StandsFor new s → announced ≡ announced_by s.queries) → summary ≡ summary_text rows lines announced → P summary → Summarized rows P
summarized rows lines announced new script summary P is_script a tells is_summary holds =
    let live = announced_by (after start a.answers).queries in
    let same : announced ≡ live = tells (after start a.answers) a.stands in
    record {
      text = replies start a.answers;
      is_text = record {
        answers = a.answers;
        answered = subst (λ l. AreAnswers start l a.answers) (is_script ∙ sym (has_its_lines rows)) a.are;
        replied = refl;
      };
      holds = subst P (is_summary ∙ ap (λ n. summary_text rows n announced) a.count ∙ ap (summary_text rows (line_count (replies start a.answers))) same) holds;
    }
