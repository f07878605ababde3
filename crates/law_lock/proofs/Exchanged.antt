-- Lines under a lock that are exchanged for others.
use Rattle.std.proofs.Common.{◌≡◌, ℕ, ℤ, List, [], ◌∷◌, Some, inl, inr, refl, sym, ap, ◌∙◌, subst}
use Rattle.cmd_session.specs.Answer.{Answer, plain}
use Rattle.cmd_session.specs.Answers.{IsAnswer}
use Rattle.cmd_session.specs.Lock.{Lock}
use Rattle.cmd_session.specs.Replies.{reply_to, AreAnswers}
use Rattle.cmd_session.specs.Request.{taken}
use Rattle.cmd_session.specs.State.{State, one_line_more, next_of, after}
use Rattle.cmd_session.proofs.OneAnswer.{one_answer}
use Rattle.law_lock.specs.Kept.{row_in, RepliedAlike, LinesAreExchanged}
use Rattle.law_lock.proofs.Keeping.{IsLetAnswer, idle, rowed, let_answer}

no_row : (stream : ℕ) (values : List ℤ) (answer : Answer) → answer ≡ plain (taken stream values) → row_in answer ≡ [] → ⊥
no_row stream values answer e none = (let one : row_in (plain (taken stream values)) ≡ [] = subst (λ x. row_in x ≡ []) e none in cc)

idle_next : (s : State) (lock : Lock) (answer : Answer) → IsLetAnswer lock answer → row_in answer ≡ [] → next_of s answer ≡ one_line_more s
idle_next s lock answer (idle none next) e = next s
idle_next s lock answer (rowed stream values opens is) e = absurd (no_row stream values answer is e)

keeps_lock : (s : State) (lock : Lock) (answer : Answer) → s.lock ≡ Some lock → IsLetAnswer lock answer → (next_of s answer).lock ≡ Some lock
keeps_lock s lock answer e (idle none next) = ap (λ (t : State). t.lock) (next s) ∙ e
keeps_lock s lock answer e (rowed stream values opens is) = ap (λ (x : Answer). (next_of s x).lock) is ∙ e

pub lines_are_exchanged : LinesAreExchanged
unfolding after
lines_are_exchanged s lock [] [] [] [] e p q n m x = (refl, tt)
lines_are_exchanged s lock (line ∷ lines) (other ∷ others) (a ∷ xs) (b ∷ ys) e p q n m x =
    let here = let_answer s lock line a e p.0 n.0 in
    let there = let_answer s lock other b e q.0 m.0 in
    let same : line ≡ other → a ≡ b = λ l. one_answer s other a b (subst (λ t. IsAnswer s t a) l p.0) q.0 in
    let next : next_of s a ≡ next_of s b = elim x.0 [
      | inl l ↦ ap (next_of s) (same l)
      | inr none ↦ idle_next s lock a here none.0 ∙ sym (idle_next s lock b there none.1)
    ] in
    let rest = lines_are_exchanged (next_of s a) lock lines others xs ys (keeps_lock s lock a e here) p.1 (subst (λ t. AreAnswers t others ys) (sym next) q.1) n.1 m.1 x.1 in
    (rest.0 ∙ ap (λ t. after t ys) next, ((λ l. ap (reply_to s) (same l)), subst (λ t. RepliedAlike (next_of s a) t lines others xs ys) next rest.1))
lines_are_exchanged s lock [] [] [] (b ∷ ys) e p q n m x = absurd x
lines_are_exchanged s lock [] [] (a ∷ xs) ys e p q n m x = absurd p
lines_are_exchanged s lock [] (other ∷ others) [] [] e p q n m x = absurd x
lines_are_exchanged s lock [] (other ∷ others) [] (b ∷ ys) e p q n m x = absurd x
lines_are_exchanged s lock [] (other ∷ others) (a ∷ xs) ys e p q n m x = absurd p
lines_are_exchanged s lock (line ∷ lines) [] [] ys e p q n m x = absurd p
lines_are_exchanged s lock (line ∷ lines) [] (a ∷ xs) [] e p q n m x = absurd x
lines_are_exchanged s lock (line ∷ lines) [] (a ∷ xs) (b ∷ ys) e p q n m x = absurd q
lines_are_exchanged s lock (line ∷ lines) (other ∷ others) [] ys e p q n m x = absurd p
lines_are_exchanged s lock (line ∷ lines) (other ∷ others) (a ∷ xs) [] e p q n m x = absurd q
