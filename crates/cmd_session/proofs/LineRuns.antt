-- Lines that are answered one after another.
use Rattle.std.proofs.Common.{◌≡◌, ℕ, ◌+◌, List, [], ◌∷◌, ◌++◌, refl, sym, ap, ◌∙◌, append_assoc, append-nil}
use Rattle.sql_text.specs.Lines.{lines}
use Rattle.sql_text.proofs.LinesInPieces.{cuts_at_line_end}
use Rattle.cmd_session.specs.Request.{silent, created, asked, explained, dropped, taken, saved, resumed, based, locked, unlocked, refused}
use Rattle.cmd_session.specs.Answer.{Answer, plain, registered, decided}
use Rattle.cmd_session.specs.State.{State, empty, next_of, after}
use Rattle.cmd_session.specs.Answers.{IsAnswer}
use Rattle.cmd_session.specs.Replies.{reply_to, replies, AreAnswers}
use Rattle.cmd_session.specs.Laws.{AnswersPieceByPiece}

pub after-push : (s : State) (front : List Answer) (answer : Answer) → after s (front ++ answer ∷ []) ≡ next_of (after s front) answer
unfolding after
after-push s [] answer = refl
after-push s (x ∷ front) answer = after-push (next_of s x) front answer

pub after-append : (s : State) (front others : List Answer) → after s (front ++ others) ≡ after (after s front) others
unfolding after
after-append s [] others = refl
after-append s (x ∷ front) others = after-append (next_of s x) front others

pub replies-append : (s : State) (front others : List Answer) → replies s (front ++ others) ≡ replies s front ++ replies (after s front) others
unfolding after replies
replies-append s [] others = refl
replies-append s (x ∷ front) others = ap (λ l. reply_to s x ++ l) (replies-append (next_of s x) front others) ∙ sym (append_assoc (reply_to s x) _ _)

pub replies-one : (s : State) (answer : Answer) → replies s (answer ∷ []) ≡ reply_to s answer
unfolding replies
replies-one s answer = append-nil (reply_to s answer)

-- lines and more lines come to what each come to
pub AreAnswers-append : (s : State) (lines more : List (List ℕ)) (answers others : List Answer) → AreAnswers s lines answers → AreAnswers (after s answers) more others → AreAnswers s (lines ++ more) (answers ++ others)
unfolding after
AreAnswers-append s [] more [] others p q = q
AreAnswers-append s [] more (a ∷ answers) others p q = absurd p
AreAnswers-append s (l ∷ lines) more [] others p q = absurd p
AreAnswers-append s (l ∷ lines) more (a ∷ answers) others p q = (p.0, AreAnswers-append (next_of s a) lines more answers others p.1 q)

-- one more line
pub AreAnswers-push : (s : State) (lines : List (List ℕ)) (answers : List Answer) (line : List ℕ) (answer : Answer) → AreAnswers s lines answers → IsAnswer (after s answers) line answer → AreAnswers s (lines ++ line ∷ []) (answers ++ answer ∷ [])
AreAnswers-push s lines answers line answer p q = AreAnswers-append s lines (line ∷ []) answers (answer ∷ []) p (q, tt)

-- each line is counted
pub next_of-lines : (s : State) (a : Answer) → (next_of s a).lines ≡ s.lines + 1
next_of-lines s (plain silent) = refl
next_of-lines s (plain (created name columns)) = refl
next_of-lines s (plain (asked name query shared)) = refl
next_of-lines s (plain (explained name)) = refl
next_of-lines s (plain (dropped name)) = refl
next_of-lines s (plain (taken stream row)) = refl
next_of-lines s (plain saved) = refl
next_of-lines s (plain (resumed n)) = refl
next_of-lines s (plain (based name base)) = refl
next_of-lines s (plain (locked lock)) = refl
next_of-lines s (plain unlocked) = refl
next_of-lines s (plain (refused word)) = refl
next_of-lines s (registered name query shared plan) = refl
next_of-lines s (decided name query verdict) = refl

pub answers_piece_by_piece : AnswersPieceByPiece
answers_piece_by_piece limit front rest answers others p q = record {
  answers = answers ++ others;
  answered = rw (cuts_at_line_end front rest) (AreAnswers-append (empty limit) (lines (front ++ 10 ∷ [])) (lines rest) answers others p q);
  replied = sym (replies-append (empty limit) answers others);
}
