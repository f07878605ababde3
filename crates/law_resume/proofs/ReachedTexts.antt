-- The reply to CHECKPOINT, and the rest of a text behind it.
use Rattle.std.proofs.Common.{◌≡◌, ℕ, false, List, [], ◌∷◌, ◌++◌, length, arith, refl, sym, ap, ◌∙◌, subst, append_assoc}
use Rattle.std.specs.List.{list_any, slice_split, AllByRecursion}
use Rattle.std.proofs.lemmas.List.Elements.{All-from_recursion, recursion_from_All}
use Rattle.std.proofs.lemmas.List.Splits.{slice_split_at, length-slice_split}
use Rattle.sql_text.specs.Lines.{is_line_feed, without_empty_last, lines}
use Rattle.sem_laws.proofs.Tests.{or-false}
use Rattle.exec_snapshot.specs.Lines.{text_of_lines}
use Rattle.cmd_session.specs.Answer.{Answer}
use Rattle.cmd_session.specs.Checkpoint.{checkpoint_lines}
use Rattle.cmd_session.specs.Replies.{AreAnswers}
use Rattle.cmd_session.specs.State.{State, initial, next_of, after}
use Rattle.law_resume.specs.Continuing.{unnumbered_reply, unnumbered_replies}
use Rattle.law_resume.specs.Restores.{IsOneLine, Restores}
use Rattle.law_resume.specs.Reached.{CheckpointContinuesTexts}
use Rattle.law_resume.proofs.Leading.{answers_joined}
use Rattle.law_resume.proofs.Reached.{checkpoint_of_reached}

-- a text of lines is cut at their ends
each_none : (bs : List ℕ) → list_any is_line_feed bs ≡ false → AllByRecursion (λ b. is_line_feed b ≡ false) bs
each_none [] h = tt
each_none (b ∷ bs) h = (let both = or-false (is_line_feed b) (list_any is_line_feed bs) h in (both.0, each_none bs both.1))

-- a text has a last piece, which may be empty
some_piece : (text : List ℕ) → slice_split is_line_feed text ≡ [] → ⊥
some_piece text e = (let n = length-slice_split is_line_feed text in let m = ap length e in omega (arith, n, m))

with_more : (line : List ℕ) (pieces : List (List ℕ)) → (pieces ≡ [] → ⊥) → without_empty_last (line ∷ pieces) ≡ line ∷ without_empty_last pieces
with_more line [] some = absurd (some refl)
with_more [] (p ∷ pieces) some = refl
with_more (b ∷ bs) (p ∷ pieces) some = refl

line_first : (line rest : List ℕ) → IsOneLine line → lines (line ++ 10 ∷ rest) ≡ line ∷ lines rest
line_first line rest h =
    ap without_empty_last (slice_split_at is_line_feed line 10 rest (All-from_recursion (λ b. is_line_feed b ≡ false) line (each_none line h)) refl)
    ∙ with_more line (slice_split is_line_feed rest) (some_piece rest)

lines_first : (ls : List (List ℕ)) (rest : List ℕ) → AllByRecursion IsOneLine ls → lines (text_of_lines ls ++ rest) ≡ ls ++ lines rest
lines_first [] rest h = refl
lines_first (l ∷ ls) rest h =
    ap lines (append_assoc (l ++ 10 ∷ []) (text_of_lines ls) rest ∙ append_assoc l (10 ∷ []) (text_of_lines ls ++ rest))
    ∙ line_first l (text_of_lines ls ++ rest) h.0 ∙ ap (λ (more : List (List ℕ)). l ∷ more) (lines_first ls rest h.1)

-- replies one after another
replies_joined : (s : State) (xs ys : List Answer) → unnumbered_replies s (xs ++ ys) ≡ unnumbered_replies s xs ++ unnumbered_replies (after s xs) ys
unfolding after unnumbered_replies
replies_joined s [] ys = refl
replies_joined s (x ∷ xs) ys = ap (λ (more : List (List ℕ)). unnumbered_reply s x ∷ more) (replies_joined (next_of s x) xs ys)

pub checkpoint_continues_texts : CheckpointContinuesTexts
checkpoint_continues_texts limit small s is unlocked rest answers answered none =
    let all = checkpoint_of_reached limit small s is unlocked in
    let r : Restores s = all.0 in
    let told : List Answer = r.leads.answers in
    let goes = all.1 (lines rest) answers none answered in
    let from : State = initial s.limit s.pages in
    let whole : lines (text_of_lines (checkpoint_lines s) ++ rest) ≡ checkpoint_lines s ++ lines rest = lines_first (checkpoint_lines s) rest (recursion_from_All IsOneLine (checkpoint_lines s) r.leads.whole) in
    let there : AreAnswers (after from told) (lines rest) answers = subst (λ (x : State). AreAnswers x (lines rest) answers) (sym r.leads.is) goes.0 in (
      told,
      subst (λ (ls : List (List ℕ)). AreAnswers from ls (told ++ answers)) (sym whole) (answers_joined from (checkpoint_lines s) (lines rest) told answers r.leads.answered there),
      replies_joined from told answers
          ∙ ap (λ (x : State). unnumbered_replies from told ++ unnumbered_replies x answers) r.leads.is
          ∙ ap (λ (ts : List (List ℕ)). unnumbered_replies from told ++ ts) (sym goes.1),
    )
