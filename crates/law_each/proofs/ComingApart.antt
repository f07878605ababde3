-- Joined replies come apart.
use Rattle.std.proofs.Common.{◌≡◌, ℕ, ◌≤◌, ◌^◌, ◌==◌, Bool, true, false, cond, not, List, [], ◌∷◌, ◌++◌, length, map, append_assoc, append-nil, refl, sym, ap, ap₂, ◌∙◌, subst, arith}
use Rattle.std.specs.List.{AllByRecursion, list_all, slice_split}
use Rattle.std.proofs.lemmas.Bool.Decides.{nat_tests}
use Rattle.std.proofs.lemmas.List.{map-append}
use Rattle.std.proofs.lemmas.List.Concat.{flat_map-append}
use Rattle.std.proofs.lemmas.List.Elements.{All-from_recursion}
use Rattle.std.proofs.lemmas.List.Splits.{slice_split_at, length-slice_split}
use Rattle.exec_snapshot.specs.Lines.{text_of_lines}
use Rattle.cmd_each.proofs.LastBytes.{without-append}
use Rattle.cmd_each.specs.Each.{formed}
use Rattle.cmd_each.specs.Exchange.{exchanged}
use Rattle.cmd_each.specs.OneLine.{joined, without_feed}
use Rattle.law_resume.proofs.Leading.{after_joined, answers_joined}
use Rattle.law_resume.specs.Reached.{IsReached}
use Rattle.cmd_session.specs.Answer.{Answer}
use Rattle.cmd_session.specs.Answers.{IsAnswer}
use Rattle.cmd_session.specs.Replies.{AreAnswers, replies, reply_to}
use Rattle.cmd_session.specs.State.{State, after, empty, initial, next_of}
use Rattle.sql_text.proofs.Fronts.{and_left, and_right, and_both, all_weaker}
use Rattle.sql_text.specs.Lines.{is_line_feed, lines, without_empty_last}
use Rattle.law_each.specs.ComesApart.{apart, is_inner, without_empty, IsReplyLine, IsLines, EachComesApart}
use Rattle.law_each.proofs.RepliesAreLines.{replies_are_lines}

-- a text of lines is cut at their ends
no_feed : (b : ℕ) → is_inner b ≡ true → is_line_feed b ≡ false
no_feed b h = grind (arith, nat_tests)

each_none : (bs : List ℕ) → list_all is_inner bs ≡ true → AllByRecursion (λ b. is_line_feed b ≡ false) bs
each_none [] h = tt
each_none (b ∷ bs) h = (no_feed b (and_left (is_inner b) (list_all is_inner bs) h), each_none bs (and_right (is_inner b) (list_all is_inner bs) h))

some_piece : (text : List ℕ) → slice_split is_line_feed text ≡ [] → ⊥
some_piece text e = (let n = length-slice_split is_line_feed text in let m = ap length e in omega (arith, n, m))

with_more : (line : List ℕ) (pieces : List (List ℕ)) → (pieces ≡ [] → ⊥) → without_empty_last (line ∷ pieces) ≡ line ∷ without_empty_last pieces
with_more line [] some = absurd (some refl)
with_more [] (p ∷ pieces) some = refl
with_more (b ∷ bs) (p ∷ pieces) some = refl

line_first : (line rest : List ℕ) → list_all is_inner line ≡ true → lines (line ++ 10 ∷ rest) ≡ line ∷ lines rest
line_first line rest h =
    ap without_empty_last (slice_split_at is_line_feed line 10 rest (All-from_recursion (λ b. is_line_feed b ≡ false) line (each_none line h)) refl)
    ∙ with_more line (slice_split is_line_feed rest) (some_piece rest)

line_inner : (line : List ℕ) → IsReplyLine line → list_all is_inner line ≡ true
line_inner [] is = absurd is
line_inner (b ∷ bytes) is = is

lines_first : (ls : List (List ℕ)) (rest : List ℕ) → AllByRecursion IsReplyLine ls → lines (text_of_lines ls ++ rest) ≡ ls ++ lines rest
lines_first [] rest h = refl
lines_first (l ∷ ls) rest h =
    ap lines (append_assoc (l ++ 10 ∷ []) (text_of_lines ls) rest ∙ append_assoc l (10 ∷ []) (text_of_lines ls ++ rest))
    ∙ line_first l (text_of_lines ls ++ rest) (line_inner l h.0) ∙ ap (λ (more : List (List ℕ)). l ∷ more) (lines_first ls rest h.1)

stay : (ls others : List (List ℕ)) → AllByRecursion IsReplyLine ls → without_empty (ls ++ others) ≡ ls ++ without_empty others
stay [] others h = refl
stay ([] ∷ ls) others h = absurd h.0
stay ((b ∷ bytes) ∷ ls) others h = ap (λ (more : List (List ℕ)). (b ∷ bytes) ∷ more) (stay ls others h.1)

-- a text without `;` is exchanged, and taken apart again
abbrev is_plain : ℕ → Bool
is_plain b = not (b == 59)

inner_plain : (b : ℕ) → is_inner b ≡ true → is_plain b ≡ true
inner_plain b h = grind (arith, nat_tests)

plain_joined : (a b : List ℕ) → list_all is_plain a ≡ true → list_all is_plain b ≡ true → list_all is_plain (a ++ b) ≡ true
plain_joined [] b h k = k
plain_joined (x ∷ a) b h k = and_both (is_plain x) (list_all is_plain (a ++ b)) (and_left (is_plain x) (list_all is_plain a) h) (plain_joined a b (and_right (is_plain x) (list_all is_plain a) h) k)

plain_front : (a b : List ℕ) → list_all is_plain (a ++ b) ≡ true → list_all is_plain a ≡ true
plain_front [] b h = refl
plain_front (x ∷ a) b h = and_both (is_plain x) (list_all is_plain a) (and_left (is_plain x) (list_all is_plain (a ++ b)) h) (plain_front a b (and_right (is_plain x) (list_all is_plain (a ++ b)) h))

lines_plain : (ls : List (List ℕ)) → AllByRecursion IsReplyLine ls → list_all is_plain (text_of_lines ls) ≡ true
lines_plain [] h = refl
lines_plain (l ∷ ls) h = plain_joined (l ++ 10 ∷ []) (text_of_lines ls) (plain_joined l (10 ∷ []) (all_weaker is_inner is_plain inner_plain l (line_inner l h.0)) refl) (lines_plain ls h.1)

back : (b : ℕ) → is_plain b ≡ true → cond (exchanged b == 59) 10 (exchanged b) ≡ b
back b h = grind (arith, nat_tests)

all_back : (text : List ℕ) → list_all is_plain text ≡ true → apart (map exchanged text) ≡ text
all_back [] h = refl
all_back (b ∷ text) h = ap₂ (λ (x : ℕ) (xs : List ℕ). x ∷ xs) (back b (and_left (is_plain b) (list_all is_plain text) h)) (all_back text (and_right (is_plain b) (list_all is_plain text) h))

feed_last : (l : List ℕ) (ls : List (List ℕ)) → (front : List ℕ) × (text_of_lines (l ∷ ls) ≡ front ++ 10 ∷ [])
feed_last l [] = (l, append-nil (l ++ 10 ∷ []))
feed_last l (m ∷ ls) = (let rest = feed_last m ls in ((l ++ 10 ∷ []) ++ rest.0, ap (λ t. (l ++ 10 ∷ []) ++ t) rest.1 ∙ sym (append_assoc (l ++ 10 ∷ []) rest.0 (10 ∷ []))))

-- a reply that is joined is taken apart into its lines
joined_apart : (l : List ℕ) (ls : List (List ℕ)) → AllByRecursion IsReplyLine (l ∷ ls) → apart (joined (text_of_lines (l ∷ ls))) ≡ text_of_lines (l ∷ ls)
joined_apart l ls h =
    let last = feed_last l ls in
    let front = last.0 in
    let without : without_feed (text_of_lines (l ∷ ls)) ≡ front = ap without_feed last.1 ∙ without-append front 10 [] ∙ append-nil front in
    let plain = plain_front front (10 ∷ []) (subst (λ (t : List ℕ). list_all is_plain t ≡ true) last.1 (lines_plain (l ∷ ls) h)) in
    ap (λ (t : List ℕ). apart (map exchanged t ++ 10 ∷ [])) without
    ∙ map-append (λ b. cond (b == 59) 10 b) (map exchanged front) (10 ∷ [])
    ∙ ap (λ (t : List ℕ). t ++ 10 ∷ []) (all_back front plain)
    ∙ sym last.1

-- each of these answers is replied by lines
abbrev AreLines : State → List Answer → Type 0
AreLines s [] = Unit {0}
AreLines s (answer ∷ others) = IsLines (reply_to s answer) × AreLines (next_of s answer) others

abbrev told_again : List ℕ → List ℕ
told_again text = text_of_lines (without_empty (lines text))

one_apart : (reply rest : List ℕ) → IsLines reply → told_again (apart (joined reply) ++ rest) ≡ reply ++ told_again rest
one_apart reply rest is = by is.parts is.are is.whole
  where
    by : (parts : List (List ℕ)) → AllByRecursion IsReplyLine parts → reply ≡ text_of_lines parts → told_again (apart (joined reply) ++ rest) ≡ reply ++ told_again rest
    by [] are e =
        ap (λ (t : List ℕ). told_again (apart (joined t) ++ rest)) e
        ∙ ap (λ (ls : List (List ℕ)). text_of_lines (without_empty ls)) (line_first [] rest refl)
        ∙ ap (λ (t : List ℕ). t ++ told_again rest) (sym e)
    by (l ∷ ls) are e =
        ap (λ (t : List ℕ). told_again (apart (joined t) ++ rest)) e
        ∙ ap (λ (t : List ℕ). told_again (t ++ rest)) (joined_apart l ls are)
        ∙ ap (λ (xs : List (List ℕ)). text_of_lines (without_empty xs)) (lines_first (l ∷ ls) rest are)
        ∙ ap text_of_lines (stay (l ∷ ls) (lines rest) are)
        ∙ flat_map-append (λ line. line ++ 10 ∷ []) (l ∷ ls) (without_empty (lines rest))
        ∙ ap (λ (t : List ℕ). t ++ told_again rest) (sym e)

all_apart : (s : State) (answers : List Answer) → AreLines s answers → told_again (apart (formed joined s answers)) ≡ replies s answers
unfolding formed replies
all_apart s [] h = refl
all_apart s (answer ∷ others) h =
    ap told_again (map-append (λ b. cond (b == 59) 10 b) (joined (reply_to s answer)) (formed joined (next_of s answer) others))
    ∙ one_apart (reply_to s answer) (apart (formed joined (next_of s answer) others)) h.0
    ∙ ap (λ (t : List ℕ). reply_to s answer ++ t) (all_apart (next_of s answer) others h.1)

-- one line more leads to the next state
reached_next : (limit : ℕ) (s : State) (line : List ℕ) (answer : Answer) → IsReached limit s → IsAnswer s line answer → IsReached limit (next_of s answer)
unfolding after
reached_next limit s line answer r is = record {
  pages = r.pages;
  lines = r.lines ++ line ∷ [];
  answers = r.answers ++ answer ∷ [];
  answered = answers_joined (initial limit r.pages) r.lines (line ∷ []) r.answers (answer ∷ []) r.answered (subst (λ (x : State). AreAnswers x (line ∷ []) (answer ∷ [])) (sym r.is) (is, tt));
  is = after_joined (initial limit r.pages) r.answers (answer ∷ []) ∙ ap (λ (x : State). next_of x answer) r.is;
}

are_lines : (limit : ℕ) → limit ≤ 2 ^ 40 → (s : State) (ls : List (List ℕ)) (answers : List Answer) → IsReached limit s → AreAnswers s ls answers → AreLines s answers
are_lines limit small s [] [] r are = tt
are_lines limit small s [] (answer ∷ others) r are = absurd are
are_lines limit small s (line ∷ ls) [] r are = absurd are
are_lines limit small s (line ∷ ls) (answer ∷ others) r are = (
  replies_are_lines limit small s r line answer are.0,
  are_lines limit small (next_of s answer) ls others (reached_next limit s line answer r are.0) are.1,
)

first_reached : (limit : ℕ) → IsReached limit (empty limit)
unfolding after
first_reached limit = record { pages = 16384; lines = []; answers = []; answered = tt; is = refl }

pub each_comes_apart : EachComesApart
each_comes_apart limit small text answers are = all_apart (empty limit) answers (are_lines limit small (empty limit) (lines text) answers (first_reached limit) are)
