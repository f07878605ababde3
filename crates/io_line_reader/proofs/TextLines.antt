-- The text of lines, and its lines.
use Rattle.std.proofs.Common.{◌≡◌, ℕ, suc, ◌+◌, Bool, true, false, ◌||◌, cond, List, [], ◌∷◌, ◌++◌, length, refl, sym, ap, ◌∙◌, append_assoc, append-nil, length-append, arith}
use Rattle.std.specs.List.{list_any}
use Rattle.std.proofs.lemmas.Bool.{ne_eqb}
use Rattle.std.proofs.lemmas.List.Concat.{flat_map-append}
use Rattle.sql_text.specs.Lines.{is_line_feed}
use Rattle.io_line_reader.specs.Reading.{IsPlain}
use Rattle.io_line_reader.specs.Texts.{text_of, ended_part}

pub text_of-append : (front others : List (List ℕ)) → text_of (front ++ others) ≡ text_of front ++ text_of others
text_of-append front others = flat_map-append (λ line. line ++ 10 ∷ []) front others

pub text_of-one : (line : List ℕ) → text_of (line ∷ []) ≡ line ++ 10 ∷ []
text_of-one line = append-nil (line ++ 10 ∷ [])

pub length-text_of-append : (front others : List (List ℕ)) → length (text_of (front ++ others)) ≡ length (text_of front) + length (text_of others)
length-text_of-append front others = ap length (text_of-append front others) ∙ length-append (text_of front) (text_of others)

pub length-text_of-cons : (line : List ℕ) (others : List (List ℕ)) → length (text_of (line ∷ others)) ≡ length line + 1 + length (text_of others)
length-text_of-cons line others = length-append (line ++ 10 ∷ []) (text_of others) ∙ ap (λ n. n + length (text_of others)) (length-append line (10 ∷ []))

or-true : (b c : Bool) → c ≡ true → (b || c) ≡ true
or-true true c e = refl
or-true false c e = e

any-line_feed : (line rest : List ℕ) → list_any is_line_feed (line ++ 10 ∷ rest) ≡ true
any-line_feed [] rest = refl
any-line_feed (b ∷ line) rest = or-true (is_line_feed b) (list_any is_line_feed (line ++ 10 ∷ rest)) (any-line_feed line rest)

plain-rest : (b : ℕ) (bytes : List ℕ) → IsPlain (b ∷ bytes) → IsPlain bytes
plain-rest b bytes plain = λ k d lt. plain (suc k) d (omega arith)

none-plain : (bytes : List ℕ) → IsPlain bytes → list_any is_line_feed bytes ≡ false
none-plain [] plain = refl
none-plain (b ∷ bytes) plain = rw (ne_eqb b 10 (plain 0 0 (omega arith))) (none-plain bytes (plain-rest b bytes plain))

-- what has no LF is cut off whole
ended_part-plain : (bytes : List ℕ) → IsPlain bytes → ended_part bytes ≡ []
ended_part-plain [] plain = refl
ended_part-plain (b ∷ bytes) plain = ap (λ c. cond c (b ∷ ended_part bytes) []) (none-plain (b ∷ bytes) plain)

-- a line with its LF stays
ended_part-line : (line rest : List ℕ) → ended_part (line ++ 10 ∷ rest) ≡ line ++ 10 ∷ ended_part rest
ended_part-line [] rest = refl
ended_part-line (b ∷ line) rest =
    ap (λ c. cond c (b ∷ ended_part (line ++ 10 ∷ rest)) []) (any-line_feed (b ∷ line) rest) ∙ ap (λ l. b ∷ l) (ended_part-line line rest)

-- lines with their LF, and a last one that has none
pub ended_part-text_of : (front : List (List ℕ)) (rest : List ℕ) → IsPlain rest → ended_part (text_of front ++ rest) ≡ text_of front
ended_part-text_of [] rest plain = ended_part-plain rest plain
ended_part-text_of (line ∷ front) rest plain =
    ap ended_part (append_assoc (line ++ 10 ∷ []) (text_of front) rest ∙ append_assoc line (10 ∷ []) (text_of front ++ rest))
    ∙ ended_part-line line (text_of front ++ rest)
    ∙ ap (λ l. line ++ 10 ∷ l) (ended_part-text_of front rest plain)
    ∙ sym (append_assoc line (10 ∷ []) (text_of front))

pub append-nothing : (xs ys : List ℕ) → xs ++ ys ≡ [] → (xs ≡ []) × (ys ≡ [])
append-nothing [] ys e = (refl, e)
append-nothing (x ∷ xs) ys e = absurd (omega (arith, ap length e))
