-- What is printed for a line, cut at its spaces, and what is printed for a certificate, cut at its line ends.
use Rattle.std.proofs.Common.{◌≡◌, ℕ, suc, ◌<◌, Bool, true, false, cond, not, ◌==◌, nat_lt, List, [], ◌∷◌, ◌++◌, length, codes, decimal, map, refl, ap, sym, ◌∙◌, subst, arith, lt-ltb, append_assoc, append-nil}
use Rattle.std.specs.List.{All, AllZip, list_all, slice_split, onto_first}
use Rattle.std.proofs.lemmas.Bool.{and_parts, and_from}
use Rattle.std.proofs.lemmas.Bool.Decides.{nat_tests}
use Rattle.std.proofs.lemmas.Fmt.{decimal_nonempty, digits_decimal, digits_value-decimal}
use Rattle.std.proofs.lemmas.List.Elements.{All-cons, All-nil}
use Rattle.std.proofs.lemmas.List.Folds.{list_all-append}
use Rattle.sql_text.specs.Word.{is_digit}
use Rattle.sql_text.specs.Lines.{lines, is_line_feed}
use Rattle.sql_text.proofs.ParsedValue.{own}
use Rattle.sql_text.proofs.Fronts.{all_weaker}
use Rattle.sql_text.proofs.Cuts.{lines-some}
use Rattle.cert_format.specs.declared.line.Line.{Line}
use Rattle.cert_format.specs.declared.line.Line.TheVariants as line
use Rattle.cert_format.specs.Text.{IsNumber, AreNumbers, HasNumbers, IsWhole, IsLine, Spells, words, numbers_text, line_text, certificate_text}
use Rattle.cert_format.specs.Certificate.{AreLinesBehind, AreLines}

abbrev is_small : ℕ → Type 0
is_small n = n < 65536

all_first : (n : ℕ) (ns : List ℕ) → All is_small (n ∷ ns) → is_small n
all_first n ns h = h 0 n (omega arith)

all_others : (n : ℕ) (ns : List ℕ) → All is_small (n ∷ ns) → All is_small ns
all_others n ns h = λ k d lt. h (suc k) d (omega arith)

-- a part without the byte at which a text is cut
cut_behind : (p : ℕ → Bool) (front rest first : List ℕ) (others : List (List ℕ)) → list_all (λ b. not (p b)) front ≡ true → slice_split p rest ≡ first ∷ others
    → slice_split p (front ++ rest) ≡ (front ++ first) ∷ others
cut_behind p [] rest first others h e = e
cut_behind p (b ∷ front) rest first others h e =
    let parts = and_parts (not (p b)) (list_all (λ b. not (p b)) front) h in
    ap (λ o. cond o ([] ∷ slice_split p (front ++ rest)) (onto_first b (slice_split p (front ++ rest)))) (fails (p b) parts.0)
    ∙ ap (onto_first b) (cut_behind p front rest first others parts.1 e)
  where
    fails : (o : Bool) → not o ≡ true → o ≡ false
    fails true k = sym k
    fails false k = refl

-- the whole part
cut_at : (p : ℕ → Bool) (front rest : List ℕ) (others : List (List ℕ)) → list_all (λ b. not (p b)) front ≡ true → slice_split p rest ≡ [] ∷ others → slice_split p (front ++ rest) ≡ front ∷ others
cut_at p front rest others h e = cut_behind p front rest [] others h e ∙ ap (λ l. l ∷ others) (append-nil front)

-- bytes that are neither spaces nor line ends
abbrev is_solid : ℕ → Bool
is_solid b = not (b == 32)

abbrev is_inner : ℕ → Bool
is_inner b = not (is_line_feed b)

digit_solid : (b : ℕ) → is_digit b ≡ true → is_solid b ≡ true
digit_solid b h = grind (arith, nat_tests)

digit_inner : (b : ℕ) → is_digit b ≡ true → is_inner b ≡ true
digit_inner b h = grind (arith, nat_tests)

-- a number in digits
decimal_digits : (n : ℕ) → is_small n → list_all is_digit (decimal n) ≡ true
decimal_digits n small = digits_decimal own n (omega arith)

decimal_number : (n : ℕ) → is_small n → IsNumber (decimal n) n
decimal_number n small = record {
  digits = and_from (nat_lt 0 (length (decimal n))) (list_all is_digit (decimal n)) (lt-ltb _ _ (decimal_nonempty n (omega arith))) (decimal_digits n small);
  amount_is = digits_value-decimal own n (omega arith);
  small = small;
}

decimals_numbers : (ns : List ℕ) → All is_small ns → AllZip IsNumber (map decimal ns) ns
decimals_numbers [] h = tt
decimals_numbers (n ∷ ns) h = (decimal_number n (all_first n ns h), decimals_numbers ns (all_others n ns h))

are_numbers : (most : ℕ) (ns : List ℕ) → HasNumbers most ns → AreNumbers most (map decimal ns) ns
are_numbers most ns has = record { each = decimals_numbers ns has.small; some = has.some; few = has.few }

-- the words of a keyword and numbers
keyword_words : (front : List ℕ) (ns : List ℕ) → list_all is_solid front ≡ true → All is_small ns → words (front ++ numbers_text ns) ≡ front ∷ map decimal ns
keyword_words front [] h small = cut_at (λ b. b == 32) front [] [] h refl
keyword_words front (n ∷ ns) h small =
    let digits : list_all is_solid (decimal n) ≡ true = all_weaker is_digit is_solid digit_solid (decimal n) (decimal_digits n (all_first n ns small)) in
    cut_at (λ b. b == 32) front (32 ∷ (decimal n ++ numbers_text ns)) (decimal n ∷ map decimal ns) h
    (ap (λ ws. [] ∷ ws) (keyword_words (decimal n) ns digits (all_others n ns small)))

-- what is printed for a line is this line
pub line_back : (l : Line) → IsWhole l → IsLine (line_text l) l
line_back (line.Split pair) h = record { word = decimal pair; whole = keyword_words (codes "split") (pair ∷ []) refl (All-cons is_small pair [] h (All-nil is_small)); number = decimal_number pair h }
line_back (line.Infeasible numbers) h = record { behind = map decimal numbers.items; whole = keyword_words (codes "infeasible") numbers.items refl h.small; numbers = are_numbers 13 numbers.items h }
line_back (line.Against n) h = record { word = decimal n; whole = keyword_words (codes "against") (n ∷ []) refl (All-cons is_small n [] h (All-nil is_small)); number = decimal_number n h }
line_back line.Leaf h = refl
line_back (line.Path p) h = record {
  from_word = decimal p.from;
  to_word = decimal p.to;
  behind = map decimal p.numbers.items;
  whole = keyword_words (codes "path") (p.from ∷ p.to ∷ p.numbers.items) refl (All-cons is_small p.from (p.to ∷ p.numbers.items) h.from (All-cons is_small p.to p.numbers.items h.to h.numbers.small));
  from = decimal_number p.from h.from;
  to = decimal_number p.to h.to;
  numbers = are_numbers 12 p.numbers.items h.numbers;
}

-- no line end stands in a line
numbers_inner : (ns : List ℕ) → All is_small ns → list_all is_inner (numbers_text ns) ≡ true
numbers_inner [] h = refl
numbers_inner (n ∷ ns) h =
    list_all-append is_inner (decimal n) (numbers_text ns)
    ∙ and_from (list_all is_inner (decimal n)) (list_all is_inner (numbers_text ns)) (all_weaker is_digit is_inner digit_inner (decimal n) (decimal_digits n (all_first n ns h))) (numbers_inner ns (all_others n ns h))

words_inner : (front ns : List ℕ) → list_all is_inner front ≡ true → All is_small ns → list_all is_inner (front ++ numbers_text ns) ≡ true
words_inner front ns h small = list_all-append is_inner front (numbers_text ns) ∙ and_from (list_all is_inner front) (list_all is_inner (numbers_text ns)) h (numbers_inner ns small)

line_inner : (l : Line) → IsWhole l → list_all is_inner (line_text l) ≡ true
line_inner (line.Split pair) h = words_inner (codes "split") (pair ∷ []) refl (All-cons is_small pair [] h (All-nil is_small))
line_inner (line.Infeasible numbers) h = words_inner (codes "infeasible") numbers.items refl h.small
line_inner (line.Against n) h = words_inner (codes "against") (n ∷ []) refl (All-cons is_small n [] h (All-nil is_small))
line_inner line.Leaf h = refl
line_inner (line.Path p) h = words_inner (codes "path") (p.from ∷ p.to ∷ p.numbers.items) refl (All-cons is_small p.from (p.to ∷ p.numbers.items) h.from (All-cons is_small p.to p.numbers.items h.to h.numbers.small))

first_line : (front rest : List ℕ) → list_all is_inner front ≡ true → lines ((front ++ 10 ∷ []) ++ rest) ≡ front ∷ lines rest
first_line front rest h =
    ap lines (append_assoc front (10 ∷ []) rest)
    ∙ lines-some (front ++ 10 ∷ rest) front rest (cut_at is_line_feed front (10 ∷ rest) (slice_split is_line_feed rest) h refl)

lines_back : (before : _) (ls : List Line) → AreLinesBehind before ls → AllZip IsLine (lines (certificate_text ls)) ls
lines_back before [] h = tt
lines_back before (l ∷ ls) h =
    let whole = h.0.whole in
    let P : List (List ℕ) → Type 0 = λ texts. AllZip IsLine texts (l ∷ ls) in
    subst P (sym (first_line (line_text l) (certificate_text ls) (line_inner l whole))) (line_back l whole, lines_back _ ls h.1)

pub certificate_back : (ls : List Line) → AreLines ls → AllZip IsLine (lines (certificate_text ls)) ls
certificate_back ls are = lines_back _ ls are.stand

-- the numbers of a line that words spell
all_numbers : (ws : List (List ℕ)) (ns : List ℕ) → AllZip IsNumber ws ns → All is_small ns
all_numbers ws [] h = All-nil is_small
all_numbers [] (n ∷ ns) h = absurd h
all_numbers (word ∷ ws) (n ∷ ns) h = All-cons is_small n ns h.0.small (all_numbers ws ns h.1)

has_numbers : (most : ℕ) (ws : List (List ℕ)) (ns : List ℕ) → AreNumbers most ws ns → HasNumbers most ns
has_numbers most ws ns are = record { some = are.some; few = are.few; small = all_numbers ws ns are.each }

pub line_whole : (ws : List (List ℕ)) (l : Line) → Spells ws l → IsWhole l
line_whole ws (line.Split pair) h = h.number.small
line_whole ws (line.Infeasible numbers) h = has_numbers 13 h.behind numbers.items h.numbers
line_whole ws (line.Against n) h = h.number.small
line_whole ws line.Leaf h = tt
line_whole ws (line.Path p) h = record { from = h.from.small; to = h.to.small; numbers = has_numbers 12 h.behind p.numbers.items h.numbers }
