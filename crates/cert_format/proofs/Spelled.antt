-- The steps of reading find just the lines that words spell.
use Rattle.std.proofs.Common.{◌≡◌, ℕ, ◌<◌, ◌≤◌, Bool, true, false, cond, ◌&&◌, nat_lt, nat_le, List, [], ◌∷◌, length, codes, None, Some, Option, refl, ap, sym, ◌∙◌, subst, arith, lt-ltb, ltb-true}
use Rattle.std.specs.List.{AllZip}
use Rattle.std.specs.Option.{option_and_then, option_map}
use Rattle.std.specs.Str.{bytes_eq}
use Rattle.std.proofs.lemmas.Bool.{and_parts, and_from}
use Rattle.std.proofs.lemmas.Bool.Decides.{nat_tests}
use Rattle.std.proofs.lemmas.Option.{cond_some, option_and_then_some, same_Some}
use Rattle.std.proofs.lemmas.Slice.Eq.{bytes_eq-Decides}
use Rattle.sql_text.specs.Value.{is_digits, amount}
use Rattle.cert_format.specs.declared.line.Line.{Line}
use Rattle.cert_format.specs.declared.line.Line.TheVariants as line
use Rattle.cert_format.specs.declared.reading.Keyword.{Keyword}
use Rattle.cert_format.specs.declared.reading.Keyword.TheVariants as keyword
use Rattle.cert_format.specs.Text.{IsNumber, AreNumbers, Spells, IsReading, words}
use Rattle.cert_format.specs.Spelling.{number_of, numbers_of, up_to, chain_of, keyword_of, split_of, infeasible_of, against_of, leaf_of, path_of, line_behind, line_of}

-- numbers
number_found : (word : List ℕ) (n : ℕ) → IsNumber word n → number_of word ≡ Some n
unfolding number_of
number_found word n is =
    let small : nat_lt (amount word) 65536 ≡ true = ap (λ m. nat_lt m 65536) is.amount_is ∙ lt-ltb _ _ is.small in
    ap (λ t. cond t (Some (amount word)) None) (and_from _ _ is.digits small) ∙ ap Some is.amount_is

number_meant : (word : List ℕ) (n : ℕ) → number_of word ≡ Some n → IsNumber word n
unfolding number_of
number_meant word n e =
    let parts = cond_some (is_digits word && nat_lt (amount word) 65536) (amount word) n e in
    let both = and_parts (is_digits word) (nat_lt (amount word) 65536) parts.0 in
    let P : ℕ → Type 0 = λ m. m < 65536 in
    record { digits = both.0; amount_is = parts.1; small = subst P parts.1 (ltb-true _ _ both.1) }

numbers_found : (ws : List (List ℕ)) (ns : List ℕ) → AllZip IsNumber ws ns → numbers_of ws ≡ Some ns
numbers_found [] [] h = refl
numbers_found [] (n ∷ ns) h = absurd h
numbers_found (word ∷ ws) [] h = absurd h
numbers_found (word ∷ ws) (n ∷ ns) h =
    ap (option_and_then (λ m. option_map (λ ms. m ∷ ms) (numbers_of ws))) (number_found word n h.0)
    ∙ ap (option_map (λ ms. n ∷ ms)) (numbers_found ws ns h.1)

numbers_meant : (ws : List (List ℕ)) (ns : List ℕ) → numbers_of ws ≡ Some ns → AllZip IsNumber ws ns
numbers_meant [] [] e = tt
numbers_meant [] (n ∷ ns) e = absurd cc
numbers_meant (word ∷ ws) ns e = by (number_of word) (numbers_of ws) refl refl ns e (numbers_meant ws)
  where
    by : (a : Option ℕ) (b : Option (List ℕ)) → number_of word ≡ a → numbers_of ws ≡ b → (ns : List ℕ) → option_and_then (λ m. option_map (λ ms. m ∷ ms) b) a ≡ Some ns
        → ((ms : List ℕ) → numbers_of ws ≡ Some ms → AllZip IsNumber ws ms) → AllZip IsNumber (word ∷ ws) ns
    by None b p q ns e ih = absurd cc
    by (Some m) None p q ns e ih = absurd cc
    by (Some m) (Some ms) p q ns e ih = let P : List ℕ → Type 0 = λ l. AllZip IsNumber (word ∷ ws) l in subst P (same_Some (m ∷ ms) ns e) (number_meant word m p, ih ms q)

chain_found : (most : ℕ) (ws : List (List ℕ)) (ns : List ℕ) → AreNumbers most ws ns → chain_of most ws ≡ Some ns
chain_found most ws ns are =
    ap (option_and_then (up_to most)) (numbers_found ws ns are.each)
    ∙ ap (λ t. cond t (Some ns) None) (and_from _ _ (lt-ltb _ _ are.some) (small (length ns) are.few))
  where
    small : (n : ℕ) → n ≤ most → nat_le n most ≡ true
    small n h = grind (arith, nat_tests)

chain_meant : (most : ℕ) (ws : List (List ℕ)) (ns : List ℕ) → chain_of most ws ≡ Some ns → AreNumbers most ws ns
chain_meant most ws ns e = option_and_then_some (up_to most) (numbers_of ws) ns e (λ ms is up. by ms is (cond_some (nat_lt 0 (length ms) && nat_le (length ms) most) ms ns up))
  where
    small : (n : ℕ) → nat_le n most ≡ true → n ≤ most
    small n h = grind (arith, nat_tests)

    by : (ms : List ℕ) → numbers_of ws ≡ Some ms → ((nat_lt 0 (length ms) && nat_le (length ms) most) ≡ true) × (ms ≡ ns) → AreNumbers most ws ns
    by ms is up =
        let both = and_parts (nat_lt 0 (length ms)) (nat_le (length ms) most) up.0 in
        let P : List ℕ → Type 0 = λ l. AreNumbers most ws l in
        subst P up.1 (record { each = numbers_meant ws ms is; some = ltb-true _ _ both.0; few = small (length ms) both.1 })

-- keywords
abbrev text_of : Keyword → List ℕ
text_of keyword.Split = codes "split"
text_of keyword.Infeasible = codes "infeasible"
text_of keyword.Against = codes "against"
text_of keyword.Leaf = codes "leaf"
text_of keyword.Path = codes "path"

choice : (t : Bool) (word : List ℕ) (first k : Keyword) (others : Option Keyword) → bytes_eq word (text_of first) ≡ t → (others ≡ Some k → word ≡ text_of k) → cond t (Some first) others ≡ Some k → word ≡ text_of k
choice true word first k others e next h = (bytes_eq-Decides word (text_of first)).0 e ∙ ap text_of (same_Some first k h)
choice false word first k others e next h = next h

keyword_meant : (word : List ℕ) (k : Keyword) → keyword_of word ≡ Some k → word ≡ text_of k
unfolding keyword_of
keyword_meant word k =
    choice _ word keyword.Split k _ refl
    (choice _ word keyword.Infeasible k _ refl
    (choice _ word keyword.Against k _ refl
    (choice _ word keyword.Leaf k _ refl
    (choice _ word keyword.Path k None refl (λ e. absurd cc)))))

keyword_found : (k : Keyword) → keyword_of (text_of k) ≡ Some k
unfolding keyword_of
keyword_found keyword.Split = refl
keyword_found keyword.Infeasible = refl
keyword_found keyword.Against = refl
keyword_found keyword.Leaf = refl
keyword_found keyword.Path = refl

behind_found : (k : Keyword) (ws : List (List ℕ)) → line_of (text_of k ∷ ws) ≡ line_behind k ws
behind_found k ws = ap (option_and_then (λ m. line_behind m ws)) (keyword_found k)

abbrev path : ℕ → ℕ → List ℕ → Line
path from to ns = line.Path record { from = from; to = to; numbers = record { items = ns } }

-- the line that words spell is found
pub line_found : (ws : List (List ℕ)) (l : Line) → Spells ws l → line_of ws ≡ Some l
line_found ws (line.Split pair) is = ap line_of is.whole ∙ behind_found keyword.Split (is.word ∷ []) ∙ ap (option_map line.Split) (number_found is.word pair is.number)
line_found ws (line.Infeasible numbers) is =
    ap line_of is.whole ∙ behind_found keyword.Infeasible is.behind
    ∙ ap (option_map (λ ns. line.Infeasible record { items = ns })) (chain_found 13 is.behind numbers.items is.numbers)
line_found ws (line.Against n) is = ap line_of is.whole ∙ behind_found keyword.Against (is.word ∷ []) ∙ ap (option_map line.Against) (number_found is.word n is.number)
line_found ws line.Leaf is = ap line_of is ∙ behind_found keyword.Leaf []
line_found ws (line.Path p) is =
    ap line_of is.whole ∙ behind_found keyword.Path (is.from_word ∷ is.to_word ∷ is.behind)
    ∙ ap (option_and_then (λ from. option_and_then (λ to. option_map (path from to) (chain_of 12 is.behind)) (number_of is.to_word))) (number_found is.from_word p.from is.from)
    ∙ ap (option_and_then (λ to. option_map (path p.from to) (chain_of 12 is.behind))) (number_found is.to_word p.to is.to)
    ∙ ap (option_map (path p.from p.to)) (chain_found 12 is.behind p.numbers.items is.numbers)

-- the line that is found is the one that they spell
split_meant : (ws : List (List ℕ)) (l : Line) → split_of ws ≡ Some l → Spells (codes "split" ∷ ws) l
split_meant [] l e = absurd cc
split_meant (word ∷ []) l e = by (number_of word) refl e
  where
    by : (o : Option ℕ) → number_of word ≡ o → option_map line.Split o ≡ Some l → Spells (codes "split" ∷ word ∷ []) l
    by None p h = absurd cc
    by (Some n) p h = let P : Line → Type 0 = λ m. Spells (codes "split" ∷ word ∷ []) m in subst P (same_Some (line.Split n) l h) (record { word = word; whole = refl; number = number_meant word n p })
split_meant (word ∷ other ∷ ws) l e = absurd cc

infeasible_meant : (ws : List (List ℕ)) (l : Line) → infeasible_of ws ≡ Some l → Spells (codes "infeasible" ∷ ws) l
infeasible_meant ws l e = by (chain_of 13 ws) refl e
  where
    by : (o : Option (List ℕ)) → chain_of 13 ws ≡ o → option_map (λ ns. line.Infeasible record { items = ns }) o ≡ Some l → Spells (codes "infeasible" ∷ ws) l
    by None p h = absurd cc
    by (Some ns) p h = let P : Line → Type 0 = λ m. Spells (codes "infeasible" ∷ ws) m in subst P (same_Some (line.Infeasible record { items = ns }) l h) (record { behind = ws; whole = refl; numbers = chain_meant 13 ws ns p })

against_meant : (ws : List (List ℕ)) (l : Line) → against_of ws ≡ Some l → Spells (codes "against" ∷ ws) l
against_meant [] l e = absurd cc
against_meant (word ∷ []) l e = by (number_of word) refl e
  where
    by : (o : Option ℕ) → number_of word ≡ o → option_map line.Against o ≡ Some l → Spells (codes "against" ∷ word ∷ []) l
    by None p h = absurd cc
    by (Some n) p h = let P : Line → Type 0 = λ m. Spells (codes "against" ∷ word ∷ []) m in subst P (same_Some (line.Against n) l h) (record { word = word; whole = refl; number = number_meant word n p })
against_meant (word ∷ other ∷ ws) l e = absurd cc

leaf_meant : (ws : List (List ℕ)) (l : Line) → leaf_of ws ≡ Some l → Spells (codes "leaf" ∷ ws) l
leaf_meant [] l e = let P : Line → Type 0 = λ m. Spells (codes "leaf" ∷ []) m in subst P (same_Some line.Leaf l e) refl
leaf_meant (word ∷ ws) l e = absurd cc

path_meant : (ws : List (List ℕ)) (l : Line) → path_of ws ≡ Some l → Spells (codes "path" ∷ ws) l
path_meant [] l e = absurd cc
path_meant (from_word ∷ []) l e = absurd cc
path_meant (from_word ∷ to_word ∷ ws) l e = by (number_of from_word) (number_of to_word) (chain_of 12 ws) refl refl refl e
  where
    by : (a b : Option ℕ) (o : Option (List ℕ)) → number_of from_word ≡ a → number_of to_word ≡ b → chain_of 12 ws ≡ o
        → option_and_then (λ from. option_and_then (λ to. option_map (path from to) o) b) a ≡ Some l → Spells (codes "path" ∷ from_word ∷ to_word ∷ ws) l
    by None b o p q r h = absurd cc
    by (Some from) None o p q r h = absurd cc
    by (Some from) (Some to) None p q r h = absurd cc
    by (Some from) (Some to) (Some ns) p q r h =
        let P : Line → Type 0 = λ m. Spells (codes "path" ∷ from_word ∷ to_word ∷ ws) m in
        subst P (same_Some (path from to ns) l h)
        (record { from_word = from_word; to_word = to_word; behind = ws; whole = refl; from = number_meant from_word from p; to = number_meant to_word to q; numbers = chain_meant 12 ws ns r })

behind_meant : (k : Keyword) (ws : List (List ℕ)) (l : Line) → line_behind k ws ≡ Some l → Spells (text_of k ∷ ws) l
behind_meant keyword.Split ws l e = split_meant ws l e
behind_meant keyword.Infeasible ws l e = infeasible_meant ws l e
behind_meant keyword.Against ws l e = against_meant ws l e
behind_meant keyword.Leaf ws l e = leaf_meant ws l e
behind_meant keyword.Path ws l e = path_meant ws l e

pub line_meant : (ws : List (List ℕ)) (l : Line) → line_of ws ≡ Some l → Spells ws l
line_meant [] l e = absurd cc
line_meant (word ∷ ws) l e = option_and_then_some (λ k. line_behind k ws) (keyword_of word) l e by
  where
    by : (k : Keyword) → keyword_of word ≡ Some k → line_behind k ws ≡ Some l → Spells (word ∷ ws) l
    by k is h = let P : List ℕ → Type 0 = λ w. Spells (w ∷ ws) l in subst P (sym (keyword_meant word k is)) (behind_meant k ws l h)

pub reading_of : (text : List ℕ) (o : Option Line) → o ≡ line_of (words text) → IsReading text o
reading_of text None e = λ l is. absurd (cc (line_found (words text) l is))
reading_of text (Some l) e = line_meant (words text) l (sym e)

-- words spell one line at most
pub one_line : (ws : List (List ℕ)) (l m : Line) → Spells ws l → Spells ws m → l ≡ m
one_line ws l m p q = same_Some l m (sym (line_found ws l p) ∙ line_found ws m q)
