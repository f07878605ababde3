-- Tokens that stand in a line are those that are found in it.
use Rattle.std.proofs.Common.{◌≡◌, ℕ, zero, suc, ◌+◌, ◌-◌, ◌<◌, ◌≤◌, Bool, true, false, ◌&&◌, List, [], ◌∷◌, length, take, drop, Some, None, Ok, Err, subst, refl, ap, sym, ◌∙◌, arith, ◌⊎◌, inl, inr, get_or, length-drop, add-zero, slice_index_or}
use Rattle.std.specs.List.{list_all}
use Rattle.std.proofs.lemmas.Bool.Decides.{nat_tests}
use Rattle.std.proofs.lemmas.List.{drop-drop, get_or-drop}
use Rattle.sql_lexer.specs.declared.token.TokenKind.{TokenKind}
use Rattle.sql_lexer.specs.declared.token.Token.{Token}
use Rattle.sql_lexer.specs.Tokens.{is_blank, kind_of, longest, tokens_from, with_first}
use Rattle.sql_lexer.specs.Standing.{IsLongest, IsNextToken, StandFrom, StandUpTo}
use Rattle.sql_lexer.specs.Laws.{StandingIsFound, TokensAreLongest, StuckIsFault}
use Rattle.sql_lexer.proofs.Longest.{found_within, none_within, other_kind, symbol_text_none}
use Rattle.sql_lexer.proofs.Standing.{tokens_stand, fault_stuck}
use Rattle.sql_lexer.proofs.TokenLists.{blank_front, token_step, no_token_step}

and_left : (a b : Bool) → (a && b) ≡ true → a ≡ true
and_left true b h = refl
and_left false b h = h

and_right : (a b : Bool) → (a && b) ≡ true → b ≡ true
and_right true b h = h
and_right false b h = cc

-- ---- blanks

blank_is : (b : ℕ) → is_blank b ≡ true → (b ≡ 32) ⊎ (b ≡ 9)
blank_is b h = grind (arith, nat_tests)

-- no token begins with a blank
blank_kind : (b : ℕ) (rest : List ℕ) → is_blank b ≡ true → kind_of (b ∷ rest) ≡ None
blank_kind b rest h = elim (blank_is b h) [
  | inl e ↦ rw e (other_kind 32 refl refl (omega arith) (omega arith) rest ∙ symbol_text_none 32 rest refl)
  | inr e ↦ rw e (other_kind 9 refl refl (omega arith) (omega arith) rest ∙ symbol_text_none 9 rest refl)
]

no_blank_first : (bs : List ℕ) (n : ℕ) (kind : TokenKind) → 0 < n → n ≤ length bs → kind_of (take n bs) ≡ Some kind → is_blank (get_or bs 0 0) ≡ false
no_blank_first [] n kind more le e = absurd (omega arith)
no_blank_first (b ∷ bs) zero kind more le e = absurd (omega arith)
no_blank_first (b ∷ bs) (suc n) kind more le e = go (is_blank b) refl
  where
    go : (t : Bool) → is_blank b ≡ t → is_blank b ≡ false
    go true h = let none : kind_of (b ∷ take n bs) ≡ None = blank_kind b (take n bs) h in cc
    go false h = h

-- blanks are passed over
skipped : (n place : ℕ) (bs : List ℕ) → n ≤ length bs → list_all is_blank (take n bs) ≡ true → tokens_from 0 place bs ≡ tokens_from 0 (place + n) (drop n bs)
skipped zero place bs le h = ap (λ p. tokens_from 0 p bs) (omega arith)
skipped (suc n) place [] le h = absurd (omega arith)
skipped (suc n) place (b ∷ bs) le h =
    blank_front place (b ∷ bs) (omega arith) (and_left (is_blank b) (list_all is_blank (take n bs)) h)
    ∙ skipped n (place + 1) bs (omega arith) (and_right (is_blank b) (list_all is_blank (take n bs)) h)
    ∙ ap (λ p. tokens_from 0 p (drop n bs)) (omega arith)

all_blank : (place : ℕ) (bs : List ℕ) → list_all is_blank bs ≡ true → tokens_from 0 place bs ≡ Ok []
all_blank place [] h = refl
all_blank place (b ∷ bs) h = blank_front place (b ∷ bs) (omega arith) (and_left (is_blank b) (list_all is_blank bs) h) ∙ all_blank (place + 1) bs (and_right (is_blank b) (list_all is_blank bs) h)

-- ---- tokens

-- a front that is a token, where no longer one is, is the longest token
longest_is : (bs : List ℕ) (kind : TokenKind) (n : ℕ) → 0 < n → n ≤ length bs → kind_of (take n bs) ≡ Some kind → ((m : ℕ) → n < m → m ≤ length bs → kind_of (take m bs) ≡ None) → longest bs ≡ Some (kind, n)
unfolding longest
longest_is bs kind n more le e none = found_within bs kind n (length bs) more le e none

longest_at : (line : List ℕ) (place : ℕ) (t : Token) → IsNextToken line place t → longest (drop t.from line) ≡ Some (t.kind, t.to - t.from)
longest_at line place t n =
    longest_is (drop t.from line) t.kind (t.to - t.from) (omega (arith, n.has_bytes)) (omega (arith, n.inside, n.has_bytes, length-drop t.from line)) n.kind
    (λ m low high. let same : t.from + m - t.from ≡ m = omega arith in
    ap (λ k. kind_of (take k (drop t.from line))) (sym same) ∙ n.longest (t.from + m) (omega (arith, low)) (omega (arith, high, n.inside, n.has_bytes, length-drop t.from line)))

to_token : (line : List ℕ) (place : ℕ) (t : Token) → IsNextToken line place t → tokens_from 0 place (drop place line) ≡ tokens_from 0 t.from (drop t.from line)
to_token line place t n =
    let same : place + (t.from - place) ≡ t.from = omega (arith, n.behind) in
    skipped (t.from - place) place (drop place line) (omega (arith, n.behind, n.inside, n.has_bytes, length-drop place line)) n.blanks
    ∙ ap (tokens_from 0 (place + (t.from - place))) (drop-drop (t.from - place) place line)
    ∙ ap (λ p. tokens_from 0 p (drop p line)) same

past_token : (line : List ℕ) (place : ℕ) (t : Token) → IsNextToken line place t → tokens_from 0 t.from (drop t.from line) ≡ with_first t (tokens_from 0 t.to (drop t.to line))
past_token line place t n =
    let same : t.from + (t.to - t.from) ≡ t.to = omega (arith, n.has_bytes) in
    let first : is_blank (get_or (drop t.from line) 0 0) ≡ false = no_blank_first (drop t.from line) (t.to - t.from) t.kind (omega (arith, n.has_bytes)) (omega (arith, n.inside, n.has_bytes, length-drop t.from line)) n.kind in
    token_step line t.from (t.to - t.from) t.kind (omega (arith, n.inside, n.has_bytes)) (ap is_blank (sym (get_or-drop t.from line 0 0 ∙ ap (λ i. get_or line i 0) (add-zero t.from))) ∙ first) (longest_at line place t n) (omega (arith, n.has_bytes))
    ∙ ap (λ m. with_first (record { kind = t.kind; from = t.from; to = m }) (tokens_from 0 m (drop m line))) same

found_from : (line : List ℕ) (place : ℕ) (ts : List Token) → StandFrom line place ts → tokens_from 0 place (drop place line) ≡ Ok ts
found_from line place [] s = all_blank place (drop place line) s
found_from line place (t ∷ ts) (n, s) = to_token line place t n ∙ past_token line place t n ∙ ap (with_first t) (found_from line t.to ts s)

-- ---- a place at which no token begins

fault_from : (line : List ℕ) (place at : ℕ) (ts : List Token) → StandUpTo line place at ts → at < length line → is_blank (get_or line at 0) ≡ false → longest (drop at line) ≡ None → tokens_from 0 place (drop place line) ≡ Err at
fault_from line place at [] s inside solid none =
    let same : place + (at - place) ≡ at = omega (arith, s.0) in
    skipped (at - place) place (drop place line) (omega (arith, s.0, inside, length-drop place line)) s.1
    ∙ ap (tokens_from 0 (place + (at - place))) (drop-drop (at - place) place line)
    ∙ ap (λ p. tokens_from 0 p (drop p line)) same
    ∙ no_token_step line at inside solid none
fault_from line place at (t ∷ ts) (n, s) inside solid none = to_token line place t n ∙ past_token line place t n ∙ ap (with_first t) (fault_from line t.to at ts s inside solid none)

none_is : (bs : List ℕ) → ((m : ℕ) → 0 < m → m ≤ length bs → kind_of (take m bs) ≡ None) → longest bs ≡ None
unfolding longest
none_is bs none = none_within bs (length bs) none

none_at : (line : List ℕ) (at : ℕ) → at < length line → IsLongest line at at → longest (drop at line) ≡ None
none_at line at inside none =
    none_is (drop at line) (λ m low high. let same : at + m - at ≡ m = omega arith in
    ap (λ k. kind_of (take k (drop at line))) (sym same) ∙ none (at + m) (omega (arith, low)) (omega (arith, high, inside, length-drop at line)))

pub stuck_is_fault : StuckIsFault
stuck_is_fault line at = (fault_stuck line at, λ s. fault_from line 0 at s.before s.stand s.inside s.no_blank (none_at line at s.inside s.none))

-- ---- the laws of tokens

pub standing_is_found : StandingIsFound
standing_is_found line ts = (tokens_stand line ts, found_from line 0 ts)

longest_in : (line : List ℕ) (place : ℕ) (ts : List Token) (t : Token) (k : ℕ) → StandFrom line place ts → k < length ts → slice_index_or ts k t ≡ t → IsLongest line t.from t.to
longest_in line place [] t k s l e = absurd (omega arith)
longest_in line place (u ∷ ts) t zero (n, s) l e = let P : Token → Type 0 = λ x. IsLongest line x.from x.to in subst P e n.longest
longest_in line place (u ∷ ts) t (suc k) (n, s) l e = longest_in line u.to ts t k s (omega arith) e

pub tokens_are_longest : TokensAreLongest
tokens_are_longest line ts e t h = longest_in line 0 ts t h.0 (tokens_stand line ts e) h.1 h.2
