-- The tokens that are found stand in the line as they say.
use Rattle.std.proofs.Common.{◌≡◌, ℕ, zero, suc, ◌+◌, ◌-◌, ◌<◌, ◌≤◌, Bool, true, false, cond, ◌&&◌, List, [], ◌∷◌, length, take, drop, Option, Some, None, Result, Ok, Err, refl, ap, sym, ◌∙◌, arith, subst, IfSome, length-drop, inl, inr, get_or, add-zero}
use Rattle.std.specs.Prelude.{slice_range}
use Rattle.std.specs.List.{list_all}
use Rattle.std.proofs.lemmas.Bool.{cases_eq}
use Rattle.std.proofs.lemmas.List.{drop-drop, get_or-drop}
use Rattle.sql_lexer.specs.declared.token.TokenKind.{TokenKind}
use Rattle.sql_lexer.specs.declared.token.Token.{Token}
use Rattle.sql_lexer.specs.Tokens.{is_blank, kind_of, or_shorter, longest_within, longest, tokens, tokens_from, token_then, with_first}
use Rattle.sql_lexer.specs.Standing.{IsNextToken, StandFrom, StandUpTo, IsStuck}
use Rattle.sql_lexer.proofs.Longest.{longest_fits}

-- the longest token is the text of its length
kind_or : (o : Option TokenKind) (bytes : List ℕ) (n : ℕ) (found : TokenKind × ℕ) → kind_of (take (suc n) bytes) ≡ o → (longest_within n bytes ≡ Some found → kind_of (take found.1 bytes) ≡ Some found.0) → or_shorter o (suc n) (longest_within n bytes) ≡ Some found → kind_of (take found.1 bytes) ≡ Some found.0
kind_or None bytes n found is shorter e = shorter e
kind_or (Some kind) bytes n found is shorter e =
    let same : (kind, suc n) ≡ found = cc in
    let P : TokenKind × ℕ → Type 0 = λ f. kind_of (take f.1 bytes) ≡ Some f.0 in
    subst P same is

kind_within : (bytes : List ℕ) (n : ℕ) (found : TokenKind × ℕ) → longest_within n bytes ≡ Some found → kind_of (take found.1 bytes) ≡ Some found.0
kind_within bytes zero found e = cc
kind_within bytes (suc n) found e = kind_or (kind_of (take (suc n) bytes)) bytes n found refl (kind_within bytes n found) e

longest_kind : (bytes : List ℕ) (found : TokenKind × ℕ) → longest bytes ≡ Some found → kind_of (take found.1 bytes) ≡ Some found.0
unfolding longest
longest_kind bytes found e = kind_within bytes (length bytes) found e

-- no longer front than the longest token is one
none_longer_or : (o : Option TokenKind) (bytes : List ℕ) (n : ℕ) (found : TokenKind × ℕ) → kind_of (take (suc n) bytes) ≡ o → (longest_within n bytes ≡ Some found → (m : ℕ) → found.1 < m → m ≤ n → kind_of (take m bytes) ≡ None) → or_shorter o (suc n) (longest_within n bytes) ≡ Some found → (m : ℕ) → found.1 < m → m ≤ suc n → kind_of (take m bytes) ≡ None
none_longer_or None bytes n found is shorter e m low high = elim (cases_eq m (suc n)) [
  | inl same ↦ let P : ℕ → Type 0 = λ k. kind_of (take k bytes) ≡ None in subst P (sym same) is
  | inr other ↦ shorter e m low (omega arith)
]
none_longer_or (Some kind) bytes n found is shorter e m low high =
    let same : (kind, suc n) ≡ found = cc in
    let long : suc n ≡ found.1 = ap (λ (f : TokenKind × ℕ). f.1) same in
    absurd (omega (arith, long, low, high))

none_longer_within : (bytes : List ℕ) (n : ℕ) (found : TokenKind × ℕ) → longest_within n bytes ≡ Some found → (m : ℕ) → found.1 < m → m ≤ n → kind_of (take m bytes) ≡ None
none_longer_within bytes zero found e m low high = cc
none_longer_within bytes (suc n) found e m low high = none_longer_or (kind_of (take (suc n) bytes)) bytes n found refl (none_longer_within bytes n found) e m low high

none_longer : (bytes : List ℕ) (found : TokenKind × ℕ) → longest bytes ≡ Some found → (m : ℕ) → found.1 < m → m ≤ length bytes → kind_of (take m bytes) ≡ None
unfolding longest
none_longer bytes found e = none_longer_within bytes (length bytes) found e

-- where there is no longest token no front is one
no_front_or : (o : Option TokenKind) (bytes : List ℕ) (n : ℕ) → kind_of (take (suc n) bytes) ≡ o → (longest_within n bytes ≡ None → (m : ℕ) → 0 < m → m ≤ n → kind_of (take m bytes) ≡ None) → or_shorter o (suc n) (longest_within n bytes) ≡ None → (m : ℕ) → 0 < m → m ≤ suc n → kind_of (take m bytes) ≡ None
no_front_or None bytes n is shorter e m low high = elim (cases_eq m (suc n)) [
  | inl same ↦ let P : ℕ → Type 0 = λ k. kind_of (take k bytes) ≡ None in subst P (sym same) is
  | inr other ↦ shorter e m low (omega arith)
]
no_front_or (Some kind) bytes n is shorter e m low high = cc

no_front_within : (bytes : List ℕ) (n : ℕ) → longest_within n bytes ≡ None → (m : ℕ) → 0 < m → m ≤ n → kind_of (take m bytes) ≡ None
no_front_within bytes zero e m low high = absurd (omega arith)
no_front_within bytes (suc n) e m low high = no_front_or (kind_of (take (suc n) bytes)) bytes n refl (no_front_within bytes n) e m low high

no_front : (bytes : List ℕ) → longest bytes ≡ None → (m : ℕ) → 0 < m → m ≤ length bytes → kind_of (take m bytes) ≡ None
unfolding longest
no_front bytes e = no_front_within bytes (length bytes) e

behind_one : (line bs : List ℕ) (place b : ℕ) → drop place line ≡ b ∷ bs → drop (place + 1) line ≡ bs
behind_one line bs place b e = sym (drop-drop 1 place line) ∙ ap (drop 1) e

pub one_blank : (line bs : List ℕ) (place from b : ℕ) → drop place line ≡ b ∷ bs → is_blank b ≡ true → place + 1 ≤ from → list_all is_blank (slice_range line (place + 1) from) ≡ true → list_all is_blank (slice_range line place from) ≡ true
one_blank line bs place from b e blank le all =
    let n : from - place ≡ suc (from - (place + 1)) = omega arith in
    ap (λ xs. list_all is_blank (take (from - place) xs)) e
    ∙ ap (λ m. list_all is_blank (take m (b ∷ bs))) n
    ∙ ap (λ t. t && list_all is_blank (take (from - (place + 1)) bs)) blank
    ∙ ap (λ xs. list_all is_blank (take (from - (place + 1)) xs)) (sym (behind_one line bs place b e))
    ∙ all

-- a blank more stands before them
blank_before : (line bs : List ℕ) (place b : ℕ) (ts : List Token) → drop place line ≡ b ∷ bs → is_blank b ≡ true → StandFrom line (place + 1) ts → StandFrom line place ts
blank_before line bs place b [] e blank s = ap (list_all is_blank) e ∙ ap (λ t. t && list_all is_blank bs) blank ∙ ap (list_all is_blank) (sym (behind_one line bs place b e)) ∙ s
blank_before line bs place b (t ∷ ts) e blank (n, s) =
    (record { behind = omega (arith, n.behind); blanks = one_blank line bs place t.from b e blank n.behind n.blanks; has_bytes = n.has_bytes; inside = n.inside; kind = n.kind; longest = n.longest }, s)

-- a blank more stands before them, up to an end
blank_before_end : (line bs : List ℕ) (place b end : ℕ) (ts : List Token) → drop place line ≡ b ∷ bs → is_blank b ≡ true → StandUpTo line (place + 1) end ts → StandUpTo line place end ts
blank_before_end line bs place b end [] e blank s = (omega (arith, s.0), one_blank line bs place end b e blank s.0 s.1)
blank_before_end line bs place b end (t ∷ ts) e blank (n, s) =
    (record { behind = omega (arith, n.behind); blanks = one_blank line bs place t.from b e blank n.behind n.blanks; has_bytes = n.has_bytes; inside = n.inside; kind = n.kind; longest = n.longest }, s)

pub found_next : (line bs : List ℕ) (place : ℕ) (found : TokenKind × ℕ) → drop place line ≡ bs → 0 < length bs → longest bs ≡ Some found → IsNextToken line place (record { kind = found.0; from = place; to = place + found.1 })
found_next line bs place found e more is =
    let P : Option (TokenKind × ℕ) → Type 0 = λ o. IfSome o (λ f. (0 < f.1) × (f.1 ≤ length bs)) in
    let fits : (0 < found.1) × (found.1 ≤ length bs) = subst P is (longest_fits bs) in
    let none : place - place ≡ 0 = omega arith in
    let n : place + found.1 - place ≡ found.1 = omega arith in
    record {
      behind = omega arith;
      blanks = ap (λ m. list_all is_blank (take m (drop place line))) none;
      has_bytes = omega (arith, fits.0);
      inside = omega (arith, fits.1, ap length e, length-drop place line);
      kind = ap (λ m. kind_of (take m (drop place line))) n ∙ ap (λ xs. kind_of (take found.1 xs)) e ∙ longest_kind bs found is;
      longest = λ end low high. ap (λ xs. kind_of (take (end - place) xs)) e ∙ none_longer bs found is (end - place) (omega (arith, low)) (omega (arith, high, ap length e, length-drop place line));
    }

-- what a line comes to from a place on: tokens that stand there, or a place at which none begins
abbrev pub ComesTo : List ℕ → ℕ → Result (List Token) ℕ → Type 0
ComesTo line place (Ok ts) = StandFrom line place ts
ComesTo line place (Err at) = IsStuck line place at

stand_first : (line : List ℕ) (place : ℕ) (t : Token) (r : Result (List Token) ℕ) → IsNextToken line place t → ComesTo line t.to r → ComesTo line place (with_first t r)
stand_first line place t (Ok ts) n s = (n, s)
stand_first line place t (Err at) n s = record { before = t ∷ s.before; stand = (n, s.stand); inside = s.inside; no_blank = s.no_blank; none = s.none }

-- no token begins here
stuck_here : (line bs : List ℕ) (place b : ℕ) → drop place line ≡ b ∷ bs → is_blank b ≡ false → longest (b ∷ bs) ≡ None → IsStuck line place place
stuck_here line bs place b e solid is =
    let long : length line - place ≡ suc (length bs) = sym (length-drop place line) ∙ ap length e in
    let none : place - place ≡ 0 = omega arith in
    record {
      before = [];
      stand = (omega arith, ap (λ m. list_all is_blank (take m (drop place line))) none);
      inside = omega (arith, long);
      no_blank = ap is_blank (sym (get_or-drop place line 0 0 ∙ ap (λ i. get_or line i 0) (add-zero place)) ∙ ap (λ xs. get_or xs 0 0) e) ∙ solid;
      none = λ end low high. ap (λ xs. kind_of (take (end - place) xs)) e ∙ no_front (b ∷ bs) is (end - place) (omega (arith, low)) (omega (arith, high, long));
    }

stand_then : (line bs : List ℕ) (place b : ℕ) (o : Option (TokenKind × ℕ)) → drop place line ≡ b ∷ bs → is_blank b ≡ false → longest (b ∷ bs) ≡ o → ((inside : ℕ) → ComesTo line (place + 1 + inside) (tokens_from inside (place + 1) bs)) → ComesTo line place (token_then o place (λ inside. tokens_from inside (place + 1) bs))
stand_then line bs place b None e solid is ih = stuck_here line bs place b e solid is
stand_then line bs place b (Some found) e solid is ih =
    let n = found_next line (b ∷ bs) place found e (omega arith) is in
    let P : ℕ → Type 0 = λ m. ComesTo line m (tokens_from (found.1 - 1) (place + 1) bs) in
    let same : place + 1 + (found.1 - 1) ≡ place + found.1 = omega (arith, n.has_bytes) in
    stand_first line place (record { kind = found.0; from = place; to = place + found.1 }) (tokens_from (found.1 - 1) (place + 1) bs) n (subst P same (ih (found.1 - 1)))

stand_blank : (line bs : List ℕ) (place b : ℕ) (r : Result (List Token) ℕ) → drop place line ≡ b ∷ bs → is_blank b ≡ true → ComesTo line (place + 1) r → ComesTo line place r
stand_blank line bs place b (Ok ts) e blank s = blank_before line bs place b ts e blank s
stand_blank line bs place b (Err at) e blank s = record { before = s.before; stand = blank_before_end line bs place b at s.before e blank s.stand; inside = s.inside; no_blank = s.no_blank; none = s.none }

stand_on : (line bs : List ℕ) (place b : ℕ) (t : Bool) → drop place line ≡ b ∷ bs → is_blank b ≡ t → ((inside : ℕ) → ComesTo line (place + 1 + inside) (tokens_from inside (place + 1) bs)) → ComesTo line place (cond t (tokens_from 0 (place + 1) bs) (token_then (longest (b ∷ bs)) place (λ inside. tokens_from inside (place + 1) bs)))
stand_on line bs place b true e is ih =
    let P : ℕ → Type 0 = λ m. ComesTo line m (tokens_from 0 (place + 1) bs) in
    let same : place + 1 + 0 ≡ place + 1 = omega arith in
    stand_blank line bs place b (tokens_from 0 (place + 1) bs) e is (subst P same (ih 0))
stand_on line bs place b false e is ih = stand_then line bs place b (longest (b ∷ bs)) e is refl ih

drop_nothing : (n : ℕ) → drop {A = ℕ} n [] ≡ []
drop_nothing zero = refl
drop_nothing (suc n) = refl

stand_from : (line bs : List ℕ) (place inside : ℕ) → drop place line ≡ bs → ComesTo line (place + inside) (tokens_from inside place bs)
stand_from line [] place inside e = ap (list_all is_blank) (ap (λ n. drop n line) (omega arith) ∙ sym (drop-drop inside place line) ∙ ap (drop inside) e ∙ drop_nothing inside)
stand_from line (b ∷ bs) place (suc inside) e =
    let P : ℕ → Type 0 = λ m. ComesTo line m (tokens_from inside (place + 1) bs) in
    let same : place + 1 + inside ≡ place + suc inside = omega arith in
    subst P same (stand_from line bs (place + 1) inside (behind_one line bs place b e))
stand_from line (b ∷ bs) place zero e =
    let P : ℕ → Type 0 = λ m. ComesTo line m (tokens_from 0 place (b ∷ bs)) in
    let same : place ≡ place + 0 = omega arith in
    subst P same (stand_on line bs place b (is_blank b) e refl (λ inside. stand_from line bs (place + 1) inside (behind_one line bs place b e)))

-- what the line comes to
pub line_comes : (line : List ℕ) (r : Result (List Token) ℕ) → tokens line ≡ r → ComesTo line 0 r
line_comes line r e = subst (ComesTo line 0) e (stand_from line line 0 0 refl)

pub tokens_stand : (line : List ℕ) (ts : List Token) → tokens line ≡ Ok ts → StandFrom line 0 ts
tokens_stand line ts e = line_comes line (Ok ts) e

pub fault_stuck : (line : List ℕ) (at : ℕ) → tokens line ≡ Err at → IsStuck line 0 at
fault_stuck line at e = line_comes line (Err at) e
