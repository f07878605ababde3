-- The tokens so far, and those of what is left.
use Rattle.std.proofs.Common.{◌≡◌, ℕ, zero, suc, ◌+◌, ◌-◌, ◌<◌, true, false, cond, List, [], ◌∷◌, ◌++◌, length, drop, Some, None, Result, Ok, Err, refl, ap, ◌∙◌, arith, get_or, length-drop, add-zero}
use Rattle.std.proofs.lemmas.List.{drop-drop, get_or-drop}
use Rattle.sql_lexer.specs.declared.token.TokenKind.{TokenKind}
use Rattle.sql_lexer.specs.declared.token.Token.{Token}
use Rattle.sql_lexer.specs.Tokens.{is_blank, longest, tokens_from, token_then, with_first}

-- ts, and then those that r has
abbrev pub after : List Token → Result (List Token) ℕ → Result (List Token) ℕ
after [] r = r
after (t ∷ ts) r = with_first t (after ts r)

pub after_one : (ts : List Token) (t : Token) (r : Result (List Token) ℕ) → after (ts ++ t ∷ []) r ≡ after ts (with_first t r)
after_one [] t r = refl
after_one (s ∷ ts) t r = ap (with_first s) (after_one ts t r)

pub after_end : (ts : List Token) → after ts (Ok []) ≡ Ok ts
after_end [] = refl
after_end (t ∷ ts) = ap (with_first t) (after_end ts)

pub after_err : (ts : List Token) (at : ℕ) → after ts (Err at) ≡ Err at
after_err [] at = refl
after_err (t ∷ ts) at = ap (with_first t) (after_err ts at)

-- what is left of a token is passed over
pub passed : (n place : ℕ) (bs : List ℕ) → tokens_from n place bs ≡ tokens_from 0 (place + n) (drop n bs)
passed zero place bs = ap (λ p. tokens_from 0 p bs) (omega arith)
passed (suc n) place [] = refl
passed (suc n) place (b ∷ bs) = passed n (place + 1) bs ∙ ap (λ p. tokens_from 0 p (drop n bs)) (omega arith)

-- a blank is passed over
pub blank_front : (place : ℕ) (bs : List ℕ) → 0 < length bs → is_blank (get_or bs 0 0) ≡ true → tokens_from 0 place bs ≡ tokens_from 0 (place + 1) (drop 1 bs)
blank_front place [] h e = absurd (omega arith)
blank_front place (b ∷ bs) h e = ap (λ t. cond t (tokens_from 0 (place + 1) bs) (token_then (longest (b ∷ bs)) place (λ i. tokens_from i (place + 1) bs))) e

behind_front : (place m : ℕ) (bs : List ℕ) → tokens_from (suc m - 1) (place + 1) bs ≡ tokens_from 0 (place + suc m) (drop m bs)
behind_front place m bs =
    let less : suc m - 1 ≡ m = omega arith in
    let more : place + 1 + m ≡ place + suc m = omega arith in
    ap (λ n. tokens_from n (place + 1) bs) less ∙ passed m (place + 1) bs ∙ ap (λ p. tokens_from 0 p (drop m bs)) more

-- a token is the next one
pub token_front : (place len : ℕ) (kind : TokenKind) (bs : List ℕ) → 0 < length bs → is_blank (get_or bs 0 0) ≡ false → longest bs ≡ Some (kind, len) → 0 < len → tokens_from 0 place bs ≡ with_first (record { kind = kind; from = place; to = place + len }) (tokens_from 0 (place + len) (drop len bs))
token_front place len kind [] h b e more = absurd (omega arith)
token_front place zero kind (c ∷ bs) h b e more = absurd (omega arith)
token_front place (suc m) kind (c ∷ bs) h b e more =
    ap (λ t. cond t (tokens_from 0 (place + 1) bs) (token_then (longest (c ∷ bs)) place (λ i. tokens_from i (place + 1) bs))) b
    ∙ ap (λ o. token_then o place (λ i. tokens_from i (place + 1) bs)) e
    ∙ ap (with_first (record { kind = kind; from = place; to = place + suc m })) (behind_front place m bs)

no_token_front : (place : ℕ) (bs : List ℕ) → 0 < length bs → is_blank (get_or bs 0 0) ≡ false → longest bs ≡ None → tokens_from 0 place bs ≡ Err place
no_token_front place [] h b e = absurd (omega arith)
no_token_front place (c ∷ bs) h b e = ap (λ t. cond t (tokens_from 0 (place + 1) bs) (token_then (longest (c ∷ bs)) place (λ i. tokens_from i (place + 1) bs))) b ∙ ap (λ o. token_then o place (λ i. tokens_from i (place + 1) bs)) e

-- the same at a place of a line
pub blank_step : (line : List ℕ) (place : ℕ) → place < length line → is_blank (get_or line place 0) ≡ true → tokens_from 0 place (drop place line) ≡ tokens_from 0 (place + 1) (drop (place + 1) line)
blank_step line place h e = blank_front place (drop place line) (omega (arith, length-drop place line)) (ap is_blank (get_or-drop place line 0 0 ∙ ap (λ i. get_or line i 0) (add-zero place)) ∙ e) ∙ ap (tokens_from 0 (place + 1)) (drop-drop 1 place line)

pub token_step : (line : List ℕ) (place len : ℕ) (kind : TokenKind) → place < length line → is_blank (get_or line place 0) ≡ false → longest (drop place line) ≡ Some (kind, len) → 0 < len → tokens_from 0 place (drop place line) ≡ with_first (record { kind = kind; from = place; to = place + len }) (tokens_from 0 (place + len) (drop (place + len) line))
token_step line place len kind h b e more = token_front place len kind (drop place line) (omega (arith, length-drop place line)) (ap is_blank (get_or-drop place line 0 0 ∙ ap (λ i. get_or line i 0) (add-zero place)) ∙ b) e more ∙ ap (λ bs. with_first (record { kind = kind; from = place; to = place + len }) (tokens_from 0 (place + len) bs)) (drop-drop len place line)

pub no_token_step : (line : List ℕ) (place : ℕ) → place < length line → is_blank (get_or line place 0) ≡ false → longest (drop place line) ≡ None → tokens_from 0 place (drop place line) ≡ Err place
no_token_step line place h b e = no_token_front place (drop place line) (omega (arith, length-drop place line)) (ap is_blank (get_or-drop place line 0 0 ∙ ap (λ i. get_or line i 0) (add-zero place)) ∙ b) e
