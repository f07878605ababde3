use Rattle.std.proofs.Common.{◌≡◌, ◌∙◌, arith, drop, sym, ap, Option, Some, None, ◌≢◌, inl, inr, ◌+◌, refl, get_or}
use Rattle.std.proofs.lemmas.Bool.{false≢true}
use Rattle.std.proofs.lemmas.List.Sums.{prefix_len-le-length}
use Rattle.std.specs.List.{prefix_len}
use Rattle.sql_text.specs.Word.{is_word_byte, is_digit}
use Rattle.sql_lexer.specs.declared.token.TokenKind.{TokenKind}
use Rattle.sql_lexer.specs.declared.token.TokenKind.TheVariants.{Integer}
use Rattle.sql_lexer.specs.Tokens.{symbol_of}
use Rattle.sql_lexer.proofs.Longest.{letter_longest, digit_longest, signed_longest, signed_alone, other_longest, two_or_one, fits_of}
use Rattle.sql_lexer.proofs.lexing.first_token.Goals as goal

pub split_at-requires : goal.split_at-requires
split_at-requires c = omega (arith, prefix_len-le-length is_word_byte c.args.bytes.now)

pub returns-then-is_letter-clause-longest : goal.returns-then-is_letter-clause-longest
returns-then-is_letter-clause-longest c = let e = letter_longest c.args.bytes.now c.requires.0 (sym c.if-is_letter.ensures) in cc

pub returns-then-is_ascii_digit-clause-longest : goal.returns-then-is_ascii_digit-clause-longest
returns-then-is_ascii_digit-clause-longest c = let e = digit_longest c.args.bytes.now c.requires.0 (sym c.if-is_ascii_digit.ensures.value) in cc

pub returns-then-is_ascii_digit-clause-fits : goal.returns-then-is_ascii_digit-clause-fits
returns-then-is_ascii_digit-clause-fits c = fits_of c.args.bytes.now _ (returns-then-is_ascii_digit-clause-longest c)

pub overflow_add-result : goal.overflow_add-result
overflow_add-result c = omega (arith, prefix_len-le-length is_digit c.split_at-then-is_sign.result.1.now)

pub returns-then-len-eq0-clause-longest : goal.returns-then-len-eq0-clause-longest
returns-then-len-eq0-clause-longest c =
    let none : prefix_len is_digit (drop 1 c.args.bytes.now) ≡ 0 = ap (prefix_len is_digit) (sym c.split_at-then-is_sign.ensures.back) ∙ sym c.digits_len-len.ensures ∙ c.if-len-eq0.true in
    sym (signed_alone c.args.bytes.now c.requires.0 (c.if-is_sign.ensures.0 refl) none)

pub returns-else-len-eq0-clause-longest : goal.returns-else-len-eq0-clause-longest
returns-else-len-eq0-clause-longest c =
    let same : c.digits_len-len.result ≡ prefix_len is_digit (drop 1 c.args.bytes.now) = c.digits_len-len.ensures ∙ ap (prefix_len is_digit) c.split_at-then-is_sign.ensures.back in
    let differs : c.digits_len-len.result ≢ 0 = c.if-len-eq0.false in
    ap (λ n. Some (Integer, n + 1)) same ∙ sym (signed_longest c.args.bytes.now c.requires.0 (c.if-is_sign.ensures.0 refl) (omega arith))

pub returns-else-len-eq0-clause-fits : goal.returns-else-len-eq0-clause-fits
returns-else-len-eq0-clause-fits c = fits_of c.args.bytes.now _ (returns-else-len-eq0-clause-longest c)

pub returns-in-Some-clause-longest : goal.returns-in-Some-clause-longest
returns-in-Some-clause-longest c =
    let e = other_longest c.args.bytes.now c.requires.0 (sym c.if-is_letter.ensures) (sym c.if-is_ascii_digit.ensures.value) (λ p. false≢true (c.if-is_sign.ensures.1 (inl p))) (λ m. false≢true (c.if-is_sign.ensures.1 (inr m))) in
    sym (e ∙ ap (λ (o : Option TokenKind). two_or_one o (symbol_of (get_or c.args.bytes.now 0 0))) (sym c.in-Some.ensures))

pub returns-in-Some-symbol-clause-longest : goal.returns-in-Some-symbol-clause-longest
returns-in-Some-symbol-clause-longest c =
    let e = other_longest c.args.bytes.now c.requires.0 (sym c.if-is_letter.ensures) (sym c.if-is_ascii_digit.ensures.value) (λ p. false≢true (c.if-is_sign.ensures.1 (inl p))) (λ m. false≢true (c.if-is_sign.ensures.1 (inr m))) in
    sym (e ∙ ap (λ (o : Option TokenKind). two_or_one o (symbol_of (get_or c.args.bytes.now 0 0))) (sym c.in-None.ensures) ∙ ap (two_or_one None) (sym c.in-Some-symbol.ensures))

pub returns-in-None-symbol-clause-longest : goal.returns-in-None-symbol-clause-longest
returns-in-None-symbol-clause-longest c =
    let e = other_longest c.args.bytes.now c.requires.0 (sym c.if-is_letter.ensures) (sym c.if-is_ascii_digit.ensures.value) (λ p. false≢true (c.if-is_sign.ensures.1 (inl p))) (λ m. false≢true (c.if-is_sign.ensures.1 (inr m))) in
    sym (e ∙ ap (λ (o : Option TokenKind). two_or_one o (symbol_of (get_or c.args.bytes.now 0 0))) (sym c.in-None.ensures) ∙ ap (two_or_one None) (sym c.in-None-symbol.ensures))
