use Rattle.std.proofs.Common.{◌≡◌, ◌+◌, true, get_or, sym, ◌∙◌, arith}
use Rattle.sql_text.specs.Word.{is_digit}
use Rattle.sql_text.proofs.LeadingValue.{digit_few}
use Rattle.io_row_reader.proofs.DigitLanes.{digits_begun}
use Rattle.io_row_reader.proofs.FieldsAhead.{digit_more}
use Rattle.io_row_reader.proofs.PlainFields.{within_18}
use Rattle.io_row_reader.proofs.row_ahead.all_digits_at.Goals as goal

pub digits-init : goal.digits-init
digits-init c =
    let f = c.first_digits-amount in
    digits_begun c.args.text.now c.args.start f.result.1 f.result.0 f.ensures.digits f.ensures.within f.ensures.amount

pub digits-preserved : goal.digits-preserved
digits-preserved c =
    let byte = get_or c.args.text.now (c.args.start + c.digits.len) 0 in
    let digit : is_digit byte ≡ true = sym c.is_ascii_digit.ensures.value ∙ c.if-not-is_ascii_digit.false in
    digit_more c.args.text.now c.args.start c.digits.len c.digits.amount c.from.result _ c.requires.ended c.digits.invariant (digit, c.from.ensures) (omega (arith, c.from.ensures, digit_few byte digit)) (λ small few. omega (arith, small, few))

pub returns-then-not-is_ascii_digit-clause-small : goal.returns-then-not-is_ascii_digit-clause-small
returns-then-not-is_ascii_digit-clause-small c = λ few. within_18 c.digits.amount c.digits.len (c.digits.invariant.small (omega (arith, few))) few
