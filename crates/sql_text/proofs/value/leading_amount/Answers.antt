use Rattle.std.proofs.Common.{◌≡◌, ℕ, ◌+◌, ◌*◌, ◌<◌, true, take, get_or, arith, sym, subst, ◌∙◌}
use Rattle.std.proofs.lemmas.List.Sums.{prefix_len-drop_yes}
use Rattle.sql_text.specs.Word.{is_digit}
use Rattle.sql_text.specs.Value.{amount, IsKept}
use Rattle.sql_text.proofs.LeadingValue.{small_enough, small_more, amount_small, digit_few}
use Rattle.sql_text.proofs.value.leading_amount.Goals as goal

pub overflow_mul-amount : goal.overflow_mul-amount
overflow_mul-amount c =
    let room : c.loop-i.i < 18 = omega (arith, c.loop-i.invariant.few, c.if-i-eq18.false) in
    omega (arith, small_enough c.loop-i.amount c.loop-i.i c.loop-i.invariant.small room)

pub overflow_add-amount : goal.overflow_add-amount
overflow_add-amount c =
    let room : c.loop-i.i < 18 = omega (arith, c.loop-i.invariant.few, c.if-i-eq18.false) in
    let here : is_digit (get_or c.args.text.now c.loop-i.i 0) ≡ true = sym c.is_ascii_digit.ensures.value ∙ c.if-not-is_ascii_digit.false in
    omega (arith, small_enough c.loop-i.amount c.loop-i.i c.loop-i.invariant.small room, c.from.ensures, digit_few (get_or c.args.text.now c.loop-i.i 0) here)

pub loop-i-preserved : goal.loop-i-preserved
loop-i-preserved c =
    let text = c.args.text.now in
    let i = c.loop-i.i in
    let kept = c.loop-i.amount in
    let room : i < 18 = omega (arith, c.loop-i.invariant.few, c.if-i-eq18.false) in
    let here : is_digit (get_or text i 0) ≡ true = sym c.is_ascii_digit.ensures.value ∙ c.if-not-is_ascii_digit.false in
    let digit : c.from.result < 10 = omega (arith, c.from.ensures, digit_few (get_or text i 0) here) in
    let P : ℕ → Type 0 = λ d. IsKept (kept * 10 + d) (amount (take (i + 1) text)) in
    record {
      digits = omega (arith, c.loop-i.invariant.digits, prefix_len-drop_yes is_digit text i 0 c.loop-i-test.true here);
      amount = subst P (sym c.from.ensures) (amount_small text i kept c.loop-i-test.true c.loop-i.invariant.amount (small_enough kept i c.loop-i.invariant.small room));
      small = small_more kept c.from.result i c.loop-i.invariant.small digit;
      few = omega (arith, room);
    }
