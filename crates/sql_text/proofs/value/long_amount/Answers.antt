use Rattle.std.proofs.Common.{◌≡◌, ℕ, ◌+◌, true, take, get_or, arith, sym, subst, ◌∙◌}
use Rattle.std.proofs.lemmas.List.Sums.{prefix_len-drop_yes}
use Rattle.sql_text.specs.Word.{is_digit}
use Rattle.sql_text.specs.Value.{amount, IsKept}
use Rattle.sql_text.proofs.LeadingValue.{amount_more}
use Rattle.sql_text.proofs.value.long_amount.Goals as goal

pub loop-i-preserved : goal.loop-i-preserved
loop-i-preserved c =
    let here : is_digit (get_or c.args.text.now c.loop-i.i 0) ≡ true = sym c.is_ascii_digit.ensures.value ∙ c.if-not-is_ascii_digit.false in
    record {
      digits = omega (arith, c.loop-i.invariant.digits, prefix_len-drop_yes is_digit c.args.text.now c.loop-i.i 0 c.loop-i-test.true here);
      amount = let P : ℕ → Type 0 = λ n. IsKept n (amount (take (c.loop-i.i + 1) c.args.text.now)) in subst P (sym c.with_digit-amount.ensures) (amount_more c.args.text.now c.loop-i.i c.loop-i.amount c.loop-i-test.true c.loop-i.invariant.amount);
    }
