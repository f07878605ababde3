use Rattle.std.proofs.Common.{◌≡◌, ◌<◌, ◌==◌, ℕ, false, length, arith, ap, sym, ◌∙◌}
use Rattle.std.proofs.lemmas.Bool.Decides.{nat_tests}
use Rattle.sql_text.proofs.LeadingValue.{more_no_value}
use Rattle.sql_text.proofs.value.read_i64.Goals as goal

some_left : (n : ℕ) → (n == 0) ≡ false → 0 < n
some_left n h = grind (arith, nat_tests)

pub returns-else-is_empty : goal.returns-else-is_empty
returns-else-is_empty c =
    let more : 0 < length c.leading_i64-value.result.1.now = some_left _ (sym c.is_empty.ensures ∙ c.if-is_empty.false) in
    sym (more_no_value c.args.text.now (omega (arith, more, ap length c.leading_i64-value.ensures.behind)))
