use Rattle.std.proofs.Common.{◌∙◌}
use Rattle.sql_text.proofs.LeadingValue.{digits_found, value_behind}
use Rattle.sql_text.proofs.value.leading_i64.Goals as goal

pub returns-clause-value : goal.returns-clause-value
returns-clause-value c =
    c.signed_value.ensures
    ∙ digits_found c.split_sign-negative.result.1.now c.leading_amount-amount.result.1 c.leading_amount-amount.result.0 c.split_sign-negative.result.0 c.leading_amount-amount.ensures.len c.leading_amount-amount.ensures.amount
    ∙ value_behind c.args.text.now c.split_sign-negative.result.1.now c.split_sign-negative.result.0 c.split_sign-negative.ensures.negative c.split_sign-negative.ensures.behind
