use Rattle.std.proofs.Common.{◌↔◌, ◌∙◌, IsTrue, Contains, subst}
use Rattle.plan_whole_form.proofs.conditions.is_compared.Goals as goal

pub returns : goal.returns
returns c = subst (λ xs. IsTrue c.is_among.result ↔ Contains xs c.args.a) (c.attrs.ensures.value ∙ c.query.ensures.attrs) c.is_among.ensures
