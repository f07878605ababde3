use Rattle.std.proofs.Common.{◌∙◌, sym, subst}
use Rattle.plan_whole_form.specs.Conditions.{AreKnownColumns}
use Rattle.plan_whole_form.proofs.Conditioned.{not_compared}
use Rattle.plan_whole_form.proofs.conditions.are_compared.Goals as goal

pub returns : goal.returns
returns c = λ f q n. not_compared q c.args.a c.args.b c.column_in-left.result c.column_in-right.result (c.column_in-left.ensures q n) (c.column_in-right.ensures q (subst (λ s. AreKnownColumns q s c.args.columns.now) (sym c.requires.beside) n)) (sym c.both.ensures ∙ f)
