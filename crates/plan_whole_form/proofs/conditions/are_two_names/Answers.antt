use Rattle.std.proofs.Common.{◌↔◌, ◌∙◌, ◌&&◌, not, ap, IsTrue, sym, subst}
use Rattle.plan_whole_form.specs.Conditions.{AreKnownColumns, AreTwoNames}
use Rattle.plan_whole_form.proofs.Conditioned.{two_names_told}
use Rattle.plan_whole_form.proofs.conditions.are_two_names.Goals as goal

pub returns : goal.returns
returns c = λ q n.
    subst (λ b. IsTrue b ↔ AreTwoNames q c.args.a c.args.b) (sym (c.both-2.ensures ∙ ap (λ b. b && not c.is_same-same.result) c.both.ensures))
    (two_names_told q c.args.a c.args.b c.names_class-left.result c.names_class-right.result c.is_same-same.result (c.names_class-left.ensures q n)
    (c.names_class-right.ensures q (subst (λ s. AreKnownColumns q s c.args.columns.now) (sym c.requires.beside) n)) c.is_same-same.ensures)
