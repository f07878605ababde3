use Rattle.std.proofs.Common.{◌∙◌, sym, subst}
use Rattle.sem_laws.proofs.Tests.{attr_eq-is}
use Rattle.sem_whole.specs.Plan.{NamesClass}
use Rattle.plan_whole_form.proofs.Conditioned.{differ}
use Rattle.plan_whole_form.proofs.conditions.tie.Goals as goal

pub returns-then-is_same : goal.returns-then-is_same
returns-then-is_same c = λ q n. subst (NamesClass q) (attr_eq-is c.column_in.result.name c.args.a (sym c.is_same.ensures ∙ c.if-is_same.true)) (c.column_in.ensures q n).name.name

pub returns : goal.returns
returns c = λ q n. (c.column_in.result.name, (c.column_in.ensures q n).name, differ c.column_in.result.name c.args.a (sym c.is_same.ensures ∙ c.if-is_same.false), c.condition.ensures)
