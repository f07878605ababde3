use Rattle.std.proofs.Common.{subst}
use Rattle.plan_forms.specs.Made.{IsMadeOr}
use Rattle.plan_forms.proofs.Systems.{lacks_end}
use Rattle.plan_forms.proofs.one.made_or.Goals as goal

pub returns-in-Err : goal.returns-in-Err
returns-in-Err c = lacks_end c.args.closed.now c.query-query.ensures.formed c.args.form.now c.requires c.in-Err.attr (subst (IsMadeOr c.args.closed.now c.args.form.now) c.in-Err.is c.in_ok-made.ensures)
