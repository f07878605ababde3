use Rattle.std.proofs.Common.{subst}
use Rattle.plan_whole_form.specs.Part.{IsWhole}
use Rattle.plan_forms.proofs.Fitted.{none_broken}
use Rattle.plan_forms.proofs.fitting.fitting.Goals as goal

pub returns-in-Broken : goal.returns-in-Broken
returns-in-Broken c = none_broken c.args.closed.now c.query-query.ensures.formed c.in-Broken._found (subst (IsWhole c.args.closed.now) c.in-Broken.is c.in_ok-part.ensures)
