use Rattle.cert_checker.proofs.ByForm.{plain_finishes, whole_finishes, split_finishes}
use Rattle.cert_checker.proofs.decision.DecisionSoFar.finish.Goals as goal

pub returns-in-Plain : goal.returns-in-Plain
returns-in-Plain c = plain_finishes c.args.q.now c.select-columns.ensures.limits c.args.shown c.args.self c.in-Plain.is c.of_parts.result c.of_parts.ensures

pub returns-in-Whole : goal.returns-in-Whole
returns-in-Whole c = whole_finishes c.args.q.now c.select-columns.ensures.limits c.args.shown c.args.self c.in-Whole.is

pub returns-in-Split : goal.returns-in-Split
returns-in-Split c = split_finishes c.args.q.now c.select-columns.ensures.limits c.args.shown c.args.self c.in-Split.is
