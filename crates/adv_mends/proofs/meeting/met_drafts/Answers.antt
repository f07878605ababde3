use Rattle.std.proofs.Common.{subst}
use Rattle.plan_forms.specs.Planned.{IsRefusedByParts}
use Rattle.adv_mends.proofs.FewParts.{violated}
use Rattle.adv_mends.proofs.meeting.met_drafts.Goals as goal

pub returns-in-Err-Violation : goal.returns-in-Err-Violation
returns-in-Err-Violation c =
    violated c.args.query.now _ (subst (IsRefusedByParts c.args.query.now) c.in-Err-Violation.field-0-is c.in-Err-Violation.ensures.refused).1
