use Rattle.std.proofs.Common.{subst, ◌∙◌, MatchOption}
use Rattle.plan_forms.specs.Planned.{AreDraftedByParts}
use Rattle.adv_mends.specs.Meeting.{Meets}
use Rattle.adv_mends.proofs.Never.{some_counted}
use Rattle.adv_mends.proofs.meeting.drafted_parts.Goals as goal

pub returns-in-Some : goal.returns-in-Some
returns-in-Some c =
    let d = subst (λ z. MatchOption z (¬ Meets c.args.query.now) (λ plans. AreDraftedByParts c.args.query.now plans.items)) c.in-Some.is c.in_ok-plans.ensures in
    (record { few = λ f. d.meets.few; violation = d.meets.none }, some_counted c.args.query.now c.in-Some.plans.items c.len.result (c.len.ensures ∙ c.in-Some.plans.ok.0) d.drafts)
