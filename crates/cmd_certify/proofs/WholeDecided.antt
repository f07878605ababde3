-- What shows the whole form of a query that is judged by it decides that no condition is broken.
use Rattle.std.proofs.Common.{List, refl, subst}
use Rattle.sem_query.specs.declared.atom.Atom.{Atom}
use Rattle.sem_query.specs.declared.atom.Attr.{Attr}
use Rattle.sem_query.specs.declared.condition.Condition.{Condition}
use Rattle.sem_query.specs.declared.decision.Decision.TheVariants as decision
use Rattle.sem_query.specs.Query.{QueryValue, IsWithinLimits}
use Rattle.sem_whole.specs.Links.{AreLinks}
use Rattle.sem_whole.specs.Whole.{WholeBreaks}
use Rattle.sem_whole.proofs.Formed.{well_formed}
use Rattle.sem_whole.proofs.Suffice.{one_list_of_links}
use Rattle.sem_forms.specs.Part.{IsWholePartPlan}
use Rattle.sem_forms.specs.Forms.{HasWholeForm}
use Rattle.sem_forms.proofs.PartBreaks.{whole_parts_break_nothing}
use Rattle.cert_checker.specs.declared.shown.Shown.{Shown}
use Rattle.cert_checker.specs.Shown as shown
use Rattle.cert_checker.specs.Shown.{IsShownDecision}
use Rattle.cmd_certify.specs.Judged as judged
use Rattle.cmd_certify.specs.Judged.{IsJudgedBy}
use Rattle.cmd_certify.specs.Agreement.{WholeDecision}

-- no condition is broken by whatever list of links
unbroken : (q : QueryValue) → IsWithinLimits q → HasWholeForm q → (links : List Atom) → AreLinks q links → (c : Condition) (a : Attr) → WholeBreaks q links c a → ⊥
unbroken q within has links are c a b =
    let is : IsWholePartPlan q has.1 = has.2.plan in
    whole_parts_break_nothing q (well_formed q within) has.1 is c a
    (subst (λ (l : List Atom). WholeBreaks q l c a) (one_list_of_links q links is.links are is.plan.links) b)

form_of : (q : QueryValue) → IsJudgedBy q Shown.Whole → HasWholeForm q
form_of q (judged.whole by has) = has

pub whole_decision : WholeDecision
whole_decision q within by decision.Bounded n is = refl
whole_decision q within by (decision.Violation part condition a) n (shown.whole parts are failure count) =
    let b = failure.0.breaks in
    absurd (unbroken q within (form_of q by) b.links b.are condition a b.breaks)
