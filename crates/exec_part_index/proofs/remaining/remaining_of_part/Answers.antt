use Rattle.std.proofs.Common.{◌∙◌, List, sym, subst}
use Rattle.std.proofs.lemmas.Option.{get_or_from_slice_get}
use Rattle.std.proofs.lemmas.Result.{IfOk-weaker}
use Rattle.sem_query.specs.declared.part.Sign.{Sign}
use Rattle.sem_query.specs.declared.plan.PartPlan.{PartPlan}
use Rattle.sem_query.specs.Parts.{pairs}
use Rattle.exec_synopsis.specs.Preparing.{IsPrepared}
use Rattle.exec_part_index.specs.PartIndex.{code_after, AsksOnly}
use Rattle.exec_part_index.specs.Showing.{shown_signs}
use Rattle.exec_part_index.proofs.PreparedParts.{part_at}
use Rattle.exec_part_index.proofs.RemainingLaws.{said_or_left}
use Rattle.exec_part_index.proofs.remaining.remaining_of_part.Goals as goal

pub returns : goal.returns
returns c =
    let p = part_at c.args.parts.now c.args.i c.requires.inside in
    let is = subst (λ (x : PartPlan). IsPrepared (pairs c.args.q.now) x c.prepared_of-prepared.result.now)
    (sym (c.get.ensures p.0 ∙ get_or_from_slice_get c.args.parts.now c.args.i p.0 p.0 p.1)) (c.prepared_of-prepared.ensures p.0 p.1) in
    IfOk-weaker c.asked_beside.result _ _
    (λ list asks part at.
    subst (λ (x : PartPlan). AsksOnly c.args.q.now x c.args.place c.args.tested.now.pairs.items (code_after 0 (shown_signs c.args.tested.now c.args.i)) list.items)
    (c.get.ensures part ∙ get_or_from_slice_get c.args.parts.now c.args.i part part at)
    (subst (λ (ss : List Sign). AsksOnly c.args.q.now c.get.result.now c.args.place c.args.tested.now.pairs.items (code_after 0 ss) list.items) c.shown_at-shown.ensures.signs
    (said_or_left c.args.q.now c.get.result.now c.args.place c.prepared_of-prepared.result.now c.args.tested.now.pairs.items c.shown_at-shown.result.now list.items c.shown_at-shown.ensures.full c.requires.few is asks)))
    c.asked_beside.ensures
