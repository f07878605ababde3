use Rattle.std.proofs.Common.{length, subst, sym, Err}
use Rattle.plan_layout.specs.declared.error.LayoutError.{LayoutError}
use Rattle.sem_forms.specs.Split.{part_query}
use Rattle.plan_forms.specs.Drafts.{IsPartOr, IsSplitDrafted}
use Rattle.plan_forms.proofs.Listed.{is_front, none_more, drafts_more, fails_at, all_drafted}
use Rattle.plan_forms.specs.Hulls.{AreHulls}
use Rattle.plan_forms.proofs.HullLaws.{summed_once}
use Rattle.plan_forms.proofs.drafting.split_drafts.Goals as goal

pub part_of-requires-clause-front : goal.part_of-requires-clause-front
part_of-requires-clause-front c = is_front c.args.q.now c.args.fronts.now c.loop-i.i c.index-fronts-i.result c.loop-i-test.true c.index-fronts-i.is (length c.args.pairs.now) c.requires.fronts

pub returns-in-Ok-Err : goal.returns-in-Ok-Err
returns-in-Ok-Err c =
    subst (λ (z : LayoutError). IsSplitDrafted c.args.q.now (Err z)) (sym c.violation_at.ensures)
    (fails_at c.args.q.now c.args.fronts.now c.loop-i.i c.index-fronts-i.result c.loop-i-test.true c.index-fronts-i.is c.requires.parts c.in-Ok-Err.found
    (subst (IsPartOr (part_query c.args.q.now c.index-fronts-i.result.signs.items)) c.in-Ok-Err.field-0-is c.in-Ok-Err.ensures) c.loop-i.invariant.fine)

pub loop-i-preserved : goal.loop-i-preserved
loop-i-preserved c = record {
  summed = c.in-Ok-add_part.ensures.summed;
  hulls = c.in-Ok-add_part.ensures.hulls;
  drafts = drafts_more c.args.q.now c.args.fronts.now c.loop-i.i c.index-fronts-i.result c.loop-i-test.true c.index-fronts-i.is c.loop-i.draft c.add_part.new.draft c.in-Ok-add_part.ensures.added c.loop-i.invariant.drafts;
  fine = none_more c.args.q.now c.args.fronts.now c.loop-i.i c.index-fronts-i.result c.loop-i-test.true c.index-fronts-i.is c.from-from.ensures.limits c.requires.parts c.in-Ok-add_part.ensures.added.part c.in-Ok-add_part.ensures.added.draft c.loop-i.invariant.fine;
}

pub returns : goal.returns
returns c =
    all_drafted c.args.q.now c.args.fronts.now c.loop-i.i (record c.loop-i.draft { answers = c.min.result }) c.loop-i-test.false c.requires.few c.requires.parts
    (summed_once c.args.q.now c.loop-i.draft c.as_slice.result.now c.box_size.result c.min.result c.loop-i.invariant.summed
    (subst (AreHulls c.args.q.now c.loop-i.draft.parts.items) (sym c.as_slice.ensures.value) c.loop-i.invariant.hulls) c.box_size.ensures c.min.ensures)
    c.loop-i.invariant.drafts c.loop-i.invariant.fine
