use Rattle.std.proofs.Common.{subst, sym, refl, ◌∙◌, ap, ◌++◌, ◌∷◌, [], Some, None, Err}
use Rattle.sem_query.specs.declared.part.Part.{Part}
use Rattle.sem_query.specs.Parts.{IsPart, sign_lists}
use Rattle.sem_query.specs.FirstBreak.{IsFirstBreak}
use Rattle.plan_conditions.proofs.Numbered.{none_more, none_fails, one_fails}
use Rattle.plan_layout.specs.declared.error.LayoutError.{LayoutError}
use Rattle.plan_layout.specs.Drafts.{signs_of}
use Rattle.plan_layout.specs.Sums.{IsDrafted}
use Rattle.plan_layout.proofs.Planning.{part_at, signs_next, all_signs}
use Rattle.plan_layout.proofs.plan.drafted.Goals as goal

pub refs-refs-requires-clause-part : goal.refs-refs-requires-clause-part
refs-refs-requires-clause-part c = subst (λ (z : Part). IsPart c.args.q.now z.signs.items) (sym c.index-parts-i.is) (part_at c.args.q.now c.args.parts.now c.loop-i.i c.index-parts-i.result c.requires.parts c.loop-i-test.true)

pub violation_of-requires-clause-part : goal.violation_of-requires-clause-part
violation_of-requires-clause-part c = subst (λ (z : Part). IsPart c.args.q.now z.signs.items) (sym c.index-parts-i.is) (part_at c.args.q.now c.args.parts.now c.loop-i.i c.index-parts-i.result c.requires.parts c.loop-i-test.true)

pub returns-in-Some : goal.returns-in-Some
returns-in-Some c =
    subst (λ (z : LayoutError). IsDrafted c.args.q.now (sign_lists c.args.parts.now) (Err z)) (sym c.violation_at.ensures)
    (one_fails c.args.q.now c.args.parts.now c.loop-i.i _ c.index-parts-i.result c.in-Some.found c.requires.plain c.requires.parts c.loop-i-test.true refl c.loop-i.invariant.fine
    (subst (λ (z : Part). IsFirstBreak c.args.q.now z.signs.items (Some c.in-Some.found)) c.index-parts-i.is c.in-Some.ensures))

pub add_part-requires-clause-part : goal.add_part-requires-clause-part
add_part-requires-clause-part c = subst (λ (z : Part). IsPart c.args.q.now z.signs.items) (sym c.index-parts-i.is) (part_at c.args.q.now c.args.parts.now c.loop-i.i c.index-parts-i.result c.requires.parts c.loop-i-test.true)

pub loop-i-preserved : goal.loop-i-preserved
loop-i-preserved c = record {
  drafted = c.in-Ok-add_part.ensures.drafted;
  signs = signs_next c.args.parts.now c.loop-i.draft.parts.items c.add_part.new.draft.parts.items c.loop-i.i c.index-parts-i.result c.loop-i-test.true c.loop-i.invariant.signs
      (c.in-Ok-add_part.ensures.signs ∙ ap (λ (z : Part). signs_of c.loop-i.draft.parts.items ++ z.signs.items ∷ []) c.index-parts-i.is);
  fine = none_more c.args.q.now c.args.parts.now c.loop-i.i c.index-parts-i.result c.loop-i-test.true c.loop-i.invariant.fine
      (subst (λ (z : Part). IsFirstBreak c.args.q.now z.signs.items None) c.index-parts-i.is c.in_default-violation_of.ensures);
  begun = c.refs-refs.ensures.begun;
}

pub returns : goal.returns
returns c = (
  c.loop-i.invariant.drafted,
  all_signs c.args.parts.now c.loop-i.draft.parts.items c.loop-i.i c.loop-i-test.false c.loop-i.invariant.signs,
  none_fails c.args.q.now c.args.parts.now c.loop-i.i c.requires.plain c.requires.parts c.loop-i-test.false c.loop-i.invariant.fine,
)
