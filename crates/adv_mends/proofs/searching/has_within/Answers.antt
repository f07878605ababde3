use Rattle.std.proofs.Common.{◌∙◌, refl}
use Rattle.adv_mends.proofs.SetSearchLaws.{more_none, within_one, none_within}
use Rattle.adv_mends.proofs.searching.has_within.Goals as goal

pub loop-i-preserved : goal.loop-i-preserved
loop-i-preserved c =
    more_none c.args.sets.now c.loop-i.i c.args.columns.now _ _ c.loop-i-test.true c.loop-i.invariant (c.columns.ensures.value ∙ c.index-sets-i.is)
    (λ s. let h = c.is_sublist.ensures.1 s in let f = c.if-is_sublist.false in absurd cc)

pub returns-then-is_sublist : goal.returns-then-is_sublist
returns-then-is_sublist c = (
  (λ h. within_one c.args.sets.now c.loop-i.i c.args.columns.now _ _ c.loop-i-test.true (c.columns.ensures.value ∙ c.index-sets-i.is) (c.is_sublist.ensures.0 c.if-is_sublist.true)),
  (λ w. refl),
)

pub returns : goal.returns
returns c = ((λ h. absurd cc), (λ w. absurd (none_within c.args.sets.now c.loop-i.i c.args.columns.now c.loop-i-test.false c.loop-i.invariant w)))
