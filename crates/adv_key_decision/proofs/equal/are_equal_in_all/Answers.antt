use Rattle.std.proofs.Common.{◌≡◌, true, false, refl, subst, sym}
use Rattle.sem_query.specs.declared.part.Part.{Part}
use Rattle.sem_query.specs.Parts.{IsPart}
use Rattle.adv_key_decision.proofs.AllParts.{one-more, AreEqualIn, part-at, everywhere, in-part}
use Rattle.adv_key_decision.proofs.equal.are_equal_in_all.Goals as goal

pub are_equal_in-requires-clause-part : goal.are_equal_in-requires-clause-part
are_equal_in-requires-clause-part c = subst (λ (z : Part). IsPart c.args.q.now z.signs.items) (sym c.index-parts-i.is) (part-at c.args.q.now c.args.parts.now c.requires.parts c.loop-i.i _ c.loop-i-test.true)

pub loop-i-preserved : goal.loop-i-preserved
loop-i-preserved c =
    one-more (AreEqualIn c.args.q.now c.args.a c.args.b) c.args.parts.now c.loop-i.i c.index-parts-i.result c.loop-i-test.true c.loop-i.invariant
    (subst (AreEqualIn c.args.q.now c.args.a c.args.b) c.index-parts-i.is (c.if-not-are_equal_in.ensures.0 refl))

pub returns-then-not-are_equal_in : goal.returns-then-not-are_equal_in
returns-then-not-are_equal_in c = (
  (λ h. cc),
  (λ e. (let z : false ≡ true = c.if-not-are_equal_in.ensures.1
      (subst (AreEqualIn c.args.q.now c.args.a c.args.b) (sym c.index-parts-i.is) (in-part c.args.q.now c.args.parts.now c.requires.parts c.args.a c.args.b c.loop-i.i c.index-parts-i.result c.loop-i-test.true e)) in cc)),
)

pub returns : goal.returns
returns c = ((λ h. everywhere c.args.q.now c.args.parts.now c.requires.parts c.args.a c.args.b c.loop-i.i c.loop-i-test.false c.loop-i.invariant), (λ e. refl))
