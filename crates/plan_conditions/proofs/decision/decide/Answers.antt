use Rattle.std.proofs.Common.{◌≡◌, false, subst, sym, arith, Some, None}
use Rattle.sem_query.specs.declared.part.Part.{Part}
use Rattle.sem_query.specs.Query.{is_filter}
use Rattle.sem_query.specs.Parts.{IsPart, sign_lists}
use Rattle.sem_query.specs.FirstBreak.{IsFirstBreak}
use Rattle.plan_conditions.proofs.Numbered.{part_there, signs_at, one_fails, none_more, none_fails}
use Rattle.plan_conditions.proofs.decision.decide.Goals as goal

pub break_of-requires-clause-part : goal.break_of-requires-clause-part
break_of-requires-clause-part c = subst (λ (z : Part). IsPart c.args.q.now z.signs.items) (sym c.index-parts-i.is) (part_there c.args.q.now (sign_lists c.args.parts.now) c.loop-i.i _ c.requires.parts.each (signs_at c.args.parts.now c.loop-i.i c.index-parts-i.result c.loop-i-test.true))

pub returns-in-Some : goal.returns-in-Some
returns-in-Some c =
    let f : is_filter c.args.q.now ≡ false = cc (c.is_filter.ensures, c.if-is_filter.false) in
    one_fails c.args.q.now c.args.parts.now c.loop-i.i _ c.index-parts-i.result c.in-Some.found f c.requires.parts c.loop-i-test.true (omega arith) c.loop-i.invariant.none (subst (λ (z : Part). IsFirstBreak c.args.q.now z.signs.items (Some c.in-Some.found)) c.index-parts-i.is c.in-Some.ensures.found)

pub loop-i-preserved : goal.loop-i-preserved
loop-i-preserved c = record {
  none = none_more c.args.q.now c.args.parts.now c.loop-i.i c.index-parts-i.result c.loop-i-test.true c.loop-i.invariant.none (subst (λ (z : Part). IsFirstBreak c.args.q.now z.signs.items None) c.index-parts-i.is c.in-None.ensures.found);
  begun = c.in-None.ensures.begun;
}

pub returns : goal.returns
returns c =
    let f : is_filter c.args.q.now ≡ false = cc (c.is_filter.ensures, c.if-is_filter.false) in
    none_fails c.args.q.now c.args.parts.now c.loop-i.i f c.requires.parts c.loop-i-test.false c.loop-i.invariant.none
