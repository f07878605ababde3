use Rattle.std.proofs.Common.{◌∙◌, length, ap, sym, subst, arith}
use Rattle.plan_whole_form.proofs.Streamed.{AreConditionsTo, conditions_first, conditions_more, conditions_all}
use Rattle.plan_whole_form.proofs.Deciding.{conditions_decide}
use Rattle.plan_whole_form.proofs.conditions.conditions_of.Goals as goal

pub loop-place-init : goal.loop-place-init
loop-place-init c = record { within = omega arith; asked = subst (AreConditionsTo c.args.closed.now 0) (sym c.new-list.ensures.items) (conditions_first c.args.closed.now) }

pub loop-place-preserved : goal.loop-place-preserved
loop-place-preserved c = record {
  within = (let l = c.loop-place-test.true in let f = ap length (c.from-from.ensures.value ∙ c.query.ensures.from) in omega (arith, l, f));
  asked = conditions_more c.args.closed.now c.loop-place.place _ c.loop-place.list.items _ (omega arith) c.in_ok-add_stream.ensures c.loop-place.invariant.asked;
}

pub returns-clause-asked : goal.returns-clause-asked
returns-clause-asked c =
    let l = c.loop-place-test.false in
    let m = c.loop-place.invariant.within in
    let f = ap length (c.from-from.ensures.value ∙ c.query.ensures.from) in
    conditions_all c.args.closed.now c.loop-place.place c.loop-place.list.items (omega (arith, l, m, f)) c.loop-place.invariant.asked

pub returns-clause-admitted : goal.returns-clause-admitted
returns-clause-admitted c =
    let l = c.loop-place-test.false in
    let m = c.loop-place.invariant.within in
    let f = ap length (c.from-from.ensures.value ∙ c.query.ensures.from) in
    conditions_decide c.args.closed.now c.query.ensures.formed c.query.ensures.solvable c.loop-place.list.items (conditions_all c.args.closed.now c.loop-place.place c.loop-place.list.items (omega (arith, l, m, f)) c.loop-place.invariant.asked)
