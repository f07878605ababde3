use Rattle.std.proofs.Common.{arith, refl}
use Rattle.sem_laws.proofs.Tests.{not_both}
use Rattle.plan_whole.proofs.Placed.{filled, one_placed, one_passed, all_placed}
use Rattle.plan_whole.proofs.places.places_of.Goals as goal
use Rattle.plan_whole.proofs.places.places_of.Goals.{then-is_tabled, else-is_tabled}

pub loop-i-init : goal.loop-i-init
loop-i-init c = filled c.args.attrs.now _ refl

pub loop-i-preserved : goal.loop-i-preserved
loop-i-preserved c =
    let l = c.loop-i-test.true in
    elim c.if-is_tabled.branch [
      | then-is_tabled w ↦ (let t = c.is_tabled.ensures.0 w.if-is_tabled.true in rw w.places-is (one_placed c.args.attrs.now _ _ _ w.index_of.result _ c.loop-i.places (omega (arith, l)) (omega (arith, l)) refl t.0 t.1 w.index_of.ensures c.loop-i.invariant))
      | else-is_tabled w ↦ rw w.places-is (one_passed c.args.attrs.now _ _ _ c.loop-i.places (omega (arith, l)) (omega (arith, l)) (λ t. not_both c.is_tabled.result (c.is_tabled.ensures.1 t) w.if-is_tabled.false) c.loop-i.invariant)
    ]

pub returns : goal.returns
returns c = all_placed c.args.attrs.now _ c.loop-i.places (let m = c.loop-i-test.false in omega (arith, m)) c.loop-i.invariant
