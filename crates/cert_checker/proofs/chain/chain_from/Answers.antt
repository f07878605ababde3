use Rattle.std.proofs.Common.{◌≡◌, ◌+ℤ◌, ◌≤ℤ◌, neg_ℤ, pos, to_z, of_z, w64, refl, arith, sym, ◌∙◌}
use Rattle.std.proofs.lemmas.Int.{ints}
use Rattle.plan_constraints.specs.Solutions.{IsWithin}
use Rattle.cert_checker.proofs.WalkedChains.{within_numbered, lower_more, upper_more, leads_next, leads_all}
use Rattle.cert_checker.proofs.chain.chain_from.Goals as goal

pub loop-number-preserved : goal.loop-number-preserved
loop-number-preserved c =
    let at = sym c.numbered.ensures ∙ c.in_ok-c.was in
    let w : IsWithin 12 c.in_ok-c.c = within_numbered 12 c.args.cs.now _ c.in_ok-c.c c.requires.within at in
    let low : neg_ℤ (pos 1000000000000000) ≤ℤ c.in_ok-c.c.bound = w.low in
    let high : c.in_ok-c.c.bound ≤ℤ pos 1000000000000000 = w.high in
    let sum : to_z w64 (of_z w64 (to_z w64 c.loop-number.sum-bits +ℤ to_z w64 (of_z w64 c.in_ok-c.c.bound))) ≡ to_z w64 c.loop-number.sum-bits +ℤ c.in_ok-c.c.bound = omega (arith, ints) in
    record {
      leads = leads_next c.args.cs.now c.args.numbers.now c.args.from c.loop-number.number-index c.loop-number.to (to_z w64 c.loop-number.sum-bits) _ c.in_ok-c.c c.loop-number-test.true c.loop-number.invariant.leads at c.if-c-to.false sum;
      low = rw sum (lower_more c.loop-number.number-index _ c.in_ok-c.c.bound c.loop-number.invariant.low low);
      high = rw sum (upper_more c.loop-number.number-index _ c.in_ok-c.c.bound c.loop-number.invariant.high high);
    }

pub returns-clause-chain : goal.returns-clause-chain
returns-clause-chain c = (refl, leads_all c.args.cs.now c.args.numbers.now c.args.from c.loop-number.number-index c.loop-number.to _ c.loop-number-test.false c.loop-number.invariant.leads)
