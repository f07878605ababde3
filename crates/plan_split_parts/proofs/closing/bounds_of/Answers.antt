use Rattle.std.proofs.Common.{arith}
use Rattle.std.proofs.Math.ListN.{length-set}
use Rattle.plan_split_parts.proofs.Tabled.{bounds_more}
use Rattle.plan_split_parts.proofs.closing.bounds_of.Goals as goal

pub loop-place-init : goal.loop-place-init
loop-place-init c = record { long = omega arith; told = λ k l. absurd (omega (arith, l)) }

pub loop-place-preserved : goal.loop-place-preserved
loop-place-preserved c = record {
  long = omega (arith, length-set c.loop-place.bounds c.from.result c.bound_for.result, c.loop-place.invariant.long);
  told = λ k l. bounds_more c.args.distances.now c.loop-place.bounds c.loop-place.place c.from.result c.bound_for.result c.from.ensures (let m = c.loop-place-test.true in let n = c.loop-place.invariant.long in omega (arith, m, n)) c.loop-place.invariant.told c.bound_for.ensures k (omega (arith, l));
}

pub returns : goal.returns
returns c = λ k l. c.loop-place.invariant.told k (let m = c.loop-place-test.false in omega (arith, l, m))
