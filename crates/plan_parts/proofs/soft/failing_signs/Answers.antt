use Rattle.std.proofs.Common.{◌≡◌, ◌∙◌, length, ap, arith}
use Rattle.sem_query.specs.Parts.{pairs}
use Rattle.plan_closure.proofs.Zips.{zip_more_at}
use Rattle.plan_parts.specs.Soft.{IsFails}
use Rattle.plan_parts.proofs.Failing.{so_many, table_ends}
use Rattle.plan_parts.proofs.soft.failing_signs.Goals as goal

pub push-requires : goal.push-requires
push-requires c =
    let e = c.as_slice-pairs.ensures.value ∙ c.pairs-pairs.ensures in
    let m : length c.as_slice-pairs.result.now ≡ length (pairs c.args.q.now) = ap length e in
    let n : length c.loop-i.list.items ≡ c.loop-i.i = so_many c.args.q.now (pairs c.args.q.now) c.loop-i.list.items c.loop-i.i (omega (arith, c.loop-i.invariant.within)) c.loop-i.invariant.told in
    (omega arith, omega (arith, n, m, c.loop-i.invariant.within, c.min-i-end.ensures, c.loop-i-test.true, c.as_slice-pairs.ensures.fits))

pub loop-i-preserved : goal.loop-i-preserved
loop-i-preserved c =
    let e = c.as_slice-pairs.ensures.value ∙ c.pairs-pairs.ensures in
    let m : length c.as_slice-pairs.result.now ≡ length (pairs c.args.q.now) = ap length e in
    record {
      told = zip_more_at (IsFails c.args.q.now) (pairs c.args.q.now) _ _ _ c.loop-i.i _ _ e (omega (arith, c.loop-i-test.true, c.min-i-end.ensures)) c.loop-i.invariant.told c.fails_of.ensures c.push.ensures.items;
      within = omega (arith, m, c.loop-i-test.true, c.min-i-end.ensures, c.count_soft.ensures);
    }

pub returns-clause-fails : goal.returns-clause-fails
returns-clause-fails c =
    let m : length c.as_slice-pairs.result.now ≡ length (pairs c.args.q.now) = ap length (c.as_slice-pairs.ensures.value ∙ c.pairs-pairs.ensures) in
    table_ends c.args.q.now c.loop-i.list.items c.loop-i.i (omega (arith, m, c.loop-i.invariant.within, c.loop-i-test.false, c.min-i-end.ensures, c.count_soft.ensures)) c.loop-i.invariant.told

pub returns-clause-few : goal.returns-clause-few
returns-clause-few c =
    let n : length c.loop-i.list.items ≡ c.loop-i.i = so_many c.args.q.now (pairs c.args.q.now) c.loop-i.list.items c.loop-i.i (omega (arith, c.loop-i.invariant.within)) c.loop-i.invariant.told in
    omega (arith, n, c.loop-i.invariant.within)
