use Rattle.std.proofs.Common.{◌+◌, ◌*◌, ◌<◌, sym, subst, arith}
use Rattle.std.proofs.Math.ListN.{length-set}
use Rattle.plan_closure.proofs.Lowering.{lowers_more}
use Rattle.plan_closure.proofs.distance.lead.Goals as goal

pub loop-k-preserved : goal.loop-k-preserved
loop-k-preserved c =
    let lj : c.column_at-j.result < 13 = subst (λ z. z < 13) (sym c.column_at-j.ensures) (c.requires.within c.loop-k.k c.loop-k-test.true) in (
      omega (arith, length-set c.loop-k.table (13 * c.args.row + c.column_at-j.result) c.lesser.result, c.loop-k.invariant.0),
      lowers_more c.args.table.now c.loop-k.table c.args.row c.args.right c.args.columns.now c.loop-k.k _ c.column_at-j.result c.lesser.result c.requires.apart lj (omega (arith, c.loop-k.invariant.0, c.requires.row, lj)) (sym c.column_at-j.ensures) c.loop-k.invariant.1
          (rw (c.at-now.ensures, c.at-after.ensures) at c.lesser.ensures),
    )
