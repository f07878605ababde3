use Rattle.std.proofs.Common.{refl, pos}
use Rattle.sem_query.specs.declared.plan.Dim.{Dim}
use Rattle.exec_synopsis.proofs.AxisLaws.{one-listed}
use Rattle.exec_synopsis.proofs.axes.put_axes.Goals as goal

pub dims-preserved : goal.dims-preserved
dims-preserved c =
    let o : Dim = record { attr = record { stream = 0; column = 0 }; lo = pos 0; hi = pos 0 } in
    one-listed c.args.dims.now c.dims.axes.items c.push.new.self.items c.dims.dim-index c.dims.cells c.in-Some-checked_mul.more _ o c.in-Some.axis c.dims-test.true refl c.dims.invariant
    c.in-Some.ensures.0 c.in-Some.ensures.1 c.in-Some.ensures.2 c.in-Some-checked_mul.ensures.1 c.push.ensures.items
