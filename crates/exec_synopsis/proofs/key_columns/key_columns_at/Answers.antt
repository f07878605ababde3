use Rattle.std.proofs.Common.{arith, pos}
use Rattle.sem_query.specs.declared.plan.Dim.{Dim}
use Rattle.exec_synopsis.proofs.KeyColumnLaws.{pinned-next, pinned-end}
use Rattle.exec_synopsis.proofs.key_columns.key_columns_at.Goals as goal

abbrev none : Dim
none = record { attr = record { stream = 0; column = 0 }; lo = pos 0; hi = pos 0 }

pub dims-preserved : goal.dims-preserved
dims-preserved c =
    pinned-next c.args.part.now c.args.arriving c.args.place c.dims_at-dims.result.now c.dims.key_columns.items c.dims.dim-index c.dims.invariant none c.dims-test.true
    c.in-Some.key_column c.in-Some.ensures.0 c.in-Some.ensures.1 c.push.new.self.items c.push.ensures.items

pub returns : goal.returns
returns c =
    pinned-end c.args.part.now c.args.arriving c.args.place c.dims_at-dims.result.now c.dims.key_columns.items c.dims.dim-index c.dims.invariant (omega (arith, c.dims-test.false)) c.from.result c.dims_at-dims.ensures.value c.from.ensures
