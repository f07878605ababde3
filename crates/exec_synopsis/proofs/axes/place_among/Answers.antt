use Rattle.std.proofs.Common.{arith, refl, pos}
use Rattle.sem_query.specs.Meaning.{by_column}
use Rattle.exec_synopsis.specs.declared.axes.Axis.{Axis}
use Rattle.exec_synopsis.proofs.AxisLaws.{out, further, fits}
use Rattle.exec_synopsis.proofs.axes.place_among.Goals as goal

abbrev no_axis : Axis
no_axis = record { lo = pos 0; size = 0; column = 0 }

pub returns-in_default : goal.returns-in_default
returns-in_default c =
    out (by_column c.args.row.now) c.args.dims.now c.args.axes.now c.requires.axes.are c.axes.axis-index c.axes.place c.axes.invariant _ no_axis c.axes-test.true refl c.in_default.ensures

pub overflow_mul-place : goal.overflow_mul-place
overflow_mul-place c =
    let f = fits (by_column c.args.row.now) c.args.dims.now c.args.axes.now c.requires.axes.are c.axes.axis-index c.axes.place c.axes.invariant _ no_axis c.axes-test.true refl c.in-Some.offset c.in-Some.ensures.0 c.in-Some.ensures.1 in
    omega (arith, f, c.requires.few)

pub overflow_add-place : goal.overflow_add-place
overflow_add-place c =
    let f = fits (by_column c.args.row.now) c.args.dims.now c.args.axes.now c.requires.axes.are c.axes.axis-index c.axes.place c.axes.invariant _ no_axis c.axes-test.true refl c.in-Some.offset c.in-Some.ensures.0 c.in-Some.ensures.1 in
    omega (arith, f, c.requires.few)

pub axes-preserved : goal.axes-preserved
axes-preserved c =
    further (by_column c.args.row.now) c.args.dims.now c.args.axes.now c.requires.axes.are c.axes.axis-index c.axes.place c.axes.invariant _ no_axis c.axes-test.true refl c.in-Some.offset c.in-Some.ensures.0 c.in-Some.ensures.1
