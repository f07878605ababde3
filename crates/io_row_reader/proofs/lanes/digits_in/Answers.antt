use Rattle.std.proofs.Common.{arith}
use Rattle.io_row_reader.proofs.PairEnds.{none_other, trailing_is}
use Rattle.io_row_reader.proofs.lanes.digits_in.Goals as goal

pub returns-then-others-eq0 : goal.returns-then-others-eq0
returns-then-others-eq0 c = none_other c.args.lanes c.marks_of-others.result c.fits-lanes.0 c.marks_of-others.ensures c.if-others-eq0.true

pub returns-else-others-eq0 : goal.returns-else-others-eq0
returns-else-others-eq0 c = trailing_is c.args.lanes c.marks_of-others.result c.fits-lanes.0 c.marks_of-others.ensures (omega (arith, c.if-others-eq0.false))
