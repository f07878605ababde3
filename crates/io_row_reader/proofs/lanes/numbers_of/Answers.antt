use Rattle.io_row_reader.proofs.LaneNumbers.{numbers}
use Rattle.io_row_reader.proofs.lanes.numbers_of.Goals as goal

pub returns-clause-first : goal.returns-clause-first
returns-clause-first c = (numbers c.args.digits c.fits-digits.0 c.requires).first

pub returns-clause-second : goal.returns-clause-second
returns-clause-second c = (numbers c.args.digits c.fits-digits.0 c.requires).second
