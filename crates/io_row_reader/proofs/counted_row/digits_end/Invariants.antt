use Rattle.std.proofs.Common.{◌-◌, length}
use Rattle.io_row_reader.proofs.FieldsAhead.{DigitsTo}
use Rattle.io_row_reader.proofs.counted_row.digits_end.Given as goal

abbrev pub invariant-digits : goal.invariant-digits
invariant-digits l = DigitsTo l.text l.start l.place

abbrev pub decreases-digits : goal.decreases-digits
decreases-digits l = length l.text - l.place
