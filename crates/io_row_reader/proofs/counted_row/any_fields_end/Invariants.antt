use Rattle.std.proofs.Common.{◌-◌}
use Rattle.io_row_reader.proofs.RowsCounted.{SomeFieldsTo}
use Rattle.io_row_reader.proofs.counted_row.any_fields_end.Given as goal

abbrev pub invariant-fields : goal.invariant-fields
invariant-fields l = SomeFieldsTo l.text l.start l.place l.read

abbrev pub decreases-fields : goal.decreases-fields
decreases-fields l = l.width - l.read
