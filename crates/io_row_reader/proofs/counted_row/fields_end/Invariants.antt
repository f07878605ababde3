use Rattle.std.proofs.Common.{◌-◌}
use Rattle.io_row_reader.proofs.MarkedFields.{MarkedFields}
use Rattle.io_row_reader.proofs.counted_row.fields_end.Given as goal

abbrev pub invariant-fields : goal.invariant-fields
invariant-fields l = MarkedFields l.text l.start l.place l.read l.marks

abbrev pub decreases-fields : goal.decreases-fields
decreases-fields l = l.width - l.read
