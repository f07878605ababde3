use Rattle.std.proofs.Common.{ℕ, ◌-◌, ◌<◌, length}
use Rattle.io_row_reader.specs.Ahead.{FieldsTo}
use Rattle.io_row_reader.proofs.row_ahead.read_other_fields_at.Given as goal

-- the fields that were read before, and those since
abbrev pub invariant-fields : goal.invariant-fields
invariant-fields l = record {
  fields : (from : ℕ) → FieldsTo l.text from l.fn.start l.fn.row.items → FieldsTo l.text from l.place l.row.items;
  within : l.place < length l.text;
}

abbrev pub decreases-fields : goal.decreases-fields
decreases-fields l = length l.text - l.place
