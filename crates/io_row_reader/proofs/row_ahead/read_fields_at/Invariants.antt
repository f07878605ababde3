use Rattle.std.proofs.Common.{◌+◌, ◌-◌, ◌*◌, ◌<◌, ◌≤◌, length}
use Rattle.io_row_reader.specs.Ahead.{FieldsTo}
use Rattle.io_row_reader.proofs.row_ahead.read_fields_at.Given as goal

abbrev pub invariant-fields : goal.invariant-fields
invariant-fields l = record {
  front : FieldsTo l.text l.start l.place l.row.items;
  lacks : length l.row.items < l.width;
  near : l.place ≤ l.start + 16 * length l.row.items;
}

abbrev pub decreases-fields : goal.decreases-fields
decreases-fields l = length l.text - l.place
