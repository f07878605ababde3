-- How far the fields of a row were read.
use Rattle.std.specs.Prelude.{◌≡◌, ℕ, ℤ, ◌+◌, ◌<◌, List, length}
use Rattle.io_row_reader.specs.Ahead.{AreFields, FieldsTo}
use Rattle.io_row_reader.specs.declared.row_ahead.Fields.{Fields}
use Rattle.io_row_reader.specs.declared.row_ahead.Fields.TheVariants.{All, Before, Others}

-- all fields of a row of this width stand between two places of a text, with two bytes behind them and more; or those before a place, and more are missing
abbrev pub ReadsFields : Fields → List ℕ → ℕ → ℕ → List ℤ → Type 0
ReadsFields (All end) text start width row = AreFields text start end row × (length row ≡ width) × (end + 2 < length text)
ReadsFields (Before place) text start width row = FieldsTo text start place row × (length row < width)
ReadsFields Others text start width row = Unit {0}
