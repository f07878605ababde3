use Rattle.std.proofs.Common.{◌+◌, ◌-◌, length}
use Rattle.io_row_reader.proofs.FieldsAhead.{HasDigits}
use Rattle.io_row_reader.proofs.row_ahead.all_digits_at.Given as goal

abbrev pub invariant-digits : goal.invariant-digits
invariant-digits l = HasDigits l.text l.start l.len l.amount

abbrev pub decreases-digits : goal.decreases-digits
decreases-digits l = length l.text - (l.start + l.len)
