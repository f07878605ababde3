use Rattle.std.proofs.Common.{◌≡◌, ◌≤◌, take, length, filter}
use Rattle.io_row_reader.specs.Open.{is_open}
use Rattle.io_row_reader.proofs.open_streams.StreamNumbers.open_by.Given as goal

abbrev pub invariant-loop-number : goal.invariant-loop-number
invariant-loop-number l = record {
  both : l.both ≡ filter (is_open l.others) (take l.number-index l.self);
  few : length l.both ≤ l.number-index;
}
