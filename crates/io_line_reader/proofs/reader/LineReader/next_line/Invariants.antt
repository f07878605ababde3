use Rattle.std.proofs.Common.{◌≡◌, ℕ, ◌+◌, ◌-◌, ◌^◌, ◌≤◌, [], ◌++◌, List, length, false}
use Rattle.std.specs.Io.KnownBytes.{Consumes}
use Rattle.io_line_reader.specs.Reading.{IsPlain, IsBegun}
use Rattle.io_line_reader.proofs.Steps.{HasRead}
use Rattle.io_line_reader.proofs.reader.LineReader.next_line.Given as goal

-- What was taken was skipped, as the front of a line that is too long, or is ahead.
abbrev pub invariant-reading : goal.invariant-reading
invariant-reading g l = record {
  got : List ℕ;
  skipped : List ℕ;
  whole : l.fn.self.ahead ++ got ≡ skipped ++ l.self.ahead;
  plain : IsPlain skipped;
  held : IsBegun l.long [] skipped;
  bytes : Consumes (g.I.Source.seen l.fn.input).left (g.I.Source.seen l.input).left got;
  read : HasRead l.fn.self (g.I.Source.seen l.fn.input) (g.I.Source.seen l.input) got l.self.ahead;
  taken : l.self.taken ≡ l.fn.self.taken + length got;
  lines : l.self.lines ≡ l.fn.self.lines;
  unended : (l.fn.self.ended ≡ false) × (l.self.ended ≡ false);
  unfailed : (l.fn.self.failed ≡ false) × (l.self.failed ≡ false);
  counted : l.self.lines + length skipped + length l.self.ahead ≤ l.self.taken;
  later : (g.I.Source.seen l.fn.input).faults ≤ (g.I.Source.seen l.input).faults;
}

abbrev pub decreases-reading : goal.decreases-reading
decreases-reading g l = 2 ^ 64 - l.self.taken
