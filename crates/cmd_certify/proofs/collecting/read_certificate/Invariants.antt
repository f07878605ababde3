use Rattle.std.proofs.Common.{ℕ, ◌-◌, ◌^◌, ◌≤◌, List}
use Rattle.io_streams.specs.Source.{SourceState}
use Rattle.io_line_reader.specs.GivenLines.{GivenLines}
use Rattle.cmd_certify.proofs.Collected.{Collected}
use Rattle.cmd_certify.proofs.collecting.read_certificate.Given as goal

abbrev pub invariant-reading : goal.invariant-reading
invariant-reading g l = record {
  collected : (source : SourceState) → (front : List ℕ) → (given : List (List ℕ)) → GivenLines source (g.I.Source.seen l.fn.input) l.fn.reader front given
      → Collected source (g.I.Source.seen l.input) given l.reader l.certificate;
  later : (g.I.Source.seen l.fn.input).faults ≤ (g.I.Source.seen l.input).faults;
}

abbrev pub decreases-reading : goal.decreases-reading
decreases-reading g l = 2 ^ 64 - l.reader.lines
