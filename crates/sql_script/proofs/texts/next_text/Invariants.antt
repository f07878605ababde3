use Rattle.std.proofs.Common.{ℕ, ◌-◌, ◌^◌, ◌≤◌, List}
use Rattle.io_streams.specs.Source.{SourceState}
use Rattle.io_line_reader.specs.GivenLines.{GivenLines}
use Rattle.sql_script.proofs.Skipping.{Skipped}
use Rattle.sql_script.proofs.texts.next_text.Given as goal

abbrev pub invariant-skipping : goal.invariant-skipping
invariant-skipping g l = record {
  skipped : (source : SourceState) → (front : List ℕ) → (given : List (List ℕ)) → GivenLines source (g.I.Source.seen l.fn.input) l.fn.reader front given
      → Skipped source (g.I.Source.seen l.input) given l.reader;
  later : (g.I.Source.seen l.fn.input).faults ≤ (g.I.Source.seen l.input).faults;
}

abbrev pub decreases-skipping : goal.decreases-skipping
decreases-skipping g l = 2 ^ 64 - l.reader.lines
