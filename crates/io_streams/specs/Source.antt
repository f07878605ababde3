-- What a clause sees of a source, and what a read does to it.
use Rattle.std.specs.Prelude.{◌≡◌, ℕ, ◌<◌, ◌≤◌, List, length, take}
use Rattle.std.specs.declared.option.Option.{Option}
use Rattle.std.specs.Io.KnownBytes.{Keeps, Consumes, IsAtEnd}
use Rattle.io_streams.specs.Counts.{Rose}
use Rattle.io_streams.specs.declared.source.ReadAnswer.{ReadAnswer}
use Rattle.io_streams.specs.declared.source.ReadAnswer.TheVariants.{Got, End, Failed}

-- What a clause sees of a source.
pub record SourceState : Type 0 where
  -- the bytes that are left, where the source tells them
  pub left : Option (List ℕ)
  -- how often a read has failed
  pub faults : ℕ
  -- how many bytes the last read gave, of the reads that gave some; 0 before the first of them
  pub last : ℕ

-- What a read gives: the first bytes that were left, at least one; the end, where none was left; or a fault, where the
-- count of faults rose. The count never falls. The source keeps how many bytes the last read gave of those that gave some.
abbrev pub ReadsSome : ReadAnswer → List ℕ → SourceState → SourceState → Type 0
ReadsSome (Got n) buffer before after = (0 < n) × (n ≤ length buffer) × Consumes before.left after.left (take n buffer) × (before.faults ≤ after.faults) × (after.last ≡ n)
ReadsSome End buffer before after = IsAtEnd before.left × Keeps before.left after.left × (before.faults ≤ after.faults) × (after.last ≡ before.last)
ReadsSome Failed buffer before after = Rose before.faults after.faults × Keeps before.left after.left × (before.faults ≤ after.faults) × (after.last ≡ before.last)
