-- The process's streams as a source and a sink.
use Rattle.std.specs.Prelude.{◌≡◌, ℕ, ◌<◌, ◌≤◌, List, length, take}
use Rattle.std.specs.declared.option.Option.{Option}
use Rattle.std.specs.declared.option.Option.TheVariants.{None, Some}
use Rattle.std.specs.Io.KnownBytes.{Keeps, Consumes, Appends, IsAtEnd}
use Rattle.io_streams.specs.Sink.{SinkState}
use Rattle.io_streams.specs.declared.sink.WriteAnswer.{WriteAnswer}
use Rattle.io_streams.specs.declared.sink.WriteAnswer.TheVariants.{Took, Failed}
use Rattle.io_streams.specs.declared.standard.StdSource.{StdSource}
use Rattle.io_streams.specs.declared.standard.StdSink.{StdSink}

-- the reader that a source is over
abbrev pub source_inner : {R : Type 0} → StdSource R → R
source_inner s = s.inner

-- how many bytes the last read gave, of the reads that gave some
abbrev pub source_last : {R : Type 0} → StdSource R → ℕ
source_last s = s.last

-- how often a read has failed
abbrev pub source_faults : {R : Type 0} → StdSource R → ℕ
source_faults s = s.failed

-- the writer that a sink is over
abbrev pub sink_inner : {W : Type 0} → StdSink W → W
sink_inner s = s.inner

-- how often a write has failed
abbrev pub sink_faults : {W : Type 0} → StdSink W → ℕ
sink_faults s = s.failed

-- A sink over a writer tells no bytes: a flush that fails leaves bytes there that no answer counts.
abbrev pub sink_seen : {W : Type 0} → StdSink W → SinkState
sink_seen s = record { written = None; faults = s.failed; below = 0; passed = 0 }

-- What reading comes to, by the bytes that a reader has left, where it tells them: it gave the first of them, and none only at
-- the end; or it failed, and all of them are still left.
abbrev pub ReadsUpTo : Option ℕ → List ℕ → Option (List ℕ) → Option (List ℕ) → Type 0
ReadsUpTo (Some n) buffer before after = (n ≤ length buffer) × Consumes before after (take n buffer) × (n ≡ 0 → 0 < length buffer → IsAtEnd after)
ReadsUpTo None buffer before after = Keeps before after

-- What writing comes to, by the bytes that a writer holds, where it tells them: the first n of the piece were added, or it failed, and
-- they are as before.
abbrev pub WritesUpTo : Option ℕ → List ℕ → Option (List ℕ) → Option (List ℕ) → Type 0
WritesUpTo (Some n) piece before after = (n ≤ length piece) × Appends before after (take n piece)
WritesUpTo None piece before after = Keeps before after

-- What a write to a sink adds to the bytes of the writer below: exactly the bytes that it says it took; or, where it failed, a front of
-- the piece, since the writer may have taken bytes before its flush failed.
abbrev pub PassesOn : WriteAnswer → List ℕ → Option (List ℕ) → Option (List ℕ) → Type 0
PassesOn (Took n) piece before after = Appends before after (take n piece)
PassesOn Failed piece before after = (n : ℕ) × (n ≤ length piece) × Appends before after (take n piece)
