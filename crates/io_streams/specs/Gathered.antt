-- What a clause sees of a sink that gathers, and what a flush does.
use Rattle.std.specs.Prelude.{◌≡◌, ℕ, ◌<◌, List, [], ◌++◌, length, take}
use Rattle.std.specs.declared.option.Option.{Option}
use Rattle.std.specs.declared.option.Option.TheVariants.{None, Some}
use Rattle.std.specs.declared.result.Result.{Result}
use Rattle.std.specs.declared.result.Result.TheVariants.{Ok, Err}
use Rattle.std.specs.Io.KnownBytes.{append_known}
use Rattle.io_streams.specs.Counts.{Rose}
use Rattle.io_streams.specs.Sink.{SinkState, Wrote}

-- how many bytes there are, where they are told
abbrev pub told_length : Option (List ℕ) → ℕ
told_length None = 0
told_length (Some bytes) = length bytes

-- A sink that gathers, by the sink below, the name of the reference to it, and what is held: its bytes are those written
-- below and then those held, and its faults are those of the sink below.
abbrev pub gathered_seen : SinkState → ℕ → List ℕ → SinkState
gathered_seen below name held = record {
  written = append_known below.written held;
  faults = below.faults;
  below = name;
  passed = told_length below.written;
}

-- The first n bytes of a text were written: all of them, or fewer, and then the sink failed.
abbrev pub WritesFront : {T E : Type 0} → Result T E → ℕ → List ℕ → SinkState → SinkState → Type 0
WritesFront (Ok x) n text before after = (n ≡ length text) × Wrote before after text
WritesFront (Err e) n text before after = (n < length text) × Wrote before after (take n text) × Rose before.faults after.faults

-- A front of what was held was written, and then the sink failed. What is left stays held, and it is not empty.
pub record StaysHeld (before after : SinkState) (held left : List ℕ) : Type 0 where
  pub front : List ℕ
  pub whole : held ≡ front ++ left
  pub some : 0 < length left
  pub wrote : Wrote before after front
  pub rose : Rose before.faults after.faults

-- What a flush does: all that was held is written and nothing is held now; or a part stays held.
abbrev pub Flushes : {T E : Type 0} → Result T E → SinkState → SinkState → List ℕ → List ℕ → Type 0
Flushes (Ok x) before after held left = Wrote before after held × (left ≡ [])
Flushes (Err e) before after held left = StaysHeld before after held left
