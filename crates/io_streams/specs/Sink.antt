-- What a clause sees of a sink, and what writing does to it.
use Rattle.std.specs.Prelude.{◌≡◌, ℕ, ◌<◌, ◌≤◌, List, ◌++◌, length, take}
use Rattle.std.specs.declared.option.Option.{Option}
use Rattle.std.specs.declared.result.Result.{Result}
use Rattle.std.specs.declared.result.Result.TheVariants.{Ok, Err}
use Rattle.std.specs.Io.KnownBytes.{Keeps, Appends}
use Rattle.io_streams.specs.Counts.{Rose}
use Rattle.io_streams.specs.declared.sink.WriteAnswer.{WriteAnswer}
use Rattle.io_streams.specs.declared.sink.WriteAnswer.TheVariants.{Took, Failed}

-- The bytes written, where the sink tells them, and how often a write has failed. Where a sink passes its bytes on by a
-- reference: which reference that is, and how many bytes were passed on, where they are told; both 0 elsewhere.
pub record SinkState : Type 0 where
  pub written : Option (List ℕ)
  pub faults : ℕ
  pub below : ℕ
  pub passed : ℕ

-- what every call keeps: faults do not get fewer, the sink below stays the same one, and what was passed on stays there
pub record IsLater (before after : SinkState) : Type 0 where
  pub faults : before.faults ≤ after.faults
  pub below : after.below ≡ before.below
  pub passed : before.passed ≤ after.passed

-- the text was written
pub record Wrote (before after : SinkState) (text : List ℕ) : Type 0 where
  pub bytes : Appends before.written after.written text
  pub later : IsLater before after

-- a front of the text was written, and then the sink failed
pub record BrokeOff (before after : SinkState) (text : List ℕ) : Type 0 where
  pub front : List ℕ
  pub rest : List ℕ
  pub whole : text ≡ front ++ rest
  pub wrote : Wrote before after front
  pub rose : Rose before.faults after.faults

-- What a call that writes a text does.
abbrev pub Writes : {T E : Type 0} → Result T E → SinkState → SinkState → List ℕ → Type 0
Writes (Ok x) before after text = Wrote before after text
Writes (Err e) before after text = BrokeOff before after text

-- What one write does: the first bytes of the piece are written, at least one; or the sink fails and writes nothing.
abbrev pub WritesSome : WriteAnswer → List ℕ → SinkState → SinkState → Type 0
WritesSome (Took n) piece before after = (0 < n) × (n ≤ length piece) × Wrote before after (take n piece)
WritesSome Failed piece before after = Rose before.faults after.faults × Keeps before.written after.written × IsLater before after
