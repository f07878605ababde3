-- What a clause sees of the sink in memory.
use Rattle.std.specs.Prelude.{◌≡◌, ℕ, ◌⊎◌, Bool, IsTrue, IsFalse, List, ◌++◌, length, take, min, ◌==◌}
use Rattle.std.specs.List.{list_any}
use Rattle.std.specs.declared.option.Option.TheVariants.{Some}
use Rattle.io_streams.specs.Counts.{one_more}
use Rattle.io_streams.specs.Sink.{SinkState}
use Rattle.io_streams.specs.declared.sink.WriteAnswer.{WriteAnswer}
use Rattle.io_streams.specs.declared.sink.WriteAnswer.TheVariants as write

-- whether a call of this number is to fail
abbrev pub is_listed : ℕ → List ℕ → Bool
is_listed call fails = list_any (λ k. k == call) fails

-- A sink in memory: the bytes written, the most that it takes at a time, the numbers of the calls that fail, how many
-- calls there were, how many of them failed, and how many of these because no memory was found.
pub record MemSinkState : Type 0 where
  pub bytes : List ℕ
  pub most : ℕ
  pub fails : List ℕ
  pub calls : ℕ
  pub failed : ℕ
  pub lacked : ℕ

abbrev pub mem_sink_seen : MemSinkState → SinkState
mem_sink_seen s = record { written = Some s.bytes; faults = s.failed; below = 0; passed = 0 }

-- What a write does: it takes the first bytes of the piece, as many as it may; or it fails, in the calls that are listed,
-- and in another call only where no memory was found.
abbrev pub MemWrites : WriteAnswer → List ℕ → MemSinkState → MemSinkState → Type 0
MemWrites (write.Took n) piece old new =
    IsFalse (is_listed (one_more old.calls) old.fails) × (n ≡ min (length piece) old.most)
    × (new ≡ record old { bytes = old.bytes ++ take n piece; calls = one_more old.calls })
MemWrites write.Failed piece old new =
    (IsTrue (is_listed (one_more old.calls) old.fails) × (new ≡ record old { calls = one_more old.calls; failed = one_more old.failed }))
    ⊎ (IsFalse (is_listed (one_more old.calls) old.fails) × (new ≡ record old { calls = one_more old.calls; failed = one_more old.failed; lacked = one_more old.lacked }))
