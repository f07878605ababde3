-- LF and `;` exchanged.
use Rattle.std.specs.Prelude.{ℕ, ◌+◌, ◌*◌, List, map, ◌==◌, if◌then◌else◌}
use Rattle.std.specs.declared.option.Option.{Option}
use Rattle.std.specs.declared.option.Option.TheVariants.{None, Some}
use Rattle.io_streams.specs.Sink.{SinkState}

-- an LF stands as `;`, and a `;` as LF
abbrev pub exchanged : ℕ → ℕ
exchanged b = if b == 10 then 59 else if b == 59 then 10 else b

-- bytes that are told, exchanged
abbrev pub exchanged_known : Option (List ℕ) → Option (List ℕ)
exchanged_known None = None
exchanged_known (Some bytes) = Some (map exchanged bytes)

-- the name of the reference to the sink below, and whether that one passes its bytes on by this one
abbrev pub names : ℕ → ℕ → ℕ → ℕ
names name below low = 2 * name + (if below == low then 0 else 1)

-- A sink that exchanges, by the reference by which the sink below passed its bytes on when it was made, the sink below, and the name of the
-- reference to it: its bytes are those that would stand below without the exchange.
abbrev pub exchanged_seen : ℕ → SinkState → ℕ → SinkState
exchanged_seen low below name = record {
  written = exchanged_known below.written;
  faults = below.faults;
  below = names name below.below low;
  passed = below.passed;
}
