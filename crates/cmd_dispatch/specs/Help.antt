-- What the program says of itself.
use Rattle.std.specs.Prelude.{ℕ, List}
use Rattle.std.specs.Io.KnownBytes.{Appends}
use Rattle.io_streams.specs.declared.status.Status.{Status}
use Rattle.io_streams.specs.declared.status.Status.TheVariants as status
use Rattle.io_streams.specs.Sink.{SinkState, BrokeOff}
use Rattle.cmd_dispatch.specs.declared.help.TheConstants.{HELP, VERSION}

-- what `--help` writes, as it stands in the code
abbrev pub help_text : List ℕ
help_text = HELP.now

-- what `--version` writes
abbrev pub version_text : List ℕ
version_text = VERSION.now

-- How writing a text ends, by the status. Done: it was written. WriteFault: a front of it was. No other status comes.
abbrev pub TextEnds : Status → List ℕ → SinkState → SinkState → Type 0
TextEnds status.Done text sink sink' = Appends sink.written sink'.written text
TextEnds status.Invalid text sink sink' = ⊥
TextEnds status.Usage text sink sink' = ⊥
TextEnds status.ReadFault text sink sink' = ⊥
TextEnds status.WriteFault text sink sink' = BrokeOff sink sink' text
TextEnds status.Memory text sink sink' = ⊥
TextEnds status.ByteLimit text sink sink' = ⊥
