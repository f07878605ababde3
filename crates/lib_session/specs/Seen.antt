-- What a clause sees of replies in memory.
use Rattle.std.specs.declared.option.Option.TheVariants.{Some}
use Rattle.io_streams.specs.Sink.{SinkState}
use Rattle.lib_session.specs.declared.replies.Replies.{Replies}

-- the bytes are told, and no sink lies below
abbrev pub replies_seen : Replies → SinkState
replies_seen r = record { written = Some r.bytes.items; faults = r.faults; below = 0; passed = 0 }
