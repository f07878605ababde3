use Rattle.std.proofs.Common.{◌≡◌, map, take}
use Rattle.plan_whole_form.specs.Streams.{stream_of}
use Rattle.plan_whole_form.proofs.whole.streams_of.Given as goal

abbrev pub invariant-loop-stream : goal.invariant-loop-stream
invariant-loop-stream l = l.list.items ≡ map stream_of (take l.stream-index l.streams)
