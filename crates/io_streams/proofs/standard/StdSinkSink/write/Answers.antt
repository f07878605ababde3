use Rattle.std.proofs.Common.{arith}
use Rattle.std.proofs.KnownBytes.{Appends-kept}
use Rattle.io_streams.proofs.KnownWrites.{Keeps-appends}
use Rattle.io_streams.proofs.standard.StdSinkSink.write.Goals.{in-Some+else-n-gt0, else-n-gt0-via-then-n-gt0+else-is_ok, else-n-gt0-via-else-n-gt0, in-None}
use Rattle.io_streams.proofs.standard.StdSinkSink.write.Goals as goal

pub returns-clause-passes : goal.returns-clause-passes
returns-clause-passes g c = elim c.match-write_again.branch [
  | in-Some+else-n-gt0 w ↦ elim w.else-n-gt0.branch [
    | else-n-gt0-via-then-n-gt0+else-is_ok v ↦ rw (w.self-is, v.self-is) (w.in-Some.n, w.in-Some.ensures.0, Appends-kept _ _ _ _ w.in-Some.ensures.1 v.flush.ensures.bytes)
    | else-n-gt0-via-else-n-gt0 v ↦ rw (w.self-is, v.self-is) (w.in-Some.n, w.in-Some.ensures.0, w.in-Some.ensures.1)
  ]
  | in-None w ↦ rw w.self-is (0, omega arith, Keeps-appends _ _ w.in-None.ensures)
]
