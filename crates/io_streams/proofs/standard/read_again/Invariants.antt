use Rattle.std.specs.Io.KnownBytes.{Keeps}
use Rattle.io_streams.proofs.standard.read_again.Given as goal

abbrev pub invariant-loop : goal.invariant-loop
invariant-loop g l = Keeps (g.R.Read.remaining l.fn.inner) (g.R.Read.remaining l.inner)
