use Rattle.std.proofs.KnownBytes.{Keeps-refl, Keeps-trans}
use Rattle.io_streams.proofs.KnownReads.{Kept-consumes}
use Rattle.io_streams.proofs.standard.read_again.Goals as goal

pub loop-init : goal.loop-init
loop-init g c = Keeps-refl _

pub returns-in-Ok : goal.returns-in-Ok
returns-in-Ok g c = (c.in-Ok.ensures.bound.0, Kept-consumes _ _ _ _ c.loop.invariant c.in-Ok.ensures.bytes.0, c.in-Ok.ensures.bytes.1)

pub returns-in-Err-2 : goal.returns-in-Err-2
returns-in-Err-2 g c = Keeps-trans _ _ _ c.loop.invariant c.in-Err-2.ensures.bytes

pub loop-preserved : goal.loop-preserved
loop-preserved g c = Keeps-trans _ _ _ c.loop.invariant c.in-Err.ensures.bytes
