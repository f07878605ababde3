use Rattle.std.proofs.Common.{length}
use Rattle.exec_registry.specs.Registry.{IsSound}
use Rattle.exec_registry.proofs.registry.close_all.Given as goal

abbrev pub invariant-closing : goal.invariant-closing
invariant-closing l = IsSound l.pool l.live

abbrev pub decreases-closing : goal.decreases-closing
decreases-closing l = length l.live
