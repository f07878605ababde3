use Rattle.std.proofs.Common.{take}
use Rattle.sem_whole.specs.System.{system}
use Rattle.plan_whole.specs.Asked.{AreAskedBy}
use Rattle.plan_whole.proofs.kept.asked.Given as goal

abbrev pub invariant-loop-link : goal.invariant-loop-link
invariant-loop-link l = AreAskedBy (system l.closed) l.a (take l.link-index l.links) l.asked
