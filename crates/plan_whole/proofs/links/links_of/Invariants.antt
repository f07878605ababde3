use Rattle.sem_whole.specs.System.{system}
use Rattle.plan_whole.proofs.Thinning.{LeadsTo}
use Rattle.plan_whole.proofs.links.links_of.Given as goal

abbrev pub invariant-loop-i : goal.invariant-loop-i
invariant-loop-i l = LeadsTo (system l.closed) l.all l.kept.items l.i
