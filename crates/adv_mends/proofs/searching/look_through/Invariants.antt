use Rattle.adv_mends.specs.Sets.{AreLeastAmong}
use Rattle.adv_mends.proofs.searching.look_through.Given as goal

abbrev pub invariant-loop-i : goal.invariant-loop-i
invariant-loop-i l = AreLeastAmong l.kind l.query l.i l.found.items
