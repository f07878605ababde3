use Rattle.std.proofs.Common.{◌≡◌, ◌+◌, ◌++◌, ◌≤◌, length, map, take}
use Rattle.sem_whole.specs.Links.{each_once, between_streams}
use Rattle.sem_whole.specs.Signed.{all_said}
use Rattle.plan_whole.specs.Columns.{atom_of}
use Rattle.plan_whole.proofs.links.across.Given as goal

abbrev pub invariant-signs : goal.invariant-signs
invariant-signs l = map atom_of l.list.items ≡ each_once (between_streams (take l.i (all_said l.pairs l.signs)))

abbrev pub invariant-loop-atom : goal.invariant-loop-atom
invariant-loop-atom l = record {
  few : length l.list.items ≤ 8 + l.atom-index;
  links : map atom_of l.list.items ≡ each_once (between_streams (all_said l.pairs l.signs ++ take l.atom-index l.q.atoms));
}
