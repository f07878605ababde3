use Rattle.std.proofs.Common.{◌≡◌, ◌+◌, ◌++◌, take, length}
use Rattle.adv_mends.proofs.writing.atoms_with.Given as goal

abbrev pub invariant-loop-atom : goal.invariant-loop-atom
invariant-loop-atom l = record {
  is : l.list.items ≡ l.atoms ++ take l.atom-index l.more;
  room : length l.list.items ≡ length l.atoms + l.atom-index;
}
