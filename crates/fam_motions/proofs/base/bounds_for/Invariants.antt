use Rattle.std.proofs.Common.{◌≡◌, ◌+◌, ◌*◌, ◌≤◌, length}
use Rattle.sem_query.specs.Query.{attrs_of}
use Rattle.fam_motions.proofs.base.bounds_for.Given as goal

abbrev pub invariant-loop-atom : goal.invariant-loop-atom
invariant-loop-atom l = record {
  nodes : l.bounds.attrs ≡ length (attrs_of l.q.atoms);
  few : length l.bounds.constraints ≤ 56 + 2 * l.atom-index;
  places : l.atom-index ≤ length l.q.atoms;
}
