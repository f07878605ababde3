use Rattle.std.proofs.Common.{◌≡◌, ◌+◌, ◌*◌, ◌≤◌, length}
use Rattle.sem_query.specs.Query.{attrs_of}
use Rattle.fam_motions.proofs.base.settled.Given as goal

abbrev pub invariant-loop-place : goal.invariant-loop-place
invariant-loop-place l = record {
  nodes : l.bounds.attrs ≡ length (attrs_of l.q.atoms);
  few : length l.bounds.constraints ≤ 100 + 2 * l.place;
  room : length l.values.items ≤ l.place;
}
