use Rattle.std.proofs.Common.{◌≡◌, ◌+◌, ◌*◌, ◌≤◌, filter, length, take}
use Rattle.sem_query.specs.Query.{attrs_of, is_soft}
use Rattle.plan_constraints.specs.PartConstraints.{of_prefix}
use Rattle.plan_links.proofs.known.bounds_of.Given as goal

abbrev pub invariant-loop-i : goal.invariant-loop-i
invariant-loop-i l = record {
  attrs : l.bounds.attrs ≡ length (attrs_of l.q.atoms);
  constraints : l.bounds.constraints ≡ of_prefix l.q (take l.i l.signs);
  few : length l.bounds.constraints + 2 * length (filter (λ t. is_soft t.op) l.q.atoms) ≤ 56 + 2 * l.i;
}
