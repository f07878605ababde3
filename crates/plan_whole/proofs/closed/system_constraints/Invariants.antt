use Rattle.std.proofs.Common.{◌≡◌, ◌+◌, ◌*◌, ◌≤◌, ◌++◌, All, length, map, take, []}
use Rattle.std.specs.List.{flat_map}
use Rattle.sem_query.specs.Query.{attrs_of}
use Rattle.plan_constraints.specs.Solutions.{IsWithin}
use Rattle.sem_whole.specs.System.{atom_bounds}
use Rattle.plan_whole.specs.Closed.{constraint_of, named_bounds}
use Rattle.plan_whole.proofs.closed.system_constraints.Given as goal

abbrev pub invariant-loop-atom : goal.invariant-loop-atom
invariant-loop-atom l = record {
  reach : l.atom-index ≤ length l.q.atoms;
  items : l.list.items ≡ [] ++ map (constraint_of (attrs_of l.q.atoms)) (flat_map atom_bounds (take l.atom-index l.q.atoms));
  few : length l.list.items ≤ 2 * l.atom-index;
  within : All (IsWithin (length (attrs_of l.q.atoms))) l.list.items;
}

abbrev pub invariant-loop-domain : goal.invariant-loop-domain
invariant-loop-domain l = record {
  reach : l.domain-index ≤ length l.q.domains;
  items : l.list.items ≡ map (constraint_of (attrs_of l.q.atoms)) (flat_map atom_bounds l.q.atoms) ++ map (constraint_of (attrs_of l.q.atoms)) (flat_map (named_bounds (attrs_of l.q.atoms)) (take l.domain-index l.q.domains));
  few : length l.list.items ≤ 32 + 2 * l.domain-index;
  within : All (IsWithin (length (attrs_of l.q.atoms))) l.list.items;
}
