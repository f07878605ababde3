use Rattle.std.proofs.Common.{◌≡◌, ◌+◌, ◌*◌, ◌≤◌, ◌++◌, All, length, take}
use Rattle.std.specs.List.{flat_map}
use Rattle.sem_query.specs.Query.{attrs_of}
use Rattle.plan_constraints.specs.PartConstraints.{of_atoms, of_domain}
use Rattle.plan_constraints.specs.Solutions.{IsWithin}
use Rattle.plan_constraints.proofs.Prefix.{soft_in}
use Rattle.plan_constraints.proofs.comparisons.of_query.Given as goal

abbrev pub invariant-loop-atom : goal.invariant-loop-atom
invariant-loop-atom l = record {
  items : l.list.items ≡ of_atoms (attrs_of l.q.atoms) (take l.atom-index l.q.atoms);
  few : length l.list.items + 2 * soft_in (take l.atom-index l.q.atoms) ≤ 2 * l.atom-index;
  within : All (IsWithin (length (attrs_of l.q.atoms))) l.list.items;
}

abbrev pub invariant-loop-domain : goal.invariant-loop-domain
invariant-loop-domain l = record {
  items : l.list.items ≡ of_atoms (attrs_of l.q.atoms) l.q.atoms ++ flat_map (of_domain (attrs_of l.q.atoms)) (take l.domain-index l.q.domains);
  few : length l.list.items ≤ 32 + 2 * l.domain-index;
  within : All (IsWithin (length (attrs_of l.q.atoms))) l.list.items;
}
