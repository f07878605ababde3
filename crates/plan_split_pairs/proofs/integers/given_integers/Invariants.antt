use Rattle.std.proofs.Common.{◌≡◌, ◌≤◌, ◌+◌, ◌*◌, ◌++◌, take, length}
use Rattle.std.specs.List.{flat_map}
use Rattle.plan_split_pairs.specs.Outer.{outer_in, outside}
use Rattle.plan_split_pairs.proofs.integers.given_integers.Given as goal

abbrev pub invariant-atoms : goal.invariant-atoms
invariant-atoms l = record {
  given : l.list.items ≡ flat_map (λ t. outer_in l.q.atoms l.fn.attr t.left t.op t.right) (take l.atom-index l.q.atoms);
  few : length l.list.items ≤ l.atom-index;
}

abbrev pub invariant-domains : goal.invariant-domains
invariant-domains l = record {
  given : l.list.items ≡ flat_map (λ t. outer_in l.q.atoms l.fn.attr t.left t.op t.right) l.q.atoms ++ flat_map (outside l.q.atoms l.fn.attr) (take l.domain-index l.q.domains);
  few : length l.list.items ≤ 16 + 2 * l.domain-index;
}
