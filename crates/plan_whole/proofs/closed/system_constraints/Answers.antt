use Rattle.std.proofs.Common.{◌<◌, ◌≤◌, [], length, map, All, sym, subst, ◌∙◌, ap, arith}
use Rattle.std.proofs.lemmas.List.Elements.{All-append}
use Rattle.std.specs.List.{flat_map}
use Rattle.sem_query.specs.Query.{attrs_of}
use Rattle.plan_constraints.proofs.Sides.{left_element, right_element}
use Rattle.plan_constraints.proofs.OfDomains.{domain_at}
use Rattle.plan_constraints.specs.Solutions.{IsWithin}
use Rattle.sem_whole.specs.System.{atom_bounds}
use Rattle.plan_whole.specs.Closed.{constraint_of, named_bounds}
use Rattle.plan_whole.proofs.Within.{bounds_more, bounds_all, none_within, two_more, two_behind, none_behind}
use Rattle.plan_whole.proofs.Signing.{closed_parts}
use Rattle.plan_whole.proofs.closed.system_constraints.Goals as goal

pub of_atom-added-requires-clause-left : goal.of_atom-added-requires-clause-left
of_atom-added-requires-clause-left c = left_element c.args.q.now _ c.loop-atom.atom-index _ c.atoms-atom-items.ensures.value c.loop-atom-test.true

pub of_atom-added-requires-clause-right : goal.of_atom-added-requires-clause-right
of_atom-added-requires-clause-right c = right_element c.args.q.now _ c.loop-atom.atom-index _ c.atoms-atom-items.ensures.value c.loop-atom-test.true

pub of_domain-added-requires : goal.of_domain-added-requires
of_domain-added-requires c = domain_at c.args.q.now _ c.loop-domain.domain-index _ c.domains-domain-items.ensures.value c.loop-domain-test.true c.domains-domain-items.ensures.limits

pub add_each-requires : goal.add_each-requires
add_each-requires c =
    let l = rw c.atoms-atom-items.ensures.value at c.loop-atom-test.true in
    let f = c.loop-atom.invariant.few in
    let m = c.atoms-atom-items.ensures.limits.comparisons in
    let n = c.as_slice.ensures.fits in
    omega (arith, l, f, m, n)

pub add_each-requires-in-loop-domain : goal.add_each-requires-in-loop-domain
add_each-requires-in-loop-domain c =
    let l = rw c.domains-domain-items.ensures.value at c.loop-domain-test.true in
    let f = c.loop-domain.invariant.few in
    let m = c.domains-domain-items.ensures.limits.few_domains in
    let n = c.as_slice-in-loop-domain.ensures.fits in
    omega (arith, l, f, m, n)

pub loop-atom-init : goal.loop-atom-init
loop-atom-init c = record {
  reach = omega arith;
  items = c.new-list.ensures;
  few = (let e = ap length c.new-list.ensures in omega (arith, e));
  within = subst (All (IsWithin (length (attrs_of c.args.q.now.atoms)))) (sym c.new-list.ensures) (none_within (length (attrs_of c.args.q.now.atoms)));
}

pub loop-atom-preserved : goal.loop-atom-preserved
loop-atom-preserved c =
    let q = c.args.q.now in
    let l : c.loop-atom.atom-index < length q.atoms = rw c.atoms-atom-items.ensures.value at c.loop-atom-test.true in
    let e = rw c.atoms-atom-items.ensures.value at (c.as_slice.ensures.value ∙ c.of_atom-added.ensures.value) in
    record {
      reach = omega (arith, l);
      items = bounds_more (attrs_of q.atoms) atom_bounds [] c.loop-atom.list.items _ q.atoms c.loop-atom.atom-index _ _ l e c.add_each.ensures c.loop-atom.invariant.items;
      few = two_more c.loop-atom.list.items c.as_slice.result.now _ c.loop-atom.atom-index c.add_each.ensures c.as_slice.ensures.fits c.loop-atom.invariant.few;
      within = rw (c.add_each.ensures, c.as_slice.ensures.value) (All-append (IsWithin (length (attrs_of q.atoms))) c.loop-atom.list.items c.of_atom-added.result.items c.loop-atom.invariant.within c.of_atom-added.ensures.within);
    }

pub loop-domain-init : goal.loop-domain-init
loop-domain-init c =
    let q = c.args.q.now in
    let m : length q.atoms ≤ c.loop-atom.atom-index = rw c.atoms-atom-items.ensures.value at c.loop-atom-test.false in
    record {
      reach = omega arith;
      items = bounds_all (attrs_of q.atoms) atom_bounds [] c.loop-atom.list.items q.atoms c.loop-atom.atom-index m c.loop-atom.invariant.items ∙ none_behind (map (constraint_of (attrs_of q.atoms)) (flat_map atom_bounds q.atoms));
      few = (let r = c.loop-atom.invariant.reach in let f = c.loop-atom.invariant.few in let k = c.atoms-atom-items.ensures.limits.comparisons in omega (arith, r, f, k));
      within = c.loop-atom.invariant.within;
    }

pub loop-domain-preserved : goal.loop-domain-preserved
loop-domain-preserved c =
    let q = c.args.q.now in
    let l : c.loop-domain.domain-index < length q.domains = rw c.domains-domain-items.ensures.value at c.loop-domain-test.true in
    let e = rw c.domains-domain-items.ensures.value at (c.as_slice-in-loop-domain.ensures.value ∙ c.of_domain-added.ensures.value) in
    record {
      reach = omega (arith, l);
      items = bounds_more (attrs_of q.atoms) (named_bounds (attrs_of q.atoms)) (map (constraint_of (attrs_of q.atoms)) (flat_map atom_bounds q.atoms)) c.loop-domain.list.items _ q.domains c.loop-domain.domain-index _ _ l e c.add_each-in-loop-domain.ensures c.loop-domain.invariant.items;
      few = two_behind c.loop-domain.list.items c.as_slice-in-loop-domain.result.now _ c.loop-domain.domain-index c.add_each-in-loop-domain.ensures c.as_slice-in-loop-domain.ensures.fits c.loop-domain.invariant.few;
      within = rw (c.add_each-in-loop-domain.ensures, c.as_slice-in-loop-domain.ensures.value) (All-append (IsWithin (length (attrs_of q.atoms))) c.loop-domain.list.items c.of_domain-added.result.items c.loop-domain.invariant.within c.of_domain-added.ensures.within);
    }

pub returns-clause-value : goal.returns-clause-value
returns-clause-value c =
    let q = c.args.q.now in
    let past : length q.domains ≤ c.loop-domain.domain-index = rw c.domains-domain-items.ensures.value at c.loop-domain-test.false in
    bounds_all (attrs_of q.atoms) (named_bounds (attrs_of q.atoms)) (map (constraint_of (attrs_of q.atoms)) (flat_map atom_bounds q.atoms)) c.loop-domain.list.items q.domains c.loop-domain.domain-index past c.loop-domain.invariant.items ∙ sym (closed_parts q)

pub returns-clause-few : goal.returns-clause-few
returns-clause-few c =
    let r = c.loop-domain.invariant.reach in
    let f = c.loop-domain.invariant.few in
    let k = c.domains-domain-items.ensures.limits.few_domains in
    omega (arith, r, f, k)
