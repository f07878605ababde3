use Rattle.std.proofs.Common.{length, ◌∙◌, ◌+◌, ◌++◌, ap}
use Rattle.std.proofs.lemmas.List.Elements.{All-append}
use Rattle.plan_constraints.specs.Solutions.{IsWithin}
use Rattle.plan_constraints.specs.PartConstraints.{of_atoms}
use Rattle.sem_query.specs.Query.{attrs_of}
use Rattle.plan_constraints.proofs.Sides.{left_element, right_element}
use Rattle.plan_constraints.proofs.Prefix.{atoms_more, atoms_few, length-of_base}
use Rattle.plan_constraints.proofs.OfDomains.{domains_more, domain_at, two_at_most, all_of, few_more}
use Rattle.plan_constraints.proofs.comparisons.of_query.Goals as goal

pub of_atom-added-requires-clause-left : goal.of_atom-added-requires-clause-left
of_atom-added-requires-clause-left c = left_element c.args.q.now _ c.loop-atom.atom-index _ c.atoms-atom-items.ensures.value c.loop-atom-test.true

pub of_atom-added-requires-clause-right : goal.of_atom-added-requires-clause-right
of_atom-added-requires-clause-right c = right_element c.args.q.now _ c.loop-atom.atom-index _ c.atoms-atom-items.ensures.value c.loop-atom-test.true

pub loop-atom-preserved : goal.loop-atom-preserved
loop-atom-preserved c =
    let e = rw c.atoms-atom-items.ensures.value at (c.as_slice.ensures.value ∙ c.of_atom-added.ensures.value) in
    let l = rw c.atoms-atom-items.ensures.value at c.loop-atom-test.true in
    let items = c.add_each.ensures ∙ atoms_more (attrs_of c.args.q.now.atoms) c.args.q.now.atoms c.loop-atom.atom-index _ _ _ l e c.loop-atom.invariant.items in
    record {
      items = items;
      few = rw items (atoms_few (attrs_of c.args.q.now.atoms) c.args.q.now.atoms (c.loop-atom.atom-index + 1));
      within = rw (c.add_each.ensures, c.as_slice.ensures.value) (All-append (IsWithin (length (attrs_of c.args.q.now.atoms))) c.loop-atom.list.items c.of_atom-added.result.items c.loop-atom.invariant.within c.of_atom-added.ensures.within);
    }

pub of_domain-added-requires : goal.of_domain-added-requires
of_domain-added-requires c = domain_at c.args.q.now _ c.loop-domain.domain-index _ c.domains-domain-items.ensures.value c.loop-domain-test.true c.domains-domain-items.ensures.limits

pub loop-domain-preserved : goal.loop-domain-preserved
loop-domain-preserved c =
    let q = c.args.q.now in
    let l = rw c.domains-domain-items.ensures.value at c.loop-domain-test.true in
    let is = rw c.domains-domain-items.ensures.value at c.of_domain-added.ensures.value in
    let grown = c.add_each-in-loop-domain.ensures ∙ ap (λ z. c.loop-domain.list.items ++ z) c.as_slice-in-loop-domain.ensures.value in
    record {
      items = grown ∙ domains_more (attrs_of q.atoms) q.domains c.loop-domain.domain-index _ (of_atoms (attrs_of q.atoms) q.atoms) c.loop-domain.list.items c.of_domain-added.result.items l is c.loop-domain.invariant.items;
      few = rw grown (few_more c.loop-domain.list.items c.of_domain-added.result.items c.loop-domain.domain-index c.loop-domain.invariant.few (rw is (two_at_most (attrs_of q.atoms) _)));
      within = rw grown (All-append (IsWithin (length (attrs_of q.atoms))) c.loop-domain.list.items c.of_domain-added.result.items c.loop-domain.invariant.within c.of_domain-added.ensures.within);
    }

pub returns-clause-few : goal.returns-clause-few
returns-clause-few c =
    let q = c.args.q.now in
    let past = rw c.domains-domain-items.ensures.value at c.loop-domain-test.false in
    rw (all_of (attrs_of q.atoms) q.domains c.loop-domain.domain-index (of_atoms (attrs_of q.atoms) q.atoms) c.loop-domain.list.items past c.loop-domain.invariant.items) (length-of_base q c.domains-domain-items.ensures.limits)
