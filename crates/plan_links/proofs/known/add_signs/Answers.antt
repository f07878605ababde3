use Rattle.std.proofs.Common.{◌≡◌, ℕ, ap, length, take, subst, arith}
use Rattle.sem_query.specs.Query.{attrs_of}
use Rattle.plan_constraints.specs.PartConstraints.{of_prefix}
use Rattle.plan_closure.proofs.Each.{known_of}
use Rattle.plan_closure.specs.Shortest.{AreDistancesOf}
use Rattle.plan_links.specs.BasisValue.{BasisValue}
use Rattle.plan_links.specs.Known.{AddsSign}
use Rattle.plan_links.proofs.Adding.{choice_there, distances_more, within_for}
use Rattle.plan_links.proofs.known.add_signs.Goals as goal

pub of_sign-requires-clause-pair : goal.of_sign-requires-clause-pair
of_sign-requires-clause-pair c =
    let e : c.basis.inside.choices.items ≡ c.args.basis.now.choices = ap (λ (v : BasisValue). v.choices) c.basis.view_is in
    let within = c.requires.within in
    choice_there c.args.q.now _ _ c.signs.i (rw (c.as_slice-choices.ensures.value, e) c.requires.basis.choices) c.requires.part (omega (arith, c.signs-test.true, within))

pub add_all-requires-clause-known : goal.add_all-requires-clause-known
add_all-requires-clause-known c = known_of _ _ _ c.signs.invariant

pub add_all-requires-clause-within : goal.add_all-requires-clause-within
add_all-requires-clause-within c = within_for c.args.q.now _ c.signs.i _ _ _ c.of_sign.ensures c.signs.invariant

pub signs-preserved : goal.signs-preserved
signs-preserved c =
    let a : AddsSign c.args.q.now c.args.p.now.signs.items c.signs.i c.of_sign.result.now = rw c.as_slice-signs.ensures.value at c.of_sign.ensures in
    distances_more c.args.q.now _ c.signs.i _ _ _ a (c.add_all.ensures _ _ c.signs.invariant)

pub returns : goal.returns
returns c =
    let most = c.signs.auto.i-end c.requires.ascending in
    subst (λ (n : ℕ). AreDistancesOf c.signs.distances (length (attrs_of c.args.q.now.atoms)) (of_prefix c.args.q.now (take n c.args.p.now.signs.items))) (omega (arith, most, c.signs-test.false)) c.signs.invariant
