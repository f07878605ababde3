use Rattle.std.proofs.Common.{◌≡◌, ◌∙◌, length, ap, sym, subst, arith}
use Rattle.sem_query.specs.Query.{attrs_of}
use Rattle.sem_whole.proofs.Signed.{signed_attrs}
use Rattle.plan_whole.specs.Closed.{IsClosedSystem}
use Rattle.plan_whole.proofs.Told.{ends_read, small_read, domain_read, low_read, high_read}
use Rattle.plan_whole.proofs.closed.ClosedSystem.ends.Goals as goal

pub ends_at-requires-clause-node : goal.ends_at-requires-clause-node
ends_at-requires-clause-node c = let l = c.if-place-attrs.true in let f = c.attrs-attrs.ensures.limits.few_attrs in let e = ap length c.attrs-attrs.ensures.value in omega (arith, f, e, l)

pub ends_at-requires-clause-low : goal.ends_at-requires-clause-low
ends_at-requires-clause-low c =
    let k : IsClosedSystem c.args.self.now c.self.inside.bounds = subst (λ q. IsClosedSystem q c.self.inside.bounds) c.self.view_is c.self.invariant.1 in
    let e : c.attrs-attrs.result.now ≡ attrs_of c.args.self.now.atoms = c.attrs-attrs.ensures.value ∙ sym (signed_attrs c.self.inside.query.now c.self.inside.pairs.now c.self.inside.signs.now c.self.invariant.0) ∙ ap (λ q. attrs_of q.atoms) c.self.view_is in
    let l = c.if-place-attrs.true in
    small_read c.args.self.now c.self.inside.bounds k c.attrs-attrs.result.now 0 _ e (omega arith) (omega (arith, l)) (omega arith)

pub ends_at-requires-clause-high : goal.ends_at-requires-clause-high
ends_at-requires-clause-high c =
    let k : IsClosedSystem c.args.self.now c.self.inside.bounds = subst (λ q. IsClosedSystem q c.self.inside.bounds) c.self.view_is c.self.invariant.1 in
    let e : c.attrs-attrs.result.now ≡ attrs_of c.args.self.now.atoms = c.attrs-attrs.ensures.value ∙ sym (signed_attrs c.self.inside.query.now c.self.inside.pairs.now c.self.inside.signs.now c.self.invariant.0) ∙ ap (λ q. attrs_of q.atoms) c.self.view_is in
    let l = c.if-place-attrs.true in
    small_read c.args.self.now c.self.inside.bounds k c.attrs-attrs.result.now _ 0 e (omega (arith, l)) (omega arith) (omega arith)

pub returns-then-place-attrs-clause-ends : goal.returns-then-place-attrs-clause-ends
returns-then-place-attrs-clause-ends c =
    let k : IsClosedSystem c.args.self.now c.self.inside.bounds = subst (λ q. IsClosedSystem q c.self.inside.bounds) c.self.view_is c.self.invariant.1 in
    let e : c.attrs-attrs.result.now ≡ attrs_of c.args.self.now.atoms = c.attrs-attrs.ensures.value ∙ sym (signed_attrs c.self.inside.query.now c.self.inside.pairs.now c.self.inside.signs.now c.self.invariant.0) ∙ ap (λ q. attrs_of q.atoms) c.self.view_is in
    ends_read c.args.self.now c.self.inside.bounds k c.attrs-attrs.result.now c.place_in-place.result _ c.args.a c.ends_at.result e c.place_in-place.ensures c.if-place-attrs.true (omega arith) c.ends_at.ensures.least c.ends_at.ensures.greatest

pub returns-else-place-attrs-clause-ends : goal.returns-else-place-attrs-clause-ends
returns-else-place-attrs-clause-ends c =
    let k : IsClosedSystem c.args.self.now c.self.inside.bounds = subst (λ q. IsClosedSystem q c.self.inside.bounds) c.self.view_is c.self.invariant.1 in
    let e : c.attrs-attrs.result.now ≡ attrs_of c.args.self.now.atoms = c.attrs-attrs.ensures.value ∙ sym (signed_attrs c.self.inside.query.now c.self.inside.pairs.now c.self.inside.signs.now c.self.invariant.0) ∙ ap (λ q. attrs_of q.atoms) c.self.view_is in
    let f : c.domains.result.now ≡ c.args.self.now.domains = c.domains.ensures.value ∙ ap (λ q. q.domains) c.self.view_is in
    domain_read c.args.self.now c.self.inside.bounds k c.attrs-attrs.result.now c.domains.result.now c.place_in-place.result c.args.a c.domain_ends.result e f c.place_in-place.ensures c.if-place-attrs.false c.domain_ends.ensures

pub returns-else-place-attrs-clause-low : goal.returns-else-place-attrs-clause-low
returns-else-place-attrs-clause-low c =
    let k : IsClosedSystem c.args.self.now c.self.inside.bounds = subst (λ q. IsClosedSystem q c.self.inside.bounds) c.self.view_is c.self.invariant.1 in
    let f : c.domains.result.now ≡ c.args.self.now.domains = c.domains.ensures.value ∙ ap (λ q. q.domains) c.self.view_is in
    low_read c.args.self.now c.self.inside.bounds k c.domains.result.now c.args.a c.domain_ends.result f c.domain_ends.ensures

pub returns-else-place-attrs-clause-high : goal.returns-else-place-attrs-clause-high
returns-else-place-attrs-clause-high c =
    let k : IsClosedSystem c.args.self.now c.self.inside.bounds = subst (λ q. IsClosedSystem q c.self.inside.bounds) c.self.view_is c.self.invariant.1 in
    let f : c.domains.result.now ≡ c.args.self.now.domains = c.domains.ensures.value ∙ ap (λ q. q.domains) c.self.view_is in
    high_read c.args.self.now c.self.inside.bounds k c.domains.result.now c.args.a c.domain_ends.result f c.domain_ends.ensures
