use Rattle.std.proofs.Common.{◌≡◌, ◌<◌, ◌∙◌, ap, sym, subst, length, arith}
use Rattle.sem_query.specs.Query.{attrs_of}
use Rattle.sem_laws.proofs.Tests.{not_both}
use Rattle.sem_whole.proofs.Signed.{signed_attrs}
use Rattle.plan_whole.specs.Closed.{IsClosedSystem}
use Rattle.plan_whole.proofs.Told.{above_itself, upper_read, apart_read}
use Rattle.plan_whole.proofs.closed.ClosedSystem.above.Goals as goal

pub bound_at-requires-clause-left : goal.bound_at-requires-clause-left
bound_at-requires-clause-left c = let l = (c.are_below.ensures.0 c.if-are_below.true).0 in let f = c.attrs-attrs.ensures.limits.few_attrs in let e = ap length c.attrs-attrs.ensures.value in omega (arith, f, e, l)

pub bound_at-requires-clause-right : goal.bound_at-requires-clause-right
bound_at-requires-clause-right c = let l = (c.are_below.ensures.0 c.if-are_below.true).1 in let f = c.attrs-attrs.ensures.limits.few_attrs in let e = ap length c.attrs-attrs.ensures.value in omega (arith, f, e, l)

pub returns-then-is_same-clause-bound : goal.returns-then-is_same-clause-bound
returns-then-is_same-clause-bound c =
    let k : IsClosedSystem c.args.self.now c.self.inside.bounds = subst (λ q. IsClosedSystem q c.self.inside.bounds) c.self.view_is c.self.invariant.1 in
    above_itself c.args.self.now c.self.inside.bounds k c.args.a c.args.b (sym c.is_same.ensures ∙ c.if-is_same.true)

pub returns-then-are_below-clause-bound : goal.returns-then-are_below-clause-bound
returns-then-are_below-clause-bound c =
    let k : IsClosedSystem c.args.self.now c.self.inside.bounds = subst (λ q. IsClosedSystem q c.self.inside.bounds) c.self.view_is c.self.invariant.1 in
    let e : c.attrs-attrs.result.now ≡ attrs_of c.args.self.now.atoms = c.attrs-attrs.ensures.value ∙ sym (signed_attrs c.self.inside.query.now c.self.inside.pairs.now c.self.inside.signs.now c.self.invariant.0) ∙ ap (λ q. attrs_of q.atoms) c.self.view_is in
    let l : (c.place_in-left.result < length c.attrs-attrs.result.now) × (c.place_in-right.result < length c.attrs-attrs.result.now) = c.are_below.ensures.0 c.if-are_below.true in
    (upper_read c.args.self.now c.self.inside.bounds k c.attrs-attrs.result.now c.place_in-left.result c.place_in-right.result _ _ c.args.a c.args.b c.bound_at.result e c.place_in-left.ensures c.place_in-right.ensures l.0 l.1 (sym c.is_same.ensures ∙ c.if-is_same.false) (omega arith) (omega arith) c.bound_at.ensures).0

pub returns-then-are_below-clause-modest : goal.returns-then-are_below-clause-modest
returns-then-are_below-clause-modest c =
    let k : IsClosedSystem c.args.self.now c.self.inside.bounds = subst (λ q. IsClosedSystem q c.self.inside.bounds) c.self.view_is c.self.invariant.1 in
    let e : c.attrs-attrs.result.now ≡ attrs_of c.args.self.now.atoms = c.attrs-attrs.ensures.value ∙ sym (signed_attrs c.self.inside.query.now c.self.inside.pairs.now c.self.inside.signs.now c.self.invariant.0) ∙ ap (λ q. attrs_of q.atoms) c.self.view_is in
    let l : (c.place_in-left.result < length c.attrs-attrs.result.now) × (c.place_in-right.result < length c.attrs-attrs.result.now) = c.are_below.ensures.0 c.if-are_below.true in
    (upper_read c.args.self.now c.self.inside.bounds k c.attrs-attrs.result.now c.place_in-left.result c.place_in-right.result _ _ c.args.a c.args.b c.bound_at.result e c.place_in-left.ensures c.place_in-right.ensures l.0 l.1 (sym c.is_same.ensures ∙ c.if-is_same.false) (omega arith) (omega arith) c.bound_at.ensures).1

pub returns-else-are_below-clause-bound : goal.returns-else-are_below-clause-bound
returns-else-are_below-clause-bound c =
    let k : IsClosedSystem c.args.self.now c.self.inside.bounds = subst (λ q. IsClosedSystem q c.self.inside.bounds) c.self.view_is c.self.invariant.1 in
    let e : c.attrs-attrs.result.now ≡ attrs_of c.args.self.now.atoms = c.attrs-attrs.ensures.value ∙ sym (signed_attrs c.self.inside.query.now c.self.inside.pairs.now c.self.inside.signs.now c.self.invariant.0) ∙ ap (λ q. attrs_of q.atoms) c.self.view_is in
    apart_read c.args.self.now c.self.inside.bounds k c.attrs-attrs.result.now c.place_in-left.result c.place_in-right.result c.args.a c.args.b c.ends.result c.ends-else-are_below.result c.apart.result e
    c.place_in-left.ensures c.place_in-right.ensures (sym c.is_same.ensures ∙ c.if-is_same.false)
    (λ l. not_both c.are_below.result (c.are_below.ensures.1 l) c.if-are_below.false) c.ends.ensures.ends c.ends-else-are_below.ensures.ends c.apart.ensures.value
