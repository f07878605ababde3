use Rattle.std.proofs.Common.{◌≡◌, pos, neg_ℤ, ◌≤ℤ◌, ◌+ℤ◌, ◌-ℤ◌, arith, to_z, of_z}
use Rattle.std.proofs.lemmas.Int.{ints}
use mir.Syntax.{w64}
use Rattle.plan_constraints.specs.Nodes.{offset_of}
use Rattle.plan_constraints.proofs.NodeFacts.{offset_low, offset_high}
use Rattle.plan_links.proofs.AtNodes.{node_below, limit_of, above_some, above_none}
use Rattle.plan_links.proofs.InPartFacts.{as_known, solvable}
use Rattle.plan_links.proofs.order.keeps.Goals as goal

pub upper-requires-clause-left : goal.upper-requires-clause-left
upper-requires-clause-left c = let n = node_below _ _ _ (as_known _ _ _ c.requires.known) _ c.requires.left in omega (arith, n, c.requires.known.distances.attrs)

pub upper-requires-clause-right : goal.upper-requires-clause-right
upper-requires-clause-right c = let n = node_below _ _ _ (as_known _ _ _ c.requires.known) _ c.requires.right in omega (arith, n, c.requires.known.distances.attrs)

pub upper-requires-clause-satisfiable : goal.upper-requires-clause-satisfiable
upper-requires-clause-satisfiable c = solvable _ _ _ c.requires.known

pub difference-requires-clause-left : goal.difference-requires-clause-left
difference-requires-clause-left c = limit_of _ _ _ (as_known _ _ _ c.requires.known) _ c.requires.left

pub difference-requires-clause-right : goal.difference-requires-clause-right
difference-requires-clause-right c = limit_of _ _ _ (as_known _ _ _ c.requires.known) _ c.requires.right

pub returns-in-Some : goal.returns-in-Some
returns-in-Some c =
    let s : (neg_ℤ (pos 100000000000000000) ≤ℤ c.in-Some.bound) × (c.in-Some.bound ≤ℤ pos 100000000000000000) = c.in-Some.ensures.small in
    let lx = limit_of _ _ _ (as_known _ _ _ c.requires.known) _ c.requires.left in
    let ly = limit_of _ _ _ (as_known _ _ _ c.requires.known) _ c.requires.right in
    let l1 = offset_low c.args.x.element lx in
    let l2 = offset_high c.args.x.element lx in
    let r1 = offset_low c.args.y.element ly in
    let r2 = offset_high c.args.y.element ly in
    let low : neg_ℤ (pos 1) ≤ℤ c.args.by = omega (arith, ints) in
    let high : c.args.by ≤ℤ pos 0 = omega (arith, ints) in
    let e : c.difference.result ≡ offset_of c.args.y.element -ℤ offset_of c.args.x.element +ℤ c.args.by = omega (arith, ints, c.difference.ensures, l1, l2, r1, r2) in
    let u1 : to_z w64 (of_z w64 c.in-Some.bound) ≡ c.in-Some.bound = omega (arith, ints, s.0, s.1) in
    let v1 : to_z w64 (of_z w64 c.difference.result) ≡ c.difference.result = omega (arith, ints, e, l1, l2, r1, r2, low, high) in
    let k = above_some _ _ _ (as_known _ _ _ c.requires.known) c.args.x c.args.y c.requires.left c.requires.right c.args.by c.in-Some.bound c.difference.result (c.in-Some.ensures.answer _ _ c.requires.known.distances) e in
    ((λ h. k.0 (omega (arith, ints, h, u1, v1))), (λ a. let g = k.1 a in grind (arith, ints, g, u1, v1)))

pub returns-in-None : goal.returns-in-None
returns-in-None c = ((λ h. cc), (λ a. absurd (above_none _ _ _ (as_known _ _ _ c.requires.known) c.args.x c.args.y c.requires.left c.requires.right c.args.by (c.in-None.ensures.answer _ _ c.requires.known.distances) a)))
