-- The value of a number is no less than the least and no more than the greatest value of its node.
use Rattle.std.proofs.Common.{◌≡◌, ℕ, ◌<◌, nat_eq, cond, Bool, true, false, refl, ap, ◌∙◌, arith, ℤ, pos, ◌+ℤ◌, ◌-ℤ◌, ◌≤ℤ◌, ◌<ℤ◌, List, Option, None, Some}
use Rattle.std.proofs.lemmas.Int.{ints}
use Rattle.plan_constraints.specs.declared.constraint.Constraint.{Constraint}
use Rattle.plan_constraints.specs.Solutions.{IsLeast, IsGreatest, HasNoLeast, HasNoGreatest, IsLowAnswer, IsHighAnswer}
use Rattle.plan_closure.specs.Answers.{IsOutside, below, above}
use Rattle.fam_fooling_sets.specs.declared.ground.Ground.{Ground}
use Rattle.fam_fooling_sets.specs.Members.{value_for, target_for, AreEnds, IsGround}

no-least : (cs : List Constraint) (node : ℕ) (low : ℤ) → HasNoLeast cs node → IsLeast cs node low → ⊥
no-least cs node low n h = let p = n.passed low in let k = h.above p.0 p.1 in let l = p.2 in omega (arith, ints, k, l)

no-greatest : (cs : List Constraint) (node : ℕ) (high : ℤ) → HasNoGreatest cs node → IsGreatest cs node high → ⊥
no-greatest cs node high n h = let p = n.passed high in let k = h.below p.0 p.1 in let l = p.2 in omega (arith, ints, k, l)

-- the value of a node that is not bounded is not outside
inside : (cs : List Constraint) (node : ℕ) (low high : Option ℤ) (number : ℕ) → AreEnds cs node low high → IsOutside cs node (value_for low high number) → ⊥
inside cs node (Some low) (Some high) number e o = e
inside cs node (Some low) None number e (below l h k) =
    (let a : l ≤ℤ e.0.at node = h.above e.0.at e.0.solves in let r = e.0.reached in let z : (low +ℤ pos number) <ℤ l = k in omega (arith, ints, a, r, z))
inside cs node (Some low) None number e (above u h k) = no-greatest cs node u e.1 h
inside cs node None (Some high) number e (below l h k) = no-least cs node l e.0 h
inside cs node None (Some high) number e (above u h k) =
    (let a : e.1.at node ≤ℤ u = h.below e.1.at e.1.solves in let r = e.1.reached in let z : u <ℤ (high -ℤ pos number) = k in omega (arith, ints, a, r, z))
inside cs node None None number e (below l h k) = no-least cs node l e.0 h
inside cs node None None number e (above u h k) = no-greatest cs node u e.1 h

-- the least value of a node is not outside, nor the greatest where there is no least, nor 0 where there is neither
pub first-inside : (cs : List Constraint) (node : ℕ) (low high : Option ℤ) → IsLowAnswer cs node low → IsHighAnswer cs node high → IsOutside cs node (value_for low high 0) → ⊥
first-inside cs node (Some low) high a b (below l h k) =
    (let x : l ≤ℤ a.at node = h.above a.at a.solves in let r = a.reached in let z : (low +ℤ pos 0) <ℤ l = k in omega (arith, ints, x, r, z))
first-inside cs node (Some low) high a b (above u h k) =
    (let x : a.at node ≤ℤ u = h.below a.at a.solves in let r = a.reached in let z : u <ℤ (low +ℤ pos 0) = k in omega (arith, ints, x, r, z))
first-inside cs node None (Some high) a b (below l h k) =
    (let x : l ≤ℤ b.at node = h.above b.at b.solves in let r = b.reached in let z : (high -ℤ pos 0) <ℤ l = k in omega (arith, ints, x, r, z))
first-inside cs node None (Some high) a b (above u h k) =
    (let x : b.at node ≤ℤ u = h.below b.at b.solves in let r = b.reached in let z : u <ℤ (high -ℤ pos 0) = k in omega (arith, ints, x, r, z))
first-inside cs node None None a b (below l h k) = no-least cs node l a h
first-inside cs node None None a b (above u h k) = no-greatest cs node u b h

-- nor is 0 outside at node 0
origin : (cs : List Constraint) (node : ℕ) → node ≡ 0 → IsOutside cs node (pos 0) → ⊥
origin cs node z (below l h k) = (let o = ap h.at z ∙ h.solves.origin in let r = h.reached in omega (arith, ints, o, r, k))
origin cs node z (above u h k) = (let o = ap h.at z ∙ h.solves.origin in let r = h.reached in omega (arith, ints, o, r, k))

pub never-outside : (g : Ground) → IsGround g → (number : ℕ) → IsOutside g.bounds.now.constraints g.node (target_for g.node (value_for g.low g.high number)) → ⊥
never-outside g is number = by (nat_eq g.node 0) refl
  where
    by : (b : Bool) → nat_eq g.node 0 ≡ b → IsOutside g.bounds.now.constraints g.node (cond b (pos 0) (value_for g.low g.high number)) → ⊥
    by true e o = origin g.bounds.now.constraints g.node (let z : g.node ≡ 0 = grind (arith, e) in z) o
    by false e o = inside g.bounds.now.constraints g.node g.low g.high number (is.ends (let z : 0 < g.node = grind (arith, e) in z)) o
