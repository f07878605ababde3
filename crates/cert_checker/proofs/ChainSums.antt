-- The sums of chains of constraints, by their numbers: what they say of a solution, and that constraints that close a chain
-- with a negative sum leave no solution.
use Rattle.std.proofs.Common.{◌≡◌, ℕ, ◌-◌, ℤ, pos, ◌+ℤ◌, ◌-ℤ◌, ◌≤ℤ◌, ◌<ℤ◌, ap, arith, Option, Some, None, List, [], ◌∷◌, slice_get}
use Rattle.std.proofs.lemmas.Int.{ints}
use Rattle.plan_constraints.specs.declared.constraint.Constraint.{Constraint}
use Rattle.plan_constraints.specs.Solutions.{Solves, IsSatisfiable, IsChain, IsNegativeCycle}
use Rattle.plan_constraints.proofs.Numbers.{contains_at}

-- a solution keeps within the sum of a chain
pub sum_sound : (cs : List Constraint) (es : List ℕ) (i j : ℕ) (s : ℤ) (x : ℕ → ℤ) → Solves x cs → IsChain cs es i j s → x i ≤ℤ (s +ℤ x j)
sum_sound cs [] i j s x v h =
    let a : x i ≡ x j = ap x h.0 in
    let b : s ≡ pos 0 = h.1 in
    omega (arith, ints)
sum_sound cs (e ∷ es) i j s x v h =
    let a : x h.0.left ≤ℤ (h.0.bound +ℤ x h.0.right) = v.each h.0 (contains_at cs (e - 1) h.0 h.2) in
    let b : x h.0.left ≡ x i = ap x h.3 in
    let r : x h.0.right ≤ℤ ((s -ℤ h.0.bound) +ℤ x j) = sum_sound cs es h.0.right j (s -ℤ h.0.bound) x v h.4 in
    omega (arith, ints, a, b, r)

-- no integers meet constraints that close a chain with a negative sum
pub no_solution : (cs : List Constraint) (es : List ℕ) → IsNegativeCycle cs es → ¬ IsSatisfiable cs
no_solution cs es h s =
    let a : s.at h.node ≤ℤ (h.sum +ℤ s.at h.node) = sum_sound cs es h.node h.node h.sum s.at s.solves h.chain in
    let b : h.sum <ℤ pos 0 = h.negative in
    absurd (omega (arith, ints, a, b))

-- what a constraint that may not be there adds to a sum
abbrev pub bound_or : Option Constraint → ℤ
bound_or None = pos 0
bound_or (Some c) = c.bound

-- the sum of the bounds of the constraints with these numbers, from 1
abbrev pub sum_of : List Constraint → List ℕ → ℤ
sum_of cs [] = pos 0
sum_of cs (e ∷ es) = bound_or (slice_get cs (e - 1)) +ℤ sum_of cs es

-- the sum of a chain is that of its bounds
pub sum_is : (cs : List Constraint) (es : List ℕ) (i j : ℕ) (s : ℤ) → IsChain cs es i j s → s ≡ sum_of cs es
sum_is cs [] i j s h = h.1
sum_is cs (e ∷ es) i j s h =
    let r : (s -ℤ h.0.bound) ≡ sum_of cs es = sum_is cs es h.0.right j (s -ℤ h.0.bound) h.4 in
    let b : bound_or (slice_get cs (e - 1)) ≡ h.0.bound = ap bound_or h.2 in
    omega (arith, ints, r, b)
