-- Chains of constraints: what they say of a solution, their pieces, and that a chain without a node twice is short.
use Rattle.std.proofs.Common.{◌≡◌, ℕ, zero, suc, ℤ, pos, neg_ℤ, ◌+ℤ◌, ◌≤ℤ◌, refl, ap, subst, arith, List, ◌++◌, length}
use Rattle.std.proofs.lemmas.Int.{ints}
use Rattle.plan_constraints.specs.declared.constraint.Constraint.{Constraint}
use Rattle.plan_constraints.specs.Solutions.{Solves}
use Rattle.plan_constraints.proofs.Numbers.{contains_at, slice_get-append}
use Rattle.plan_closure.specs.Closure.{Chain, stop, step, Modest}

pub chain_sum_is : {cs : List Constraint} {es xs : List ℕ} {i j : ℕ} (s r : ℤ) → s ≡ r → Chain cs es i j xs s → Chain cs es i j xs r
chain_sum_is {cs} {es} {xs} {i} {j} s r e h = subst (λ z. Chain cs es i j xs z) e h

-- a solution keeps within the sum of a chain
pub chain_sound : {cs : List Constraint} {es xs : List ℕ} {i j : ℕ} {s : ℤ} (x : ℕ → ℤ) → Solves x cs → Chain cs es i j xs s → x i ≤ℤ (s +ℤ x j)
chain_sound x v stop = omega (arith, ints)
chain_sound {cs} {s = s} x v (step {e} {i} {k} {j} {es} {xs} {b} {s = r} c at l m n rest) =
    let a : x c.left ≤ℤ (c.bound +ℤ x c.right) = v.each c (contains_at cs e c at) in
    let h : x k ≤ℤ (r +ℤ x j) = chain_sound x v rest in
    let f : x c.left ≡ x i = ap x l in
    let g : x c.right ≡ x k = ap x m in
    omega (arith, ints)

-- a chain stays one when constraints are added
pub chain_grows : {cs : List Constraint} {es xs : List ℕ} {i j : ℕ} {s : ℤ} (ds : List Constraint) → Chain cs es i j xs s → Chain (cs ++ ds) es i j xs s
chain_grows ds stop = stop
chain_grows {cs} ds (step {e} c at l m n rest) = step c (slice_get-append cs ds e c at) l m n (chain_grows ds rest)

-- a chain has one node more than it has constraints
pub length-nodes : {cs : List Constraint} {es xs : List ℕ} {i j : ℕ} {s : ℤ} → Chain cs es i j xs s → length xs ≡ suc (length es)
length-nodes stop = refl
length-nodes (step c at l m n rest) = ap suc (length-nodes rest)

-- k times w
abbrev pub times : ℕ → ℤ → ℤ
times zero w = pos 0
times (suc k) w = w +ℤ times k w

pub chain_modest : {cs : List Constraint} {es xs : List ℕ} {i j : ℕ} {s : ℤ} (w : ℤ) → Modest cs w → Chain cs es i j xs s → (neg_ℤ (times (length es) w) ≤ℤ s) × (s ≤ℤ times (length es) w)
chain_modest w m stop = (omega (arith, ints), omega (arith, ints))
chain_modest {cs} w m (step {e} {es = es} {s = r} c at l k n rest) =
    let h : (neg_ℤ (times (length es) w) ≤ℤ r) × (r ≤ℤ times (length es) w) = chain_modest w m rest in
    let lo : neg_ℤ (times (length es) w) ≤ℤ r = h.0 in
    let hi : r ≤ℤ times (length es) w = h.1 in
    let a : neg_ℤ w ≤ℤ c.bound = m.low c (contains_at cs e c at) in
    let b : c.bound ≤ℤ w = m.high c (contains_at cs e c at) in
    (omega (arith, ints), omega (arith, ints))
