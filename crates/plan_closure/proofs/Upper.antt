-- What the ways say of the bounds.
use Rattle.std.proofs.Common.{◌≡◌, ℕ, zero, suc, ◌-◌, ◌<◌, ◌≤◌, ◌+◌, ℤ, pos, neg_ℤ, ◌+ℤ◌, ◌-ℤ◌, ◌≤ℤ◌, ◌<ℤ◌, refl, sym, ◌∙◌, ap, subst, arith, Option, Some, None, List, [], ◌∷◌, ◌++◌, length, length-append, slice_get, get_or, nat_abs}
use Rattle.std.proofs.lemmas.Int.{ints, by_lt_z}
use Rattle.sem_query.specs.declared.atom.Attr.{Attr}
use Rattle.sem_query.specs.declared.atom.Element.{Element}
use Rattle.sem_query.specs.Query.{QueryValue, attrs_of}
use Rattle.plan_constraints.specs.declared.constraint.Constraint.{Constraint}
use Rattle.plan_closure.specs.declared.entry.Entry.{Entry}
use Rattle.plan_closure.specs.ClosureValue.{ClosureValue}
use Rattle.plan_closure.specs.BoundsValue.{AreBounds}
use Rattle.plan_closure.specs.Entries.{entry_bound, AreModest, IsModest, walked}
use Rattle.plan_constraints.specs.Nodes.{node_of, offset_of, element_at, IsAlwaysLess, IsAlwaysEqual, IsAlwaysAbove}
use Rattle.plan_constraints.specs.Solutions.{Solves, IsSatisfiable, IsUpper, HasNoUpper, IsLeast, HasNoLeast, IsGreatest, HasNoGreatest, IsChain, IsNegativeCycle, IsUpperAnswer, IsLowAnswer, IsHighAnswer}
use Rattle.plan_closure.specs.Answers.{IsBelow, IsAbove, IsOutside, below, above, IsPathAnswer, IsCycleAnswer, IsNear, IsSolvedAt, at_nodes}
use Rattle.plan_constraints.specs.Reach.{reach}
use Rattle.plan_closure.specs.Pinned.{pinned}
use Rattle.plan_closure.specs.Closure.{Chain, stop, step, entry_at, bound_at, AreTight, IsSettled, IsClosureOf, Modest}
use Rattle.plan_closure.proofs.Chains.{chain_sound}
use Rattle.plan_closure.proofs.Pin as pin
use Rattle.plan_constraints.proofs.Solve as solve
use Rattle.plan_closure.proofs.Keep.{entry_of, EntryOf}
use Rattle.plan_closure.proofs.Walks.{chain_at}
use Rattle.plan_closure.proofs.Add.{modest_at}
use Rattle.plan_closure.proofs.Facts.{no_solution}

-- a chain over its nodes is one
pub chain_is : {cs : List Constraint} {es xs : List ℕ} {i j : ℕ} {s : ℤ} → Chain cs es i j xs s → IsChain cs es i j s
chain_is stop = (refl, refl)
chain_is {cs} (step {e} {i} {k} {j} {es} {xs} {b} {s} c at l m n rest) =
    let here : suc e - 1 ≡ e = omega arith in
    let sum : s ≡ (b +ℤ s) -ℤ c.bound = omega (arith, ints, n) in
    let r : IsChain cs es k j s = chain_is rest in
    let r2 : IsChain cs es c.right j ((b +ℤ s) -ℤ c.bound) = subst (λ z. IsChain cs es c.right j z) sum (subst (λ z. IsChain cs es z j s) (sym m) r) in
    (c, omega arith, subst (λ z. slice_get cs z ≡ Some c) (sym here) at, l, r2)

pub tight_if_satisfiable : (n : ℕ) (cs : List Constraint) (ws : List (Option Entry)) (o : Option (List ℕ)) → IsSettled n cs ws o → IsSatisfiable cs → AreTight n cs ws
tight_if_satisfiable n cs ws None k s = k
tight_if_satisfiable n cs ws (Some y) k s = absurd (no_solution cs y k s)

module _ (n : ℕ) (few : n ≤ 13) (cs : List Constraint) (ws : List (Option Entry)) (k : AreTight n cs ws) (m : Modest cs (pos 1000000000000000)) where
  pub modest_entry : (i j : ℕ) → i < n → j < n → (w : Entry) → entry_at ws i j ≡ Some w → AreModest w
  modest_entry i j li lj w e = subst IsModest e (modest_at n few cs ws k m i j li lj)

  modest_bound : (i j : ℕ) → i < n → j < n → (d : ℤ) → bound_at ws i j ≡ Some d → (neg_ℤ (pos 100000000000000000) ≤ℤ d) × (d ≤ℤ pos 100000000000000000)
  modest_bound i j li lj d h =
      let w : EntryOf ws i j d = entry_of ws i j d h in
      let a : AreModest w.entry = modest_entry i j li lj w.entry w.is in
      let lo : neg_ℤ (pos 100000000000000000) ≤ℤ w.entry.bound = a.low in
      let hi : w.entry.bound ≤ℤ pos 100000000000000000 = a.high in
      (omega (arith, ints, w.bound), omega (arith, ints, w.bound))

  within : solve.Within n (bound_at ws) (pos 100000000000000000)
  within = record {
    low = λ i j li lj d h. (modest_bound i j li lj d h).0;
    high = λ i j li lj d h. (modest_bound i j li lj d h).1;
  }

  pub upper_some : (i j : ℕ) → i < n → j < n → (w : Entry) → entry_at ws i j ≡ Some w → IsUpper cs i j w.bound
  upper_some i j li lj w e =
      let r : (x : ℕ → ℤ) × Solves x cs × (x i ≡ w.bound +ℤ x j) = solve.upper_reached n (bound_at ws) k.closed cs k.covers (pos 100000000000000000) within j lj i li w.bound (ap entry_bound e) in
      record {
        bound = λ x v. chain_sound x v (chain_at n cs ws k i j li lj w e).chain;
        at = r.0;
        solves = r.1;
        reached = r.2;
      }

  pub upper_none : (i j : ℕ) → i < n → j < n → entry_at ws i j ≡ None → HasNoUpper cs i j
  upper_none i j li lj e = solve.passes n (bound_at ws) k.closed cs k.covers (pos 100000000000000000) within j lj i li (ap entry_bound e) (omega (arith, ints))

  pub path_some : (i j : ℕ) → i < n → j < n → (w : Entry) → entry_at ws i j ≡ Some w → IsPathAnswer cs i j (Some (walked ws w.length i j))
  path_some i j li lj w e = (w.bound, upper_some i j li lj w e, chain_is (chain_at n cs ws k i j li lj w e).chain)

pub cycle_is : (n : ℕ) (cs : List Constraint) (ws : List (Option Entry)) (o : Option (List ℕ)) → IsSettled n cs ws o → (o ≡ None → IsSatisfiable cs) × ((y : List ℕ) → o ≡ Some y → IsCycleAnswer cs (Some y))
cycle_is n cs ws None k = (λ _. solve.satisfiable n (bound_at ws) k.closed cs k.covers, λ y e. cc)
cycle_is n cs ws (Some z) k = (
  λ e. cc,
  λ y e.
      let same : z ≡ y = cc in
      let g : IsNegativeCycle cs z = record { node = k.node; sum = k.sum; chain = chain_is k.chain; negative = k.negative } in
      subst (λ (y : List ℕ). IsCycleAnswer cs (Some y)) same (g, no_solution cs z k),
)

-- ---- the least and the greatest value of a node

pub greatest_from : (cs : List Constraint) (i : ℕ) (u : ℤ) → IsUpper cs i 0 u → IsGreatest cs i u
greatest_from cs i u h = record {
  below = λ x v. let a : x i ≤ℤ (u +ℤ x 0) = h.bound x v in let o : x 0 ≡ pos 0 = v.origin in omega (arith, ints);
  at = h.at;
  solves = h.solves;
  reached = (let a : h.at i ≡ u +ℤ h.at 0 = h.reached in let o : h.at 0 ≡ pos 0 = h.solves.origin in omega (arith, ints));
}

pub no_greatest_from : (cs : List Constraint) (i : ℕ) → HasNoUpper cs i 0 → HasNoGreatest cs i
no_greatest_from cs i h = record {
  passed = λ high.
      let r = h.passed high in
      let l : (high +ℤ r.0 0) <ℤ r.0 i = r.2 in
      let o : r.0 0 ≡ pos 0 = r.1.origin in
      (r.0, r.1, omega (arith, ints, l, o));
}

pub least_from : (cs : List Constraint) (i : ℕ) (u l : ℤ) → l ≡ neg_ℤ u → IsUpper cs 0 i u → IsLeast cs i l
least_from cs i u l e h = record {
  above = λ x v. let a : x 0 ≤ℤ (u +ℤ x i) = h.bound x v in let o : x 0 ≡ pos 0 = v.origin in omega (arith, ints, e);
  at = h.at;
  solves = h.solves;
  reached = (let a : h.at 0 ≡ u +ℤ h.at i = h.reached in let o : h.at 0 ≡ pos 0 = h.solves.origin in omega (arith, ints, e));
}

pub no_least_from : (cs : List Constraint) (i : ℕ) → HasNoUpper cs 0 i → HasNoLeast cs i
no_least_from cs i h = record {
  passed = λ low.
      let r = h.passed (neg_ℤ low) in
      let l : (neg_ℤ low +ℤ r.0 i) <ℤ r.0 0 = r.2 in
      let o : r.0 0 ≡ pos 0 = r.1.origin in
      (r.0, r.1, omega (arith, ints, l, o));
}

pub is_outside_below : (cs : List Constraint) (i : ℕ) (v : ℤ) (o : Option ℤ) → IsLowAnswer cs i o → IsBelow v o → IsOutside cs i v
is_outside_below cs i v None h b = absurd b
is_outside_below cs i v (Some low) h b = below low h b

pub is_outside_above : (cs : List Constraint) (i : ℕ) (v : ℤ) (o : Option ℤ) → IsHighAnswer cs i o → IsAbove v o → IsOutside cs i v
is_outside_above cs i v None h b = absurd b
is_outside_above cs i v (Some high) h b = above high h b

-- what is not below the answer is not below the least, and the same above
pub not_below : (cs : List Constraint) (i : ℕ) (v : ℤ) (o : Option ℤ) → IsLowAnswer cs i o → ¬ IsBelow v o → (u : ℤ) → IsLeast cs i u → u ≤ℤ v
not_below cs i v None h n u g =
    let r = h.passed u in
    let a : u ≤ℤ r.0 i = g.above r.0 r.1 in
    absurd (omega (arith, ints, a, r.2))
not_below cs i v (Some low) h n u g =
    let a : u ≤ℤ h.at i = g.above h.at h.solves in
    let e : h.at i ≡ low = h.reached in
    let l : low ≤ℤ v = by_lt_z v low (λ b. absurd (n b)) (λ b. omega (arith, ints, b)) in
    omega (arith, ints)

pub not_above : (cs : List Constraint) (i : ℕ) (v : ℤ) (o : Option ℤ) → IsHighAnswer cs i o → ¬ IsAbove v o → (u : ℤ) → IsGreatest cs i u → v ≤ℤ u
not_above cs i v None h n u g =
    let r = h.passed u in
    let a : r.0 i ≤ℤ u = g.below r.0 r.1 in
    absurd (omega (arith, ints, a, r.2))
not_above cs i v (Some high) h n u g =
    let a : h.at i ≤ℤ u = g.below h.at h.solves in
    let e : h.at i ≡ high = h.reached in
    let l : v ≤ℤ high = by_lt_z high v (λ b. absurd (n b)) (λ b. omega (arith, ints, b)) in
    omega (arith, ints)

-- ---- a solution with a given value

module _ (attrs : ℕ) (few : attrs < 13) (cs : List Constraint) (ws : List (Option Entry)) (k : AreTight (suc attrs) cs ws) (mo : Modest cs (pos 1000000000000000)) (i : ℕ) (li : i ≤ attrs) (v : ℤ)
    (high : (u : ℤ) → IsGreatest cs i u → v ≤ℤ u) (low : (u : ℤ) → IsLeast cs i u → u ≤ℤ v) (xs : List ℤ) (long : length xs ≡ attrs)
    (each : (j : ℕ) → j < attrs → at_nodes xs (j + 1) ≡ reach (bound_at ws) (pinned i v (pos 100000000000000000 +ℤ pos (nat_abs v))) (attrs + 1) (j + 1)) where
  at_most : (u : ℤ) → bound_at ws i 0 ≡ Some u → v ≤ℤ u
  at_most u e =
      let y : EntryOf ws i 0 u = entry_of ws i 0 u e in
      let g : IsUpper cs i 0 y.entry.bound = upper_some (suc attrs) (omega arith) cs ws k mo i 0 (omega arith) (omega arith) y.entry y.is in
      let a : v ≤ℤ y.entry.bound = high y.entry.bound (greatest_from cs i y.entry.bound g) in
      omega (arith, ints, y.bound, a)

  at_least : (u : ℤ) → bound_at ws 0 i ≡ Some u → pos 0 ≤ℤ (u +ℤ v)
  at_least u e =
      let y : EntryOf ws 0 i u = entry_of ws 0 i u e in
      let g : IsUpper cs 0 i y.entry.bound = upper_some (suc attrs) (omega arith) cs ws k mo 0 i (omega arith) (omega arith) y.entry y.is in
      let a : neg_ℤ y.entry.bound ≤ℤ v = low (neg_ℤ y.entry.bound) (least_from cs i y.entry.bound _ refl g) in
      omega (arith, ints, y.bound, a)

  pub same : (y : ℕ) → y < suc attrs → at_nodes xs y ≡ reach (bound_at ws) (pinned i v (pos 100000000000000000 +ℤ pos (nat_abs v))) (suc attrs) y
  same zero l = pin.at_nodes-zero xs ∙ sym (pin.reach-origin (suc attrs) (bound_at ws) k.closed cs k.covers (pos 100000000000000000) (within (suc attrs) (omega arith) cs ws k mo) i (omega arith) (omega arith) v (pos 100000000000000000 +ℤ pos (nat_abs v)) (omega (arith, ints)) (omega (arith, ints)) (omega (arith, ints)) (omega (arith, ints)) at_most at_least)
  same (suc j) l =
      let e : at_nodes xs (j + 1) ≡ reach (bound_at ws) (pinned i v (pos 100000000000000000 +ℤ pos (nat_abs v))) (attrs + 1) (j + 1) = each j (omega arith) in
      let a : j + 1 ≡ suc j = omega arith in
      let b : attrs + 1 ≡ suc attrs = omega arith in
      rw (a, b) at e

  near : (y : ℕ) (d : ℤ) → y < length xs → IsNear v (get_or xs y d)
  near y d l =
      let e : at_nodes xs (suc y) ≡ get_or xs y d = pin.at_nodes-get xs y d l in
      let lo : neg_ℤ (pos 100000000000000000 +ℤ pos (nat_abs v)) ≤ℤ at_nodes xs (suc y) = pin.reached_low (suc attrs) (bound_at ws) k.closed cs k.covers (pos 100000000000000000) (within (suc attrs) (omega arith) cs ws k mo) i (omega arith) (omega arith) v (pos 100000000000000000 +ℤ pos (nat_abs v)) (omega (arith, ints)) (omega (arith, ints)) (omega (arith, ints)) (omega (arith, ints)) at_most at_least (at_nodes xs) same (suc y) (omega (arith, l, long)) in
      let hi : at_nodes xs (suc y) ≤ℤ (pos 100000000000000000 +ℤ pos (nat_abs v)) = pin.reached_high (suc attrs) (bound_at ws) k.closed cs k.covers (pos 100000000000000000) (within (suc attrs) (omega arith) cs ws k mo) i (omega arith) (omega arith) v (pos 100000000000000000 +ℤ pos (nat_abs v)) (omega (arith, ints)) (omega (arith, ints)) (omega (arith, ints)) (omega (arith, ints)) at_most at_least (at_nodes xs) same (suc y) (omega (arith, l, long)) in
      record { low = rw e at lo; high = rw e at hi }

  pub solved_at : IsSolvedAt attrs cs i v xs
  solved_at = record {
    long = long;
    solves = pin.reached_solves (suc attrs) (bound_at ws) k.closed cs k.covers (pos 100000000000000000) (within (suc attrs) (omega arith) cs ws k mo) i (omega arith) (omega arith) v (pos 100000000000000000 +ℤ pos (nat_abs v)) (omega (arith, ints)) (omega (arith, ints)) (omega (arith, ints)) (omega (arith, ints)) at_most at_least (at_nodes xs) same;
    here = pin.reached_here (suc attrs) (bound_at ws) k.closed cs k.covers (pos 100000000000000000) (within (suc attrs) (omega arith) cs ws k mo) i (omega arith) (omega arith) v (pos 100000000000000000 +ℤ pos (nat_abs v)) (omega (arith, ints)) (omega (arith, ints)) (omega (arith, ints)) (omega (arith, ints)) at_most at_least (at_nodes xs) same;
    near = near;
  }

-- ---- comparisons of elements

module _ (xs : List Attr) (cs : List Constraint) (x y : Element) (by : ℤ) where
  pub keeps_some : (u l : ℤ) → IsUpper cs (node_of xs x) (node_of xs y) u → l ≡ offset_of y -ℤ offset_of x +ℤ by → (u ≤ℤ l → IsAlwaysAbove xs cs x y by) × (IsAlwaysAbove xs cs x y by → u ≤ℤ l)
  keeps_some u l h e = (
    (λ g. record { above = λ z v. let b : z (node_of xs x) ≤ℤ (u +ℤ z (node_of xs y)) = h.bound z v in omega (arith, ints, b, g, e) }),
    (λ a. let b : element_at xs h.at x ≤ℤ (by +ℤ element_at xs h.at y) = a.above h.at h.solves in
        let r : h.at (node_of xs x) ≡ u +ℤ h.at (node_of xs y) = h.reached in omega (arith, ints, b, r, e)),
  )

  pub keeps_none : HasNoUpper cs (node_of xs x) (node_of xs y) → IsAlwaysAbove xs cs x y by → ⊥
  keeps_none h a =
      let p = h.passed (offset_of y -ℤ offset_of x +ℤ by) in
      let b : element_at xs p.0 x ≤ℤ (by +ℤ element_at xs p.0 y) = a.above p.0 p.1 in
      omega (arith, ints, b, p.2)

pub less_from : (q : QueryValue) (xs : List Attr) (cs : List Constraint) (x y : Element) → xs ≡ attrs_of q.atoms → IsAlwaysAbove xs cs x y (neg_ℤ (pos 1)) → IsAlwaysLess q cs x y
less_from q xs cs x y e h = record { less = λ z v. let b = h.above z v in rw (← e) (omega (arith, ints, b)) }

pub above_from_less : (q : QueryValue) (xs : List Attr) (cs : List Constraint) (x y : Element) → xs ≡ attrs_of q.atoms → IsAlwaysLess q cs x y → IsAlwaysAbove xs cs x y (neg_ℤ (pos 1))
above_from_less q xs cs x y e h = record { above = λ z v. let b = h.less z v in rw e (omega (arith, ints, b)) }

pub equal_from : (q : QueryValue) (xs : List Attr) (cs : List Constraint) (x y : Element) → xs ≡ attrs_of q.atoms → IsAlwaysAbove xs cs x y (pos 0) → IsAlwaysAbove xs cs y x (pos 0) → IsAlwaysEqual q cs x y
equal_from q xs cs x y e h g = record { equal = λ z v. let b = h.above z v in let b2 = g.above z v in rw (← e) (omega (arith, ints, b, b2)) }

pub above_from_equal : (q : QueryValue) (xs : List Attr) (cs : List Constraint) (x y : Element) → xs ≡ attrs_of q.atoms → IsAlwaysEqual q cs x y → IsAlwaysAbove xs cs x y (pos 0)
above_from_equal q xs cs x y e h = record { above = λ z v. let b = h.equal z v in rw e (omega (arith, ints, b)) }

pub above_from_equal_turned : (q : QueryValue) (xs : List Attr) (cs : List Constraint) (x y : Element) → xs ≡ attrs_of q.atoms → IsAlwaysEqual q cs x y → IsAlwaysAbove xs cs y x (pos 0)
above_from_equal_turned q xs cs x y e h = record { above = λ z v. let b = h.equal z v in rw e (omega (arith, ints, b)) }

pub bounds_with : (k : ClosureValue) (n : ℕ) (cs : List Constraint) (c : Constraint) (ds : List Constraint) → ds ≡ cs ++ c ∷ [] → IsClosureOf k n (cs ++ c ∷ []) → length cs < 300 → AreBounds k ds
bounds_with k n cs c ds e h l = rw e record {
  closure = subst (λ m. IsClosureOf k m (cs ++ c ∷ [])) (sym h.attrs) h;
  room = (let a : length (cs ++ c ∷ []) ≡ length cs + 1 = length-append cs (c ∷ []) in omega arith);
}

pub high_answer : (cs : List Constraint) (i : ℕ) (o : Option ℤ) → IsUpperAnswer cs i 0 o → IsHighAnswer cs i o
high_answer cs i None h = no_greatest_from cs i h
high_answer cs i (Some u) h = greatest_from cs i u h
