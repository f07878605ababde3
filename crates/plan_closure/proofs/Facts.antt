-- What the table of bounds says of the solutions.
use Rattle.std.proofs.Common.{◌≡◌, ◌≢◌, ℕ, suc, ◌<◌, ◌≤◌, ◌+◌, ◌*◌, ◌/◌, ◌%◌, ℤ, pos, ◌+ℤ◌, ◌≤ℤ◌, ◌<ℤ◌, refl, sym, ◌∙◌, ap, arith, Option, Some, None, true, List, [], Contains, is_some, not}
use Rattle.std.proofs.lemmas.Int.{ints}
use Rattle.plan_constraints.specs.declared.constraint.Constraint.{Constraint}
use Rattle.plan_closure.specs.declared.entry.Entry.{Entry}
use Rattle.plan_closure.specs.ClosureValue.{ClosureValue}
use Rattle.plan_constraints.specs.Solutions.{IsSatisfiable}
use Rattle.plan_closure.specs.Entries.{entry_bound, IsUnlinked, self, other, IsUnlinkedAt}
use Rattle.plan_closure.specs.Closure.{entry_at, bound_at, AreTight, IsNegative, IsSettled, IsClosureOf}
use Rattle.plan_closure.proofs.Chains.{chain_sound}
use Rattle.plan_constraints.proofs.Solve as solve
use Rattle.plan_constraints.proofs.Options.{some_is, none_is}

pub no_solution : (cs : List Constraint) (y : List ℕ) → IsNegative cs y → IsSatisfiable cs → ⊥
no_solution cs y n s =
    let a : s.at n.node ≤ℤ (n.sum +ℤ s.at n.node) = chain_sound s.at s.solves n.chain in
    let b : n.sum <ℤ pos 0 = n.negative in
    omega (arith, ints)

pub satisfiable_is : (n : ℕ) (cs : List Constraint) (ws : List (Option Entry)) (cycle : Option (List ℕ)) → IsSettled n cs ws cycle → (not (is_some cycle) ≡ true → IsSatisfiable cs) × (IsSatisfiable cs → not (is_some cycle) ≡ true)
satisfiable_is n cs ws None k = (λ _. solve.satisfiable n (bound_at ws) k.closed cs k.covers, λ _. refl)
satisfiable_is n cs ws (Some y) k = (λ h. cc, λ s. absurd (no_solution cs y k s))

-- ---- the start

unlinked_place : (ws : List (Option Entry)) → ((k : ℕ) → k < 169 → IsUnlinkedAt ws k) → (i j : ℕ) → i < 13 → j < 13 → IsUnlinked i j (entry_at ws i j)
unlinked_place ws f i j li lj =
    let h : IsUnlinkedAt ws (13 * i + j) = f (13 * i + j) (omega arith) in
    let r : (13 * i + j) / 13 ≡ i = omega arith in
    let s : (13 * i + j) % 13 ≡ j = omega arith in
    rw (r, s) at h

pub start_tight : (n : ℕ) → n ≤ 13 → (ws : List (Option Entry)) → ((k : ℕ) → k < 169 → IsUnlinkedAt ws k) → AreTight n [] ws
start_tight n few ws f = record {
  closed = record {
    self = λ i l. own i (omega arith);
    closed = λ i j m li lj lm p q e g.
        let a : (i ≡ j) × (p ≡ pos 0) = same i j p (omega arith) (omega arith) e in
        let b : (j ≡ m) × (q ≡ pos 0) = same j m q (omega arith) (omega arith) g in
        let x : i ≡ m = a.0 ∙ b.0 in
        let p0 : p ≡ pos 0 = a.1 in
        let q0 : q ≡ pos 0 = b.1 in
        record { bound = pos 0; is = ap (bound_at ws i) (sym x) ∙ own i (omega arith); small = omega (arith, ints) };
  };
  covers = record { left = λ c h. nothing c h; right = λ c h. nothing c h; tight = λ c h. absurd (nothing {R = ⊥} c h) };
  still = λ i li w e. still i w e (unlinked_place ws f i i (omega arith) (omega arith));
  next = λ i j li lj ne w e. absurd (apart i j ne w e (unlinked_place ws f i j (omega arith) (omega arith)));
}
  where
    nothing : {R : Type 0} (c : Constraint) → let E : List Constraint = [] in Contains E c → R
    nothing c h = let l : h.0 < 0 = h.1 in absurd (omega arith)

    same : (i j : ℕ) (d : ℤ) → i < 13 → j < 13 → bound_at ws i j ≡ Some d → (i ≡ j) × (d ≡ pos 0)
    same i j d li lj e = go (unlinked_place ws f i j li lj)
      where
        go : IsUnlinked i j (entry_at ws i j) → (i ≡ j) × (d ≡ pos 0)
        go (self w s o b p) = (s, some_is (sym e ∙ ap entry_bound o) ∙ b)
        go (other n o) = absurd (none_is (sym (ap entry_bound o) ∙ e))

    own : (i : ℕ) → i < 13 → bound_at ws i i ≡ Some (pos 0)
    own i l = go (unlinked_place ws f i i l l)
      where
        go : IsUnlinked i i (entry_at ws i i) → bound_at ws i i ≡ Some (pos 0)
        go (self w s o b p) = ap entry_bound o ∙ ap (λ z. let A : Type 0 = Option ℤ in let r : A = Some z in r) b
        go (other n o) = absurd (n refl)

    still : (i : ℕ) (w : Entry) → entry_at ws i i ≡ Some w → IsUnlinked i i (entry_at ws i i) → w.length ≡ 0
    still i w e (self u s o b p) = ap (λ (z : Entry). z.length) (sym (some_is (sym o ∙ e))) ∙ p
    still i w e (other n o) = absurd (n refl)

    apart : (i j : ℕ) → i ≢ j → (w : Entry) → entry_at ws i j ≡ Some w → IsUnlinked i j (entry_at ws i j) → ⊥
    apart i j ne w e (self u s o b p) = ne s
    apart i j ne w e (other n o) = none_is (sym o ∙ e)

pub start_closure : (k : ClosureValue) (n : ℕ) → n < 13 → k.attrs ≡ n → k.count ≡ 0 → k.cycle ≡ None → ((i : ℕ) → i < 169 → IsUnlinkedAt k.entries i) → IsClosureOf k n []
start_closure k n l a z e f = record {
  attrs = a;
  few = l;
  count = z;
  left = λ c h. nothing c h;
  right = λ c h. nothing c h;
  modest = record { low = λ c h. absurd (nothing {R = ⊥} c h); high = λ c h. absurd (nothing {R = ⊥} c h) };
  settled = rw e (start_tight (suc n) (omega arith) k.entries f);
}
  where
    nothing : {R : Type 0} (c : Constraint) → let E : List Constraint = [] in Contains E c → R
    nothing c h = let l : h.0 < 0 = h.1 in absurd (omega arith)
