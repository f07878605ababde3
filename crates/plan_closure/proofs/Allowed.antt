-- Constraints that a closure allows, and those that it implies.
use Rattle.std.proofs.Common.{◌≡◌, ℕ, ◌<◌, ◌≤◌, ℤ, pos, ◌+ℤ◌, ◌≤ℤ◌, ◌<ℤ◌, refl, sym, subst, ◌∙◌, arith, Option, Some, None, List, [], ◌∷◌, ◌++◌, Bool, true, false, not, is_some, IsTrue, Contains, ◌⊎◌, inl, inr}
use Rattle.std.proofs.lemmas.Int.{ints, by_lt_z}
use Rattle.std.proofs.lemmas.List.Elements.{Contains-append_left, Contains-append_right, Contains-push_cases}
use Rattle.plan_constraints.specs.declared.constraint.Constraint.{Constraint}
use Rattle.plan_closure.specs.declared.entry.Entry.{Entry}
use Rattle.plan_closure.specs.Cycles.{IsImplied}
use Rattle.plan_constraints.specs.Table.{Table, AtMost, IsClosed, Covers}
use Rattle.plan_closure.specs.Tightened.{tightened, Agrees}
use Rattle.plan_constraints.specs.Solutions.{Solves, IsSatisfiable, IsUpper, Allows, Implies}
use Rattle.plan_closure.specs.Closure.{entry_at, bound_at, AreTight, IsSettled, Modest}
use Rattle.plan_closure.proofs.Chains.{chain_sound}
use Rattle.plan_closure.proofs.Facts.{no_solution}
use Rattle.plan_constraints.proofs.Options.{some_is}
use Rattle.plan_closure.proofs.Keep.{entry_of, EntryOf}
use Rattle.plan_constraints.proofs.Solve as solve
use Rattle.plan_closure.proofs.Tighten.{tightened-closed, over-at_most, at_most-trans, at_most-weaker}
use Rattle.plan_closure.proofs.Upper.{tight_if_satisfiable, upper_some, upper_none}
use Rattle.plan_closure.proofs.Walks.{chain_at}

-- no integers meet a constraint that closes a negative chain
pub not_allowed : (n : ℕ) → n ≤ 13 → (cs : List Constraint) (ws : List (Option Entry)) (o : Option (List ℕ)) (c : Constraint) (w : Entry) → IsSettled n cs ws o → c.left < n → c.right < n → entry_at ws c.right c.left ≡ Some w → (w.bound +ℤ c.bound) <ℤ pos 0 → IsSatisfiable (cs ++ c ∷ []) → ⊥
not_allowed n few cs ws o c w k la lb e l s =
    let old : IsSatisfiable cs = record { at = s.at; solves = record { origin = s.solves.origin; each = λ d h. s.solves.each d (Contains-append_left cs (c ∷ []) d h) } } in
    let t : AreTight n cs ws = tight_if_satisfiable n cs ws o k old in
    let a : s.at c.right ≤ℤ (w.bound +ℤ s.at c.left) = chain_sound s.at old.solves (chain_at n cs ws t c.right c.left lb la w e).chain in
    let b : s.at c.left ≤ℤ (c.bound +ℤ s.at c.right) = s.solves.each c (Contains-append_right cs (c ∷ []) c (0, omega arith, refl)) in
    omega (arith, ints, a, b, l)

-- a negative cycle stays one
pub never_allowed : (n : ℕ) (cs : List Constraint) (ws : List (Option Entry)) (o : Option (List ℕ)) (c : Constraint) (b : Bool) → IsSettled n cs ws o → b ≡ is_some o → b ≡ true → Allows cs c → ⊥
never_allowed n cs ws None c b k e t s = cc
never_allowed n cs ws (Some y) c b k e t s = no_solution cs y k (record { at = s.at; solves = record { origin = s.solves.origin; each = λ d h. s.solves.each d (Contains-append_left cs (c ∷ []) d h) } })

-- where it closes none, some integers meet it
pub allowed : (n : ℕ) (cs : List Constraint) (ws : List (Option Entry)) (c : Constraint) → AreTight n cs ws → c.left < n → c.right < n → ((w : Entry) → entry_at ws c.right c.left ≡ Some w → pos 0 ≤ℤ (w.bound +ℤ c.bound)) → Allows cs c
allowed n cs ws c k la lb f = solve.satisfiable n t closed (cs ++ c ∷ []) covers
  where
    g : Agrees (bound_at ws) c.left c.right c.bound
    g = record { agrees = λ r e. let w : EntryOf ws c.right c.left r = entry_of ws c.right c.left r e in let l : pos 0 ≤ℤ (w.entry.bound +ℤ c.bound) = f w.entry w.is in omega (arith, ints, w.bound, l) }

    t : Table
    t = tightened (bound_at ws) c.left c.right c.bound

    closed : IsClosed n (tightened (bound_at ws) c.left c.right c.bound)
    closed = tightened-closed n (bound_at ws) k.closed c.left c.right c.bound la lb g

    side : (d : Constraint) → Contains cs d ⊎ (c ≡ d) → (d.left < n) × (d.right < n)
    side d (inl h) = (k.covers.left d h, k.covers.right d h)
    side d (inr e) = subst (λ z. (z.left < n) × (z.right < n)) e (la, lb)

    tight : (d : Constraint) → Contains cs d ⊎ (c ≡ d) → AtMost (tightened (bound_at ws) c.left c.right c.bound) d.left d.right d.bound
    tight d (inl h) = at_most-weaker (bound_at ws) c.left c.right c.bound d.left d.right d.bound (k.covers.tight d h)
    tight d (inr e) =
        let h : AtMost (tightened (bound_at ws) c.left c.right c.bound) c.left c.right c.bound =
        at_most-trans _ c.left c.right _ c.bound (over-at_most (bound_at ws) c.left c.right c.bound c.left c.right (pos 0) (pos 0) (k.closed.self c.left la) (k.closed.self c.right lb)) (omega (arith, ints)) in
        subst (λ z. AtMost (tightened (bound_at ws) c.left c.right c.bound) z.left z.right z.bound) e h

    covers : Covers n (tightened (bound_at ws) c.left c.right c.bound) (cs ++ c ∷ [])
    covers = record {
      left = λ d h. (side d (Contains-push_cases cs c d h)).0;
      right = λ d h. (side d (Contains-push_cases cs c d h)).1;
      tight = λ d h. tight d (Contains-push_cases cs c d h);
    }

-- each constraint of unsatisfiable ones is implied
pub all_implied : (n : ℕ) (cs : List Constraint) (ws : List (Option Entry)) (o : Option (List ℕ)) (c : Constraint) (b : Bool) → IsSettled n cs ws o → b ≡ is_some o → b ≡ true → Implies cs c
all_implied n cs ws None c b k e t = cc
all_implied n cs ws (Some y) c b k e t = record { met = λ x v. absurd (no_solution cs y k (record { at = x; solves = v })) }

-- what a bound of the table implies
implied_sound : (n : ℕ) (cs : List Constraint) (ws : List (Option Entry)) (o : Option (List ℕ)) (c : Constraint) (x : ℕ → ℤ) → IsSettled n cs ws o → c.left < n → c.right < n → IsImplied (entry_at ws c.left c.right) c.bound → Solves x cs → x c.left ≤ℤ (c.bound +ℤ x c.right)
implied_sound n cs ws o c x k la lb h v = go (entry_at ws c.left c.right) refl h
  where
    go : (w : Option Entry) → entry_at ws c.left c.right ≡ w → IsImplied w c.bound → x c.left ≤ℤ (c.bound +ℤ x c.right)
    go None e h = absurd h
    go (Some w) e h =
        let t : AreTight n cs ws = tight_if_satisfiable n cs ws o k (record { at = x; solves = v }) in
        let a : x c.left ≤ℤ (w.bound +ℤ x c.right) = chain_sound x v (chain_at n cs ws t c.left c.right la lb w e).chain in
        omega (arith, ints, a, h)

pub implied_if : (n : ℕ) (cs : List Constraint) (ws : List (Option Entry)) (o : Option (List ℕ)) (c : Constraint) → IsSettled n cs ws o → c.left < n → c.right < n → IsImplied (entry_at ws c.left c.right) c.bound → Implies cs c
implied_if n cs ws o c k la lb h = record { met = λ x v. implied_sound n cs ws o c x k la lb h v }

-- what is implied has its bound in the table
pub bound_if_implied : (n : ℕ) → n ≤ 13 → (cs : List Constraint) (ws : List (Option Entry)) (c : Constraint) → AreTight n cs ws → Modest cs (pos 1000000000000000) → c.left < n → c.right < n → Implies cs c → IsImplied (entry_at ws c.left c.right) c.bound
bound_if_implied n few cs ws c k m la lb h = go (entry_at ws c.left c.right) refl
  where
    go : (o : Option Entry) → entry_at ws c.left c.right ≡ o → IsImplied o c.bound
    go None e =
        let p = (upper_none n few cs ws k m c.left c.right la lb e).passed c.bound in
        let a : p.0 c.left ≤ℤ (c.bound +ℤ p.0 c.right) = h.met p.0 p.1 in
        absurd (omega (arith, ints, a, p.2))
    go (Some w) e =
        let u : IsUpper cs c.left c.right w.bound = upper_some n few cs ws k m c.left c.right la lb w e in
        let a : u.at c.left ≤ℤ (c.bound +ℤ u.at c.right) = h.met u.at u.solves in
        let r : u.at c.left ≡ w.bound +ℤ u.at c.right = u.reached in
        omega (arith, ints, a, r)
