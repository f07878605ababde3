-- Bounds that are closed: in a table, and by paths.
use Rattle.std.proofs.Common.{◌≡◌, ℕ, ◌+◌, ◌*◌, ◌≤◌, ℤ, pos, ◌+ℤ◌, IsTrue, IfSome, cond, nat_eq, true, false, Bool, Option, Some, None, List, All, Contains, get_or, refl, sym, ◌∙◌, ap, subst, arith}
use Rattle.std.proofs.lemmas.List.Elements.{All-contains, Contains-get_or}
use Rattle.std.proofs.lemmas.Int.{ints}
use Rattle.plan_constraints.specs.declared.constraint.Constraint.{Constraint}
use Rattle.plan_constraints.specs.Solutions.{IsWithin}
use Rattle.cert_format.specs.declared.line.Path.{Path}
use Rattle.cert_checker.specs.Rules.{HasBound, AreClosed}
use Rattle.cert_checker.specs.Bounds.{bound_at, IsModest, AreModest, IsAtMost, KeepsBy, Keeps, KeepsEach, Tells}

-- the test of one constraint and one node
pub keeps_if : (bounds : List (Option ℤ)) (c : Constraint) (j : ℕ) (u limit : ℤ) (left : Option ℤ) (r : Bool) → bound_at bounds c.right j ≡ Some u → left ≡ bound_at bounds c.left j → limit ≡ c.bound +ℤ u
    → (IsTrue r → IsAtMost left limit) × (IsAtMost left limit → IsTrue r) → (IsTrue r → Keeps bounds c j) × (Keeps bounds c j → IsTrue r)
keeps_if bounds c j u limit left r here there sum h =
    let e : Keeps bounds c j ≡ IsAtMost left limit =
    ap (λ (o : Option ℤ). KeepsBy c.bound o (bound_at bounds c.left j)) here
    ∙ ap (λ (o : Option ℤ). IsAtMost o (c.bound +ℤ u)) (sym there)
    ∙ ap (λ (z : ℤ). IsAtMost left z) (sym sum) in
    ((λ t. subst (λ (A : Type 0). A) (sym e) (h.0 t)), (λ k. h.1 (subst (λ (A : Type 0). A) e k)))

module _ (attrs : ℕ) (cs : List Constraint) (paths : List Path) (bounds : List (Option ℤ)) (few : attrs ≤ 12) (within : All (IsWithin 12) cs) (t : Tells cs paths bounds) where
  has_bound : (c : Constraint) (j : ℕ) (u : ℤ) (left : Option ℤ) → c.left ≤ 12 → j ≤ 12 → bound_at bounds c.left j ≡ left → IsAtMost left u → HasBound cs paths c.left j u
  has_bound c j u None lc lj e h = absurd h
  has_bound c j u (Some b) lc lj e h = record { bound = b; is = t.true c.left j lc lj b e; small = h }

  pub closed_from : All (KeepsEach attrs bounds) cs → AreClosed attrs cs paths
  closed_from k = record {
    closed = λ c h j lj u b.
        let w : IsWithin 12 c = All-contains (IsWithin 12) cs c within h in
        let keeps : KeepsEach attrs bounds c = All-contains (KeepsEach attrs bounds) cs c k h in
        let e : bound_at bounds c.right j ≡ Some u = t.told c.right j w.right (omega (arith, few)) u b in
        let one : KeepsBy c.bound (Some u) (bound_at bounds c.left j) = subst (λ (o : Option ℤ). KeepsBy c.bound o (bound_at bounds c.left j)) e (keeps j lj) in
        has_bound c j (c.bound +ℤ u) (bound_at bounds c.left j) w.left (omega (arith, few)) refl one;
  }

  at_most : (c : Constraint) (j : ℕ) (u : ℤ) → c.left ≤ 12 → j ≤ 12 → HasBound cs paths c.left j u → IsAtMost (bound_at bounds c.left j) u
  at_most c j u lc lj h = subst (λ (o : Option ℤ). IsAtMost o u) (sym (t.told c.left j lc lj h.bound h.is)) h.small

  keeps_by : AreClosed attrs cs paths → (c : Constraint) → Contains cs c → (j : ℕ) → j ≤ attrs → (o : Option ℤ) → bound_at bounds c.right j ≡ o → KeepsBy c.bound o (bound_at bounds c.left j)
  keeps_by a c h j lj None e = tt
  keeps_by a c h j lj (Some u) e =
      let w : IsWithin 12 c = All-contains (IsWithin 12) cs c within h in
      let l : j ≤ 12 = omega (arith, few) in
      at_most c j (c.bound +ℤ u) w.left l (a.closed c h j lj u (t.true c.right j w.right l u e))

  pub keeps_from : AreClosed attrs cs paths → All (KeepsEach attrs bounds) cs
  keeps_from a = λ k d l j lj. keeps_by a (get_or cs k d) (Contains-get_or cs k d l) j lj (bound_at bounds (get_or cs k d).right j) refl

pub modest_at : (bounds : List (Option ℤ)) (i j : ℕ) (u : ℤ) → AreModest bounds → bound_at bounds i j ≡ Some u → IsModest u
modest_at bounds i j u m h = by (nat_eq i j) h
  where
    by : (b : Bool) → cond b (Some (pos 0)) (get_or bounds (13 * i + j) None) ≡ Some u → IsModest u
    by true e = let z : pos 0 ≡ u = cc in subst IsModest z record { low = omega (arith, ints); high = omega (arith, ints) }
    by false e = let d : IfSome (get_or bounds (13 * i + j) None) IsModest = m (13 * i + j) in subst (λ (o : Option ℤ). IfSome o IsModest) e d
