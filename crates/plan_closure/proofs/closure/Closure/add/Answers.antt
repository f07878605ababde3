use Rattle.std.proofs.Common.{◌≡◌, ◌<◌, ◌+◌, ◌++◌, ◌∷◌, [], ℕ, suc, ap, arith, refl, length, Some}
use Rattle.plan_closure.specs.ClosureValue.{ClosureValue}
use Rattle.plan_closure.specs.Entries.{IsShorterAt}
use Rattle.plan_closure.specs.Closure.{AreTight, IsSettled, IsClosureOf}
use Rattle.plan_closure.proofs.Add.{tight_when, broken_when, negative_by, modest_at, agrees_by, closure_with, settled_same, implied_tight}
use Rattle.plan_closure.proofs.Keep.{stays_tight}
use Rattle.plan_closure.proofs.closure.Closure.add.Goals as goal
use Rattle.plan_closure.proofs.closure.Closure.add.Goals.{then-not-is_broken+then-not-has_bound+in-Some, then-not-is_broken+then-not-has_bound+in-None, else-not-is_broken, else-not-is_broken-via-then-not-is_broken+else-not-has_bound, else-not-is_broken-via-else-not-is_broken}

pub closed_by-requires-clause-modest : goal.closed_by-requires-clause-modest
closed_by-requires-clause-modest c =
    let h = c.requires.known.closure in
    let l : c.args.self.now.attrs < 13 = h.few in
    modest_at _ (omega arith) _ _ (tight_when _ _ _ _ _ h.settled c.is_broken.ensures c.if-not-is_broken.true) h.modest _ _ (omega arith) (omega arith)

pub tighten-requires-clause-modest : goal.tighten-requires-clause-modest
tighten-requires-clause-modest c =
    let h = rw (← c.self.view_is) at c.requires.known.closure in
    let l : c.self.inside.attrs < 13 = h.few in
    λ i j li lj. modest_at _ (omega arith) _ _ (tight_when _ _ _ _ _ h.settled (rw (← c.self.view_is) at c.is_broken.ensures) c.if-not-is_broken.true) h.modest i j (omega (arith, li, c.from.ensures)) (omega (arith, lj, c.from.ensures))

pub tighten-requires-clause-closed : goal.tighten-requires-clause-closed
tighten-requires-clause-closed c =
    let h = rw (← c.self.view_is) at c.requires.known.closure in
    let t : AreTight (suc c.self.inside.attrs) _ c.self.inside.entries = tight_when _ _ _ _ _ h.settled (rw (← c.self.view_is) at c.is_broken.ensures) c.if-not-is_broken.true in
    let e : c.from.result + 1 ≡ suc c.self.inside.attrs = omega (arith, c.from.ensures) in
    rw e t.closed

pub tighten-requires-clause-agrees : goal.tighten-requires-clause-agrees
tighten-requires-clause-agrees c = agrees_by c.self.inside.entries _ _ _ _ _ (rw (← c.self.view_is) at c.in-None.ensures)

pub returns : goal.returns
returns c = λ n cs given.
    let k : ClosureValue = record { attrs = c.self.inside.attrs; count = c.self.inside.count; entries = c.self.inside.entries; cycle = c.self.inside.cycle } in
    let h : IsClosureOf k n cs = rw (← c.self.view_is) at given in
    let few : n < 13 = h.few in
    let at : c.self.inside.attrs ≡ n = h.attrs in
    let same : c.self.inside.attrs ≡ c.args.self.now.attrs = ap (λ (v : ClosureValue). v.attrs) c.self.view_is in
    let count : c.self.inside.count ≡ length cs = h.count in
    let la : c.args.c.left < suc n = omega (arith, at, same, c.requires.within.left) in
    let lb : c.args.c.right < suc n = omega (arith, at, same, c.requires.within.right) in
    let number : c.self.inside.count + 1 ≡ suc (length cs) = omega arith in
    let known = rw (← c.self.view_is) at c.is_broken.ensures in
    elim c.if-not-is_broken.branch [
      | then-not-is_broken+then-not-has_bound+in-None w ↦
          let tight : AreTight (suc n) cs c.self.inside.entries = tight_when _ _ _ _ _ h.settled known w.if-not-is_broken.true in
          let f : (i j : ℕ) → i < suc n → j < suc n → IsShorterAt c.self.inside.entries c.args.c (c.self.inside.count + 1) w.tighten.new.entries (_ + j) = λ i j li lj. w.tighten.ensures i j (omega (arith, w.from.ensures)) (omega (arith, w.from.ensures)) in
          let t = stays_tight (suc n) (omega arith) cs _ tight c.args.c la lb (agrees_by _ _ _ _ _ _ (rw (← c.self.view_is) at w.in-None.ensures)) (c.self.inside.count + 1) number w.tighten.new.entries f in
          let s : IsSettled (suc n) (cs ++ c.args.c ∷ []) w.tighten.new.entries c.self.inside.cycle = settled_same _ _ _ _ _ known w.if-not-is_broken.true t in
          closure_with k _ n cs c.args.c h (rw w.self-inside-is refl) (rw w.self-inside-is refl) la lb c.requires.within.low c.requires.within.high (rw w.self-inside-is s)
      | then-not-is_broken+then-not-has_bound+in-Some w ↦
          let tight : AreTight (suc n) cs c.self.inside.entries = tight_when _ _ _ _ _ h.settled known w.if-not-is_broken.true in
          let s : IsSettled (suc n) (cs ++ c.args.c ∷ []) c.self.inside.entries (Some w.in-Some.cycle) = negative_by _ _ c.self.inside.entries c.self.inside.entries c.args.c tight la lb _ _ number (rw (← c.self.view_is) at w.in-Some.ensures) in
          closure_with k _ n cs c.args.c h (rw w.self-inside-is refl) (rw w.self-inside-is refl) la lb c.requires.within.low c.requires.within.high (rw w.self-inside-is s)
      | else-not-is_broken w ↦ elim w.else-not-is_broken.branch [
        | else-not-is_broken-via-then-not-is_broken+else-not-has_bound w' ↦
            let tight : AreTight (suc n) cs c.self.inside.entries = tight_when _ _ _ _ _ h.settled known w'.if-not-is_broken.true in
            let t = implied_tight (suc n) cs _ c.args.c tight la lb (rw (← c.self.view_is) at (w'.has_bound.ensures.0 w'.if-not-has_bound.false)) in
            let s : IsSettled (suc n) (cs ++ c.args.c ∷ []) c.self.inside.entries c.self.inside.cycle = settled_same _ _ _ _ _ known w'.if-not-is_broken.true t in
            closure_with k _ n cs c.args.c h (rw w.self-inside-is refl) (rw w.self-inside-is refl) la lb c.requires.within.low c.requires.within.high (rw w.self-inside-is s)
        | else-not-is_broken-via-else-not-is_broken w' ↦
            let s : IsSettled (suc n) (cs ++ c.args.c ∷ []) c.self.inside.entries c.self.inside.cycle = broken_when _ _ _ _ _ _ h.settled known w'.if-not-is_broken.false in
            closure_with k _ n cs c.args.c h (rw w.self-inside-is refl) (rw w.self-inside-is refl) la lb c.requires.within.low c.requires.within.high (rw w.self-inside-is s)
      ]
    ]
