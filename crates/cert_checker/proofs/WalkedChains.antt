-- Chains that are walked number by number.
use Rattle.std.proofs.Common.{◌≡◌, ◌≢◌, ℕ, ◌+◌, ◌*◌, ◌-◌, neg_ℤ, ◌≤ℤ◌, All, drop, get_or, ◌<◌, ◌≤◌, ℤ, pos, ◌+ℤ◌, ◌-ℤ◌, ◌<ℤ◌, Bool, true, false, cond, nat_eq, Option, Some, None, List, [], ◌∷◌, length, slice_get, refl, sym, ◌∙◌, ap, subst, arith, IsTrue}
use Rattle.std.proofs.lemmas.Int.{ints}
use Rattle.std.proofs.lemmas.Bool.Decides.{nat_tests}
use Rattle.std.proofs.Math.ListN.{drop_of_length-le}
use Rattle.std.proofs.lemmas.List.{drop_more}
use Rattle.std.proofs.lemmas.List.Elements.{All-contains}
use Rattle.plan_constraints.proofs.Numbers.{contains_at}
use Rattle.plan_constraints.specs.declared.constraint.Constraint.{Constraint}
use Rattle.plan_constraints.specs.Solutions.{IsWithin, IsChain, IsNegativeCycle}
use Rattle.cert_checker.specs.declared.chain.ChainSum.{ChainSum}
use Rattle.cert_checker.specs.Chained.{Closes, numbered, IsChainOf}

same_some : {A : Type 0} {x y : A} → let O : Type 0 = Option A in ◌≡◌ {A = O} (Some x) (Some y) → x ≡ y
same_some h = cc

positive : (b : Bool) (e : ℕ) (x : Option Constraint) (c : Constraint) → nat_eq e 0 ≡ b → cond b None x ≡ Some c → (0 < e) × (x ≡ Some c)
positive true e x c t h = absurd cc
positive false e x c t h = (grind (arith, nat_tests), h)

pub numbered_some : (cs : List Constraint) (e : ℕ) (c : Constraint) → numbered cs e ≡ Some c → (0 < e) × (slice_get cs (e - 1) ≡ Some c)
numbered_some cs e c h = positive (nat_eq e 0) e (slice_get cs (e - 1)) c refl h

at_positive : (b : Bool) (e : ℕ) (x : Option Constraint) (c : Constraint) → nat_eq e 0 ≡ b → 0 < e → x ≡ Some c → cond b None x ≡ Some c
at_positive true e x c t l h = absurd (grind (arith, nat_tests))
at_positive false e x c t l h = h

pub numbered_at : (cs : List Constraint) (e : ℕ) (c : Constraint) → 0 < e → slice_get cs (e - 1) ≡ Some c → numbered cs e ≡ Some c
numbered_at cs e c l h = at_positive (nat_eq e 0) e (slice_get cs (e - 1)) c refl l h

pub chain_sum : (cs : List Constraint) (es : List ℕ) (i j : ℕ) (s t : ℤ) → s ≡ t → IsChain cs es i j s → IsChain cs es i j t
chain_sum cs es i j s t e h = subst (λ z. IsChain cs es i j z) e h

pub chain_begin : (cs : List Constraint) (es : List ℕ) (i k j : ℕ) (s : ℤ) → i ≡ k → IsChain cs es i j s → IsChain cs es k j s
chain_begin cs es i k j s e h = subst (λ z. IsChain cs es z j s) e h

-- a chain of the numbers from i is one of the rest from j, with r less
pub record Leads (cs : List Constraint) (es : List ℕ) (i : ℕ) (rest : List ℕ) (j : ℕ) (r : ℤ) : Type 0 where
  pub ahead : (k : ℕ) (s : ℤ) → IsChain cs es i k s → IsChain cs rest j k (s -ℤ r)
  pub back : (k : ℕ) (s : ℤ) → IsChain cs rest j k s → IsChain cs es i k (s +ℤ r)

module _ (cs : List Constraint) (es : List ℕ) (i e : ℕ) (rest : List ℕ) (j : ℕ) (r : ℤ) (l : Leads cs es i (e ∷ rest) j r) where
  pub leads_more : (c : Constraint) → numbered cs e ≡ Some c → c.left ≡ j → Leads cs es i rest c.right (r +ℤ c.bound)
  leads_more c n here = record {
    ahead = λ k s h.
        let g : IsChain cs (e ∷ rest) j k (s -ℤ r) = l.ahead k s h in
        let same : g.0 ≡ c = same_some (sym g.2 ∙ (numbered_some cs e c n).1) in
        let t : IsChain cs rest c.right k (s -ℤ r -ℤ c.bound) = subst (λ (d : Constraint). IsChain cs rest d.right k (s -ℤ r -ℤ d.bound)) same g.4 in
        chain_sum cs rest c.right k (s -ℤ r -ℤ c.bound) (s -ℤ (r +ℤ c.bound)) (omega (arith, ints)) t;
    back = λ k s h.
        let t : IsChain cs rest c.right k (s +ℤ c.bound -ℤ c.bound) = chain_sum cs rest c.right k s (s +ℤ c.bound -ℤ c.bound) (omega (arith, ints)) h in
        let one : IsChain cs (e ∷ rest) j k (s +ℤ c.bound) = (c, (numbered_some cs e c n).0, (numbered_some cs e c n).1, here, t) in
        chain_sum cs es i k (s +ℤ c.bound +ℤ r) (s +ℤ (r +ℤ c.bound)) (omega (arith, ints)) (l.back k (s +ℤ c.bound) one);
  }

  pub leads_nowhere : numbered cs e ≡ None → (k : ℕ) (s : ℤ) → ¬ IsChain cs es i k s
  leads_nowhere n k s h =
      let g : IsChain cs (e ∷ rest) j k (s -ℤ r) = l.ahead k s h in
      let there : numbered cs e ≡ Some g.0 = numbered_at cs e g.0 g.1 g.2 in
      cc

  pub leads_elsewhere : (c : Constraint) → numbered cs e ≡ Some c → c.left ≢ j → (k : ℕ) (s : ℤ) → ¬ IsChain cs es i k s
  leads_elsewhere c n apart k s h =
      let g : IsChain cs (e ∷ rest) j k (s -ℤ r) = l.ahead k s h in
      let same : g.0 ≡ c = same_some (sym g.2 ∙ (numbered_some cs e c n).1) in
      apart (subst (λ (d : Constraint). d.left ≡ j) same g.3)

pub leads_end : (cs : List Constraint) (es : List ℕ) (i j : ℕ) (r : ℤ) → Leads cs es i [] j r → IsChain cs es i j r
leads_end cs es i j r l = chain_sum cs es i j (pos 0 +ℤ r) r (omega (arith, ints)) (l.back j (pos 0) (refl, refl))

-- the numbers and the first node fix where a chain leads, and its sum
pub chain_same : (cs : List Constraint) (es : List ℕ) (i j k : ℕ) (s t : ℤ) → IsChain cs es i j s → IsChain cs es i k t → (j ≡ k) × (s ≡ t)
chain_same cs [] i j k s t h g = (sym h.0 ∙ g.0, h.1 ∙ sym g.1)
chain_same cs (e ∷ es) i j k s t h g =
    let same : g.0 ≡ h.0 = same_some (sym g.2 ∙ h.2) in
    let r : IsChain cs es h.0.right k (t -ℤ h.0.bound) = subst (λ (d : Constraint). IsChain cs es d.right k (t -ℤ d.bound)) same g.4 in
    let u = chain_same cs es h.0.right j k (s -ℤ h.0.bound) (t -ℤ h.0.bound) h.4 r in
    let v : s -ℤ h.0.bound ≡ t -ℤ h.0.bound = u.1 in
    (u.0, omega (arith, ints))

-- some numbers fix where a chain begins
pub chain_start : (cs : List Constraint) (es : List ℕ) (i j k l : ℕ) (s t : ℤ) → 0 < length es → IsChain cs es i j s → IsChain cs es k l t → i ≡ k
chain_start cs [] i j k l s t n h g = absurd (omega arith)
chain_start cs (e ∷ es) i j k l s t n h g =
    let same : g.0 ≡ h.0 = same_some (sym g.2 ∙ h.2) in
    sym h.3 ∙ ap (λ (d : Constraint). d.left) (sym same) ∙ g.3

-- ---- the answers

begins : (cs : List Constraint) (e : ℕ) (es : List ℕ) (c : Constraint) (i j : ℕ) (s : ℤ) → numbered cs e ≡ Some c → IsChain cs (e ∷ es) i j s → i ≡ c.left
begins cs e es c i j s n h =
    let same : h.0 ≡ c = same_some (sym h.2 ∙ (numbered_some cs e c n).1) in
    sym h.3 ∙ ap (λ (d : Constraint). d.left) same

-- no numbers have no negative sum
some_numbers : (cs : List Constraint) (es : List ℕ) → IsNegativeCycle cs es → 0 < length es
some_numbers cs [] h =
    let z : h.sum ≡ pos 0 = h.chain.1 in
    absurd (omega (arith, ints, h.negative, z))
some_numbers cs (e ∷ es) h = omega arith

pub no_cycle : (cs : List Constraint) (es : List ℕ) → IsChainOf cs es None → ¬ IsNegativeCycle cs es
no_cycle cs es n h = n h.node h.node h.sum (some_numbers cs es h) h.chain

pub is_cycle : (cs : List Constraint) (es : List ℕ) (c : ChainSum) → IsChainOf cs es (Some c) → c.from ≡ c.to → c.sum <ℤ pos 0 → IsNegativeCycle cs es
is_cycle cs es c h e n = record { node = c.from; sum = c.sum; chain = subst (λ z. IsChain cs es c.from z c.sum) (sym e) h.1; negative = n }

pub closes : (cs : List Constraint) (es : List ℕ) (c : ChainSum) → IsChainOf cs es (Some c) → IsNegativeCycle cs es → (c.from ≡ c.to) × (c.sum <ℤ pos 0)
closes cs es c h g =
    let start : c.from ≡ g.node = chain_start cs es c.from c.to g.node g.node c.sum g.sum h.0 h.1 g.chain in
    let there : IsChain cs es c.from g.node g.sum = chain_begin cs es g.node c.from g.node g.sum (sym start) g.chain in
    let same = chain_same cs es c.from c.to g.node c.sum g.sum h.1 there in
    let sums : c.sum ≡ g.sum = same.1 in
    (start ∙ sym same.0, omega (arith, ints, g.negative, sums))

-- ---- one number more

pub within_numbered : (n : ℕ) (cs : List Constraint) (e : ℕ) (c : Constraint) → All (IsWithin n) cs → numbered cs e ≡ Some c → IsWithin n c
within_numbered n cs e c w h =
    let at : slice_get cs (e - 1) ≡ Some c = (numbered_some cs e c h).1 in
    All-contains (IsWithin n) cs c w (contains_at cs (e - 1) c at)

pub lower_more : (k : ℕ) (r b : ℤ) → neg_ℤ (pos (1000000000000000 * k)) ≤ℤ r → neg_ℤ (pos 1000000000000000) ≤ℤ b → neg_ℤ (pos (1000000000000000 * (k + 1))) ≤ℤ (r +ℤ b)
lower_more k r b h g = omega (arith, ints)

pub upper_more : (k : ℕ) (r b : ℤ) → r ≤ℤ pos (1000000000000000 * k) → b ≤ℤ pos 1000000000000000 → (r +ℤ b) ≤ℤ pos (1000000000000000 * (k + 1))
upper_more k r b h g = omega (arith, ints)

pub leads_next : (cs : List Constraint) (es : List ℕ) (i k j : ℕ) (r s : ℤ) (c : Constraint) → k < length es → Leads cs es i (drop k es) j r → numbered cs (get_or es k 0) ≡ Some c → c.left ≡ j → s ≡ r +ℤ c.bound → Leads cs es i (drop (k + 1) es) c.right s
leads_next cs es i k j r s c l h n here e =
    let g : Leads cs es i (get_or es k 0 ∷ drop (k + 1) es) j r = subst (λ (z : List ℕ). Leads cs es i z j r) (drop_more es k 0 l) h in
    subst (λ z. Leads cs es i (drop (k + 1) es) c.right z) (sym e) (leads_more cs es i (get_or es k 0) (drop (k + 1) es) j r g c n here)

pub leads_all : (cs : List Constraint) (es : List ℕ) (i k j : ℕ) (r : ℤ) → length es ≤ k → Leads cs es i (drop k es) j r → IsChain cs es i j r
leads_all cs es i k j r l h = leads_end cs es i j r (subst (λ (z : List ℕ). Leads cs es i z j r) (drop_of_length-le es l) h)

pub tests_cycle : (cs : List Constraint) (es : List ℕ) (c : ChainSum) (r : Bool) → IsChainOf cs es (Some c) → (IsTrue r → Closes c) × (Closes c → IsTrue r) → (IsTrue r → IsNegativeCycle cs es) × (IsNegativeCycle cs es → IsTrue r)
tests_cycle cs es c r h t = ((λ y. let k : Closes c = t.0 y in is_cycle cs es c h k.0 k.1), (λ g. t.1 (closes cs es c h g)))
