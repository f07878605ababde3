-- Each turn pays for itself.
use Rattle.std.proofs.Common.{◌≡◌, ℕ, zero, suc, ◌+◌, ◌-◌, ◌*◌, ◌<◌, ◌≤◌, true, false, List, [], ◌∷◌, ◌++◌, length, refl, ap, ◌∙◌, arith, length-append}
use Rattle.exec_join.specs.Costs.{Rates, below, below_from, above, cost_left}

cost-push : (r : Rates) (m p : ℕ) (ns : List ℕ) (n : ℕ) → length ns < m → above r m p (ns ++ n ∷ []) ≡ below_from r (m - length ns) (p + length ns) n + above r m p ns
cost-push r zero p ns n l = absurd (omega (arith, l))
cost-push r (suc m) p [] n l =
    let s : suc m ≡ suc m - 0 = omega arith in
    let z : p ≡ p + 0 = omega arith in
    let e : below_from r (suc m) p n ≡ below_from r (suc m - 0) (p + 0) n = (λ k. below_from r (s k) (z k) n) in
    omega (arith, e)
cost-push r (suc m) p (y ∷ ns) n l =
    let s : m - length ns ≡ suc m - suc (length ns) = omega arith in
    let z : p + 1 + length ns ≡ p + suc (length ns) = omega arith in
    let e : below_from r (m - length ns) (p + 1 + length ns) n ≡ below_from r (suc m - suc (length ns)) (p + suc (length ns)) n = (λ k. below_from r (s k) (z k) n) in
    let h = cost-push r m (p + 1) ns n (omega (arith, l)) in
    omega (arith, h, e)

pub cost-first : (r : Rates) (m p : ℕ) → below_from r m p 0 ≡ below r m p
cost-first r zero p = refl
cost-first r (suc m) p = ap (λ n. n * (r.each p + below r m (p + 1)) + r.level) (let e : r.size p - 0 ≡ r.size p = omega arith in e)

one-less : (s n x : ℕ) → n < s → (s - n) * x ≡ x + (s - (n + 1)) * x
one-less s n x l = let e : s - n ≡ suc (s - (n + 1)) = omega (arith, l) in ap (λ k. k * x) e ∙ omega arith

-- a level more
pub cost-enter : (r : Rates) (streams : ℕ) (ns : List ℕ) (n : ℕ) → length ns < streams → n < r.size (length ns) →
    cost_left r streams (ns ++ (n + 1) ∷ []) 0 false + r.each (length ns) ≡ cost_left r streams ns n false
unfolding cost_left
cost-enter r streams ns n l h =
    let m = streams - length ns - 1 in
    let s : streams - length ns ≡ suc m = omega (arith, l) in
    let long = length-append ns ((n + 1) ∷ []) in
    let t : streams - length (ns ++ (n + 1) ∷ []) ≡ m = omega (arith, long) in
    let u : length (ns ++ (n + 1) ∷ []) ≡ length ns + 1 = omega (arith, long) in
    let a : below_from r (streams - length (ns ++ (n + 1) ∷ [])) (length (ns ++ (n + 1) ∷ [])) 0 ≡ below r m (length ns + 1) = (λ k. below_from r (t k) (u k) 0) ∙ cost-first r m (length ns + 1) in
    let b = cost-push r streams 0 ns (n + 1) l in
    let z : 0 + length ns ≡ length ns = omega arith in
    let c : below_from r (streams - length ns) (0 + length ns) (n + 1) ≡ below_from r (suc m) (length ns) (n + 1) = (λ k. below_from r (s k) (z k) (n + 1)) in
    let d : below_from r (streams - length ns) (length ns) n ≡ below_from r (suc m) (length ns) n = ap (λ k. below_from r k (length ns) n) s in
    let e = one-less (r.size (length ns)) n (r.each (length ns) + below r m (length ns + 1)) h in
    omega (arith, a, b, c, d, e)

-- the next candidate
pub cost-next : (r : Rates) (streams : ℕ) (ns : List ℕ) (n : ℕ) → length ns < streams → n < r.size (length ns) →
    cost_left r streams ns (n + 1) false + r.each (length ns) ≤ cost_left r streams ns n false
unfolding cost_left
cost-next r streams ns n l h =
    let m = streams - length ns - 1 in
    let s : streams - length ns ≡ suc m = omega (arith, l) in
    let c : below_from r (streams - length ns) (length ns) (n + 1) ≡ below_from r (suc m) (length ns) (n + 1) = ap (λ k. below_from r k (length ns) (n + 1)) s in
    let d : below_from r (streams - length ns) (length ns) n ≡ below_from r (suc m) (length ns) n = ap (λ k. below_from r k (length ns) n) s in
    let e = one-less (r.size (length ns)) n (r.each (length ns) + below r m (length ns + 1)) h in
    omega (arith, c, d, e)

-- some candidates
pub cost-skip : (r : Rates) (streams : ℕ) (ns : List ℕ) (d n : ℕ) → length ns < streams → n + d ≤ r.size (length ns) →
    cost_left r streams ns (n + d) false + d * r.each (length ns) ≤ cost_left r streams ns n false
cost-skip r streams ns zero n l h = let e : cost_left r streams ns (n + 0) false ≡ cost_left r streams ns n false = ap (λ m. cost_left r streams ns m false) (let z : n + 0 ≡ n = omega arith in z) in omega (arith, e)
cost-skip r streams ns (suc d) n l h =
    let a = cost-next r streams ns n l (omega (arith, h)) in
    let b = cost-skip r streams ns d (n + 1) l (omega (arith, h)) in
    let e : cost_left r streams ns (n + suc d) false ≡ cost_left r streams ns (n + 1 + d) false = ap (λ m. cost_left r streams ns m false) (let z : n + suc d ≡ n + 1 + d = omega arith in z) in
    omega (arith, a, b, e)

level-paid : (r : Rates) (m p n : ℕ) → r.level ≤ below_from r m p n
level-paid r zero p n = omega arith
level-paid r (suc m) p n = omega arith

-- a level less
pub cost-back : (r : Rates) (streams : ℕ) (ns : List ℕ) (n next : ℕ) → length ns < streams →
    cost_left r streams ns n false + r.level ≤ cost_left r streams (ns ++ n ∷ []) next false
unfolding cost_left
cost-back r streams ns n next l =
    let b = cost-push r streams 0 ns n l in
    let z : 0 + length ns ≡ length ns = omega arith in
    let c : below_from r (streams - length ns) (0 + length ns) n ≡ below_from r (streams - length ns) (length ns) n = ap (λ k. below_from r (streams - length ns) k n) z in
    let p = level-paid r (streams - length (ns ++ n ∷ [])) (length (ns ++ n ∷ [])) next in
    omega (arith, b, c, p)

-- the end
pub cost-end : (r : Rates) (streams next : ℕ) (ns : List ℕ) (m : ℕ) → cost_left r streams ns m true + r.level ≤ cost_left r streams [] next false
unfolding cost_left
cost-end r streams next ns m = let p = level-paid r (streams - 0) 0 next in omega (arith, p)
