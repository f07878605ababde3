-- Values that move away from the constants keep their order, and pass each other from number to number.
use Rattle.std.proofs.Common.{◌≡◌, ℕ, zero, suc, ◌+◌, ◌-◌, ◌*◌, ◌<◌, ◌≤◌, ◌⊎◌, inl, inr, ◌&&◌, not, Bool, true, false, cond, List, [], ◌∷◌, ◌++◌, map, take, filter, length, slice_index_or, refl, sym, ap, ◌∙◌, subst, arith, ℤ, pos, int_lt, ◌+ℤ◌, ◌-ℤ◌, ◌≤ℤ◌, ◌<ℤ◌, All, Contains}
use Rattle.std.proofs.lemmas.Int.{ints, by_lt_z}
use Rattle.std.proofs.lemmas.List.{take_more, take_all, map-append}
use Rattle.std.proofs.lemmas.List.Elements.{All-push}
use Rattle.sem_query.proofs.Has.{Has, first, later, Contains-from_has}
use Rattle.sem_query.proofs.Local.{sign-lt, sign-eq, sign-gt}
use Rattle.sem_query.specs.Parts.{sign}
use Rattle.fam_fooling_sets.specs.declared.motion.Motion.{Motion}
use Rattle.fam_fooling_sets.specs.declared.motion.ConstantEnds.{ConstantEnds}
use Rattle.fam_fooling_sets.specs.Moving.{rank_above, rank_below, reach, moved, IsMotion, Widens, Spans}

-- ---- how many pass a test

module _ {X : Type 0} (p r : X → Bool) where
  abbrev Along : Type 0
  Along = (x : X) → p x ≡ true → r x ≡ true

  fewer : Along → (xs : List X) → length (filter p xs) ≤ length (filter r xs)
  fewer f [] = omega arith
  fewer f (x ∷ xs) = by (p x) (r x) refl refl (fewer f xs)
    where
      by : (a b : Bool) → p x ≡ a → r x ≡ b → length (filter p xs) ≤ length (filter r xs) → length (cond a (x ∷ filter p xs) (filter p xs)) ≤ length (cond b (x ∷ filter r xs) (filter r xs))
      by true true d e l = omega (arith, l)
      by true false d e l = let c : r x ≡ true = f x d in absurd cc
      by false true d e l = omega (arith, l)
      by false false d e l = l

  less : Along → (xs : List X) (w : X) → Has xs w → p w ≡ false → r w ≡ true → length (filter p xs) < length (filter r xs)
  less f [] w h a b = elim h [ ]
  less f (x ∷ xs) w first a b = at (p x) (r x) a b (fewer f xs)
    where
      at : (c d : Bool) → c ≡ false → d ≡ true → length (filter p xs) ≤ length (filter r xs) → length (cond c (x ∷ filter p xs) (filter p xs)) < length (cond d (x ∷ filter r xs) (filter r xs))
      at true d e g l = absurd cc
      at false true e g l = omega (arith, l)
      at false false e g l = absurd cc
  less f (x ∷ xs) w (later h) a b = by (p x) (r x) refl refl (less f xs w h a b)
    where
      by : (c d : Bool) → p x ≡ c → r x ≡ d → length (filter p xs) < length (filter r xs) → length (cond c (x ∷ filter p xs) (filter p xs)) < length (cond d (x ∷ filter r xs) (filter r xs))
      by true true d e l = omega (arith, l)
      by true false d e l = let c : r x ≡ true = f x d in absurd cc
      by false true d e l = omega (arith, l)
      by false false d e l = l

pub few_pass : {X : Type 0} (p : X → Bool) (xs : List X) → length (filter p xs) ≤ length xs
few_pass p [] = omega arith
few_pass p (x ∷ xs) = by (p x) (few_pass p xs)
  where
    by : (b : Bool) → length (filter p xs) ≤ length xs → length (cond b (x ∷ filter p xs) (filter p xs)) ≤ suc (length xs)
    by true l = omega (arith, l)
    by false l = omega (arith, l)

some-pass : {X : Type 0} (p : X → Bool) (xs : List X) (w : X) → Has xs w → p w ≡ true → 1 ≤ length (filter p xs)
some-pass p xs w h e = let l : length (filter (λ x. false) xs) < length (filter p xs) = less (λ x. false) p (λ x f. absurd cc) xs w h refl e in omega (arith, l)

-- ---- ranks

wider-above : (end z w v : ℤ) → z <ℤ w → (int_lt end v && not (int_lt z v)) ≡ true → (int_lt end v && not (int_lt w v)) ≡ true
wider-above end z w v l h = grind (arith, ints, l, h)

wider-below : (end z w v : ℤ) → w <ℤ z → (int_lt v end && not (int_lt v z)) ≡ true → (int_lt v end && not (int_lt v w)) ≡ true
wider-below end z w v l h = grind (arith, ints, l, h)

above-out : (end z w : ℤ) → z <ℤ w → (int_lt end w && not (int_lt z w)) ≡ false
above-out end z w l = grind (arith, ints, l)

above-in : (end w : ℤ) → end <ℤ w → (int_lt end w && not (int_lt w w)) ≡ true
above-in end w l = grind (arith, ints, l)

below-out : (end z w : ℤ) → w <ℤ z → (int_lt w end && not (int_lt w z)) ≡ false
below-out end z w l = grind (arith, ints, l)

below-in : (end w : ℤ) → w <ℤ end → (int_lt w end && not (int_lt w w)) ≡ true
below-in end w l = grind (arith, ints, l)

module _ (us : List ℤ) (end : ℤ) where
  rank-above-less : (z w : ℤ) → Has us w → end <ℤ w → z <ℤ w → rank_above us end z < rank_above us end w
  rank-above-less z w h e l = less (λ v. int_lt end v && not (int_lt z v)) (λ v. int_lt end v && not (int_lt w v)) (λ v k. wider-above end z w v l k) us w h (above-out end z w l) (above-in end w e)

  rank-below-less : (z w : ℤ) → Has us w → w <ℤ end → w <ℤ z → rank_below us end z < rank_below us end w
  rank-below-less z w h e l = less (λ v. int_lt v end && not (int_lt v z)) (λ v. int_lt v end && not (int_lt v w)) (λ v k. wider-below end z w v l k) us w h (below-out end z w l) (below-in end w e)

  rank-above-some : (w : ℤ) → Has us w → end <ℤ w → 1 ≤ rank_above us end w
  rank-above-some w h e = some-pass (λ v. int_lt end v && not (int_lt w v)) us w h (above-in end w e)

  rank-below-some : (w : ℤ) → Has us w → w <ℤ end → 1 ≤ rank_below us end w
  rank-below-some w h e = some-pass (λ v. int_lt v end && not (int_lt v w)) us w h (below-in end w e)

-- ---- moved values

lt-true : (x y : ℤ) → x <ℤ y → int_lt x y ≡ true
lt-true x y l = grind (arith, ints, l)

lt-false : (x y : ℤ) → y ≤ℤ x → int_lt x y ≡ false
lt-false x y l = grind (arith, ints, l)

reach-along : (b c : Bool) (n i : ℕ) → i < n → (b ≡ true → c ≡ true) → reach b n i ≤ reach c n i
reach-along true true n i l f = omega arith
reach-along true false n i l f = let e : false ≡ true = f refl in absurd cc
reach-along false true n i l f = omega (arith, l)
reach-along false false n i l f = omega arith

reach-apart : (b : Bool) (n i j : ℕ) → i < n → j < n → reach b n i ≡ reach b n j → i ≡ j
reach-apart true n i j l m e = omega (arith, l, m, e)
reach-apart false n i j l m e = omega (arith, e)

along-lt : (c z w : ℤ) → z <ℤ w → int_lt c z ≡ true → int_lt c w ≡ true
along-lt c z w l h = grind (arith, ints, l, h)

along-gt : (c z w : ℤ) → z <ℤ w → int_lt w c ≡ true → int_lt z c ≡ true
along-gt c z w l h = grind (arith, ints, l, h)

-- where a value stands to the ends
data Stands (m : Motion) (z : ℤ) : Type 0 where
  above : m.high <ℤ z → Stands m z
  below : z <ℤ m.low → Stands m z
  inside : m.low ≤ℤ z → z ≤ℤ m.high → Stands m z

stands : (m : Motion) (z : ℤ) → Stands m z
stands m z = by_lt_z m.high z (λ l. above l) (λ l. by_lt_z z m.low (λ k. below k) (λ k. inside k l))

module _ (m : Motion) (is : IsMotion m) where
  abbrev us : List ℤ
  us = m.values.items

  abbrev up : ℤ → ℕ
  up z = rank_above us m.high z

  abbrev down : ℤ → ℕ
  down z = rank_below us m.low z

  abbrev out : ℕ → ℤ → ℕ
  out i z = reach (int_lt m.upper_cut z) m.n i

  abbrev off : ℕ → ℤ → ℕ
  off i z = reach (int_lt z m.lower_cut) m.n i

  pub moved-above : (i : ℕ) (z : ℤ) → m.high <ℤ z → moved m i z ≡ m.high +ℤ pos (up z + out i z)
  moved-above i z l = ap (λ b. cond b (m.high +ℤ pos (up z + out i z)) (cond (int_lt z m.low) (m.low -ℤ pos (down z + off i z)) z)) (lt-true m.high z l)

  pub moved-below : (i : ℕ) (z : ℤ) → z <ℤ m.low → moved m i z ≡ m.low -ℤ pos (down z + off i z)
  moved-below i z l =
      ap (λ b. cond b (m.high +ℤ pos (up z + out i z)) (cond (int_lt z m.low) (m.low -ℤ pos (down z + off i z)) z)) (lt-false m.high z (let e = is.ends in omega (arith, ints, l, e)))
      ∙ ap (λ b. cond b (m.low -ℤ pos (down z + off i z)) z) (lt-true z m.low l)

  pub moved-inside : (i : ℕ) (z : ℤ) → m.low ≤ℤ z → z ≤ℤ m.high → moved m i z ≡ z
  moved-inside i z k l =
      ap (λ b. cond b (m.high +ℤ pos (up z + out i z)) (cond (int_lt z m.low) (m.low -ℤ pos (down z + off i z)) z)) (lt-false m.high z l)
      ∙ ap (λ b. cond b (m.low -ℤ pos (down z + off i z)) z) (lt-false z m.low k)

  -- a value of the solution, or one between the ends
  abbrev pub Used : ℤ → Type 0
  Used z = Has us z ⊎ ((m.low ≤ℤ z) × (z ≤ℤ m.high))

  used-above : (z : ℤ) → Used z → m.high <ℤ z → Has us z
  used-above z (inl h) l = h
  used-above z (inr h) l = absurd (let k = h.1 in omega (arith, ints, k, l))

  used-below : (z : ℤ) → Used z → z <ℤ m.low → Has us z
  used-below z (inl h) l = h
  used-below z (inr h) l = absurd (let k = h.0 in omega (arith, ints, k, l))

  module _ (i : ℕ) (few : i < m.n) where
    pub moved-rises : (z w : ℤ) → Used z → Used w → z <ℤ w → moved m i z <ℤ moved m i w
    moved-rises z w h g l = by (stands m z) (stands m w)
      where
        e : m.low ≤ℤ m.high
        e = is.ends

        by : Stands m z → Stands m w → moved m i z <ℤ moved m i w
        by (above a) (above b) =
            let x = moved-above i z a in let y = moved-above i w b in
            let r : up z < up w = rank-above-less us m.high z w (used-above w g b) b l in
            let c : out i z ≤ out i w = reach-along (int_lt m.upper_cut z) (int_lt m.upper_cut w) m.n i few (along-lt m.upper_cut z w l) in
            omega (arith, ints, x, y, r, c)
        by (above a) (below b) = absurd (omega (arith, ints, a, b, l, e))
        by (above a) (inside b c) = absurd (omega (arith, ints, a, c, l))
        by (below a) (above b) =
            let x = moved-below i z a in let y = moved-above i w b in omega (arith, ints, x, y, e, (rank-above-some us m.high w (used-above w g b) b))
        by (below a) (below b) =
            let x = moved-below i z a in let y = moved-below i w b in
            let r : down w < down z = rank-below-less us m.low w z (used-below z h a) a l in
            let c : off i w ≤ off i z = reach-along (int_lt w m.lower_cut) (int_lt z m.lower_cut) m.n i few (along-gt m.lower_cut z w l) in
            omega (arith, ints, x, y, r, c)
        by (below a) (inside b c) =
            let x = moved-below i z a in let y = moved-inside i w b c in omega (arith, ints, x, y, b, (rank-below-some us m.low z (used-below z h a) a))
        by (inside a b) (above c) =
            let x = moved-inside i z a b in let y = moved-above i w c in omega (arith, ints, x, y, b, (rank-above-some us m.high w (used-above w g c) c))
        by (inside a b) (below c) = absurd (omega (arith, ints, a, c, l))
        by (inside a b) (inside c d) = let x = moved-inside i z a b in let y = moved-inside i w c d in omega (arith, ints, x, y, l)

    -- so two of them keep their sign
    pub moved-sign : (z w : ℤ) → Used z → Used w → sign (moved m i z) (moved m i w) ≡ sign z w
    moved-sign z w h g =
        by_lt_z z w
        (λ l. sign-lt _ _ (moved-rises z w h g l) ∙ sym (sign-lt z w l))
        (λ l. by_lt_z w z
        (λ k. sign-gt _ _ (moved-rises w z g h k) ∙ sym (sign-gt z w k))
        (λ k. let o : z ≡ w = omega (arith, ints, l, k) in sign-eq _ _ (ap (moved m i) o) ∙ sym (sign-eq z w o)))

  few-above : (z : ℤ) → up z ≤ 12
  few-above z = let l = few_pass (λ v. int_lt m.high v && not (int_lt z v)) us in let k = is.few in omega (arith, l, k)

  few-below : (z : ℤ) → down z ≤ 12
  few-below z = let l = few_pass (λ v. int_lt v m.low && not (int_lt v z)) us in let k = is.few in omega (arith, l, k)

  abbrev pub Rise : ℤ → ℤ → Type 0
  Rise x y = (i j : ℕ) → i < j → j < m.n → moved m i y ≤ℤ moved m j x

  abbrev pub Fall : ℤ → ℤ → Type 0
  Fall x y = (i j : ℕ) → i < j → j < m.n → moved m j y ≤ℤ moved m i x

  -- of two values above the upper end that are not beyond the cut, the lesser one passes the greater one
  pub rise-above : (x y : ℤ) → x <ℤ y → m.high <ℤ x → y ≤ℤ m.upper_cut → Rise x y
  rise-above x y l a c i j o n =
      let p = moved-above i y (omega (arith, ints, a, l)) in let r = moved-above j x a in
      let d : out i y ≡ 16 * i = ap (λ b. reach b m.n i) (lt-false m.upper_cut y c) in
      let e : out j x ≡ 16 * j = ap (λ b. reach b m.n j) (lt-false m.upper_cut x (omega (arith, ints, c, l))) in
      let f = few-above y in omega (arith, ints, p, r, d, e, f, o)

  -- and beyond the cut it stays behind
  pub fall-above : (x y : ℤ) → x <ℤ y → m.high <ℤ x → m.upper_cut <ℤ x → Fall x y
  fall-above x y l a c i j o n =
      let p = moved-above j y (omega (arith, ints, a, l)) in let r = moved-above i x a in
      let d : out j y ≡ 16 * (m.n + m.n - j) = ap (λ b. reach b m.n j) (lt-true m.upper_cut y (omega (arith, ints, c, l))) in
      let e : out i x ≡ 16 * (m.n + m.n - i) = ap (λ b. reach b m.n i) (lt-true m.upper_cut x c) in
      let f = few-above y in omega (arith, ints, p, r, d, e, f, o, n)

  -- below the lower end it is the other way round
  pub fall-below : (x y : ℤ) → x <ℤ y → y <ℤ m.low → m.lower_cut ≤ℤ x → Fall x y
  fall-below x y l a c i j o n =
      let p = moved-below j y a in let r = moved-below i x (omega (arith, ints, a, l)) in
      let d : off j y ≡ 16 * j = ap (λ b. reach b m.n j) (lt-false y m.lower_cut (omega (arith, ints, c, l))) in
      let e : off i x ≡ 16 * i = ap (λ b. reach b m.n i) (lt-false x m.lower_cut c) in
      let f = few-below x in omega (arith, ints, p, r, d, e, f, o)

  pub rise-below : (x y : ℤ) → x <ℤ y → y <ℤ m.low → y <ℤ m.lower_cut → Rise x y
  rise-below x y l a c i j o n =
      let p = moved-below i y a in let r = moved-below j x (omega (arith, ints, a, l)) in
      let d : off i y ≡ 16 * (m.n + m.n - i) = ap (λ b. reach b m.n i) (lt-true y m.lower_cut c) in
      let e : off j x ≡ 16 * (m.n + m.n - j) = ap (λ b. reach b m.n j) (lt-true x m.lower_cut (omega (arith, ints, c, l))) in
      let f = few-below x in omega (arith, ints, p, r, d, e, f, o, n)

  -- what lies out is moved to different values
  pub apart-above : (z : ℤ) → m.high <ℤ z → (i j : ℕ) → i < m.n → j < m.n → moved m i z ≡ moved m j z → i ≡ j
  apart-above z a i j l k e =
      let p = moved-above i z a in let r = moved-above j z a in
      reach-apart (int_lt m.upper_cut z) m.n i j l k (omega (arith, ints, p, r, e))

  pub apart-below : (z : ℤ) → z <ℤ m.low → (i j : ℕ) → i < m.n → j < m.n → moved m i z ≡ moved m j z → i ≡ j
  apart-below z a i j l k e =
      let p = moved-below i z a in let r = moved-below j z a in
      reach-apart (int_lt z m.lower_cut) m.n i j l k (omega (arith, ints, p, r, e))

  -- and all stays far within 64 bits
  reach-small : (b : Bool) (n i : ℕ) → n < 65536 → i < n → reach b n i < 2097152
  reach-small true n i f l = omega (arith, f, l)
  reach-small false n i f l = omega (arith, f, l)

  pub moved-size : (i : ℕ) (z : ℤ) → m.n < 65536 → i < m.n → (pos 0 -ℤ pos 250000000000000000) ≤ℤ z → z ≤ℤ pos 250000000000000000
      → ((pos 0 -ℤ pos 400000000000000000) ≤ℤ moved m i z) × (moved m i z ≤ℤ pos 400000000000000000)
  moved-size i z f l lo hi = by (stands m z)
    where
      a : (pos 0 -ℤ pos 300000000000000000) ≤ℤ m.low
      a = is.low

      b : m.high ≤ℤ pos 300000000000000000
      b = is.high

      e : m.low ≤ℤ m.high
      e = is.ends

      by : Stands m z → ((pos 0 -ℤ pos 400000000000000000) ≤ℤ moved m i z) × (moved m i z ≤ℤ pos 400000000000000000)
      by (above k) =
          let p = moved-above i z k in let r = few-above z in let t = reach-small (int_lt m.upper_cut z) m.n i f l in
          (omega (arith, ints, p, a, e), omega (arith, ints, p, b, r, t))
      by (below k) =
          let p = moved-below i z k in let r = few-below z in let t = reach-small (int_lt z m.lower_cut) m.n i f l in
          (omega (arith, ints, p, a, r, t), omega (arith, ints, p, b, e))
      by (inside k j) = let p = moved-inside i z k j in (omega (arith, ints, p, lo), omega (arith, ints, p, hi))

-- one value more is looked at
pub rank-more : (p : ℤ → Bool) (xs : List ℤ) (i rank more : ℕ) → i < length xs → rank ≡ length (filter p (take i xs)) → more ≡ rank + cond (p (slice_index_or xs i (pos 0))) 1 0 → more ≡ length (filter p (take (i + 1) xs))
rank-more p xs i rank more l e o = o ∙ ap (λ r. r + cond (p (slice_index_or xs i (pos 0))) 1 0) e ∙ sym (taken xs i l)
  where
    taken : (xs : List ℤ) (i : ℕ) → i < length xs → length (filter p (take (i + 1) xs)) ≡ length (filter p (take i xs)) + cond (p (slice_index_or xs i (pos 0))) 1 0
    taken xs i l = ap (λ ys. length (filter p ys)) (take-suc xs i l) ∙ joined (take i xs) (slice_index_or xs i (pos 0))
      where
        take-suc : (xs : List ℤ) (i : ℕ) → i < length xs → take (i + 1) xs ≡ take i xs ++ slice_index_or xs i (pos 0) ∷ []
        take-suc xs i l = (let e : i + 1 ≡ suc i = omega arith in ap (λ n. take n xs) e) ∙ front xs i l
          where
            front : (xs : List ℤ) (i : ℕ) → i < length xs → take (suc i) xs ≡ take i xs ++ slice_index_or xs i (pos 0) ∷ []
            front [] i l = absurd (omega (arith, l))
            front (x ∷ xs) zero l = refl
            front (x ∷ xs) (suc i) l = ap (λ ys. x ∷ ys) (front xs i (omega (arith, l)))

        joined : (ys : List ℤ) (y : ℤ) → length (filter p (ys ++ y ∷ [])) ≡ length (filter p ys) + cond (p y) 1 0
        joined [] y = by (p y)
          where
            by : (b : Bool) → length (cond b (y ∷ []) []) ≡ 0 + cond b 1 0
            by true = refl
            by false = refl
        joined (x ∷ ys) y = by (p x) (joined ys y)
          where
            by : (b : Bool) → length (filter p (ys ++ y ∷ [])) ≡ length (filter p ys) + cond (p y) 1 0
                → length (cond b (x ∷ filter p (ys ++ y ∷ [])) (filter p (ys ++ y ∷ []))) ≡ length (cond b (x ∷ filter p ys) (filter p ys)) + cond (p y) 1 0
            by true e = omega (arith, e)
            by false e = e

pub map-more : (f : ℤ → ℤ) (xs : List ℤ) (i : ℕ) (items more : List ℤ) (y : ℤ) → i < length xs → items ≡ map f (take i xs) → more ≡ items ++ y ∷ [] → y ≡ f (slice_index_or xs i (pos 0)) → more ≡ map f (take (i + 1) xs)
map-more f xs i items more y l e o p =
    o ∙ (λ j. e j ++ p j ∷ []) ∙ sym (ap (map f) (take_more xs i (pos 0) l) ∙ map-append f (take i xs) (slice_index_or xs i (pos 0) ∷ []))

pub one_or_none : (b : Bool) → cond b 1 0 ≤ 1
one_or_none true = omega arith
one_or_none false = omega arith

pub all-more : (xs : List ℤ) (i : ℕ) (least less : ℤ) → i < length xs → All (λ v. least ≤ℤ v) (take i xs) → less ≤ℤ least → less ≤ℤ slice_index_or xs i (pos 0) → All (λ v. less ≤ℤ v) (take (i + 1) xs)
all-more xs i least less l a b c =
    subst (All (λ v. less ≤ℤ v)) (sym (take_more xs i (pos 0) l))
    (All-push (λ v. less ≤ℤ v) (take i xs) (slice_index_or xs i (pos 0)) (λ k d o. let z = a k d o in omega (arith, ints, z, b)) c)

pub all-taken : (xs : List ℤ) (i : ℕ) (least : ℤ) → length xs ≤ i → All (λ v. least ≤ℤ v) (take i xs) → All (λ v. least ≤ℤ v) xs
all-taken xs i least l a = subst (All (λ v. least ≤ℤ v)) (take_all i xs l) a

-- what the code works out is what is moved
pub above-is : (m : Motion) → IsMotion m → (i : ℕ) (z : ℤ) → m.high <ℤ z → (result : ℤ) (rank far : ℕ) → result ≡ m.high +ℤ pos (rank + far) → rank ≡ rank_above m.values.items m.high z → far ≡ reach (int_lt m.upper_cut z) m.n i → result ≡ moved m i z
above-is m is i z l result rank far e r f = e ∙ (λ j. m.high +ℤ pos (r j + f j)) ∙ sym (moved-above m is i z l)

pub below-is : (m : Motion) → IsMotion m → (i : ℕ) (z : ℤ) → z <ℤ m.low → (result : ℤ) (rank far : ℕ) → result ≡ m.low -ℤ pos (rank + far) → rank ≡ rank_below m.values.items m.low z → far ≡ reach (int_lt z m.lower_cut) m.n i → result ≡ moved m i z
below-is m is i z l result rank far e r f = e ∙ (λ j. m.low -ℤ pos (r j + f j)) ∙ sym (moved-below m is i z l)

-- the ends of one constant, and of one more
pub spans-first : (ks : List ℤ) (e : ConstantEnds) → 0 < length ks → e.low ≡ slice_index_or ks 0 (pos 0) → e.high ≡ slice_index_or ks 0 (pos 0) → Spans ks (take 0 ks) e
spans-first [] e l a b = absurd (omega (arith, l))
spans-first (k ∷ ks) e l a b = record {
  order = omega (arith, ints, a, b);
  between = λ i d o. absurd (omega (arith, o));
  low_is = subst (λ z. Contains (k ∷ ks) z) (sym a) (Contains-from_has (k ∷ ks) k first);
  high_is = subst (λ z. Contains (k ∷ ks) z) (sym b) (Contains-from_has (k ∷ ks) k first);
}

at-index : (ks : List ℤ) (i : ℕ) → i < length ks → Has ks (slice_index_or ks i (pos 0))
at-index [] i l = absurd (omega (arith, l))
at-index (k ∷ ks) zero l = first
at-index (k ∷ ks) (suc i) l = later (at-index ks i (omega (arith, l)))

pub spans-more : (ks : List ℤ) (i : ℕ) (e more : ConstantEnds) (k : ℤ) → i < length ks → Spans ks (take i ks) e → Widens e k more → k ≡ slice_index_or ks i (pos 0) → Spans ks (take (i + 1) ks) more
spans-more ks i e more k l s w o = record {
  order = (let a = w.below in let b = w.above in omega (arith, ints, a, b));
  between = subst (All (λ k. (more.low ≤ℤ k) × (k ≤ℤ more.high))) (sym (take_more ks i (pos 0) l))
      (All-push (λ k. (more.low ≤ℤ k) × (k ≤ℤ more.high)) (take i ks) (slice_index_or ks i (pos 0))
      (λ j d n. let z = s.between j d n in let x = z.0 in let y = z.1 in let a = w.low in let b = w.high in (omega (arith, ints, x, a), omega (arith, ints, y, b)))
      (let a = w.below in let b = w.above in (omega (arith, ints, a, o), omega (arith, ints, b, o))));
  low_is = elim w.low_is [ inl z ↦ subst (λ z. Contains ks z) (sym z) s.low_is | inr z ↦ subst (λ z. Contains ks z) (sym (z ∙ o)) here ];
  high_is = elim w.high_is [ inl z ↦ subst (λ z. Contains ks z) (sym z) s.high_is | inr z ↦ subst (λ z. Contains ks z) (sym (z ∙ o)) here ];
}
  where
    here : Contains ks (slice_index_or ks i (pos 0))
    here = Contains-from_has ks (slice_index_or ks i (pos 0)) (at-index ks i l)
