-- What is seen of a row: its values near 0, the side of each that is far, and which of its columns are less than which.
use Rattle.std.proofs.Common.{◌≡◌, inl, inr, ℕ, zero, suc, ◌+◌, ◌*◌, negsuc, ap₂, length-append, ◌<◌, ◌≤◌, ℤ, pos, neg_ℤ, ◌-ℤ◌, ◌≤ℤ◌, ◌<ℤ◌, int_lt, List, [], ◌∷◌, ◌++◌, map, length, Bool, true, false, cond, if◌then◌else◌, refl, sym, ap, ◌∙◌, subst, arith}
use Rattle.std.proofs.lemmas.Int.{ints}
use Rattle.std.proofs.lemmas.List.{length-map}
use Rattle.std.specs.List.{flat_map}
use Rattle.sem_query.proofs.Has.{Has, first, later, Has-map, Has-append_left, Has-append_right, Has-append_cases, Has-flat_map_from, Has-map_from, Has-nil, same_at, same_map}
use Rattle.sem_laws.proofs.OnePartFits.{has_cases}
use Rattle.sem_lower_bounds.proofs.Listed.{length-pairs, all_lists, has-all_lists}
use Rattle.sem_lower_bounds.proofs.Pigeons.{below, length-below, has-below}

-- two lists of one length in front tell both halves
split : {X : Type 0} (xs ys us vs : List X) → length xs ≡ length ys → xs ++ us ≡ ys ++ vs → (xs ≡ ys) × (us ≡ vs)
split [] [] us vs l e = (refl, e)
split [] (y ∷ ys) us vs l e = absurd (omega (arith, l))
split (x ∷ xs) [] us vs l e = absurd (omega (arith, l))
split {X} (x ∷ xs) (y ∷ ys) us vs l e =
    let h : x ≡ y = cc in
    let t : xs ++ us ≡ ys ++ vs = cc in
    let r : (xs ≡ ys) × (us ≡ vs) = split xs ys us vs (omega (arith, l)) t in
    (ap₂ (λ (a : X) (b : List X). a ∷ b) h r.0, r.1)

-- the value itself up to m on both sides, and beyond the next integer on its side
abbrev pub clipped : ℕ → ℤ → ℤ
clipped m x = if int_lt (pos m) x then pos (suc m) else (if int_lt x (neg_ℤ (pos m)) then neg_ℤ (pos (suc m)) else x)

-- the greatest integer that may be written
unfoldable pub farthest : ℕ
farthest = 999999999999999

-- the columns that a row may have
abbrev pub columns : List ℕ
columns = below 8

-- each column clipped, and the sign of each difference of two
pub key : (ℕ → ℤ) → List ℤ
key v = map (λ c. clipped farthest (v c)) columns ++ flat_map (λ c. map (λ d. clipped 0 (v c -ℤ v d)) columns) columns

-- rows of one key
pub record Alike (v w : ℕ → ℤ) : Type 0 where
  pub near : (c : ℕ) → c < 8 → clipped farthest (v c) ≡ clipped farthest (w c)
  pub order : (c d : ℕ) → c < 8 → d < 8 → clipped 0 (v c -ℤ v d) ≡ clipped 0 (w c -ℤ w d)

-- members of two lists that are maps of one list and its pairs
module _ (f g : ℕ → ℤ) (p r : ℕ → ℕ → ℤ) where
  pairs_same : (cs ds : List ℕ) → flat_map (λ c. map (p c) ds) cs ≡ flat_map (λ c. map (r c) ds) cs → (c d : ℕ) → Has cs c → Has ds d → p c d ≡ r c d
  pairs_same [] ds e c d h k = Has-nil h
  pairs_same (b ∷ cs) ds e c d h k =
      let s = split (map (p b) ds) (map (r b) ds) _ _ (length-map ds (p b) ∙ sym (length-map ds (r b))) e in
      elim (has_cases b c cs h) [
        | inl i ↦ subst (λ c. p c d ≡ r c d) i (same_at (p b) (r b) s.0 k)
        | inr j ↦ pairs_same cs ds s.1 c d j k
      ]

-- what is seen of a row tells whether another is alike
pub keys_alike : (v w : ℕ → ℤ) → key v ≡ key w → Alike v w
unfolding key
keys_alike v w e =
    let s = split (map (λ c. clipped farthest (v c)) columns) (map (λ c. clipped farthest (w c)) columns) _ _
    (length-map columns (λ c. clipped farthest (v c)) ∙ sym (length-map columns (λ c. clipped farthest (w c)))) e in
    record {
      near = λ c l. same_at (λ c. clipped farthest (v c)) (λ c. clipped farthest (w c)) s.0 (has-below 8 c l);
      order = λ c d i j. pairs_same v w (λ c d. clipped 0 (v c -ℤ v d)) (λ c d. clipped 0 (w c -ℤ w d)) columns columns s.1 c d (has-below 8 c i) (has-below 8 d j);
    }

pairs_map : (p r : ℕ → ℕ → ℤ) (cs ds : List ℕ) → ((c d : ℕ) → Has cs c → Has ds d → p c d ≡ r c d) → flat_map (λ c. map (p c) ds) cs ≡ flat_map (λ c. map (r c) ds) cs
pairs_map p r [] ds h = refl
pairs_map p r (c ∷ cs) ds h = ap₂ (λ xs ys. xs ++ ys) (same_map (p c) (r c) ds (λ d k. h c d first k)) (pairs_map p r cs ds (λ b d i k. h b d (later i) k))

pub below_is : (n k : ℕ) → Has (below n) k → k < n
below_is zero k h = Has-nil h
below_is (suc n) k h = elim (has_cases n k (below n) h) [ inl e ↦ omega (arith, e) | inr i ↦ (let l = below_is n k i in omega (arith, l)) ]

-- rows that have the same values have the same key
pub same_keys : (v w : ℕ → ℤ) → ((c : ℕ) → c < 8 → v c ≡ w c) → key v ≡ key w
unfolding key
same_keys v w h = ap₂ (λ xs ys. xs ++ ys)
    (same_map (λ c. clipped farthest (v c)) (λ c. clipped farthest (w c)) columns (λ c k. ap (clipped farthest) (h c (below_is 8 c k))))
    (pairs_map (λ c d. clipped 0 (v c -ℤ v d)) (λ c d. clipped 0 (w c -ℤ w d)) columns columns
    (λ c d i j. ap₂ (λ x y. clipped 0 (x -ℤ y)) (h c (below_is 8 c i)) (h d (below_is 8 d j))))

-- ---- all keys

-- the integers up to m on both sides
pub integers_to : ℕ → List ℤ
integers_to m = map (λ n. pos n) (below (suc m)) ++ map (λ n. neg_ℤ (pos n)) (below (suc m))

pub has_integers : (m : ℕ) (x : ℤ) → neg_ℤ (pos m) ≤ℤ x → x ≤ℤ pos m → Has (integers_to m) x
unfolding integers_to
has_integers m (pos n) l u = Has-append_left (map (λ n. neg_ℤ (pos n)) (below (suc m))) (Has-map (λ n. pos n) (has-below (suc m) n (omega (arith, ints, u))))
has_integers m (negsuc n) l u =
    Has-append_right (map (λ n. pos n) (below (suc m))) (subst (Has (map (λ n. neg_ℤ (pos n)) (below (suc m)))) (same n) (Has-map (λ n. neg_ℤ (pos n)) (has-below (suc m) (suc n) (omega (arith, ints, l)))))
  where
    same : (n : ℕ) → neg_ℤ (pos (suc n)) ≡ negsuc n
    same n = omega (arith, ints)

pub length_integers : (m : ℕ) → length (integers_to m) ≡ suc m + suc m
unfolding integers_to
length_integers m =
    let a : length (map (λ n. pos n) (below (suc m)) ++ map (λ n. neg_ℤ (pos n)) (below (suc m))) ≡ length (map (λ n. pos n) (below (suc m))) + length (map (λ n. neg_ℤ (pos n)) (below (suc m)))
    = length-append (map (λ n. pos n) (below (suc m))) (map (λ n. neg_ℤ (pos n)) (below (suc m))) in
    omega (arith, a, length-map (below (suc m)) (λ n. pos n), length-map (below (suc m)) (λ n. neg_ℤ (pos n)), length-below (suc m))

clipped_low : (m : ℕ) (x : ℤ) → neg_ℤ (pos (suc m)) ≤ℤ clipped m x
clipped_low m x = by (int_lt (pos m) x) (int_lt x (neg_ℤ (pos m))) refl refl
  where
    by : (b c : Bool) → int_lt (pos m) x ≡ b → int_lt x (neg_ℤ (pos m)) ≡ c → neg_ℤ (pos (suc m)) ≤ℤ cond b (pos (suc m)) (cond c (neg_ℤ (pos (suc m))) x)
    by true c e f = omega (arith, ints)
    by false true e f = omega (arith, ints)
    by false false e f = let k : neg_ℤ (pos m) ≤ℤ x = grind (arith, ints, f) in omega (arith, ints, k)

clipped_high : (m : ℕ) (x : ℤ) → clipped m x ≤ℤ pos (suc m)
clipped_high m x = by (int_lt (pos m) x) (int_lt x (neg_ℤ (pos m))) refl refl
  where
    by : (b c : Bool) → int_lt (pos m) x ≡ b → int_lt x (neg_ℤ (pos m)) ≡ c → cond b (pos (suc m)) (cond c (neg_ℤ (pos (suc m))) x) ≤ℤ pos (suc m)
    by true c e f = omega (arith, ints)
    by false true e f = omega (arith, ints)
    by false false e f = let k : x ≤ℤ pos m = grind (arith, ints, e) in omega (arith, ints, k)

pub all_keys : List (List ℤ)
all_keys = all_lists 72 (integers_to (suc farthest))

clip_among : (m n : ℕ) (x : ℤ) → m ≤ n → Has (integers_to (suc n)) (clipped m x)
clip_among m n x l = let a = clipped_low m x in let b = clipped_high m x in has_integers (suc n) (clipped m x) (omega (arith, ints, l, a)) (omega (arith, ints, l, b))

pairs_length : (p : ℕ → ℕ → ℤ) (cs ds : List ℕ) → length (flat_map (λ c. map (p c) ds) cs) ≡ length cs * length ds
pairs_length p cs ds = length-pairs p cs ds

pub key_among : (v : ℕ → ℤ) → Has all_keys (key v)
unfolding key all_keys
key_among v = has-all_lists (integers_to (suc farthest)) 72 (key v) size (λ x h. elim (Has-append_cases (map (λ c. clipped farthest (v c)) columns) (flat_map (λ c. map (λ d. clipped 0 (v c -ℤ v d)) columns) columns) x h) [
  | inl i ↦ (let r = Has-map_from (λ c. clipped farthest (v c)) columns x i in subst (Has (integers_to (suc farthest))) r.2 (clip_among farthest farthest (v r.0) (omega arith)))
  | inr i ↦ (let r = Has-flat_map_from (λ c. map (λ d. clipped 0 (v c -ℤ v d)) columns) columns x i in
      let s = Has-map_from (λ d. clipped 0 (v r.0 -ℤ v d)) columns x r.2 in
      subst (Has (integers_to (suc farthest))) s.2 (clip_among 0 farthest (v r.0 -ℤ v s.0) (omega arith)))
])
  where
    size : length (key v) ≡ 72
    size =
        length-append (map (λ c. clipped farthest (v c)) columns) (flat_map (λ c. map (λ d. clipped 0 (v c -ℤ v d)) columns) columns)
        ∙ ap₂ (λ (m n : ℕ). m + n) (length-map columns (λ c. clipped farthest (v c))) (pairs_length (λ c d. clipped 0 (v c -ℤ v d)) columns columns)

-- ---- what a clipped value tells

-- the three ways in which a value is clipped
data Clips (m : ℕ) (x : ℤ) : Type 0 where
  over : pos m <ℤ x → clipped m x ≡ pos (suc m) → Clips m x
  under : x <ℤ neg_ℤ (pos m) → clipped m x ≡ neg_ℤ (pos (suc m)) → Clips m x
  near : neg_ℤ (pos m) ≤ℤ x → x ≤ℤ pos m → clipped m x ≡ x → Clips m x

clips : (m : ℕ) (x : ℤ) → Clips m x
clips m x = by (int_lt (pos m) x) (int_lt x (neg_ℤ (pos m))) refl refl
  where
    by : (b c : Bool) → int_lt (pos m) x ≡ b → int_lt x (neg_ℤ (pos m)) ≡ c → Clips m x
    by true c e f = over (grind (arith, ints, e)) (ap (λ b. cond b (pos (suc m)) (cond (int_lt x (neg_ℤ (pos m))) (neg_ℤ (pos (suc m))) x)) e)
    by false true e f =
        under (grind (arith, ints, f)) (ap (λ b. cond b (pos (suc m)) (cond (int_lt x (neg_ℤ (pos m))) (neg_ℤ (pos (suc m))) x)) e ∙ ap (λ b. cond b (neg_ℤ (pos (suc m))) x) f)
    by false false e f =
        near (grind (arith, ints, f)) (grind (arith, ints, e))
        (ap (λ b. cond b (pos (suc m)) (cond (int_lt x (neg_ℤ (pos m))) (neg_ℤ (pos (suc m))) x)) e ∙ ap (λ b. cond b (neg_ℤ (pos (suc m))) x) f)

-- two values that are clipped alike are on the same side of each integer that is not beyond
pub told_under : (m : ℕ) (x y k : ℤ) → clipped m x ≡ clipped m y → neg_ℤ (pos (suc m)) ≤ℤ k → k ≤ℤ pos m → x ≤ℤ k → y ≤ℤ k
told_under m x y k e low high l = by (clips m x) (clips m y)
  where
    by : Clips m x → Clips m y → y ≤ℤ k
    by (over a i) c = absurd (omega (arith, ints, a, l, high))
    by (under a i) (over b j) = absurd (omega (arith, ints, e, i, j))
    by (under a i) (under b j) = omega (arith, ints, b, low)
    by (under a i) (near b d j) = absurd (omega (arith, ints, e, i, j, b))
    by (near a c i) (over b j) = absurd (omega (arith, ints, e, i, j, c))
    by (near a c i) (under b j) = absurd (omega (arith, ints, e, i, j, a))
    by (near a c i) (near b d j) = omega (arith, ints, e, i, j, l)

pub told_over : (m : ℕ) (x y k : ℤ) → clipped m x ≡ clipped m y → neg_ℤ (pos m) ≤ℤ k → k ≤ℤ pos (suc m) → k ≤ℤ x → k ≤ℤ y
told_over m x y k e low high l = by (clips m x) (clips m y)
  where
    by : Clips m x → Clips m y → k ≤ℤ y
    by (under a i) c = absurd (omega (arith, ints, a, l, low))
    by (over a i) (under b j) = absurd (omega (arith, ints, e, i, j))
    by (over a i) (over b j) = omega (arith, ints, b, high)
    by (over a i) (near b d j) = absurd (omega (arith, ints, e, i, j, d))
    by (near a c i) (over b j) = absurd (omega (arith, ints, e, i, j, c))
    by (near a c i) (under b j) = absurd (omega (arith, ints, e, i, j, a))
    by (near a c i) (near b d j) = omega (arith, ints, e, i, j, l)

-- one of them that is not beyond is the other
pub told_same : (m : ℕ) (x y : ℤ) → clipped m x ≡ clipped m y → neg_ℤ (pos m) ≤ℤ x → x ≤ℤ pos m → x ≡ y
told_same m x y e low high =
    let a = told_under m x y x e (omega (arith, ints, low)) high (omega (arith, ints)) in
    let b = told_over m x y x e low (omega (arith, ints, high)) (omega (arith, ints)) in
    omega (arith, ints, a, b)

-- the columns of alike rows are ordered alike
pub order_under : (v w : ℕ → ℤ) → Alike v w → (c d : ℕ) → c < 8 → d < 8 → v c ≤ℤ v d → w c ≤ℤ w d
order_under v w a c d i j l =
    let t = told_under 0 (v c -ℤ v d) (w c -ℤ w d) (pos 0) (a.order c d i j) (omega (arith, ints)) (omega (arith, ints)) (omega (arith, ints, l)) in
    omega (arith, ints, t)

pub order_less : (v w : ℕ → ℤ) → Alike v w → (c d : ℕ) → c < 8 → d < 8 → v c <ℤ v d → w c <ℤ w d
order_less v w a c d i j l =
    let t = told_under 0 (v c -ℤ v d) (w c -ℤ w d) (neg_ℤ (pos 1)) (a.order c d i j) (omega (arith, ints)) (omega (arith, ints)) (omega (arith, ints, l)) in
    omega (arith, ints, t)

pub order_same : (v w : ℕ → ℤ) → Alike v w → (c d : ℕ) → c < 8 → d < 8 → v c ≡ v d → w c ≡ w d
order_same v w a c d i j l =
    let s = order_under v w a c d i j (omega (arith, ints, l)) in
    let t = order_under v w a d c j i (omega (arith, ints, l)) in
    omega (arith, ints, s, t)
