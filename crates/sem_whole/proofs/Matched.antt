-- Sums over products of lists whose members match one another, or have partners.
use Rattle.std.proofs.Common.{◌≡◌, ℕ, suc, ◌+◌, ◌<◌, inl, inr, List, [], ◌∷◌, ◌++◌, map, filter, length, Bool, true, false, refl, sym, ap, subst, arith, ℤ, slice_index_or}
use Rattle.sem_query.proofs.Has.{Has, first, later, Has-nil, Has-append_left, Has-append_right, Has-append_cases}
use Rattle.sem_query.specs.Tuples.{is_same}
use Rattle.sem_laws.proofs.Sums.{sums, sums_append, bit, nested, passing}
use Rattle.sem_laws.proofs.Extremes.{some-summand, summand-counts}
use Rattle.sem_laws.proofs.Order.{same-itself, same-is}

module _ {X : Type 0} (R : ℕ → X → X → Type 0) where
  -- the lists are the same up to order, member for member
  pub data Match (n : ℕ) : List X → List X → Type 0 where
    none : Match n [] []
    one : {x : X} {xs ms : List X} (y : X) (ys zs : List X) → ms ≡ ys ++ y ∷ zs → R n x y → Match n xs (ys ++ zs) → Match n (x ∷ xs) ms

  -- each member of the one has a partner in the other
  abbrev pub Partners : ℕ → List X → List X → Type 0
  Partners n xs ys = (x : X) → Has xs x → (y : X) × Has ys y × R n x y

  abbrev pub Pairs : ℕ → List X → List X → Type 0
  Pairs n [] [] = Unit {0}
  Pairs n [] (y ∷ d) = ⊥
  Pairs n (x ∷ c) [] = ⊥
  Pairs n (x ∷ c) (y ∷ d) = R n x y × Pairs (suc n) c d

  abbrev pub AllOver : (ℕ → List X → List X → Type 0) → ℕ → List (List X) → List (List X) → Type 0
  AllOver M n [] [] = Unit {0}
  AllOver M n [] (m ∷ ms) = ⊥
  AllOver M n (l ∷ ls) [] = ⊥
  AllOver M n (l ∷ ls) (m ∷ ms) = M n l m × AllOver M (suc n) ls ms

  sums_matched : (n : ℕ) (xs ms : List X) → Match n xs ms → (f g : X → ℕ) → ((x y : X) → R n x y → f x ≡ g y) → sums f xs ≡ sums g ms
  unfolding sums
  sums_matched n [] [] none f g h = refl
  sums_matched n [] (y ∷ ms) m f g h = elim m [ ]
  sums_matched n (x ∷ xs) ms (one y ys zs e r m) f g h =
      let i : sums f xs ≡ sums g (ys ++ zs) = sums_matched n xs (ys ++ zs) m f g h in
      let j : f x ≡ g y = h x y r in
      let k : sums g ms ≡ sums g (ys ++ y ∷ zs) = ap (sums g) e in
      omega (arith, i, j, k, sums_append g ys zs, sums_append g ys (y ∷ zs))

  pub nested_matched : (n : ℕ) (ls ms : List (List X)) (f g : List X → ℕ) → AllOver Match n ls ms
      → ((c d : List X) → length c ≡ length ls → Pairs n c d → f c ≡ g d) → nested ls f ≡ nested ms g
  unfolding nested
  nested_matched n [] [] f g a h = h [] [] refl tt
  nested_matched n [] (m ∷ ms) f g a h = absurd a
  nested_matched n (l ∷ ls) [] f g a h = absurd a
  nested_matched n (l ∷ ls) (m ∷ ms) f g a h =
      sums_matched n l m a.0 (λ x. nested ls (λ c. f (x ∷ c))) (λ y. nested ms (λ d. g (y ∷ d)))
      (λ x y r. nested_matched (suc n) ls ms (λ c. f (x ∷ c)) (λ d. g (y ∷ d)) a.1 (λ c d e p. h (x ∷ c) (y ∷ d) (omega (arith, e)) (r, p)))

  pub nested_partnered : (n : ℕ) (ls ms : List (List X)) (f g : List X → ℕ) → AllOver Partners n ls ms
      → ((c d : List X) → length c ≡ length ls → Pairs n c d → 0 < f c → 0 < g d) → 0 < nested ls f → 0 < nested ms g
  unfolding nested
  nested_partnered n [] [] f g a h k = h [] [] refl tt k
  nested_partnered n [] (m ∷ ms) f g a h k = absurd a
  nested_partnered n (l ∷ ls) [] f g a h k = absurd a
  nested_partnered n (l ∷ ls) (m ∷ ms) f g a h k =
      let s = some-summand (λ x. nested ls (λ c. f (x ∷ c))) l k in
      let o = a.0 s.0 s.1 in
      let t : 0 < nested ms (λ d. g (o.0 ∷ d))
      = nested_partnered (suc n) ls ms (λ c. f (s.0 ∷ c)) (λ d. g (o.0 ∷ d)) a.1 (λ c d e p. h (s.0 ∷ c) (o.0 ∷ d) (omega (arith, e)) (o.2, p)) s.2 in
      summand-counts (λ y. nested ms (λ d. g (y ∷ d))) m o.0 o.1 t

  -- list by list, over the streams of FROM
  pub over_passing : (M : ℕ → List X → List X → Type 0) (t : ℕ → X → Bool) (g h : ℕ → List X) (n : ℕ) (from : List ℕ)
      → ((i m : ℕ) → m ≡ n + i → i < length from → M m (filter (t m) (g (slice_index_or from i 0))) (filter (t m) (h (slice_index_or from i 0))))
      → AllOver M n (passing t n (map g from)) (passing t n (map h from))
  over_passing M t g h n [] k = tt
  over_passing M t g h n (s ∷ from) k =
      (k 0 n (omega arith) (omega arith), over_passing M t g h (suc n) from (λ i m e l. k (suc i) m (omega (arith, e)) (omega (arith, l))))

-- a list split at a member
pub has_split : {X : Type 0} (xs : List X) (y : X) → Has xs y → (ys : List X) × (zs : List X) × (xs ≡ ys ++ y ∷ zs)
has_split [] y h = Has-nil h
has_split (x ∷ xs) y first = ([], xs, refl)
has_split {X} (x ∷ xs) y (later h) =
    let r : (ys : List X) × (zs : List X) × (xs ≡ ys ++ y ∷ zs) = has_split xs y h in (x ∷ r.0, r.1, ap (λ l. x ∷ l) r.2)

split_back : {X : Type 0} (ms ys zs : List X) (z : X) → ms ≡ ys ++ z ∷ zs → (y : X) → Has (ys ++ zs) y → Has ms y
split_back ms ys zs z e y i = subst (λ l. Has l y) (sym e) (elim (Has-append_cases ys zs y i) [ inl j ↦ Has-append_left (z ∷ zs) j | inr j ↦ Has-append_right ys (later j) ])

bit_same : (z a b : List ℤ) → a ≡ b → bit (is_same z a) ≡ bit (is_same z b)
bit_same z a b e = ap (λ y. bit (is_same z y)) e

bit-given : (b : Bool) → 0 < bit b → b ≡ true
bit-given true h = refl
bit-given false h = absurd (omega (arith, h))

module _ {X : Type 0} (R : ℕ → X → X → Type 0) (n : ℕ) (key : X → List ℤ) (P : X → Type 0) (r : (x y : X) → P x → P y → key x ≡ key y → R n x y) where
  -- how many members have the key
  abbrev pub count : List ℤ → List X → ℕ
  count k xs = sums (λ x. bit (is_same k (key x))) xs

  count_of : (z : List ℤ) (xs ys : List X) → xs ≡ ys → count z xs ≡ count z ys
  count_of z xs ys e = ap (count z) e

  -- lists with equally many members of each key match
  pub match_if : (xs ms : List X) → ((x : X) → Has xs x → P x) → ((y : X) → Has ms y → P y) → ((k : List ℤ) → count k xs ≡ count k ms) → Match R n xs ms
  unfolding sums
  match_if [] [] f g h = none
  match_if [] (y ∷ ms) f g h =
      let e : bit (is_same (key y) (key y)) ≡ 1 = ap bit (same-itself (key y)) in
      let k : count (key y) [] ≡ count (key y) (y ∷ ms) = h (key y) in
      absurd (omega (arith, e, k))
  match_if (x ∷ xs) ms f g h =
      let e : bit (is_same (key x) (key x)) ≡ 1 = ap bit (same-itself (key x)) in
      let k : count (key x) (x ∷ xs) ≡ count (key x) ms = h (key x) in
      let s : (y : X) × Has ms y × (0 < bit (is_same (key x) (key y))) = some-summand (λ y. bit (is_same (key x) (key y))) ms (omega (arith, e, k)) in
      let same : key x ≡ key s.0 = same-is (key x) (key s.0) (bit-given _ s.2) in
      let p : (ys : List X) × (zs : List X) × (ms ≡ ys ++ s.0 ∷ zs) = has_split ms s.0 s.1 in
      let back : (y : X) → Has (p.0 ++ p.1) y → Has ms y = split_back ms p.0 p.1 s.0 p.2 in
      one s.0 p.0 p.1 p.2 (r x s.0 (f x first) (g s.0 s.1) same)
      (match_if xs (p.0 ++ p.1) (λ y i. f y (later i)) (λ y i. g y (back y i))
      (λ z. (let a : count z (x ∷ xs) ≡ count z ms = h z in
      let b : count z ms ≡ count z (p.0 ++ s.0 ∷ p.1) = count_of z ms (p.0 ++ s.0 ∷ p.1) p.2 in
      let c : bit (is_same z (key x)) ≡ bit (is_same z (key s.0)) = bit_same z (key x) (key s.0) same in
      omega (arith, a, b, c, sums_append (λ x. bit (is_same z (key x))) p.0 p.1, sums_append (λ x. bit (is_same z (key x))) p.0 (s.0 ∷ p.1)))))
