-- Where mixed assignments fail on one side, the numbers of answers tell any two sets apart.
use Rattle.std.proofs.Common.{◌≡◌, ◌≢◌, ℕ, zero, suc, ◌+◌, ◌*◌, ◌<◌, ◌≤◌, ◌⊎◌, inl, inr, nat_eq, List, [], ◌∷◌, ◌++◌, map, filter, length, cond, Bool, true, false, refl, sym, ap, ◌∙◌, subst, arith, ℤ, slice_index_or, Contains}
use Rattle.std.proofs.lemmas.List.{length-map}
use Rattle.sem_query.specs.declared.atom.Attr.{Attr}
use Rattle.sem_query.specs.Query.{QueryValue, attrs_of, IsWithinLimits}
use Rattle.sem_query.specs.Assignment.{Holds, holds, projected}
use Rattle.sem_query.specs.Meaning.{Arrival, rows, product, by_column, assignment_of, answers}
use Rattle.sem_query.proofs.Has.{Contains-from_has}
use Rattle.sem_laws.proofs.Sums.{sums, sums_same, nested, sums_product, sums_bits, bit}
use Rattle.sem_laws.proofs.Tests.{nat_true, true_or_false, false_if}
use Rattle.fam_fooling_sets.specs.Family.{FamilyValue, marked, row_at, asking_at, history_of, Asks, AreToldApart}
use Rattle.fam_motions.specs.Apart.{mixture}
use Rattle.fam_fooling_sets.specs.Making.{HasSolutions}
use Rattle.fam_fooling_sets.proofs.Telling.{holds-same, at-row, rows-here, rows-there, lists-at, read-there}

-- ---- sums over the places that are marked

-- the sum of t over the marked places, where the first mark stands at place k
abbrev pub weigh : (ℕ → ℕ) → ℕ → List Bool → ℕ
weigh t k [] = 0
weigh t k (b ∷ bs) = bit b * t k + weigh t (suc k) bs

weigh-none : (t : ℕ → ℕ) (n k : ℕ) (bs : List Bool) → k + length bs ≤ n → ((j : ℕ) → k ≤ j → j < n → t j ≡ 0) → weigh t k bs ≡ 0
weigh-none t n k [] l h = refl
weigh-none t n k (b ∷ bs) l h =
    let e : t k ≡ 0 = h k (omega arith) (omega (arith, l)) in
    let f : weigh t (suc k) bs ≡ 0 = weigh-none t n (suc k) bs (omega (arith, l)) (λ j m. h j (omega (arith, m))) in
    let i : bit b * t k ≡ bit b * 0 = ap (λ n. bit b * n) e in
    omega (arith, f, i)

weigh-same : (t u : ℕ → ℕ) (n k : ℕ) (bs : List Bool) → k + length bs ≤ n → ((j : ℕ) → k ≤ j → j < n → t j ≡ u j) → weigh t k bs ≡ weigh u k bs
weigh-same t u n k [] l h = refl
weigh-same t u n k (b ∷ bs) l h =
    let e : bit b * t k ≡ bit b * u k = ap (λ n. bit b * n) (h k (omega arith) (omega (arith, l))) in
    let f : weigh t (suc k) bs ≡ weigh u (suc k) bs = weigh-same t u n (suc k) bs (omega (arith, l)) (λ j m. h j (omega (arith, m))) in
    omega (arith, e, f)

-- how many places are marked
abbrev pub marks : ℕ → List Bool → ℕ
marks k bs = weigh (λ j. 1) k bs

-- where all weigh 1 but one of no weight, its mark is missing from the sum
weigh-but : (t : ℕ → ℕ) (n k i : ℕ) (bs : List Bool) → k + length bs ≤ n → i < length bs → t (k + i) ≡ 0 → ((j : ℕ) → k ≤ j → j < n → j ≢ k + i → t j ≡ 1)
    → weigh t k bs + bit (slice_index_or bs i false) ≡ marks k bs
weigh-but t n k i [] l m z h = absurd (omega (arith, m))
weigh-but t n k zero (b ∷ bs) l m z h =
    let e : t k ≡ 0 = (let o : k + 0 ≡ k = omega arith in subst (λ x. t x ≡ 0) o z) in
    let f : weigh t (suc k) bs ≡ marks (suc k) bs = weigh-same t (λ j. 1) n (suc k) bs (omega (arith, l)) (λ j o p. h j (omega (arith, o)) p (λ w. too-far j k o w)) in
    let g : bit b * t k ≡ bit b * 0 = ap (λ x. bit b * x) e in
    omega (arith, f, g)
  where
    too-far : (j k : ℕ) → suc k ≤ j → j ≡ k + 0 → ⊥
    too-far j k o w = omega (arith, o, w)
weigh-but t n k (suc i) (b ∷ bs) l m z h =
    let e : t k ≡ 1 = h k (omega arith) (omega (arith, l)) (λ w. too-near k i w) in
    let f : weigh t (suc k) bs + bit (slice_index_or bs i false) ≡ marks (suc k) bs
    = weigh-but t n (suc k) i bs (omega (arith, l)) (omega (arith, m)) (let o : k + suc i ≡ suc k + i = omega arith in subst (λ x. t x ≡ 0) o z) (λ j o p w. h j (omega (arith, o)) p (λ v. w (moved j k i v))) in
    let g : bit b * t k ≡ bit b * 1 = ap (λ x. bit b * x) e in
    omega (arith, f, g)
  where
    too-near : (k i : ℕ) → k ≡ k + suc i → ⊥
    too-near k i w = omega (arith, w)

    moved : (j k i : ℕ) → j ≡ k + suc i → j ≡ suc k + i
    moved j k i w = omega (arith, w)

-- a sum in which two sets differ; t j i is what number j adds to the sum of number i
pub record Apart (t : ℕ → ℕ → ℕ) (k : ℕ) (xs ys : List Bool) : Type 0 where
  pub number : ℕ
  pub from : k ≤ number
  pub below : number < k + length xs
  pub differ : weigh (λ j. t j number) k xs ≢ weigh (λ j. t j number) k ys

one-more : (b t x y : ℕ) → b * t + x ≡ b * t + y → x ≡ y
one-more b t x y e = omega (arith, e)

both : (x : Bool) {xs ys : List Bool} → xs ≡ ys → (x ∷ xs) ≡ (x ∷ ys)
both x e = cc

one-zero : (x y : ℕ) → x ≡ 1 → y ≡ 0 → x ≡ y → ⊥
one-zero x y e f o = omega (arith, e, f, o)

-- a place at which the marks differ
pub record DifferAt (xs ys : List Bool) : Type 0 where
  pub place : ℕ
  pub below : place < length xs
  pub differ : bit (slice_index_or xs place false) ≢ bit (slice_index_or ys place false)

differ-at : (xs ys : List Bool) → length xs ≡ length ys → (xs ≡ ys) ⊎ DifferAt xs ys
differ-at [] [] l = inl refl
differ-at [] (y ∷ ys) l = absurd (omega (arith, l))
differ-at (x ∷ xs) [] l = absurd (omega (arith, l))
differ-at (x ∷ xs) (y ∷ ys) l = by x y (differ-at xs ys (omega (arith, l)))
  where
    by : (x y : Bool) → (xs ≡ ys) ⊎ DifferAt xs ys → ((x ∷ xs) ≡ (y ∷ ys)) ⊎ DifferAt (x ∷ xs) (y ∷ ys)
    by x y (inr d) = inr record { place = suc d.place; below = (let b = d.below in omega (arith, b)); differ = d.differ }
    by true true (inl e) = inl (both true e)
    by false false (inl e) = inl (both false e)
    by true false (inl e) = inr record { place = 0; below = omega arith; differ = λ o. one-zero (bit true) (bit false) refl refl o }
    by false true (inl e) = inr record { place = 0; below = omega arith; differ = λ o. one-zero (bit true) (bit false) refl refl (sym o) }

-- where each number but the next adds 1 to a sum
module _ (t : ℕ → ℕ → ℕ) (n : ℕ) (next : (i : ℕ) → suc i < n → t (suc i) i ≡ 0) (other : (i j : ℕ) → i < n → j < n → j ≢ suc i → t j i ≡ 1) where
  -- the last number counts all
  last : (m : ℕ) (bs : List Bool) → n ≡ suc m → length bs ≡ n → weigh (λ j. t j m) 0 bs ≡ marks 0 bs
  last m bs e l = weigh-same (λ j. t j m) (λ j. 1) n 0 bs (omega (arith, l)) (λ j o p. other m j (omega (arith, e)) p (λ w. beyond n m j e p w))
    where
      beyond : (n m j : ℕ) → n ≡ suc m → j < n → j ≡ suc m → ⊥
      beyond n m j e p w = omega (arith, e, p, w)

  -- each other one all but the next
  but-next : (i : ℕ) (bs : List Bool) → suc i < n → length bs ≡ n → weigh (λ j. t j i) 0 bs + bit (slice_index_or bs (suc i) false) ≡ marks 0 bs
  but-next i bs m l =
      let o : 0 + suc i ≡ suc i = omega arith in
      weigh-but (λ j. t j i) n 0 (suc i) bs (omega (arith, l)) (omega (arith, m, l)) (subst (λ x. t x i ≡ 0) (sym o) (next i m)) (λ j p r w. other i j (omega (arith, m)) r (λ v. w (v ∙ sym o)))

  -- sets of different sizes, by the last number
  sizes-apart : (xs ys : List Bool) → length xs ≡ n → length ys ≡ n → 0 < n → marks 0 xs ≢ marks 0 ys → Apart t 0 xs ys
  sizes-apart xs ys l r some d = by n refl
    where
      by : (m : ℕ) → n ≡ m → Apart t 0 xs ys
      by zero e = absurd (none n some e)
        where
          none : (n : ℕ) → 0 < n → n ≡ 0 → ⊥
          none n s e = omega (arith, s, e)
      by (suc m) e = record {
        number = m;
        from = omega arith;
        below = omega (arith, e, l);
        differ = λ o. d (sym (last m xs e l) ∙ o ∙ last m ys e r);
      }

  bits-same : (a b x y m : ℕ) → a + x ≡ m → b + y ≡ m → a ≡ b → x ≡ y
  bits-same a b x y m e f g = omega (arith, e, f, g)

  first-same : (b c x y : ℕ) → b * 1 + x ≡ c * 1 + y → x ≡ y → b ≡ c
  first-same b c x y e f = omega (arith, e, f)

  same-or-not : (x y : ℕ) → (x ≡ y) ⊎ (x ≢ y)
  same-or-not x y = grind arith

  pub told-next : (xs ys : List Bool) → length xs ≡ n → length ys ≡ n → (xs ≡ ys) ⊎ Apart t 0 xs ys
  told-next [] [] l r = inl refl
  told-next [] (y ∷ ys) l r = absurd (omega (arith, l, r))
  told-next (x ∷ xs) [] l r = absurd (omega (arith, l, r))
  told-next (x ∷ xs) (y ∷ ys) l r = elim (same-or-not (marks 0 (x ∷ xs)) (marks 0 (y ∷ ys))) [
    | inr d ↦ inr (sizes-apart (x ∷ xs) (y ∷ ys) l r (omega (arith, l)) d)
    | inl same ↦ elim (differ-at xs ys (omega (arith, l, r))) [
      | inr d ↦ inr (rest-apart same d)
      | inl e ↦ inl (all-same x y same e)
    ]
  ]
    where
      rest-apart : marks 0 (x ∷ xs) ≡ marks 0 (y ∷ ys) → DifferAt xs ys → Apart t 0 (x ∷ xs) (y ∷ ys)
      rest-apart same d =
          let m : suc d.place < n = (let b = d.below in omega (arith, b, l)) in
          record {
            number = d.place;
            from = omega arith;
            below = (let b = d.below in omega (arith, b));
            differ = λ o. d.differ (bits-same _ _ _ _ (marks 0 (y ∷ ys)) (but-next d.place (x ∷ xs) m l ∙ same) (but-next d.place (y ∷ ys) m r) o);
          }

      all-same : (x y : Bool) → marks 0 (x ∷ xs) ≡ marks 0 (y ∷ ys) → xs ≡ ys → (x ∷ xs) ≡ (y ∷ ys)
      all-same true true s e = both true e
      all-same false false s e = both false e
      all-same true false s e = absurd (one-zero 1 0 refl refl (first-same 1 0 (marks 1 xs) (marks 1 ys) s (ap (marks 1) e)))
      all-same false true s e = absurd (one-zero 1 0 refl refl (sym (first-same 0 1 (marks 1 xs) (marks 1 ys) s (ap (marks 1) e))))

module _ (t : ℕ → ℕ → ℕ) (n : ℕ) (one : (i : ℕ) → i < n → t i i ≡ 1) where
  -- of the same first mark: what is told of the others
  same-first : (k : ℕ) (b : Bool) (xs ys : List Bool) → (xs ≡ ys) ⊎ Apart t (suc k) xs ys → ((b ∷ xs) ≡ (b ∷ ys)) ⊎ Apart t k (b ∷ xs) (b ∷ ys)
  same-first k b xs ys (inl e) = inl (both b e)
  same-first k b xs ys (inr w) = inr record {
    number = w.number;
    from = (let l = w.from in omega (arith, l));
    below = (let l = w.below in omega (arith, l));
    differ = λ e. w.differ (one-more (bit b) (t k w.number) _ _ e);
  }

  first-apart : (x y a b : ℕ) → x ≡ 1 → a ≡ 0 → b ≡ 0 → 1 * x + a ≡ 0 * y + b → ⊥
  first-apart x y a b e f g h = omega (arith, e, f, g, h)

  -- where the later ones add nothing to a sum
  told-up : ((i j : ℕ) → i < j → j < n → t j i ≡ 0) → (k : ℕ) (xs ys : List Bool) → length xs ≡ length ys → k + length xs ≤ n → (xs ≡ ys) ⊎ Apart t k xs ys
  told-up up k [] [] l few = inl refl
  told-up up k [] (y ∷ ys) l few = absurd (omega (arith, l))
  told-up up k (x ∷ xs) [] l few = absurd (omega (arith, l))
  told-up up k (x ∷ xs) (y ∷ ys) l few = by x y (told-up up (suc k) xs ys (omega (arith, l)) (omega (arith, few)))
    where
      own : t k k ≡ 1
      own = one k (omega (arith, few))

      left : weigh (λ j. t j k) (suc k) xs ≡ 0
      left = weigh-none (λ j. t j k) n (suc k) xs (omega (arith, few)) (λ j m o. up k j (omega (arith, m)) o)

      right : weigh (λ j. t j k) (suc k) ys ≡ 0
      right = weigh-none (λ j. t j k) n (suc k) ys (omega (arith, few, l)) (λ j m o. up k j (omega (arith, m)) o)

      by : (x y : Bool) → (xs ≡ ys) ⊎ Apart t (suc k) xs ys → ((x ∷ xs) ≡ (y ∷ ys)) ⊎ Apart t k (x ∷ xs) (y ∷ ys)
      by true true rest = same-first k true xs ys rest
      by false false rest = same-first k false xs ys rest
      by true false rest = inr record { number = k; from = omega arith; below = omega arith; differ = λ e. first-apart (t k k) (t k k) _ _ own left right e }
      by false true rest = inr record { number = k; from = omega arith; below = omega arith; differ = λ e. first-apart (t k k) (t k k) _ _ own right left (sym e) }

  -- where the earlier ones do
  told-down : ((i j : ℕ) → j < i → i < n → t j i ≡ 0) → (k : ℕ) (xs ys : List Bool) → length xs ≡ length ys → k + length xs ≤ n → (xs ≡ ys) ⊎ Apart t k xs ys
  told-down down k [] [] l few = inl refl
  told-down down k [] (y ∷ ys) l few = absurd (omega (arith, l))
  told-down down k (x ∷ xs) [] l few = absurd (omega (arith, l))
  told-down down k (x ∷ xs) (y ∷ ys) l few = by x y (told-down down (suc k) xs ys (omega (arith, l)) (omega (arith, few)))
    where
      own : t k k ≡ 1
      own = one k (omega (arith, few))

      later-ones : (x y : Bool) → Apart t (suc k) xs ys → Apart t k (x ∷ xs) (y ∷ ys)
      later-ones x y w = record {
        number = w.number;
        from = (let l = w.from in omega (arith, l));
        below = (let l = w.below in omega (arith, l));
        differ = λ e. w.differ (none (bit x) (bit y) (t k w.number) _ _ (down w.number k (let l = w.from in omega (arith, l)) (let l = w.below in omega (arith, l, few))) e);
      }
        where
          none : (x y z a b : ℕ) → z ≡ 0 → x * z + a ≡ y * z + b → a ≡ b
          none x y z a b e h = let i : x * z ≡ x * 0 = ap (λ n. x * n) e in let j : y * z ≡ y * 0 = ap (λ n. y * n) e in omega (arith, h, i, j)

      apart-first : (x z a b : ℕ) → z ≡ 1 → a ≡ b → 1 * z + a ≡ 0 * z + b → ⊥
      apart-first x z a b e f h = omega (arith, e, f, h)

      by : (x y : Bool) → (xs ≡ ys) ⊎ Apart t (suc k) xs ys → ((x ∷ xs) ≡ (y ∷ ys)) ⊎ Apart t k (x ∷ xs) (y ∷ ys)
      by x y (inr w) = inr (later-ones x y w)
      by true true (inl e) = inl (both true e)
      by false false (inl e) = inl (both false e)
      by true false (inl e) = inr record { number = k; from = omega arith; below = omega arith; differ = λ h. apart-first 0 (t k k) _ _ own (ap (weigh (λ j. t j k) (suc k)) e) h }
      by false true (inl e) = inr record { number = k; from = omega arith; below = omega arith; differ = λ h. apart-first 0 (t k k) _ _ own (ap (weigh (λ j. t j k) (suc k)) (sym e)) (sym h) }

-- ---- nested products of one long list and single members

module _ {X : Type 0} (own : ℕ) (R : ℕ → X) where
  abbrev pub layout : List X → ℕ → ℕ → List (List X)
  layout xs n zero = []
  layout xs n (suc m) = cond (nat_eq n own) xs (R n ∷ []) ∷ layout xs (suc n) m

  abbrev pub combined : X → ℕ → ℕ → List X
  combined x n zero = []
  combined x n (suc m) = cond (nat_eq n own) x (R n) ∷ combined x (suc n) m

  pub length-combined : (x : X) (n m : ℕ) → length (combined x n m) ≡ m
  length-combined x n zero = refl
  length-combined x n (suc m) = ap suc (length-combined x (suc n) m)

  pub at-combined : (x d : X) (n m i k : ℕ) → i < m → k ≡ n + i → slice_index_or (combined x n m) i d ≡ cond (nat_eq k own) x (R k)
  at-combined x d n zero i k l e = absurd (omega (arith, l))
  at-combined x d n (suc m) zero k l e = let f : n ≡ k = omega (arith, e) in ap (λ z. cond (nat_eq z own) x (R z)) f
  at-combined x d n (suc m) (suc i) k l e = at-combined x d (suc n) m i k (omega (arith, l)) (omega (arith, e))

  -- lists of this form
  pub laid : (xs : List X) (ls : List (List X)) (n : ℕ) → ((i : ℕ) → i < length ls → slice_index_or ls i [] ≡ cond (nat_eq (n + i) own) xs (R (n + i) ∷ [])) → ls ≡ layout xs n (length ls)
  laid xs [] n h = refl
  laid xs (l ∷ ls) n h =
      let a : l ≡ cond (nat_eq n own) xs (R n ∷ []) = h 0 (omega arith) ∙ (let f : n + 0 ≡ n = omega arith in ap (λ z. cond (nat_eq z own) xs (R z ∷ [])) f) in
      let b : ls ≡ layout xs (suc n) (length ls) = laid xs ls (suc n) (λ i m. h (suc i) (omega (arith, m)) ∙ (let f : n + suc i ≡ suc n + i = omega arith in ap (λ z. cond (nat_eq z own) xs (R z ∷ [])) f)) in
      (λ j. a j ∷ b j)

  here : (n : ℕ) → own ≡ n → nat_eq n own ≡ true
  here n e = grind (arith, e)

  past : (n : ℕ) → own < n → nat_eq n own ≡ false
  past n e = grind (arith, e)

  ahead : (n i : ℕ) → own ≡ n + suc i → nat_eq n own ≡ false
  ahead n i e = grind (arith, e)

  nested-past : (xs : List X) (x : X) (n m : ℕ) (f : List X → ℕ) → own < n → nested (layout xs n m) f ≡ f (combined x n m)
  unfolding sums nested
  nested-past xs x n zero f l = refl
  nested-past xs x n (suc m) f l = by (nat_eq n own) (past n l) (nested-past xs x (suc n) m (λ c. f (R n ∷ c)) (omega (arith, l)))
    where
      by : (b : Bool) → b ≡ false → nested (layout xs (suc n) m) (λ c. f (R n ∷ c)) ≡ f (R n ∷ combined x (suc n) m)
          → nested (cond b xs (R n ∷ []) ∷ layout xs (suc n) m) f ≡ f (cond b x (R n) ∷ combined x (suc n) m)
      by true e h = absurd cc
      by false e h = omega (arith, h)

  -- the sum over such a product is one over the long list
  pub nested-layout : (xs : List X) (n m i : ℕ) (f : List X → ℕ) → own ≡ n + i → i < m → nested (layout xs n m) f ≡ sums (λ x. f (combined x n m)) xs
  unfolding sums nested
  nested-layout xs n zero i f e l = absurd (omega (arith, l))
  nested-layout xs n (suc m) zero f e l = by (nat_eq n own) (here n (omega (arith, e)))
    where
      by : (b : Bool) → b ≡ true → nested (cond b xs (R n ∷ []) ∷ layout xs (suc n) m) f ≡ sums (λ x. f (cond b x (R n) ∷ combined x (suc n) m)) xs
      by true g = sums_same _ _ xs (λ x. nested-past xs x (suc n) m (λ c. f (x ∷ c)) (omega (arith, e)))
      by false g = absurd cc
  nested-layout xs n (suc m) (suc i) f e l = by (nat_eq n own) (ahead n i e) (nested-layout xs (suc n) m i (λ c. f (R n ∷ c)) (omega (arith, e)) (omega (arith, l)))
    where
      by : (b : Bool) → b ≡ false → nested (layout xs (suc n) m) (λ c. f (R n ∷ c)) ≡ sums (λ x. f (R n ∷ combined x (suc n) m)) xs
          → nested (cond b xs (R n ∷ []) ∷ layout xs (suc n) m) f ≡ sums (λ x. f (cond b x (R n) ∷ combined x (suc n) m)) xs
      by true g h = absurd cc
      by false g h = omega (arith, h)

-- a sum over marked members
sums-marked : {X : Type 0} (f : X → ℕ) (d : X) (bs : List Bool) (xs : List X) (k : ℕ) (t : ℕ → ℕ) → length bs ≡ length xs → ((j : ℕ) → j < length xs → f (slice_index_or xs j d) ≡ t (k + j))
    → sums f (marked bs xs) ≡ weigh t k bs
unfolding sums
sums-marked f d [] [] k t l h = refl
sums-marked f d [] (x ∷ xs) k t l h = absurd (omega (arith, l))
sums-marked f d (b ∷ bs) [] k t l h = absurd (omega (arith, l))
sums-marked f d (b ∷ bs) (x ∷ xs) k t l h =
    by b (sums-marked f d bs xs (suc k) t (omega (arith, l)) (λ j m. h (suc j) (omega (arith, m)) ∙ (let e : k + suc j ≡ suc k + j = omega arith in ap t e)))
  where
    own : f x ≡ t k
    own = h 0 (omega arith) ∙ (let e : k + 0 ≡ k = omega arith in ap t e)

    by : (b : Bool) → sums f (marked bs xs) ≡ weigh t (suc k) bs → sums f (cond b (x ∷ marked bs xs) (marked bs xs)) ≡ bit b * t k + weigh t (suc k) bs
    by true rest = omega (arith, rest, own)
    by false rest = omega (arith, rest)

-- ---- the answers to the rows that ask for a number

module _ (q : QueryValue) (within : IsWithinLimits q) (several : 1 < length q.from) (a : Attr) (there : a.stream < length q.from) (n : ℕ) (f : FamilyValue)
    (stream : f.stream ≡ slice_index_or q.from a.stream 0) (size : length f.rows ≡ n) (asks : (i : ℕ) → i < n → Asks q f i) (made : HasSolutions q a.stream n f) where
  module _ (i : ℕ) where
    -- the row that asks at a place
    abbrev R : ℕ → List ℤ
    R place = slice_index_or (rows (asking_at f i) (slice_index_or q.from place 0)) 0 []

    abbrev C : List ℤ → List (List ℤ)
    C x = combined a.stream R x 0 (length q.from)

    -- 1 where the row of number j is answered to what asks for number i
    abbrev pub adds : ℕ → ℕ
    adds j = bit (holds q (assignment_of (C (row_at f j))))

    module _ (below : i < n) where
      reads : (j : ℕ) → j < n → (b : Attr) → Contains (attrs_of q.atoms) b ⊎ Contains q.select b → assignment_of (C (row_at f j)) b ≡ mixture a.stream (made.at j) (made.at i) b
      reads j l b read =
          let m : b.stream < length q.from = read-there q within several a there n f stream size asks made b read in
          at-row (C (row_at f j)) b.stream b.column (let e = length-combined a.stream R (row_at f j) 0 (length q.from) in omega (arith, e, m))
          ∙ ap (λ (r : List ℤ). by_column r b.column) (at-combined a.stream R (row_at f j) [] 0 (length q.from) b.stream b.stream m (omega arith))
          ∙ elim (true_or_false (nat_eq b.stream a.stream)) [
            | inl e ↦ ap (λ t. by_column (cond t (row_at f j) (R b.stream)) b.column) e ∙ (made.rows j l).here b (nat_true b.stream a.stream e) read
                ∙ sym (ap (λ t. cond t (made.at j b) (made.at i b)) e)
            | inr e ↦ (
                let r = (made.rows i below).others b.stream m (λ o. differs b.stream a.stream o e) in
                ap (λ t. by_column (cond t (row_at f j) (R b.stream)) b.column) e
                ∙ ap (λ (xs : List (List ℤ)). by_column (slice_index_or xs 0 []) b.column) r.1 ∙ r.2 b refl read
                ∙ sym (ap (λ t. cond t (made.at j b) (made.at i b)) e))
          ]
        where
          differs : (x y : ℕ) → x ≡ y → nat_eq x y ≡ false → ⊥
          differs x y o e = grind (arith, o, e)

      -- each number is answered to what asks for itself
      pub adds-itself : adds i ≡ 1
      adds-itself = ap bit (holds-same q (made.at i) (assignment_of (C (row_at f i))) (λ b k. sym (reads i below b (inl (Contains-from_has (attrs_of q.atoms) b k)) ∙ own b)) (made.holds i below))
        where
          own : (b : Attr) → mixture a.stream (made.at i) (made.at i) b ≡ made.at i b
          own b = by (nat_eq b.stream a.stream)
            where
              by : (t : Bool) → cond t (made.at i b) (made.at i b) ≡ made.at i b
              by true = refl
              by false = refl

      -- and no number of which the mixture does not satisfy the query
      pub adds-nothing : (j : ℕ) → j < n → (Holds q (mixture a.stream (made.at j) (made.at i)) → ⊥) → adds j ≡ 0
      adds-nothing j l lacks =
          ap bit (false_if (holds q (assignment_of (C (row_at f j)))) (λ h.
          lacks (holds-same q (assignment_of (C (row_at f j))) (mixture a.stream (made.at j) (made.at i)) (λ b k. reads j l b (inl (Contains-from_has (attrs_of q.atoms) b k))) h)))

      -- and each number of which it does
      pub adds-one : (j : ℕ) → j < n → Holds q (mixture a.stream (made.at j) (made.at i)) → adds j ≡ 1
      adds-one j l holds-there =
          ap bit (holds-same q (mixture a.stream (made.at j) (made.at i)) (assignment_of (C (row_at f j))) (λ b k. sym (reads j l b (inl (Contains-from_has (attrs_of q.atoms) b k)))) holds-there)

      pub counted : (marks : List Bool) → length marks ≡ n → length (answers q (history_of f marks ++ asking_at f i)) ≡ weigh adds 0 marks
      counted marks long =
          length-map (filter (λ c. holds q (assignment_of c)) (product lists)) (λ c. projected q (assignment_of c))
          ∙ sym (sums_bits (λ c. holds q (assignment_of c)) (product lists)) ∙ sums_product lists (λ c. bit (holds q (assignment_of c)))
          ∙ ap (λ ls. nested ls (λ c. bit (holds q (assignment_of c)))) (laid a.stream R (marked marks f.rows) lists 0 (λ place l. placed place l ∙ (let e : place ≡ 0 + place = omega arith in ap (λ z. cond (nat_eq z a.stream) (marked marks f.rows) (R z ∷ [])) e)) ∙ ap (layout a.stream R (marked marks f.rows) 0) (length-map q.from (rows h)))
          ∙ nested-layout a.stream R (marked marks f.rows) 0 (length q.from) a.stream (λ c. bit (holds q (assignment_of c))) (omega arith) there
          ∙ sums-marked (λ x. bit (holds q (assignment_of (C x)))) [] marks f.rows 0 adds (long ∙ sym size) (λ j m. let e : j ≡ 0 + j = omega arith in ap adds e)
        where
          h : List Arrival
          h = history_of f marks ++ asking_at f i

          lists : List (List (List ℤ))
          lists = map (rows h) q.from

          placed : (place : ℕ) → place < length lists → slice_index_or lists place [] ≡ cond (nat_eq place a.stream) (marked marks f.rows) (R place ∷ [])
          placed place l =
              let m : place < length q.from = (let e = length-map q.from (rows h) in omega (arith, e, l)) in
              lists-at q within several a there n f stream size asks made marks i below place [] m
              ∙ elim (true_or_false (nat_eq place a.stream)) [
                | inl e ↦ ap (λ (z : ℕ). rows h (slice_index_or q.from z 0)) (nat_true place a.stream e) ∙ rows-here q within several a there n f stream size asks made marks i below
                    ∙ sym (ap (λ t. cond t (marked marks f.rows) (R place ∷ [])) e)
                | inr e ↦ (
                    let ne : place ≢ a.stream = (λ o. differs place a.stream o e) in
                    let r = (made.rows i below).others place m ne in
                    rows-there q within several a there n f stream size asks made marks i below place m ne ∙ r.1
                    ∙ ap (λ (x : List ℤ). x ∷ []) (sym (ap (λ (xs : List (List ℤ)). slice_index_or xs 0 []) r.1))
                    ∙ sym (ap (λ t. cond t (marked marks f.rows) (R place ∷ [])) e))
              ]
            where
              differs : (x y : ℕ) → x ≡ y → nat_eq x y ≡ false → ⊥
              differs x y o e = grind (arith, o, e)

  -- where the later numbers add nothing, or the earlier ones, or the next ones alone, any two sets are told apart
  abbrev pub table : ℕ → ℕ → ℕ
  table j i = adds i j

  pub told-if : ((left right : List Bool) → length left ≡ n → length right ≡ n → (left ≡ right) ⊎ Apart table 0 left right)
      → (left right : List Bool) → length left ≡ n → length right ≡ n → left ≢ right → AreToldApart q n f left right
  told-if h left right l r d = elim (h left right l r) [
    | inl e ↦ absurd (d e)
    | inr w ↦ (
        let b : w.number < n = (let m = w.below in omega (arith, m, l)) in
        record {
          number = w.number;
          below = b;
          differ = λ e. w.differ (sym (counted w.number b left l) ∙ e ∙ counted w.number b right r);
        })
  ]

  pub told-later : ((i j : ℕ) → i < j → j < n → adds i j ≡ 0) → (left right : List Bool) → length left ≡ n → length right ≡ n → left ≢ right → AreToldApart q n f left right
  told-later up = told-if (λ left right l r. told-up table n (λ i m. adds-itself i m) up 0 left right (l ∙ sym r) (omega (arith, l)))

  pub told-earlier : ((i j : ℕ) → j < i → i < n → adds i j ≡ 0) → (left right : List Bool) → length left ≡ n → length right ≡ n → left ≢ right → AreToldApart q n f left right
  told-earlier down = told-if (λ left right l r. told-down table n (λ i m. adds-itself i m) down 0 left right (l ∙ sym r) (omega (arith, l)))

  pub told-as-next : ((i : ℕ) → suc i < n → adds i (suc i) ≡ 0) → ((i j : ℕ) → i < n → j < n → j ≢ suc i → adds i j ≡ 1)
      → (left right : List Bool) → length left ≡ n → length right ≡ n → left ≢ right → AreToldApart q n f left right
  told-as-next next other = told-if (λ left right l r. told-next table n next other left right l r)
