-- Lists of bits, told apart by sums over the places of their true bits.
use Rattle.std.proofs.Common.{◌≡◌, ◌≢◌, ℕ, suc, ◌+◌, ◌*◌, ◌<◌, ◌≤◌, min, List, [], ◌∷◌, length, Bool, true, false, refl, sym, ap, ◌∙◌, arith}
use Rattle.sem_laws.proofs.Sums.{bit}

-- the sum of t over the places of the true bits, where the first bit stands at place k
abbrev pub weigh : (ℕ → ℕ) → ℕ → List Bool → ℕ
weigh t k [] = 0
weigh t k (b ∷ bs) = bit b * t k + weigh t (suc k) bs

pub weigh-same : (t u : ℕ → ℕ) (k : ℕ) (bs : List Bool) → ((j : ℕ) → t j ≡ u j) → weigh t k bs ≡ weigh u k bs
weigh-same t u k [] h = refl
weigh-same t u k (b ∷ bs) h = let e : t k ≡ u k = h k in let f : weigh t (suc k) bs ≡ weigh u (suc k) bs = weigh-same t u (suc k) bs h in rw (e, f) refl

weigh-none : (t : ℕ → ℕ) (k : ℕ) (bs : List Bool) → ((j : ℕ) → k ≤ j → t j ≡ 0) → weigh t k bs ≡ 0
weigh-none t k [] h = refl
weigh-none t k (b ∷ bs) h =
    let e : t k ≡ 0 = h k (omega arith) in
    let f : weigh t (suc k) bs ≡ 0 = weigh-none t (suc k) bs (λ j l. h j (omega (arith, l))) in
    let i : bit b * t k ≡ bit b * 0 = ap (λ n. bit b * n) e in
    omega (arith, f, i)

bits-same : (x y : Bool) → bit x ≡ bit y → x ≡ y
bits-same true true h = refl
bits-same true false h = absurd (omega (arith, h))
bits-same false true h = absurd (omega (arith, h))
bits-same false false h = refl

first-same : (x y t a b : ℕ) → x * t + a ≡ y * t + b → t ≡ 1 → a ≡ 0 → b ≡ 0 → x ≡ y
first-same x y t a b h e f g = let i : x * t ≡ x * 1 = ap (λ n. x * n) e in let j : y * t ≡ y * 1 = ap (λ n. y * n) e in omega (arith, h, f, g, i, j)

rest-same : (x y t a b : ℕ) → x * t + a ≡ y * t + b → x ≡ y → a ≡ b
rest-same x y t a b h e = let i : x * t ≡ y * t = ap (λ n. n * t) e in omega (arith, h, i)

last-same : (x y t a b : ℕ) → x * t + a ≡ y * t + b → t ≡ 0 → a ≡ b
last-same x y t a b h e = let i : x * t ≡ x * 0 = ap (λ n. x * n) e in let j : y * t ≡ y * 0 = ap (λ n. y * n) e in omega (arith, h, i, j)

lone-same : (x y t a b : ℕ) → x * t + a ≡ y * t + b → t ≡ 1 → a ≡ b → x ≡ y
lone-same x y t a b h e f = let i : x * t ≡ x * 1 = ap (λ n. x * n) e in let j : y * t ≡ y * 1 = ap (λ n. y * n) e in omega (arith, h, f, i, j)

both-same : (x y : Bool) (xs ys : List Bool) → x ≡ y → xs ≡ ys → (x ∷ xs) ≡ (y ∷ ys)
both-same x y xs ys e f = cc

-- t j i is what bit j adds to sum i
abbrev pub Scores : Type 0
Scores = ℕ → ℕ → ℕ

-- nothing is added to a sum by the later bits
pub told-upward : (t : Scores) → ((i : ℕ) → t i i ≡ 1) → ((i j : ℕ) → i < j → t j i ≡ 0) → (k : ℕ) (xs ys : List Bool)
    → length xs ≡ length ys → ((i : ℕ) → k ≤ i → weigh (λ j. t j i) k xs ≡ weigh (λ j. t j i) k ys) → xs ≡ ys
told-upward t one off k [] [] l h = refl
told-upward t one off k [] (y ∷ ys) l h = absurd (omega (arith, l))
told-upward t one off k (x ∷ xs) [] l h = absurd (omega (arith, l))
told-upward t one off k (x ∷ xs) (y ∷ ys) l h =
    let e : bit x ≡ bit y
    = first-same (bit x) (bit y) (t k k) _ _ (h k (omega arith)) (one k)
    (weigh-none (λ j. t j k) (suc k) xs (λ j m. off k j (omega (arith, m))))
    (weigh-none (λ j. t j k) (suc k) ys (λ j m. off k j (omega (arith, m)))) in
    both-same x y xs ys (bits-same x y e)
    (told-upward t one off (suc k) xs ys (omega (arith, l)) (λ i m. rest-same (bit x) (bit y) (t k i) _ _ (h i (omega (arith, m))) e))

-- nothing is added to a sum by the earlier bits
pub told-downward : (t : Scores) → ((i : ℕ) → t i i ≡ 1) → ((i j : ℕ) → j < i → t j i ≡ 0) → (k : ℕ) (xs ys : List Bool)
    → length xs ≡ length ys → ((i : ℕ) → k ≤ i → weigh (λ j. t j i) k xs ≡ weigh (λ j. t j i) k ys) → xs ≡ ys
told-downward t one off k [] [] l h = refl
told-downward t one off k [] (y ∷ ys) l h = absurd (omega (arith, l))
told-downward t one off k (x ∷ xs) [] l h = absurd (omega (arith, l))
told-downward t one off k (x ∷ xs) (y ∷ ys) l h =
    let r : xs ≡ ys
    = told-downward t one off (suc k) xs ys (omega (arith, l))
    (λ i m. last-same (bit x) (bit y) (t k i) _ _ (h i (omega (arith, m))) (off i k (omega (arith, m)))) in
    both-same x y xs ys
    (bits-same x y (lone-same (bit x) (bit y) (t k k) _ _ (h k (omega arith)) (one k) (ap (weigh (λ j. t j k) (suc k)) r))) r

least-one : (x y : Bool) → min 1 (bit x) ≡ min 1 (bit y) → x ≡ y
least-one true true h = refl
least-one true false h = absurd (omega (arith, h))
least-one false true h = absurd (omega (arith, h))
least-one false false h = refl

only-first : (x t a : ℕ) → t ≡ 1 → a ≡ 0 → x * t + a ≡ x
only-first x t a e f = let i : x * t ≡ x * 1 = ap (λ n. x * n) e in omega (arith, f, i)

only-rest : (x t a : ℕ) → t ≡ 0 → x * t + a ≡ a
only-rest x t a e = let i : x * t ≡ x * 0 = ap (λ n. x * n) e in omega (arith, i)

weigh-none-below : (t : ℕ → ℕ) (n k : ℕ) (bs : List Bool) → k + length bs ≤ n → ((j : ℕ) → k ≤ j → j < n → t j ≡ 0) → weigh t k bs ≡ 0
weigh-none-below t n k [] l h = refl
weigh-none-below t n k (b ∷ bs) l h =
    let e : t k ≡ 0 = h k (omega arith) (omega (arith, l)) in
    let f : weigh t (suc k) bs ≡ 0 = weigh-none-below t n (suc k) bs (omega (arith, l)) (λ j m. h j (omega (arith, m))) in
    let i : bit b * t k ≡ bit b * 0 = ap (λ n. bit b * n) e in
    omega (arith, f, i)

first-alone : (t : Scores) (n k : ℕ) (b : Bool) (bs : List Bool) → t k k ≡ 1 → suc k + length bs ≤ n → ((j : ℕ) → k < j → j < n → t j k ≡ 0)
    → bit b * t k k + weigh (λ j. t j k) (suc k) bs ≡ bit b
first-alone t n k b bs one f up = only-first (bit b) (t k k) _ one (weigh-none-below (λ j. t j k) n (suc k) bs f (λ j m o. up j (omega (arith, m)) o))

-- nothing is added to a sum by other bits below n: then it is enough whether each sum is 0
pub told-alone : (t : Scores) (n : ℕ) → ((i : ℕ) → t i i ≡ 1) → ((i j : ℕ) → i < j → j < n → t j i ≡ 0) → ((i j : ℕ) → j < i → i < n → t j i ≡ 0) → (k : ℕ) (xs ys : List Bool)
    → length xs ≡ length ys → k + length xs ≤ n → ((i : ℕ) → k ≤ i → i < n → min 1 (weigh (λ j. t j i) k xs) ≡ min 1 (weigh (λ j. t j i) k ys)) → xs ≡ ys
told-alone t n one up down k [] [] l few h = refl
told-alone t n one up down k [] (y ∷ ys) l few h = absurd (omega (arith, l))
told-alone t n one up down k (x ∷ xs) [] l few h = absurd (omega (arith, l))
told-alone t n one up down k (x ∷ xs) (y ∷ ys) l few h =
    let b : suc k + length xs ≤ n = omega (arith, few) in
    let c : suc k + length ys ≤ n = omega (arith, few, l) in
    both-same x y xs ys
    (least-one x y (ap (min 1) (sym (first-alone t n k x xs (one k) b (λ j m o. up k j m o))) ∙ h k (omega arith) (omega (arith, b)) ∙ ap (min 1) (first-alone t n k y ys (one k) c (λ j m o. up k j m o))))
    (told-alone t n one up down (suc k) xs ys (omega (arith, l)) b (λ i m o.
    let z : t k i ≡ 0 = down i k (omega (arith, m)) o in
    ap (min 1) (sym (only-rest (bit x) (t k i) (weigh (λ j. t j i) (suc k) xs) z)) ∙ h i (omega (arith, m)) o
    ∙ ap (min 1) (only-rest (bit y) (t k i) (weigh (λ j. t j i) (suc k) ys) z)))

-- how many bits are true
abbrev trues : List Bool → ℕ
trues [] = 0
trues (b ∷ bs) = bit b + trues bs

weigh-ones : (t : ℕ → ℕ) (k : ℕ) (bs : List Bool) → ((j : ℕ) → k ≤ j → j < k + length bs → t j ≡ 1) → weigh t k bs ≡ trues bs
weigh-ones t k [] h = refl
weigh-ones t k (b ∷ bs) h =
    let e : t k ≡ 1 = h k (omega arith) (omega arith) in
    let f : weigh t (suc k) bs ≡ trues bs = weigh-ones t (suc k) bs (λ j l m. h j (omega (arith, l)) (omega (arith, m))) in
    let i : bit b * t k ≡ bit b * 1 = ap (λ n. bit b * n) e in
    omega (arith, f, i)

-- each bit adds 1 to every sum but its own
pub told-but-one : (t : Scores) → ((i : ℕ) → t i i ≡ 0) → ((i j : ℕ) → i ≢ j → t j i ≡ 1) → (k : ℕ) (xs ys : List Bool)
    → length xs ≡ length ys → ((i : ℕ) → k ≤ i → weigh (λ j. t j i) k xs ≡ weigh (λ j. t j i) k ys) → xs ≡ ys
told-but-one t none one k [] [] l h = refl
told-but-one t none one k [] (y ∷ ys) l h = absurd (omega (arith, l))
told-but-one t none one k (x ∷ xs) [] l h = absurd (omega (arith, l))
told-but-one t none one k (x ∷ xs) (y ∷ ys) l h =
    let own : trues xs ≡ trues ys = sym (rest k k (omega arith) xs) ∙ last-same (bit x) (bit y) (t k k) _ _ (h k (omega arith)) (none k) ∙ rest k k (omega arith) ys in
    let e : bit x ≡ bit y = lone-same (bit x) (bit y) (t k far) _ _ (h far (omega arith)) (one far k (λ f. omega (arith, f))) (beyond xs (omega arith) ∙ own ∙ sym (beyond ys (omega (arith, l)))) in
    both-same x y xs ys (bits-same x y e)
    (told-but-one t none one (suc k) xs ys (omega (arith, l)) (λ i m. rest-same (bit x) (bit y) (t k i) _ _ (h i (omega (arith, m))) e))
  where
    far : ℕ
    far = suc k + length xs

    rest : (k i : ℕ) → i ≤ k → (bs : List Bool) → weigh (λ j. t j i) (suc k) bs ≡ trues bs
    rest k i l bs = weigh-ones (λ j. t j i) (suc k) bs (λ j m o. one i j (λ e. omega (arith, e, l, m)))

    beyond : (bs : List Bool) → suc k + length bs ≤ far → weigh (λ j. t j far) (suc k) bs ≡ trues bs
    beyond bs l = weigh-ones (λ j. t j far) (suc k) bs (λ j m o. one far j (λ e. omega (arith, e, l, o)))
