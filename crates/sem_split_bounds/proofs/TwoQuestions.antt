-- Two questions a number, one answered by its own row and one not, else answered alike: without DISTINCT many states are needed.
use Rattle.std.proofs.Common.{◌≡◌, ◌≢◌, ℕ, zero, suc, ◌+◌, ◌*◌, ◌<◌, ◌≤◌, List, [], ◌∷◌, length, Bool, true, false, refl, sym, ap, ◌∙◌, arith}
use Rattle.sem_laws.proofs.Sums.{bit}
use Rattle.sem_query.specs.Query.{QueryValue}
use Rattle.sem_query.specs.Assignment.{Assignment}
use Rattle.sem_lower_bounds.specs.States.{NeedsStates}
use Rattle.sem_lower_bounds.proofs.Bits.{weigh, Scores}
use Rattle.sem_lower_bounds.proofs.Families.{counts-need}
use Rattle.sem_lower_bounds.proofs.Formed.{IsFormed}
use Rattle.sem_lower_bounds.proofs.Mixing.{score}
use Rattle.sem_lower_bounds.proofs.Ranges.{IsNear}

-- ---- two scores that differ on the diagonal alone tell the bits

weigh-same-from : (t u : ℕ → ℕ) (k : ℕ) (bs : List Bool) → ((j : ℕ) → k ≤ j → t j ≡ u j) → weigh t k bs ≡ weigh u k bs
weigh-same-from t u k [] h = refl
weigh-same-from t u k (b ∷ bs) h =
    let e : t k ≡ u k = h k (omega arith) in
    let f : weigh t (suc k) bs ≡ weigh u (suc k) bs = weigh-same-from t u (suc k) bs (λ j l. h j (omega (arith, l))) in
    rw (e, f) refl

bits-same : (x y : Bool) → bit x ≡ bit y → x ≡ y
bits-same true true h = refl
bits-same true false h = absurd (omega (arith, h))
bits-same false true h = absurd (omega (arith, h))
bits-same false false h = refl

both-same : (x y : Bool) (xs ys : List Bool) → x ≡ y → xs ≡ ys → (x ∷ xs) ≡ (y ∷ ys)
both-same x y xs ys e f = cc

rest-same : (x y t a b : ℕ) → x * t + a ≡ y * t + b → x ≡ y → a ≡ b
rest-same x y t a b h e = let i : x * t ≡ y * t = ap (λ n. n * t) e in omega (arith, h, i)

-- what the first score counts beyond the second is the bit
first-told : (x y t s a b c d : ℕ) → x * t + a ≡ y * t + b → x * s + c ≡ y * s + d → t ≡ 1 → s ≡ 0 → a ≡ c → b ≡ d → x ≡ y
first-told x y t s a b c d h g one none e f =
    let i : x * t ≡ x * 1 = ap (λ n. x * n) one in
    let j : y * t ≡ y * 1 = ap (λ n. y * n) one in
    let k : x * s ≡ x * 0 = ap (λ n. x * n) none in
    let l : y * s ≡ y * 0 = ap (λ n. y * n) none in
    omega (arith, h, g, e, f, i, j, k, l)

pub told-by-two : (t s : Scores) → ((i : ℕ) → t i i ≡ 1) → ((i : ℕ) → s i i ≡ 0) → ((i j : ℕ) → i ≢ j → t j i ≡ s j i) → (k : ℕ) (xs ys : List Bool) → length xs ≡ length ys
    → ((i : ℕ) → weigh (λ j. t j i) k xs ≡ weigh (λ j. t j i) k ys) → ((i : ℕ) → weigh (λ j. s j i) k xs ≡ weigh (λ j. s j i) k ys) → xs ≡ ys
told-by-two t s one none off k [] [] l h g = refl
told-by-two t s one none off k [] (y ∷ ys) l h g = absurd (omega (arith, l))
told-by-two t s one none off k (x ∷ xs) [] l h g = absurd (omega (arith, l))
told-by-two t s one none off k (x ∷ xs) (y ∷ ys) l h g =
    let e : bit x ≡ bit y = first-told (bit x) (bit y) (t k k) (s k k) _ _ _ _ (h k) (g k) (one k) (none k) (alike xs) (alike ys) in
    both-same x y xs ys (bits-same x y e)
    (told-by-two t s one none off (suc k) xs ys (omega (arith, l))
    (λ i. rest-same (bit x) (bit y) (t k i) _ _ (h i) e)
    (λ i. rest-same (bit x) (bit y) (s k i) _ _ (g i) e))
  where
    -- the later bits count alike
    alike : (bs : List Bool) → weigh (λ j. t j k) (suc k) bs ≡ weigh (λ j. s j k) (suc k) bs
    alike bs = weigh-same-from (λ j. t j k) (λ j. s j k) (suc k) bs (λ j m. off k j (λ f. omega (arith, f, m)))

-- ---- the questions one after another: of an even number the first, of an odd one the second

abbrev pub in_turn : (ℕ → Assignment) → (ℕ → Assignment) → ℕ → Assignment
in_turn first second zero = first 0
in_turn first second (suc zero) = second 0
in_turn first second (suc (suc i)) = in_turn (λ n. first (suc n)) (λ n. second (suc n)) i

two_more : (i : ℕ) → suc i + suc i ≡ suc (suc (i + i))
two_more i = omega arith

pub in_turn_even : (f g : ℕ → Assignment) (i : ℕ) → in_turn f g (i + i) ≡ f i
in_turn_even f g zero = refl
in_turn_even f g (suc i) = ap (in_turn f g) (two_more i) ∙ in_turn_even (λ n. f (suc n)) (λ n. g (suc n)) i

pub in_turn_odd : (f g : ℕ → Assignment) (i : ℕ) → in_turn f g (suc (i + i)) ≡ g i
in_turn_odd f g zero = refl
in_turn_odd f g (suc i) = ap (λ n. in_turn f g (suc n)) (two_more i) ∙ in_turn_odd (λ n. f (suc n)) (λ n. g (suc n)) i

-- ---- without DISTINCT they tell all histories apart

pub two-need : (q : QueryValue) → IsFormed q → (place : ℕ) → place < length q.from → (w first second : ℕ → Assignment) → 1 < length q.from → q.distinct ≡ false
    → (u : Assignment) (c : ℕ) → ((n : ℕ) → IsNear u c n w) → ((i : ℕ) → score q place (w i) (first i) ≡ 1) → ((i : ℕ) → score q place (w i) (second i) ≡ 0)
    → ((i j : ℕ) → i ≢ j → score q place (w j) (first i) ≡ score q place (w j) (second i)) → NeedsStates q
two-need q within place at w first second l d u c near one none off =
    counts-need q within place at w (in_turn first second) l d u c near (λ xs ys e h.
    told-by-two (λ j i. score q place (w j) (first i)) (λ j i. score q place (w j) (second i)) one none off 0 xs ys e
    (λ i. asked (i + i) (first i) (in_turn_even first second i) xs ys (h (i + i)))
    (λ i. asked (suc (i + i)) (second i) (in_turn_odd first second i) xs ys (h (suc (i + i)))))
  where
    count : Assignment → List Bool → ℕ
    count v bs = weigh (λ j. score q place (w j) v) 0 bs

    asked : (n : ℕ) (v : Assignment) → in_turn first second n ≡ v → (xs ys : List Bool) → count (in_turn first second n) xs ≡ count (in_turn first second n) ys → count v xs ≡ count v ys
    asked n v e xs ys h = ap (λ v. count v xs) (sym e) ∙ h ∙ ap (λ v. count v ys) e
