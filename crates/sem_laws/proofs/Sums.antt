-- Sums over lists and over nested products: parts of a sum, tests at single places, grouping by a key.
use Rattle.std.proofs.Common.{◌≡◌, ◌≢◌, ℕ, zero, suc, ◌+◌, ◌*◌, ◌<◌, ◌≤◌, ◌⊎◌, inl, inr, List, [], ◌∷◌, ◌++◌, map, filter, length, cond, Bool, true, false, ◌&&◌, refl, sym, ap, ◌∙◌, arith, nat_eq}
use Rattle.std.specs.List.{flat_map}
use Rattle.sem_query.proofs.Has.{Has, first, later, Has-map, Has-flat_map}
use Rattle.sem_query.specs.Meaning.{product}

unfoldable pub sums : {X : Type 0} → (X → ℕ) → List X → ℕ
sums f [] = 0
sums f (x ∷ xs) = f x + sums f xs

pub sums_same : {X : Type 0} (f g : X → ℕ) (xs : List X) → ((x : X) → f x ≡ g x) → sums f xs ≡ sums g xs
unfolding sums
sums_same f g [] h = refl
sums_same f g (x ∷ xs) h = omega (arith, h x, sums_same f g xs h)

pub sums_same_in : {X : Type 0} (f g : X → ℕ) (xs : List X) → ((x : X) → Has xs x → f x ≡ g x) → sums f xs ≡ sums g xs
unfolding sums
sums_same_in f g [] h = refl
sums_same_in f g (x ∷ xs) h = omega (arith, h x first, sums_same_in f g xs (λ y k. h y (later k)))

pub sums_both : {X : Type 0} (f g : X → ℕ) (xs : List X) → sums (λ x. f x + g x) xs ≡ sums f xs + sums g xs
unfolding sums
sums_both f g [] = refl
sums_both f g (x ∷ xs) = omega (arith, sums_both f g xs)

pub sums_append : {X : Type 0} (f : X → ℕ) (xs ys : List X) → sums f (xs ++ ys) ≡ sums f xs + sums f ys
unfolding sums
sums_append f [] ys = omega arith
sums_append f (x ∷ xs) ys = omega (arith, sums_append f xs ys)

pub sums_map : {X Y : Type 0} (f : Y → ℕ) (g : X → Y) (xs : List X) → sums f (map g xs) ≡ sums (λ x. f (g x)) xs
unfolding sums
sums_map f g [] = refl
sums_map f g (x ∷ xs) = omega (arith, sums_map f g xs)

pub sums_flat_map : {X Y : Type 0} (f : Y → ℕ) (g : X → List Y) (xs : List X) → sums f (flat_map g xs) ≡ sums (λ x. sums f (g x)) xs
unfolding sums
sums_flat_map f g [] = refl
sums_flat_map f g (x ∷ xs) = omega (arith, sums_append f (g x) (flat_map g xs), sums_flat_map f g xs)

pub sums_times : {X : Type 0} (k : ℕ) (g : X → ℕ) (xs : List X) → sums (λ x. k * g x) xs ≡ k * sums g xs
unfolding sums
sums_times k g [] = omega arith
sums_times k g (x ∷ xs) = omega (arith, sums_times k g xs)

pub sums_zero : {X : Type 0} (xs : List X) → sums (λ x. 0) xs ≡ 0
unfolding sums
sums_zero [] = refl
sums_zero (x ∷ xs) = omega (arith, sums_zero xs)

abbrev pub bit : Bool → ℕ
bit true = 1
bit false = 0

pub bit-and : (a b : Bool) → bit (a && b) ≡ bit a * bit b
bit-and true b = omega arith
bit-and false b = omega arith

pub sums_filter : {X : Type 0} (t : X → Bool) (f : X → ℕ) (xs : List X) → sums (λ x. bit (t x) * f x) xs ≡ sums f (filter t xs)
unfolding sums
sums_filter t f [] = refl
sums_filter {X} t f (x ∷ xs) = by (t x) (sums_filter t f xs)
  where
    by : (b : Bool) → sums (λ x. bit (t x) * f x) xs ≡ sums f (filter t xs)
        → bit b * f x + sums (λ x. bit (t x) * f x) xs ≡ sums f (cond b (x ∷ filter t xs) (filter t xs))
    by true e = omega (arith, e)
    by false e = omega (arith, e)

-- the sum over a product, list by list
unfoldable pub nested : {X : Type 0} → List (List X) → (List X → ℕ) → ℕ
nested [] f = f []
nested (l ∷ ls) f = sums (λ x. nested ls (λ c. f (x ∷ c))) l

pub sums_product : {X : Type 0} (ls : List (List X)) (f : List X → ℕ) → sums f (product ls) ≡ nested ls f
unfolding sums nested
sums_product [] f = omega arith
sums_product (l ∷ ls) f =
    sums_flat_map f (λ x. map (λ c. x ∷ c) (product ls)) l
    ∙ sums_same _ _ l (λ x. sums_map f (λ c. x ∷ c) (product ls) ∙ sums_product ls (λ c. f (x ∷ c)))

-- equal on combinations of the right length
pub nested_same : {X : Type 0} (ls : List (List X)) (f g : List X → ℕ) → ((c : List X) → length c ≡ length ls → f c ≡ g c)
    → nested ls f ≡ nested ls g
unfolding nested
nested_same [] f g h = h [] refl
nested_same (l ∷ ls) f g h =
    sums_same _ _ l (λ x. nested_same ls (λ c. f (x ∷ c)) (λ c. g (x ∷ c)) (λ c e. h (x ∷ c) (omega (arith, e))))

pub nested_same_in : {X : Type 0} (ls : List (List X)) (f g : List X → ℕ)
    → ((c : List X) → Has (product ls) c → length c ≡ length ls → f c ≡ g c) → nested ls f ≡ nested ls g
unfolding nested
nested_same_in [] f g h = h [] first refl
nested_same_in {X} (l ∷ ls) f g h =
    sums_same_in _ _ l (λ x k. nested_same_in ls (λ c. f (x ∷ c)) (λ c. g (x ∷ c)) (λ c i e.
    h (x ∷ c) (Has-flat_map (λ (x : X). map (λ o. x ∷ o) (product ls)) l x (x ∷ c) k (Has-map (λ o. x ∷ o) i)) (omega (arith, e))))

pub nested_both : {X : Type 0} (ls : List (List X)) (f g : List X → ℕ) → nested ls (λ c. f c + g c) ≡ nested ls f + nested ls g
unfolding nested
nested_both [] f g = refl
nested_both (l ∷ ls) f g =
    sums_same _ _ l (λ x. nested_both ls (λ c. f (x ∷ c)) (λ c. g (x ∷ c)))
    ∙ sums_both (λ x. nested ls (λ c. f (x ∷ c))) (λ x. nested ls (λ c. g (x ∷ c))) l

nested_zero : {X : Type 0} (ls : List (List X)) → nested ls (λ c. 0) ≡ 0
unfolding nested
nested_zero [] = refl
nested_zero (l ∷ ls) = sums_same _ _ l (λ x. nested_zero ls) ∙ sums_zero l

-- a sum over parts, exchanged with the product
pub nested_parts : {X P : Type 0} (ls : List (List X)) (ps : List P) (f : P → List X → ℕ)
    → nested ls (λ c. sums (λ p. f p c) ps) ≡ sums (λ p. nested ls (f p)) ps
unfolding sums
nested_parts ls [] f = nested_zero ls
nested_parts ls (p ∷ ps) f =
    nested_both ls (f p) (λ c. sums (λ q. f q c) ps) ∙ ap (λ (y : ℕ). nested ls (f p) + y) (nested_parts ls ps f)

-- tests at single places choose members of the lists
abbrev pub passes : {X : Type 0} → (ℕ → X → Bool) → ℕ → List X → Bool
passes t n [] = true
passes t n (x ∷ c) = t n x && passes t (suc n) c

abbrev pub passing : {X : Type 0} → (ℕ → X → Bool) → ℕ → List (List X) → List (List X)
passing t n [] = []
passing t n (l ∷ ls) = filter (t n) l ∷ passing t (suc n) ls

nested_times : {X : Type 0} (ls : List (List X)) (k : ℕ) (f : List X → ℕ) → nested ls (λ c. k * f c) ≡ k * nested ls f
unfolding nested
nested_times [] k f = refl
nested_times (l ∷ ls) k f =
    sums_same _ _ l (λ x. nested_times ls k (λ c. f (x ∷ c))) ∙ sums_times k (λ x. nested ls (λ c. f (x ∷ c))) l

pub nested_passing : {X : Type 0} (t : ℕ → X → Bool) (n : ℕ) (ls : List (List X)) (f : List X → ℕ)
    → nested ls (λ c. bit (passes t n c) * f c) ≡ nested (passing t n ls) f
unfolding nested
nested_passing t n [] f = omega arith
nested_passing t n (l ∷ ls) f =
    sums_same _ _ l (λ x. nested_same ls _ _ (λ c e. regroup (t n x) (passes t (suc n) c) (f (x ∷ c)))
    ∙ nested_times ls (bit (t n x)) (λ c. bit (passes t (suc n) c) * f (x ∷ c))
    ∙ ap (λ (y : ℕ). bit (t n x) * y) (nested_passing t (suc n) ls (λ c. f (x ∷ c))))
    ∙ sums_filter (t n) (λ x. nested (passing t (suc n) ls) (λ c. f (x ∷ c))) l
  where
    regroup : (a b : Bool) (c : ℕ) → bit (a && b) * c ≡ bit a * (bit b * c)
    regroup true b c = omega arith
    regroup false b c = omega arith

-- one member of a list passes the test
pub sums_none : {P : Type 0} (t : P → Bool) (ps : List P) → ((p : P) → Has ps p → t p ≡ false) → sums (λ p. bit (t p)) ps ≡ 0
unfolding sums
sums_none t [] h = refl
sums_none t (p ∷ ps) h = let e : bit (t p) ≡ 0 = ap bit (h p first) in omega (arith, e, sums_none t ps (λ r k. h r (later k)))

-- grouping by a key
abbrev pub is : ℕ → ℕ → ℕ
is a b = bit (nat_eq a b)

unfoldable pub sum_to : (ℕ → ℕ) → ℕ → ℕ
sum_to f zero = 0
sum_to f (suc n) = sum_to f n + f n

pub sum_to_same : (f g : ℕ → ℕ) (n : ℕ) → ((i : ℕ) → i < n → f i ≡ g i) → sum_to f n ≡ sum_to g n
unfolding sum_to
sum_to_same f g zero h = refl
sum_to_same f g (suc n) h = omega (arith, h n (omega arith), sum_to_same f g n (λ i l. h i (omega (arith, l))))

sum_to_both : (f g : ℕ → ℕ) (n : ℕ) → sum_to (λ i. f i + g i) n ≡ sum_to f n + sum_to g n
unfolding sum_to
sum_to_both f g zero = refl
sum_to_both f g (suc n) = omega (arith, sum_to_both f g n)

sum_to_zero : (n : ℕ) → sum_to (λ i. 0) n ≡ 0
unfolding sum_to
sum_to_zero zero = refl
sum_to_zero (suc n) = omega (arith, sum_to_zero n)

is_yes : (k i : ℕ) → k ≡ i → is k i ≡ 1
is_yes k i h = grind (arith, h)

is_other : (k i : ℕ) → k ≢ i → is k i ≡ 0
is_other k i h = grind (arith, h)

nothing_below : (k : ℕ) (g : ℕ → ℕ) (n : ℕ) → n ≤ k → sum_to (λ i. is k i * g i) n ≡ 0
unfolding sum_to
nothing_below k g zero h = refl
nothing_below k g (suc n) h = omega (arith, nothing_below k g n (omega arith), ap (λ (y : ℕ). y * g n) (is_other k n (omega arith)))

last_or_before : (k n : ℕ) → k < suc n → (k ≡ n) ⊎ (k < n)
last_or_before k n h = grind arith

pub picked : (k : ℕ) (g : ℕ → ℕ) (n : ℕ) → k < n → sum_to (λ i. is k i * g i) n ≡ g k
unfolding sum_to
picked k g zero h = absurd (omega (arith, h))
picked k g (suc n) h = elim (last_or_before k n h) [
  | inl e ↦ omega (arith, nothing_below k g n (omega (arith, e)), ap (λ (y : ℕ). y * g n) (is_yes k n e), ap g e)
  | inr l ↦ omega (arith, picked k g n l, ap (λ (y : ℕ). y * g n) (is_other k n (omega (arith, l))))
]

-- a sum over a list, key by key
pub grouped : {X : Type 0} (key : X → ℕ) (g : ℕ → ℕ) (n : ℕ) (xs : List X) → ((x : X) → Has xs x → key x < n)
    → sums (λ x. g (key x)) xs ≡ sum_to (λ i. sums (λ x. is (key x) i) xs * g i) n
unfolding sums
grouped key g n [] h = sym (sum_to_same (λ i. 0 * g i) (λ i. 0) n (λ i l. omega arith) ∙ sum_to_zero n)
grouped key g n (x ∷ xs) h =
    sym (sum_to_same _ _ n (λ i l. distribute (is (key x) i) (sums (λ x. is (key x) i) xs) (g i))
    ∙ sum_to_both (λ i. is (key x) i * g i) (λ i. sums (λ x. is (key x) i) xs * g i) n
    ∙ (λ t. picked (key x) g n (h x first) t + sym (grouped key g n xs (λ y k. h y (later k))) t))
  where
    distribute : (a b c : ℕ) → (a + b) * c ≡ a * c + b * c
    distribute a b c = omega arith

pub sums_bits : {X : Type 0} (t : X → Bool) (xs : List X) → sums (λ x. bit (t x)) xs ≡ length (filter t xs)
unfolding sums
sums_bits t [] = refl
sums_bits {X} t (x ∷ xs) = by (t x) (sums_bits t xs)
  where
    by : (b : Bool) → sums (λ x. bit (t x)) xs ≡ length (filter t xs)
        → bit b + sums (λ x. bit (t x)) xs ≡ length (cond b (x ∷ filter t xs) (filter t xs))
    by true e = omega (arith, e)
    by false e = omega (arith, e)
