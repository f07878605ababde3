-- A list of numbers by which all lists of n bits are told apart has at least 2^n elements.
use Rattle.std.proofs.Common.{◌≡◌, ℕ, zero, suc, ◌+◌, ◌*◌, ◌<◌, ◌≤◌, ◌^◌, inl, inr, List, [], ◌∷◌, ◌++◌, map, length, Bool, true, false, refl, sym, ap, ◌∙◌, subst, arith, length-append}
use Rattle.std.proofs.lemmas.List.{length-map}
use Rattle.sem_query.proofs.Has.{Has, first, later, Has-append_cases, Has-map_from}

-- no two elements have one image
abbrev pub AreApart : {X Y : Type 0} → (X → Y) → List X → Type 0
AreApart f [] = Unit {0}
AreApart {X} f (x ∷ xs) = ((z : X) → Has xs z → f z ≡ f x → ⊥) × AreApart f xs

-- the list without one of its elements
record Rest {Y : Type 0} (ys : List Y) (x : Y) : Type 0 where
  items : List Y
  size : length items + 1 ≡ length ys
  others : (z : Y) → Has ys z → (z ≡ x → ⊥) → Has items z

but_first : {Y : Type 0} (x : Y) (ys : List Y) (z : Y) → Has (x ∷ ys) z → (z ≡ x → ⊥) → Has ys z
but_first x ys z first n = absurd (n refl)
but_first x ys z (later h) n = h

but_later : {Y : Type 0} (y : Y) (ys zs : List Y) (z x : Y) → ((w : Y) → Has ys w → (w ≡ x → ⊥) → Has zs w) → Has (y ∷ ys) z → (z ≡ x → ⊥) → Has (y ∷ zs) z
but_later y ys zs z x f first n = first
but_later y ys zs z x f (later h) n = later (f z h n)

rest_of : {Y : Type 0} (ys : List Y) (x : Y) → Has ys x → Rest ys x
rest_of [] x h = elim h [ ]
rest_of (y ∷ ys) x first = record { items = ys; size = omega arith; others = but_first y ys }
rest_of (y ∷ ys) x (later h) =
    let r : Rest ys x = rest_of ys x h in
    record { items = y ∷ r.items; size = omega (arith, r.size); others = λ z i n. but_later y ys r.items z x r.others i n }

pub no_longer : {X Y : Type 0} (f : X → Y) (xs : List X) (ys : List Y) → AreApart f xs → ((z : X) → Has xs z → Has ys (f z)) → length xs ≤ length ys
no_longer f [] ys d h = omega arith
no_longer {X} {Y} f (x ∷ xs) ys d h =
    let r : Rest ys (f x) = rest_of ys (f x) (h x first) in
    let k : length xs ≤ length r.items = no_longer f xs r.items d.1 (λ z i. r.others (f z) (h z (later i)) (d.0 z i)) in
    omega (arith, k, r.size)

-- n - 1 .. 0
abbrev pub below : ℕ → List ℕ
below zero = []
below (suc n) = n ∷ below n

pub length-below : (n : ℕ) → length (below n) ≡ n
length-below zero = refl
length-below (suc n) = ap suc (length-below n)

data Last (k n : ℕ) : Type 0 where
  last : n ≡ k → Last k n
  earlier : k < n → Last k n

last_or : (k n : ℕ) → k < suc n → Last k n
last_or zero zero h = last refl
last_or zero (suc n) h = earlier (omega arith)
last_or (suc k) zero h = absurd (omega (arith, h))
last_or (suc k) (suc n) h = elim (last_or k n (omega (arith, h))) [ last e ↦ last (ap suc e) | earlier l ↦ earlier (omega (arith, l)) ]

pub has-below : (n k : ℕ) → k < n → Has (below n) k
has-below zero k h = absurd (omega (arith, h))
has-below (suc n) k h = elim (last_or k n h) [
  | last e ↦ subst (λ m. Has (n ∷ below n) m) e first
  | earlier l ↦ later (has-below n k l)
]

-- all lists of n bits
abbrev pub all_bits : ℕ → List (List Bool)
all_bits zero = [] ∷ []
all_bits (suc n) = map (λ bs. true ∷ bs) (all_bits n) ++ map (λ bs. false ∷ bs) (all_bits n)

pub length-all_bits : (n : ℕ) → length (all_bits n) ≡ 2 ^ n
length-all_bits zero = refl
length-all_bits (suc n) =
    let a : length (all_bits (suc n)) ≡ length (map (λ bs. true ∷ bs) (all_bits n)) + length (map (λ bs. false ∷ bs) (all_bits n)) = length-append (map (λ bs. true ∷ bs) (all_bits n)) (map (λ bs. false ∷ bs) (all_bits n)) in
    let b : length (map (λ bs. true ∷ bs) (all_bits n)) ≡ length (all_bits n) = length-map (all_bits n) (λ bs. true ∷ bs) in
    let c : length (map (λ bs. false ∷ bs) (all_bits n)) ≡ length (all_bits n) = length-map (all_bits n) (λ bs. false ∷ bs) in
    let d : length (all_bits n) ≡ 2 ^ n = length-all_bits n in
    let p : 2 ^ suc n ≡ 2 * 2 ^ n = grind arith in
    omega (arith, a, b, c, d, p)

apart_map : {X Y Z : Type 0} (f : X → Y) (g : Y → Z) (xs : List X) → AreApart (λ x. g (f x)) xs → AreApart g (map f xs)
apart_map f g [] a = tt
apart_map {X} {Y} f g (x ∷ xs) a = (
  (λ z h e. let r : (y : X) × Has xs y × (f y ≡ z) = Has-map_from f xs z h in a.0 r.0 r.1 (ap g r.2 ∙ e)),
  apart_map f g xs a.1,
)

apart_append : {X Y : Type 0} (f : X → Y) (xs ys : List X) → AreApart f xs → AreApart f ys
    → ((x y : X) → Has xs x → Has ys y → f y ≡ f x → ⊥) → AreApart f (xs ++ ys)
apart_append f [] ys a b n = b
apart_append f (x ∷ xs) ys a b n = (
  (λ z h e. elim (Has-append_cases xs ys z h) [ inl k ↦ a.0 z k e | inr k ↦ n x z first k e ]),
  apart_append f xs ys a.1 b (λ y z h k e. n y z (later h) k e),
)

-- f has different images for different lists of n bits
abbrev pub Tells : ℕ → (List Bool → ℕ) → Type 0
Tells n f = (xs ys : List Bool) → length xs ≡ n → length ys ≡ n → f xs ≡ f ys → xs ≡ ys

tail_same : (b c : Bool) (xs ys : List Bool) → (b ∷ xs) ≡ (c ∷ ys) → xs ≡ ys
tail_same b c xs ys e = cc

heads_apart : (xs ys : List Bool) → (false ∷ xs) ≡ (true ∷ ys) → ⊥
heads_apart xs ys e = cc

no_bits : (bs : List Bool) → Has ([] ∷ []) bs → length bs ≡ 0
no_bits bs first = refl
no_bits bs (later k) = elim k [ ]

longer : (n : ℕ) (xss : List (List Bool)) → ((cs : List Bool) → Has xss cs → length cs ≡ n) → (b : Bool) (bs : List Bool) → Has (map (λ bs. b ∷ bs) xss) bs → length bs ≡ suc n
longer n xss f b bs k =
    let r : (cs : List Bool) × Has xss cs × ((b ∷ cs) ≡ bs) = Has-map_from (λ bs. b ∷ bs) xss bs k in
    ap length (sym r.2) ∙ ap suc (f r.0 r.1)

-- each of them has n bits
pub sized : (n : ℕ) (bs : List Bool) → Has (all_bits n) bs → length bs ≡ n
sized zero bs h = no_bits bs h
sized (suc n) bs h = elim (Has-append_cases (map (λ bs. true ∷ bs) (all_bits n)) (map (λ bs. false ∷ bs) (all_bits n)) bs h) [
  | inl k ↦ longer n (all_bits n) (sized n) true bs k
  | inr k ↦ longer n (all_bits n) (sized n) false bs k
]

apart_halves : (n : ℕ) (f : List Bool → ℕ) → Tells (suc n) f → ((b : Bool) → AreApart f (map (λ bs. b ∷ bs) (all_bits n))) → AreApart f (all_bits (suc n))
apart_halves n f t half =
    apart_append f (map (λ bs. true ∷ bs) (all_bits n)) (map (λ bs. false ∷ bs) (all_bits n)) (half true) (half false)
    (λ x y h k e.
    let r : (cs : List Bool) × Has (all_bits n) cs × ((true ∷ cs) ≡ x) = Has-map_from (λ bs. true ∷ bs) (all_bits n) x h in
    let s : (cs : List Bool) × Has (all_bits n) cs × ((false ∷ cs) ≡ y) = Has-map_from (λ bs. false ∷ bs) (all_bits n) y k in
    heads_apart s.0 r.0 (t (false ∷ s.0) (true ∷ r.0) (ap suc (sized n s.0 s.1)) (ap suc (sized n r.0 r.1)) (ap f s.2 ∙ e ∙ sym (ap f r.2))))

apart_bits : (n : ℕ) (f : List Bool → ℕ) → Tells n f → AreApart f (all_bits n)
apart_bits zero f t = ((λ z h e. elim h [ ]), tt)
apart_bits (suc n) f t =
    apart_halves n f t (λ b. apart_map (λ bs. b ∷ bs) f (all_bits n)
    (apart_bits n (λ bs. f (b ∷ bs)) (λ xs ys l m e. tail_same b b xs ys (t (b ∷ xs) (b ∷ ys) (ap suc l) (ap suc m) e))))

-- told apart by what is in a list, they are no more than it has
pub states-needed : (n : ℕ) (f : List Bool → ℕ) (states : List ℕ) → ((bs : List Bool) → length bs ≡ n → Has states (f bs)) → Tells n f → 2 ^ n ≤ length states
states-needed n f states b t =
    let h : length (all_bits n) ≤ length states = no_longer f (all_bits n) states (apart_bits n f t) (λ z i. b z (sized n z i)) in
    omega (arith, h, length-all_bits n)
