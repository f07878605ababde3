-- The extreme of a cell is attained by one of its rows and bounds them all.
use Rattle.std.proofs.Common.{◌≡◌, ℕ, zero, suc, ◌*◌, ◌<◌, ◌⊎◌, inl, inr, List, [], ◌∷◌, cond, Bool, true, false, refl, sym, subst, arith, ℤ, int_lt, ◌≤ℤ◌}
use Rattle.std.proofs.lemmas.Int.{ints, by_lt_z}
use Rattle.std.specs.List.{flat_map}
use Rattle.sem_query.proofs.Has.{Has, first, later, Has-append_left, Has-append_right, Has-append_cases}
use Rattle.sem_laws.proofs.Sums.{sums}
use Rattle.sem_laws.proofs.Weights.{View, W}
use Rattle.sem_laws.proofs.OnePartFits.{has_cases}
use Rattle.sem_query.specs.declared.atom.Attr.{Attr}
use Rattle.sem_query.specs.Meaning.{by_column}
use Rattle.sem_query.specs.Combinations.{Choice}
use Rattle.sem_query.specs.Cells.{least, greatest, upto}

-- the least value is z or that of a row, and no row is below it
pub least-is : (a : Attr) (z : ℤ) (rows : List (List ℤ))
    → (least a z rows ≡ z) ⊎ ((x : List ℤ) × Has rows x × (least a z rows ≡ by_column x a.column))
least-is a z [] = inl refl
least-is a z (row ∷ rest) =
    by (int_lt (by_column row a.column) z) (least-is a (cond (int_lt (by_column row a.column) z) (by_column row a.column) z) rest)
  where
    by : (b : Bool)
        → (least a (cond b (by_column row a.column) z) rest ≡ cond b (by_column row a.column) z) ⊎ ((x : List ℤ) × Has rest x × (least a (cond b (by_column row a.column) z) rest ≡ by_column x a.column))
        → (least a (cond b (by_column row a.column) z) rest ≡ z) ⊎ ((x : List ℤ) × Has (row ∷ rest) x × (least a (cond b (by_column row a.column) z) rest ≡ by_column x a.column))
    by b (inr r) = inr (r.0, later r.1, r.2)
    by true (inl e) = inr (row, first, e)
    by false (inl e) = inl e

low_one : (x z m : ℤ) → m ≤ℤ cond (int_lt x z) x z → (m ≤ℤ z) × (m ≤ℤ x)
low_one x z m h = by_lt_z x z
    (λ l. let e : cond (int_lt x z) x z ≡ x = grind (arith, ints, l) in (omega (arith, ints, e, h, l), omega (arith, ints, e, h, l)))
    (λ l. let e : cond (int_lt x z) x z ≡ z = grind (arith, ints, l) in (omega (arith, ints, e, h, l), omega (arith, ints, e, h, l)))

pub least-low : (a : Attr) (z : ℤ) (rows : List (List ℤ)) → least a z rows ≤ℤ z
least-low a z [] = omega (arith, ints)
least-low a z (row ∷ rest) =
    (low_one (by_column row a.column) z _ (least-low a (cond (int_lt (by_column row a.column) z) (by_column row a.column) z) rest)).0

pub least-below : (a : Attr) (z : ℤ) (rows : List (List ℤ)) (x : List ℤ) → Has rows x → least a z rows ≤ℤ by_column x a.column
least-below a z [] x h = elim h [ ]
least-below a z (row ∷ rest) x h = elim (has_cases row x rest h) [
  | inl e ↦ subst (λ y. least a z (row ∷ rest) ≤ℤ by_column y a.column) e ((low_one (by_column row a.column) z _ (least-low a (cond (int_lt (by_column row a.column) z) (by_column row a.column) z) rest)).1)
  | inr k ↦ least-below a (cond (int_lt (by_column row a.column) z) (by_column row a.column) z) rest x k
]

pub greatest-is : (a : Attr) (z : ℤ) (rows : List (List ℤ))
    → (greatest a z rows ≡ z) ⊎ ((x : List ℤ) × Has rows x × (greatest a z rows ≡ by_column x a.column))
greatest-is a z [] = inl refl
greatest-is a z (row ∷ rest) =
    by (int_lt z (by_column row a.column)) (greatest-is a (cond (int_lt z (by_column row a.column)) (by_column row a.column) z) rest)
  where
    by : (b : Bool)
        → (greatest a (cond b (by_column row a.column) z) rest ≡ cond b (by_column row a.column) z) ⊎ ((x : List ℤ) × Has rest x × (greatest a (cond b (by_column row a.column) z) rest ≡ by_column x a.column))
        → (greatest a (cond b (by_column row a.column) z) rest ≡ z) ⊎ ((x : List ℤ) × Has (row ∷ rest) x × (greatest a (cond b (by_column row a.column) z) rest ≡ by_column x a.column))
    by b (inr r) = inr (r.0, later r.1, r.2)
    by true (inl e) = inr (row, first, e)
    by false (inl e) = inl e

high_one : (x z m : ℤ) → cond (int_lt z x) x z ≤ℤ m → (z ≤ℤ m) × (x ≤ℤ m)
high_one x z m h = by_lt_z z x
    (λ l. let e : cond (int_lt z x) x z ≡ x = grind (arith, ints, l) in (omega (arith, ints, e, h, l), omega (arith, ints, e, h, l)))
    (λ l. let e : cond (int_lt z x) x z ≡ z = grind (arith, ints, l) in (omega (arith, ints, e, h, l), omega (arith, ints, e, h, l)))

pub greatest-high : (a : Attr) (z : ℤ) (rows : List (List ℤ)) → z ≤ℤ greatest a z rows
greatest-high a z [] = omega (arith, ints)
greatest-high a z (row ∷ rest) =
    (high_one (by_column row a.column) z _ (greatest-high a (cond (int_lt z (by_column row a.column)) (by_column row a.column) z) rest)).0

pub greatest-above : (a : Attr) (z : ℤ) (rows : List (List ℤ)) (x : List ℤ) → Has rows x → by_column x a.column ≤ℤ greatest a z rows
greatest-above a z [] x h = elim h [ ]
greatest-above a z (row ∷ rest) x h = elim (has_cases row x rest h) [
  | inl e ↦ subst (λ y. by_column y a.column ≤ℤ greatest a z (row ∷ rest)) e (high_one (by_column row a.column) z _ (greatest-high a (cond (int_lt z (by_column row a.column)) (by_column row a.column) z) rest)).1
  | inr k ↦ greatest-above a (cond (int_lt z (by_column row a.column)) (by_column row a.column) z) rest x k
]

-- a sum is above zero where a summand is
pub some-summand : {X : Type 0} (f : X → ℕ) (xs : List X) → 0 < sums f xs → (x : X) × Has xs x × (0 < f x)
unfolding sums
some-summand f [] h = absurd (omega (arith, h))
some-summand {X} f (x ∷ xs) h = by (f x) refl (some-summand f xs)
  where
    by : (n : ℕ) → f x ≡ n → (0 < sums f xs → (y : X) × Has xs y × (0 < f y)) → (y : X) × Has (x ∷ xs) y × (0 < f y)
    by zero e k = let r = k (omega (arith, h, e)) in (r.0, later r.1, r.2)
    by (suc n) e k = (x, first, omega (arith, e))

pub summand-counts : {X : Type 0} (f : X → ℕ) (xs : List X) (x : X) → Has xs x → 0 < f x → 0 < sums f xs
unfolding sums
summand-counts f [] x k h = elim k [ ]
summand-counts f (y ∷ xs) x first h = omega (arith, h)
summand-counts f (y ∷ xs) x (later k) h = omega (arith, summand-counts f xs x k h)

-- each choice has a partner among others
abbrev pub Partnered : (ℕ → View → View → Type 0) → ℕ → List Choice → List Choice → Type 0
Partnered R n A B = (c : Choice) → Has A c → 0 < c.times → (d : Choice) × Has B d × (0 < d.times) × R n c.values d.values

abbrev pub AllPartnered : (ℕ → View → View → Type 0) → ℕ → List (List Choice) → List (List Choice) → Type 0
AllPartnered R n [] [] = Unit {0}
AllPartnered R n [] (B ∷ Bs) = ⊥
AllPartnered R n (A ∷ As) [] = ⊥
AllPartnered R n (A ∷ As) (B ∷ Bs) = Partnered R n A B × AllPartnered R (suc n) As Bs

-- place by place
abbrev pub Along : (ℕ → View → View → Type 0) → ℕ → List View → List View → Type 0
Along R n [] [] = Unit {0}
Along R n [] (w ∷ ws) = ⊥
Along R n (v ∷ vs) [] = ⊥
Along R n (v ∷ vs) (w ∷ ws) = R n v w × Along R (suc n) vs ws

first_factor : (a b : ℕ) → 0 < a * b → 0 < a
first_factor zero b h = absurd (omega (arith, h))
first_factor (suc a) b h = omega arith

second_factor : (a b : ℕ) → 0 < a * b → 0 < b
second_factor a zero h = absurd (omega (arith, h))
second_factor a (suc b) h = omega arith

both_factors : (a b : ℕ) → 0 < a → 0 < b → 0 < a * b
both_factors zero b h k = absurd (omega (arith, h))
both_factors (suc a) b h k = omega (arith, k)

-- what some combination of the one lists gives, some combination of their partners gives
pub exchanged : (R : ℕ → View → View → Type 0) (n : ℕ) (As Bs : List (List Choice)) (f g : List View → ℕ) → AllPartnered R n As Bs
    → ((vs ws : List View) → Along R n vs ws → 0 < f vs → 0 < g ws) → 0 < W As f → 0 < W Bs g
unfolding W
exchanged R n [] [] f g p k h = k [] [] tt h
exchanged R n [] (B ∷ Bs) f g p k h = absurd p
exchanged R n (A ∷ As) [] f g p k h = absurd p
exchanged R n (A ∷ As) (B ∷ Bs) f g p k h =
    let s = some-summand (λ c. c.times * W As (λ vs. f (c.values ∷ vs))) A h in
    let o = p.0 s.0 s.1 (first_factor _ _ s.2) in
    let t : 0 < W Bs (λ ws. g (o.0.values ∷ ws))
    = exchanged R (suc n) As Bs (λ vs. f (s.0.values ∷ vs)) (λ ws. g (o.0.values ∷ ws)) p.1 (λ vs ws l. k (s.0.values ∷ vs) (o.0.values ∷ ws) (o.3, l)) (second_factor _ _ s.2) in
    summand-counts (λ c. c.times * W Bs (λ vs. g (c.values ∷ vs))) B o.0 o.1 (both_factors _ _ o.2 t)

pub has-flat_map : {X Y : Type 0} (f : X → List Y) (xs : List X) (x : X) (y : Y) → Has xs x → Has (f x) y → Has (flat_map f xs) y
has-flat_map f [] x y k h = elim k [ ]
has-flat_map f (z ∷ xs) x y first h = Has-append_left (flat_map f xs) h
has-flat_map f (z ∷ xs) x y (later k) h = Has-append_right (f z) (has-flat_map f xs x y k h)

pub flat_map-from : {X Y : Type 0} (f : X → List Y) (xs : List X) (y : Y) → Has (flat_map f xs) y → (x : X) × Has xs x × Has (f x) y
flat_map-from f [] y h = elim h [ ]
flat_map-from f (z ∷ xs) y h = elim (Has-append_cases (f z) (flat_map f xs) y h) [
  | inl k ↦ (z, first, k)
  | inr k ↦ let r = flat_map-from f xs y k in (r.0, later r.1, r.2)
]

pub has-upto : (n i : ℕ) → i < n → Has (upto (λ i. i) n) i
has-upto zero i h = absurd (omega (arith, h))
has-upto (suc n) i h = elim (last i n h) [
  | inl e ↦ subst (λ k. Has (upto (λ i. i) (suc n)) k) (sym e) (Has-append_right (upto (λ i. i) n) first)
  | inr l ↦ Has-append_left (n ∷ []) (has-upto n i l)
]
  where
    last : (k n : ℕ) → k < suc n → (k ≡ n) ⊎ (k < n)
    last k n h = grind arith

pub upto-below : (n i : ℕ) → Has (upto (λ i. i) n) i → i < n
upto-below zero i h = elim h [ ]
upto-below (suc n) i h = elim (Has-append_cases (upto (λ i. i) n) (n ∷ []) i h) [
  | inl k ↦ omega (arith, upto-below n i k)
  | inr k ↦ elim (has_cases n i [] k) [ inl e ↦ omega (arith, e) | inr l ↦ elim l [ ] ]
]
