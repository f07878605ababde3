-- A query within the limits has at most 114 pairs: 8 that soft comparisons name, 12 attributes with 6 constants, and among 12
-- columns, of which at most 8 are of one stream, at most 28 + 6 pairs of one stream.
use Rattle.std.proofs.Common.{◌≡◌, ℕ, zero, suc, ◌+◌, ◌-◌, ◌*◌, ◌<◌, ◌≤◌, Bool, true, false, cond, ◌&&◌, ◌||◌, ◌⊎◌, inl, inr, List, [], ◌∷◌, ◌++◌, length, map, filter, ℤ, nat_lt, nat_le, nat_eq, refl, sym, ◌∙◌, ap, subst, arith, length-append}
use Rattle.std.specs.List.{flat_map}
use Rattle.std.proofs.lemmas.List.{length-map}
use Rattle.std.proofs.lemmas.List.Elements.{All-contains}
use Rattle.std.proofs.lemmas.Bool.Decides.{nat_tests}
use Rattle.sem_query.specs.declared.atom.Attr.{Attr}
use Rattle.sem_query.specs.declared.atom.Atom.{Atom}
use Rattle.sem_query.specs.declared.atom.Element.{Element}
use Rattle.sem_query.specs.declared.atom.Element.TheVariants as element
use Rattle.sem_query.specs.declared.part.Pair.{Pair}
use Rattle.sem_query.specs.Query.{QueryValue, attr_lt, attrs_of, consts_of, is_soft, IsColumn, IsWithinLimits}
use Rattle.sem_query.specs.Parts.{same_stream, pairs_among, pair, pair_of, soft_pair, pairs}
use Rattle.sem_query.proofs.Has.{Has, first, later, Contains-from_has}
use Rattle.sem_query.proofs.Unique.{Ascends, more}
use Rattle.sem_query.proofs.Ascending.{Ascends-attrs_of}
use Rattle.sem_query.proofs.Once.{once_fewer}

-- how many columns are of a stream
abbrev of_stream : ℕ → List Attr → ℕ
of_stream s xs = length (filter (λ x. nat_eq s x.stream) xs)

-- how many pairs of one stream there are
inner : List Attr → ℕ
inner [] = 0
inner (a ∷ rest) = of_stream a.stream rest + inner rest

of_stream-cons : (s : ℕ) (x : Attr) (xs : List Attr) → of_stream s (x ∷ xs) ≡ cond (nat_eq s x.stream) (suc (of_stream s xs)) (of_stream s xs)
of_stream-cons s x xs = by (nat_eq s x.stream) where
  by : (b : Bool) → length (cond {A = List Attr} b (x ∷ filter (λ x. nat_eq s x.stream) xs) (filter (λ x. nat_eq s x.stream) xs)) ≡ cond b (suc (of_stream s xs)) (of_stream s xs)
  by true = refl
  by false = refl

of_stream-same : (s : ℕ) (x : Attr) (xs : List Attr) → s ≡ x.stream → of_stream s (x ∷ xs) ≡ suc (of_stream s xs)
of_stream-same s x xs e = let t : nat_eq s x.stream ≡ true = grind (arith, nat_tests) in of_stream-cons s x xs ∙ ap (λ b. cond b (suc (of_stream s xs)) (of_stream s xs)) t

of_stream-other : (s : ℕ) (x : Attr) (xs : List Attr) → nat_eq s x.stream ≡ false → of_stream s (x ∷ xs) ≡ of_stream s xs
of_stream-other s x xs t = of_stream-cons s x xs ∙ ap (λ b. cond b (suc (of_stream s xs)) (of_stream s xs)) t

test : (b : Bool) → (b ≡ true) ⊎ (b ≡ false)
test true = inl refl
test false = inr refl

length-pairs_among : (xs : List Attr) (ks : List ℤ) → length ks ≤ 6 → length (pairs_among xs ks) ≤ 6 * length xs + inner xs
unfolding inner
length-pairs_among [] ks h = omega arith
length-pairs_among (a ∷ rest) ks h =
    let with_consts : List Pair = map (λ k. record { left = a; right = element.Const k }) ks in
    let with_attrs : List Pair = map (λ b. record { left = a; right = element.Attr b }) (filter (same_stream a) rest) in
    let one : length with_consts ≡ length ks = simp length-map in
    let two : length with_attrs ≡ of_stream a.stream rest = simp length-map in
    let sum : length (with_consts ++ with_attrs ++ pairs_among rest ks) ≡ length with_consts + length with_attrs + length (pairs_among rest ks) =
    length-append (with_consts ++ with_attrs) (pairs_among rest ks) ∙ ap (λ n. n + length (pairs_among rest ks)) (length-append with_consts with_attrs) in
    omega (arith, h, one, two, sum, length-pairs_among rest ks h)

-- pairs among n
triangle : ℕ → ℕ
triangle zero = 0
triangle (suc n) = n + triangle n

-- the most pairs of one stream among n columns
most : ℕ → ℕ
most n = cond (nat_lt n 9) (triangle n) (28 + triangle (n - 8))

-- p holds of each number below n
each_below : ℕ → (ℕ → Bool) → Bool
each_below zero p = true
each_below (suc n) p = p n && each_below n p

below : (n : ℕ) (p : ℕ → Bool) → each_below n p ≡ true → (k : ℕ) → k < n → p k ≡ true
unfolding each_below
below zero p e k l = absurd (omega arith)
below (suc n) p e k l = by (p n) (each_below n p) e refl refl (λ g m. below n p g k m) where
  now_or_before : (k < n) ⊎ (k ≡ n)
  now_or_before = grind arith

  by : (b c : Bool) → (b && c) ≡ true → p n ≡ b → each_below n p ≡ c → (each_below n p ≡ true → k < n → p k ≡ true) → p k ≡ true
  by true true d f g before = elim now_or_before [ inl m ↦ before g m | inr m ↦ subst (λ j. p j ≡ true) (sym m) f ]
  by true false d f g before = absurd cc
  by false c d f g before = absurd cc

all_fit : each_below 9 (λ m. each_below 13 (λ r. nat_lt 12 (m + r) || nat_le (triangle m + most r) (most (m + r)))) ≡ true
unfolding each_below most triangle
all_fit = refl

-- a first stream of m columns, and r columns after it
fits : (m r : ℕ) → m < 9 → m + r < 13 → triangle m + most r ≤ most (m + r)
fits m r lm l =
    let row : each_below 13 (λ r. nat_lt 12 (m + r) || nat_le (triangle m + most r) (most (m + r))) ≡ true =
    below 9 (λ m. each_below 13 (λ r. nat_lt 12 (m + r) || nat_le (triangle m + most r) (most (m + r)))) all_fit m lm in
    let cell : (nat_lt 12 (m + r) || nat_le (triangle m + most r) (most (m + r))) ≡ true = below 13 _ row r (omega arith) in
    grind (arith, nat_tests)

all_few : each_below 13 (λ n. nat_le (most n) 34) ≡ true
unfolding each_below most triangle
all_few = refl

most-few : (n : ℕ) → n < 13 → most n ≤ 34
most-few n l = let cell : nat_le (most n) 34 ≡ true = below 13 (λ n. nat_le (most n) 34) all_few n l in grind (arith, nat_tests)

triangle-suc : (n : ℕ) → triangle (suc n) ≡ n + triangle n
unfolding triangle
triangle-suc n = refl

triangle-one : triangle 1 ≡ 0
unfolding triangle
triangle-one = refl

-- columns of one stream that ascend from low on are at most 8 - low
one_stream : (s low : ℕ) (xs : List Attr) → Ascends attr_lt xs → ((x : Attr) → Has xs x → x.column < 8) → ((x : Attr) → Has xs x → s ≡ x.stream → low ≤ x.column) → low ≤ 8 → of_stream s xs + low ≤ 8
one_stream s low [] a columns from l = omega arith
one_stream s low (x ∷ xs) (more p a) columns from l = elim (test (nat_eq s x.stream)) [
  | inl t ↦
      let e : s ≡ x.stream = grind (arith, nat_tests) in
      let m : low ≤ x.column = from x first e in
      let n : x.column < 8 = columns x first in
      let higher : (y : Attr) → Has xs y → s ≡ y.stream → suc x.column ≤ y.column = λ y i f. let q : attr_lt x y ≡ true = p y i in grind (arith, nat_tests) in
      let rest : of_stream s xs + suc x.column ≤ 8 = one_stream s (suc x.column) xs a (λ y i. columns y (later i)) higher (omega arith) in
      omega (arith, of_stream-same s x xs e, rest, m)
  | inr t ↦ omega (arith, of_stream-other s x xs t, one_stream s low xs a (λ y i. columns y (later i)) (λ y i f. from y (later i) f) l)
]

-- a stream that stands before all others has no column among them
no_more : (s : ℕ) (xs : List Attr) → ((x : Attr) → Has xs x → s < x.stream) → of_stream s xs ≡ 0
no_more s [] h = refl
no_more s (x ∷ xs) h = let l : s < x.stream = h x first in of_stream-other s x xs (grind (arith, nat_tests)) ∙ no_more s xs (λ y i. h y (later i))

-- the columns of the first stream, and the rest
first_run : (a : Attr) (rest : List Attr) → Ascends attr_lt (a ∷ rest) → ((x : Attr) → Has (a ∷ rest) x → x.column < 8) → length rest < 12 → (r : ℕ) × (length rest ≡ of_stream a.stream rest + r) × (inner (a ∷ rest) ≤ triangle (suc (of_stream a.stream rest)) + most r)
unfolding inner
first_run a [] h columns l = (0, refl, omega arith)
first_run a (b ∷ rest) (more p h) columns l =
    let under : (r : ℕ) × (length rest ≡ of_stream b.stream rest + r) × (inner (b ∷ rest) ≤ triangle (suc (of_stream b.stream rest)) + most r) = first_run b rest h (λ x i. columns x (later i)) (omega arith) in
    elim (test (nat_eq a.stream b.stream)) [
      | inl t ↦
          let e : a.stream ≡ b.stream = grind (arith, nat_tests) in
          let c : of_stream a.stream rest ≡ of_stream b.stream rest = ap (λ s. of_stream s rest) e in
          let d : of_stream a.stream (b ∷ rest) ≡ suc (of_stream b.stream rest) = of_stream-same a.stream b rest e ∙ ap suc c in
          let g : triangle (suc (of_stream a.stream (b ∷ rest))) ≡ suc (of_stream b.stream rest) + triangle (suc (of_stream b.stream rest)) = ap (λ n. triangle (suc n)) d ∙ triangle-suc (suc (of_stream b.stream rest)) in
          (under.0, omega (arith, d, under.1), omega (arith, d, g, under.2))
      | inr t ↦
          let z : of_stream a.stream (b ∷ rest) ≡ 0 = no_more a.stream (b ∷ rest) (after t) in
          let few : of_stream b.stream (b ∷ rest) + 0 ≤ 8 = one_stream b.stream 0 (b ∷ rest) h (λ x i. columns x (later i)) (λ x i e. omega arith) (omega arith) in
          let n : of_stream b.stream (b ∷ rest) ≡ suc (of_stream b.stream rest) = of_stream-same b.stream b rest refl in
          let room : triangle (suc (of_stream b.stream rest)) + most under.0 ≤ most (suc (of_stream b.stream rest) + under.0) = fits (suc (of_stream b.stream rest)) under.0 (omega (arith, few, n)) (omega (arith, under.1)) in
          (length (b ∷ rest), omega (arith, z), omega (arith, z, ap (λ n. triangle (suc n)) z, triangle-one, under.2, room, ap most (whole under.0 under.1)))
    ]
  where
    whole : (r : ℕ) → length rest ≡ of_stream b.stream rest + r → suc (of_stream b.stream rest) + r ≡ suc (length rest)
    whole r e = omega (arith, e)

    behind : Ascends attr_lt (b ∷ rest) → a.stream < b.stream → (x : Attr) → Has rest x → a.stream < x.stream
    behind (more q k) l x i = let m : attr_lt b x ≡ true = q x i in grind (arith, nat_tests)

    after : nat_eq a.stream b.stream ≡ false → (x : Attr) → Has (b ∷ rest) x → a.stream < x.stream
    after t x first = let q : attr_lt a b ≡ true = p b first in grind (arith, nat_tests)
    after t x (later i) =
        let q : attr_lt a b ≡ true = p b first in
        let lower : a.stream < b.stream = grind (arith, nat_tests) in
        behind h lower x i

few_inner : (xs : List Attr) → Ascends attr_lt xs → ((x : Attr) → Has xs x → x.column < 8) → length xs ≤ 12 → inner xs ≤ 34
unfolding inner
few_inner [] a columns l = omega arith
few_inner (x ∷ xs) a columns l =
    let run : (r : ℕ) × (length xs ≡ of_stream x.stream xs + r) × (inner (x ∷ xs) ≤ triangle (suc (of_stream x.stream xs)) + most r) = first_run x xs a columns (omega arith) in
    let few : of_stream x.stream (x ∷ xs) + 0 ≤ 8 = one_stream x.stream 0 (x ∷ xs) a columns (λ y i e. omega arith) (omega arith) in
    let n : of_stream x.stream (x ∷ xs) ≡ suc (of_stream x.stream xs) = of_stream-same x.stream x xs refl in
    let room : triangle (suc (of_stream x.stream xs)) + most run.0 ≤ most (suc (of_stream x.stream xs) + run.0) = fits (suc (of_stream x.stream xs)) run.0 (omega (arith, few, n)) (omega (arith, run.1)) in
    omega (arith, run.2, room, most-few (suc (of_stream x.stream xs) + run.0) (omega (arith, run.1)))

-- a query within the limits pairs its attributes at most 106 times
pub few_pairs : (q : QueryValue) → IsWithinLimits q → length (pairs_among (attrs_of q.atoms) (consts_of q.atoms)) ≤ 106
few_pairs q h =
    let columns : (x : Attr) → Has (attrs_of q.atoms) x → x.column < 8 = λ x i. (All-contains (IsColumn (length q.from)) (attrs_of q.atoms) x h.attrs (Contains-from_has (attrs_of q.atoms) x i)).column in
    let few : inner (attrs_of q.atoms) ≤ 34 = few_inner (attrs_of q.atoms) (Ascends-attrs_of q.atoms) columns h.few_attrs in
    omega (arith, few, length-pairs_among (attrs_of q.atoms) (consts_of q.atoms) h.few_consts, h.few_attrs)

one_at_most : (x y : Element) → length (pair_of x y) ≤ 1
one_at_most (element.Attr a) (element.Attr b) = by (attr_lt a b) (attr_lt b a)
  where
    by : (c d : Bool) → length (cond {A = List Pair} c (pair a (element.Attr b) ∷ []) (cond d (pair b (element.Attr a) ∷ []) [])) ≤ 1
    by true d = omega arith
    by false true = omega arith
    by false false = omega arith
one_at_most (element.Attr a) (element.Const k) = omega arith
one_at_most (element.Const k) (element.Attr a) = omega arith
one_at_most (element.Const j) (element.Const k) = omega arith

-- soft comparisons name at most one pair each
pub few_soft_pairs : (ts : List Atom) → length (flat_map soft_pair ts) ≤ length (filter (λ t. is_soft t.op) ts)
few_soft_pairs [] = omega arith
few_soft_pairs (t ∷ ts) = by (is_soft t.op) (few_soft_pairs ts)
  where
    by : (b : Bool) → length (flat_map soft_pair ts) ≤ length (filter (λ t. is_soft t.op) ts)
        → length (cond b (pair_of t.left t.right) [] ++ flat_map soft_pair ts) ≤ length (cond b (t ∷ filter (λ t. is_soft t.op) ts) (filter (λ t. is_soft t.op) ts))
    by true h = omega (arith, h, one_at_most t.left t.right, length-append (pair_of t.left t.right) (flat_map soft_pair ts))
    by false h = h

-- a query within the limits has at most 114 pairs
pub few_all : (q : QueryValue) → IsWithinLimits q → length (flat_map soft_pair q.atoms) + length (pairs_among (attrs_of q.atoms) (consts_of q.atoms)) ≤ 114
few_all q h = omega (arith, few_soft_pairs q.atoms, h.few_soft, few_pairs q h)

pub few_joined : (q : QueryValue) → IsWithinLimits q → length (flat_map soft_pair q.atoms ++ pairs_among (attrs_of q.atoms) (consts_of q.atoms)) ≤ 114
few_joined q h = omega (arith, few_all q h, length-append (flat_map soft_pair q.atoms) (pairs_among (attrs_of q.atoms) (consts_of q.atoms)))

-- a query within the limits has at most 106 pairs, and one more for each soft comparison
pub few_with_soft : (q : QueryValue) → IsWithinLimits q → length (pairs q) ≤ 106 + length (filter (λ t. is_soft t.op) q.atoms)
unfolding pairs
few_with_soft q h =
    omega (arith, once_fewer (flat_map soft_pair q.atoms ++ pairs_among (attrs_of q.atoms) (consts_of q.atoms)), length-append (flat_map soft_pair q.atoms) (pairs_among (attrs_of q.atoms) (consts_of q.atoms)), few_soft_pairs q.atoms, few_pairs q h)
