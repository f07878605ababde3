-- At which numbers one attribute lies above another.
use Rattle.std.proofs.Common.{◌≡◌, ℕ, zero, suc, ◌+◌, ◌<◌, ◌⊎◌, inl, inr, List, [], ◌∷◌, refl, sym, subst, arith, length, ℤ, ◌<ℤ◌, slice_index_or, take, All}
use Rattle.std.proofs.lemmas.Int.{ints}
use Rattle.arrayvec.specs.ArrayVec.{ArrayVec as Items}
use Rattle.sem_query.specs.declared.atom.Attr.{Attr}
use Rattle.fam_motions.specs.Values.{valued}
use Rattle.fam_motions.specs.Apart.{values_at, Rises, Falls, Differ}

-- up to a number
abbrev pub RisesTo : List Attr → List (Items ℤ) → Attr → Attr → ℕ → Type 0
RisesTo attrs all above below n = (i j : ℕ) → i < j → j < n → valued attrs (values_at all i) below <ℤ valued attrs (values_at all j) above

abbrev pub FallsTo : List Attr → List (Items ℤ) → Attr → Attr → ℕ → Type 0
FallsTo attrs all above below n = (i j : ℕ) → i < j → j < n → valued attrs (values_at all j) below <ℤ valued attrs (values_at all i) above

at-front : (all : List (Items ℤ)) (i n : ℕ) (d : Items ℤ) → i < n → i < length all → slice_index_or (take n all) i d ≡ slice_index_or all i d
at-front [] i n d l m = absurd (omega (arith, m))
at-front (x ∷ all) i zero d l m = absurd (omega (arith, l))
at-front (x ∷ all) zero (suc n) d l m = refl
at-front (x ∷ all) (suc i) (suc n) d l m = at-front all i n d (omega (arith, l)) (omega (arith, m))

front-long : (all : List (Items ℤ)) (i n : ℕ) → i < n → i < length all → i < length (take n all)
front-long [] i n l m = absurd (omega (arith, m))
front-long (x ∷ all) i zero l m = absurd (omega (arith, l))
front-long (x ∷ all) zero (suc n) l m = omega arith
front-long (x ∷ all) (suc i) (suc n) l m = let r = front-long all i n (omega (arith, l)) (omega (arith, m)) in omega (arith, r)

same-at : (all : List (Items ℤ)) (i : ℕ) (d e : Items ℤ) → i < length all → slice_index_or all i d ≡ slice_index_or all i e
same-at [] i d e l = absurd (omega (arith, l))
same-at (x ∷ all) zero d e l = refl
same-at (x ∷ all) (suc i) d e l = same-at all i d e (omega (arith, l))

last-or : (j n : ℕ) → j < n + 1 → (j < n) ⊎ (j ≡ n)
last-or j n l = grind (arith, l)

module _ (attrs : List Attr) (all : List (Items ℤ)) (above below : Attr) (n : ℕ) (there : n < length all) (d : Items ℤ) where
  pub rises-more : (value : ℤ) → value ≡ valued attrs (slice_index_or all n d).items above → All (λ (xs : Items ℤ). valued attrs xs.items below <ℤ value) (take n all)
      → RisesTo attrs all above below n → RisesTo attrs all above below (n + 1)
  rises-more value is under r i j l m = elim (last-or j n m) [
    | inl k ↦ r i j l k
    | inr e ↦ (
        let k : i < n = omega (arith, l, e) in
        let o : i < length all = omega (arith, k, there) in
        let u : valued attrs (slice_index_or (take n all) i (record { items = [] })).items below <ℤ value = under i (record { items = [] }) (front-long all i n k o) in
        let w : valued attrs (values_at all i) below <ℤ value = subst (λ (xs : Items ℤ). valued attrs xs.items below <ℤ value) (at-front all i n (record { items = [] }) k o) u in
        let z : valued attrs (values_at all i) below <ℤ valued attrs (slice_index_or all n d).items above = subst (λ z. valued attrs (values_at all i) below <ℤ z) is w in
        subst (λ (p : ℕ). valued attrs (values_at all i) below <ℤ valued attrs (values_at all p) above) (sym e)
        (subst (λ (xs : Items ℤ). valued attrs (values_at all i) below <ℤ valued attrs xs.items above) (same-at all n d (record { items = [] }) there) z))
  ]

  pub falls-more : (value : ℤ) → value ≡ valued attrs (slice_index_or all n d).items below → All (λ (xs : Items ℤ). value <ℤ valued attrs xs.items above) (take n all)
      → FallsTo attrs all above below n → FallsTo attrs all above below (n + 1)
  falls-more value is over r i j l m = elim (last-or j n m) [
    | inl k ↦ r i j l k
    | inr e ↦ (
        let k : i < n = omega (arith, l, e) in
        let o : i < length all = omega (arith, k, there) in
        let u : value <ℤ valued attrs (slice_index_or (take n all) i (record { items = [] })).items above = over i (record { items = [] }) (front-long all i n k o) in
        let w : value <ℤ valued attrs (values_at all i) above = subst (λ (xs : Items ℤ). value <ℤ valued attrs xs.items above) (at-front all i n (record { items = [] }) k o) u in
        let z : valued attrs (slice_index_or all n d).items below <ℤ valued attrs (values_at all i) above = subst (λ z. z <ℤ valued attrs (values_at all i) above) is w in
        subst (λ (p : ℕ). valued attrs (values_at all p) below <ℤ valued attrs (values_at all i) above) (sym e)
        (subst (λ (xs : Items ℤ). valued attrs xs.items below <ℤ valued attrs (values_at all i) above) (same-at all n d (record { items = [] }) there) z))
  ]

sooner : (i j : ℕ) → (i < j) ⊎ ((j < i) ⊎ (i ≡ j))
sooner i j = grind arith

not-less : (x y : ℤ) → x ≡ y → x <ℤ y → ⊥
not-less x y e l = omega (arith, ints, e, l)

-- an attribute that rises, or falls, has another value at each number
pub rises-differ : (attrs : List Attr) (all : List (Items ℤ)) (a : Attr) → Rises attrs all a a → Differ (length all) (λ i. valued attrs (values_at all i)) a
rises-differ attrs all a r i j l m e = elim (sooner i j) [
  | inl k ↦ absurd (not-less _ _ e (r i j k m))
  | inr o ↦ elim o [
    | inl k ↦ absurd (not-less _ _ (sym e) (r j i k l))
    | inr k ↦ k
  ]
]

pub falls-differ : (attrs : List Attr) (all : List (Items ℤ)) (a : Attr) → Falls attrs all a a → Differ (length all) (λ i. valued attrs (values_at all i)) a
falls-differ attrs all a r i j l m e = elim (sooner i j) [
  | inl k ↦ absurd (not-less _ _ (sym e) (r i j k m))
  | inr o ↦ elim o [
    | inl k ↦ absurd (not-less _ _ e (r j i k l))
    | inr k ↦ k
  ]
]
