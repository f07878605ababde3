-- The dim values of an admitted row lie in its box, and its place there determines them.
use Rattle.std.proofs.Common.{◌≡◌, ℕ, ◌<◌, List, [], ◌∷◌, not, true, ◌&&◌, arith, ℤ, int_lt, ◌≤ℤ◌}
use Rattle.std.proofs.lemmas.Int.{ints}
use Rattle.std.specs.List.{list_all}
use Rattle.sem_query.specs.declared.plan.Dim.{Dim}
use Rattle.sem_query.specs.Boxes.{box_size, values_at, AreInside}
use Rattle.sem_query.specs.Admission.{in_range}
use Rattle.sem_query.specs.Cells.{row_place, dim_values}
use Rattle.sem_query.proofs.BoxLaws as Boxes
use Rattle.sem_laws.proofs.Tests.{and-left, and-right}

pub range_low : (x l u : ℤ) → (not (int_lt x l) && not (int_lt u x)) ≡ true → l ≤ℤ x
range_low x l u h = let g : not (int_lt x l) ≡ true = and-left _ _ h in grind (arith, ints)

pub range_high : (x l u : ℤ) → (not (int_lt x l) && not (int_lt u x)) ≡ true → x ≤ℤ u
range_high x l u h = let g : not (int_lt u x) ≡ true = and-right (not (int_lt x l)) (not (int_lt u x)) h in grind (arith, ints)

pub in-box : (dims : List Dim) (v : ℕ → ℤ) → list_all (in_range v) dims ≡ true → AreInside dims (dim_values dims v)
in-box [] v h = tt
in-box (d ∷ dims) v h =
    let r : in_range v d ≡ true = and-left _ _ h in
    (range_low _ d.lo d.hi r, range_high _ d.lo d.hi r, in-box dims v (and-right (in_range v d) _ h))

pub place-below : (dims : List Dim) (v : ℕ → ℤ) → list_all (in_range v) dims ≡ true → row_place dims v < box_size dims
place-below dims v h = Boxes.place-below dims (dim_values dims v) (in-box dims v h)

pub digits-place : (dims : List Dim) (v : ℕ → ℤ) → list_all (in_range v) dims ≡ true
    → values_at dims (row_place dims v) ≡ dim_values dims v
digits-place dims v h = Boxes.values-place dims (dim_values dims v) (in-box dims v h)
