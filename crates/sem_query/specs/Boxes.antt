-- Boxes: all combinations of one value of each dim, the place of each combination, and back.
use Rattle.std.specs.Prelude.{ℕ, zero, suc, ◌+◌, ◌*◌, ◌/◌, ◌%◌, ◌<◌, ◌^◌, List, [], ◌∷◌, map, ℤ, pos, ◌+ℤ◌, ◌-ℤ◌, ◌≤ℤ◌, if◌then◌else◌, int_lt, nat_abs}
use Rattle.std.specs.List.{flat_map}
use Rattle.sem_query.specs.declared.plan.Dim.{Dim}

-- how many integers there are from the least to the greatest
abbrev pub range_size : ℤ → ℤ → ℕ
range_size lo hi = if int_lt hi lo then 0 else nat_abs (hi -ℤ lo) + 1

-- how many values a dim has
abbrev pub dim_size : Dim → ℕ
dim_size d = range_size d.lo d.hi

-- how many combinations of values the dims have, 1 where there are none
abbrev pub box_size : List Dim → ℕ
box_size [] = 1
box_size (d ∷ dims) = dim_size d * box_size dims

-- so many integers from the first on
abbrev pub values_from : ℤ → ℕ → List ℤ
values_from first zero = []
values_from first (suc n) = first ∷ values_from (first +ℤ pos 1) n

-- all combinations of one value of each dim, the last dim running fastest
abbrev pub box : List Dim → List (List ℤ)
box [] = [] ∷ []
box (d ∷ dims) = flat_map (λ x. map (λ xs. x ∷ xs) (box dims)) (values_from d.lo (dim_size d))

-- the place of a combination in its box
abbrev pub place_of : List Dim → List ℤ → ℕ
place_of [] xs = 0
place_of (d ∷ dims) [] = 0
place_of (d ∷ dims) (x ∷ xs) = nat_abs (x -ℤ d.lo) * box_size dims + place_of dims xs

-- the combination at a place
abbrev pub values_at : List Dim → ℕ → List ℤ
values_at [] place = []
values_at (d ∷ dims) place = (d.lo +ℤ pos (place / box_size dims)) ∷ values_at dims (place % box_size dims)

-- one value for each dim, within its range
abbrev pub AreInside : List Dim → List ℤ → Type 0
AreInside [] [] = Unit {0}
AreInside [] (x ∷ xs) = ⊥
AreInside (d ∷ dims) [] = ⊥
AreInside (d ∷ dims) (x ∷ xs) = (d.lo ≤ℤ x) × (x ≤ℤ d.hi) × AreInside dims xs

-- no dim is empty
abbrev pub AreFull : List Dim → Type 0
AreFull [] = Unit {0}
AreFull (d ∷ dims) = (d.lo ≤ℤ d.hi) × AreFull dims

-- the sizes of the box, and of the boxes of its last dims, are below 2^32
abbrev pub AreNumbered : List Dim → Type 0
AreNumbered [] = Unit {0}
AreNumbered (d ∷ dims) = (dim_size d < 2 ^ 32) × (dim_size d * box_size dims < 2 ^ 32) × AreNumbered dims
