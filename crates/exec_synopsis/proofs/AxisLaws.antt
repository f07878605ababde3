-- The place of a row, side by side, while it is in range.
use Rattle.std.proofs.Common.{◌≡◌, ◌≢◌, ℕ, zero, suc, ◌+◌, ◌*◌, ◌<◌, ◌≤◌, ◌&&◌, not, Bool, true, false, List, [], ◌∷◌, ◌++◌, map, length, drop, All, append_assoc, append-nil, length-append, get_or, refl, sym, ap, ◌∙◌, subst, arith, ℤ, pos, ◌+ℤ◌, ◌-ℤ◌, ◌≤ℤ◌, int_lt}
use Rattle.std.specs.Prelude.{nat_abs}
use Rattle.std.specs.List.{list_all}
use Rattle.std.proofs.lemmas.Int.{ints}
use Rattle.std.proofs.Math.Nat.{mul-le-mul_right}
use Rattle.std.proofs.lemmas.List.Elements.{All-push}
use Rattle.std.proofs.lemmas.List.{drop_more, drop_all, get_or-map, length-map}
use Rattle.sem_query.specs.declared.plan.Dim.{Dim}
use Rattle.sem_query.specs.Boxes.{dim_size, box_size, AreFull}
use Rattle.sem_query.specs.Admission.{in_range}
use Rattle.sem_query.specs.Cells.{row_place}
use Rattle.sem_query.proofs.BoxLaws.{range-inside, range-below, step-back, step-on}
use Rattle.exec_synopsis.proofs.PlaceLaws.{full-positive}
use Rattle.exec_synopsis.specs.declared.axes.Axis.{Axis}
use Rattle.exec_synopsis.specs.Axes.{axis_of, IsShort, AreAxes}

within : (x lo hi : ℤ) → lo ≤ℤ x → x ≤ℤ hi → (not (int_lt x lo) && not (int_lt hi x)) ≡ true
within x lo hi l h = by (int_lt x lo) refl
  where
    then : (t : Bool) → int_lt hi x ≡ t → not t ≡ true
    then true e = absurd (omega (arith, ints, e, h))
    then false e = refl

    by : (t : Bool) → int_lt x lo ≡ t → (not t && not (int_lt hi x)) ≡ true
    by true e = absurd (omega (arith, ints, e, l))
    by false e = then (int_lt hi x) refl

-- a value so far above the least one is in range
pub in-axis : (v : ℕ → ℤ) (d : Dim) (n : ℕ) → n < dim_size d → v d.attr.column ≡ d.lo +ℤ pos n → in_range v d ≡ true
in-axis v d n l e =
    let low : d.lo ≤ℤ v d.attr.column = omega (arith, ints, e) in
    let high : v d.attr.column ≤ℤ d.hi = (let b = range-below d.lo d.hi n l in omega (arith, ints, e, b)) in
    within (v d.attr.column) d.lo d.hi low high

-- what is no such value is not
pub beside : (v : ℕ → ℤ) (d : Dim) → ((n : ℕ) → n < dim_size d → v d.attr.column ≢ d.lo +ℤ pos n) → in_range v d ≡ false
beside v d h = low (int_lt (v d.attr.column) d.lo) refl
  where
    high : d.lo ≤ℤ v d.attr.column → (t : Bool) → int_lt d.hi (v d.attr.column) ≡ t → not t ≡ false
    high l true e = refl
    high l false e =
        let m : v d.attr.column ≤ℤ d.hi = omega (arith, ints, e) in
        absurd (h (nat_abs (v d.attr.column -ℤ d.lo)) (range-inside d.lo d.hi (v d.attr.column) l m) (sym (step-back d.lo (v d.attr.column) l)))

    low : (t : Bool) → int_lt (v d.attr.column) d.lo ≡ t → (not t && not (int_lt d.hi (v d.attr.column))) ≡ false
    low true e = refl
    low false e = high (omega (arith, ints, e)) (int_lt d.hi (v d.attr.column)) refl

-- the row is in the ranges of the first i dims, and a is its place in their box
pub record SoFar (v : ℕ → ℤ) (dims : List Dim) (i a : ℕ) : Type 0 where
  pub place : a * box_size (drop i dims) + row_place (drop i dims) v ≡ row_place dims v
  pub room : (a + 1) * box_size (drop i dims) ≤ box_size dims
  pub inside : list_all (in_range v) (drop i dims) ≡ list_all (in_range v) dims
  pub full : AreFull (drop i dims)

pub start : (v : ℕ → ℤ) (dims : List Dim) → AreFull dims → SoFar v dims 0 0
start v dims full = record { place = omega arith; room = omega arith; inside = refl; full = full }

next : (v : ℕ → ℤ) (dims : List Dim) (i a : ℕ) (d : Dim) (n : ℕ) → drop i dims ≡ d ∷ drop (i + 1) dims → SoFar v dims i a → n < dim_size d → v d.attr.column ≡ d.lo +ℤ pos n → SoFar v dims (i + 1) (a * dim_size d + n)
next v dims i a d n m so l e = record {
  place = shape a (dim_size d) n (box_size (drop (i + 1) dims)) (row_place (drop (i + 1) dims) v) ∙ ap (λ k. a * (dim_size d * box_size (drop (i + 1) dims)) + (k * box_size (drop (i + 1) dims) + row_place (drop (i + 1) dims) v)) (sym is) ∙ subst (λ ds. a * box_size ds + row_place ds v ≡ row_place dims v) m so.place;
  room = wide a (dim_size d) n (box_size (drop (i + 1) dims)) (box_size dims) l (subst (λ ds. (a + 1) * box_size ds ≤ box_size dims) m so.room);
  inside = ap (λ b. b && list_all (in_range v) (drop (i + 1) dims)) (sym (in-axis v d n l e)) ∙ subst (λ ds. list_all (in_range v) ds ≡ list_all (in_range v) dims) m so.inside;
  full = (subst AreFull m so.full).1;
}
  where
    is : nat_abs (v d.attr.column -ℤ d.lo) ≡ n
    is = ap (λ x. nat_abs (x -ℤ d.lo)) e ∙ step-on d.lo n

    shape : (a D n B P : ℕ) → (a * D + n) * B + P ≡ a * (D * B) + (n * B + P)
    shape a D n B P = omega arith

    wide : (a D n B T : ℕ) → n < D → (a + 1) * (D * B) ≤ T → (a * D + n + 1) * B ≤ T
    wide a D n B T l h = let w : (a * D + n + 1) * B ≤ (a * D + D) * B = mul-le-mul_right B (omega (arith, l)) in omega (arith, w, h)

below_room : (x B T : ℕ) → 0 < B → (x + 1) * B ≤ T → x < T
below_room x zero T p h = absurd (omega (arith, p))
below_room x (suc B) T p h = omega (arith, h)

-- at the end a is the place of the row in the box
pub at-end : (v : ℕ → ℤ) (dims : List Dim) (i a : ℕ) → length dims ≤ i → SoFar v dims i a → (list_all (in_range v) dims ≡ true) × (a ≡ row_place dims v) × (a < box_size dims)
at-end v dims i a l so =
    let m = drop_all i dims l in
    let place = subst (λ ds. a * box_size ds + row_place ds v ≡ row_place dims v) m so.place in
    let room = subst (λ ds. (a + 1) * box_size ds ≤ box_size dims) m so.room in
    (sym (subst (λ ds. list_all (in_range v) ds ≡ list_all (in_range v) dims) m so.inside), omega (arith, place), omega (arith, room))

-- the side of a number is that of the dim of that number
module _ (v : ℕ → ℤ) (dims : List Dim) (axes : List Axis) (are : axes ≡ map axis_of dims) (i a : ℕ) (so : SoFar v dims i a) (s o : Axis) (below : i < length axes) (at_i : s ≡ get_or axes i o) where
  as_many : length axes ≡ length dims
  as_many = ap length are ∙ length-map dims axis_of

  here : i < length dims
  here = omega (arith, below, as_many)

  abbrev none : Dim
  none = record { attr = record { stream = 0; column = 0 }; lo = pos 0; hi = pos 0 }

  abbrev dim : Dim
  dim = get_or dims i none

  is_axis : s ≡ axis_of dim
  is_axis = at_i ∙ ap (λ xs. get_or xs i o) are ∙ get_or-map axis_of dims i none o here

  first : drop i dims ≡ dim ∷ drop (i + 1) dims
  first = drop_more dims i none here

  pub further : (n : ℕ) → n < s.size → v s.column ≡ s.lo +ℤ pos n → SoFar v dims (i + 1) (a * s.size + n)
  further n l e =
      subst (λ (t : Axis). n < t.size → v t.column ≡ t.lo +ℤ pos n → SoFar v dims (i + 1) (a * t.size + n)) (sym is_axis)
      (λ m f. next v dims i a dim n first so m f) l e

  pub out : ((n : ℕ) → n < s.size → v s.column ≢ s.lo +ℤ pos n) → list_all (in_range v) dims ≡ false
  out h =
      let no : in_range v dim ≡ false = beside v dim (subst (λ (t : Axis). (n : ℕ) → n < t.size → v t.column ≢ t.lo +ℤ pos n) is_axis h) in
      sym so.inside ∙ ap (list_all (in_range v)) first ∙ ap (λ b. b && list_all (in_range v) (drop (i + 1) dims)) no

  pub fits : (n : ℕ) → n < s.size → v s.column ≡ s.lo +ℤ pos n → a * s.size + n < box_size dims
  fits n l e = let f = further n l e in below_room (a * s.size + n) (box_size (drop (i + 1) dims)) (box_size dims) (full-positive (drop (i + 1) dims) f.full) f.room

-- the first i dims are listed, and their box has so many cells
pub record Listed (dims : List Dim) (axes : List Axis) (i cells : ℕ) : Type 0 where
  pub many : length axes ≡ i
  pub are : axes ++ map axis_of (drop i dims) ≡ map axis_of dims
  pub box : cells * box_size (drop i dims) ≡ box_size dims
  pub full : AreFull (drop i dims) → AreFull dims
  pub short : All IsShort axes

pub one-listed : (dims : List Dim) (axes more : List Axis) (i cells count : ℕ) (d o : Dim) (s : Axis) → i < length dims → d ≡ get_or dims i o → Listed dims axes i cells
    → s ≡ axis_of d → d.lo ≤ℤ d.hi → IsShort s → count ≡ cells * s.size → more ≡ axes ++ s ∷ [] → Listed dims more (i + 1) count
one-listed dims axes more i cells count d o s l at_i so is full short product longer =
    subst (λ (xs : List Axis). Listed dims xs (i + 1) count) (sym longer) record {
      many = length-append axes (s ∷ []) ∙ ap (λ n. n + 1) so.many;
      are = append_assoc axes (s ∷ []) (map axis_of (drop (i + 1) dims)) ∙ ap (λ (t : Axis). axes ++ t ∷ map axis_of (drop (i + 1) dims)) is ∙ ap (λ ds. axes ++ map axis_of ds) (sym first) ∙ so.are;
      box = size ∙ so.box;
      full = λ h. so.full (subst AreFull (sym first) (full, h));
      short = All-push IsShort axes s so.short short;
    }
  where
    first : drop i dims ≡ d ∷ drop (i + 1) dims
    first = drop_more dims i o l ∙ ap (λ (x : Dim). x ∷ drop (i + 1) dims) (sym at_i)

    shape : (c D B : ℕ) → c * D * B ≡ c * (D * B)
    shape c D B = omega arith

    size : count * box_size (drop (i + 1) dims) ≡ cells * box_size (drop i dims)
    size = ap (λ n. n * box_size (drop (i + 1) dims)) (product ∙ ap (λ (t : Axis). cells * t.size) is) ∙ shape cells (dim_size d) (box_size (drop (i + 1) dims)) ∙ ap (λ ds. cells * box_size ds) (sym first)
