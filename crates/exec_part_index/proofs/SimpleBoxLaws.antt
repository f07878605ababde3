-- Where a row stands in a box of at most two dims.
use Rattle.std.proofs.Common.{◌≡◌, ℕ, ◌+◌, ◌*◌, ◌<◌, ◌^◌, get_or, true, List, [], ◌∷◌, length, ℤ, pos, ◌+ℤ◌, Option, Some, None, refl, sym, ap, subst, ◌∙◌, arith}
use Rattle.std.specs.List.{list_all}
use Rattle.std.specs.Option.{IfSome}
use Rattle.std.proofs.lemmas.List.{length-map}
use Rattle.std.proofs.lemmas.Option.{get_or_from_slice_get}
use Rattle.sem_query.specs.declared.plan.Dim.{Dim}
use Rattle.sem_query.specs.declared.plan.PartPlan.{PartPlan}
use Rattle.sem_query.specs.Boxes.{box_size}
use Rattle.sem_query.specs.Plan.{stream_at, dims_at}
use Rattle.sem_query.specs.Admission.{in_range}
use Rattle.sem_query.specs.Meaning.{by_column}
use Rattle.sem_query.specs.Cells.{row_place}
use Rattle.exec_synopsis.specs.declared.axes.Placement.{Placement}
use Rattle.exec_synopsis.specs.declared.axes.Placement.TheVariants.{Outside, Cell}
use Rattle.exec_synopsis.specs.Axes.{axis_of, IsAbove, is_inside, IsCell}
use Rattle.exec_synopsis.proofs.AxisLaws.{SoFar, start, at-end, further, out}
use Rattle.exec_part_index.specs.declared.shift.CellAt.{CellAt}
use Rattle.exec_part_index.specs.declared.simple_box.OneDimBox.{OneDimBox}
use Rattle.exec_part_index.specs.declared.simple_box.TwoDimBox.{TwoDimBox}
use Rattle.exec_part_index.specs.declared.simple_box.SimpleBox.{SimpleBox}
use Rattle.exec_part_index.specs.Shift.{placed}
use Rattle.exec_part_index.specs.PartEntry.{IsCellIn}
use Rattle.exec_part_index.specs.SimpleBox.{axis_in, IsOneDimBox, IsTwoDimBox, IsSimpleBox, IsInBox}
use Rattle.exec_part_index.proofs.Telling.{and-true}

module _ (part : PartPlan) (place : ℕ) (single : OneDimBox) (is : IsOneDimBox part place single) (row : List ℤ) where
  begun : SoFar (by_column row) (dims_at part place) 0 0
  begun = start (by_column row) (dims_at part place) is.axes.full

  one : length (dims_at part place) ≡ 1
  one = sym (ap length is.axes.are ∙ length-map (dims_at part place) axis_of)

  -- a row whose value is out of range is not admitted
  pub outside : IsAbove (by_column row single.range.column) (axis_in single.range) None → IsInBox part place row Outside
  outside h = record {
    inside = sym (out (by_column row) (dims_at part place) (axis_in single.range ∷ []) is.axes.are 0 0 begun (axis_in single.range) (axis_in single.range) (omega arith) refl h);
    cell = tt;
  }

  -- else its cell stands so far behind the first one
  module _ (n : ℕ) (below : n < single.range.size) (above : by_column row single.range.column ≡ single.range.lo +ℤ pos n) where
    ended : (list_all (in_range (by_column row)) (dims_at part place) ≡ true) × (0 * single.range.size + n ≡ row_place (dims_at part place) (by_column row)) × (0 * single.range.size + n < box_size (dims_at part place))
    ended = at-end (by_column row) (dims_at part place) 1 (0 * single.range.size + n) (omega (arith, one)) (further (by_column row) (dims_at part place) (axis_in single.range ∷ []) is.axes.are 0 0 begun (axis_in single.range) (axis_in single.range) (omega arith) refl n below above)

    pub number_fits : single.base + n < 2 ^ 32
    number_fits = let few = is.few in let room = ended.2 in omega (arith, few, room)

    pub in_line : IsInBox part place row (Cell (single.base + n) single.kind)
    in_line =
        let base = is.base in
        let at = ended.1 in
        let own : single.base + n ≡ (stream_at part place).base + row_place (dims_at part place) (by_column row) = omega (arith, base, at) in
        record { inside = sym ended.0; cell = (is.several, own, is.kind) }

module _ (part : PartPlan) (place : ℕ) (double : TwoDimBox) (is : IsTwoDimBox part place double) (row : List ℤ) where
  two : length (dims_at part place) ≡ 2
  two = sym (ap length is.axes.are ∙ length-map (dims_at part place) axis_of)

  begun_two : SoFar (by_column row) (dims_at part place) 0 0
  begun_two = start (by_column row) (dims_at part place) is.axes.full

  -- a row whose value of the first dim is out of range is not admitted
  pub outside_first : IsAbove (by_column row double.first.column) (axis_in double.first) None → IsInBox part place row Outside
  outside_first h = record {
    inside = sym (out (by_column row) (dims_at part place) (axis_in double.first ∷ (axis_in double.second ∷ [])) is.axes.are 0 0 begun_two (axis_in double.first) (axis_in double.first) (omega arith) refl h);
    cell = tt;
  }

  module _ (k : ℕ) (low : k < double.first.size) (high : by_column row double.first.column ≡ double.first.lo +ℤ pos k) where
    lined : SoFar (by_column row) (dims_at part place) 1 (0 * double.first.size + k)
    lined = further (by_column row) (dims_at part place) (axis_in double.first ∷ (axis_in double.second ∷ [])) is.axes.are 0 0 begun_two (axis_in double.first) (axis_in double.first) (omega arith) refl k low high

    -- nor is one whose value of the second is
    pub outside_second : IsAbove (by_column row double.second.column) (axis_in double.second) None → IsInBox part place row Outside
    outside_second h = record {
      inside = sym (out (by_column row) (dims_at part place) (axis_in double.first ∷ (axis_in double.second ∷ [])) is.axes.are 1 (0 * double.first.size + k) lined (axis_in double.second) (axis_in double.second) (omega arith) refl h);
      cell = tt;
    }

    -- else its cell stands in the line of the first so far behind the line's first one
    module _ (n : ℕ) (below : n < double.second.size) (above : by_column row double.second.column ≡ double.second.lo +ℤ pos n) where
      ended_two : (list_all (in_range (by_column row)) (dims_at part place) ≡ true) × ((0 * double.first.size + k) * double.second.size + n ≡ row_place (dims_at part place) (by_column row)) × ((0 * double.first.size + k) * double.second.size + n < box_size (dims_at part place))
      ended_two = at-end (by_column row) (dims_at part place) 2 ((0 * double.first.size + k) * double.second.size + n) (omega (arith, two))
          (further (by_column row) (dims_at part place) (axis_in double.first ∷ (axis_in double.second ∷ [])) is.axes.are 1 (0 * double.first.size + k) lined (axis_in double.second) (axis_in double.second) (omega arith) refl n below above)

      pub place_fits : k * double.second.size + n < 2 ^ 32
      place_fits = let few = is.few in let room = ended_two.2 in omega (arith, few, room)

      pub two_fit : double.base + (k * double.second.size + n) < 2 ^ 32
      two_fit = let few = is.few in let room = ended_two.2 in omega (arith, few, room)

      pub in_lines : IsInBox part place row (Cell (double.base + (k * double.second.size + n)) double.kind)
      in_lines =
          let base = is.base in
          let at = ended_two.1 in
          let own : double.base + (k * double.second.size + n) ≡ (stream_at part place).base + row_place (dims_at part place) (by_column row) = omega (arith, base, at) in
          record { inside = sym ended_two.0; cell = (is.several, own, is.kind) }

-- where there is no dim there is one cell
pub only : (part : PartPlan) (place : ℕ) (cell : CellAt) → IsSimpleBox part place (SimpleBox.Cell cell) → (row : List ℤ) → IsInBox part place row (placed cell)
only part place cell is row =
    let none : length (dims_at part place) ≡ 0 = sym (ap length is.axes.are ∙ length-map (dims_at part place) axis_of) in
    let ended = at-end (by_column row) (dims_at part place) 0 0 (omega (arith, none)) (start (by_column row) (dims_at part place) is.axes.full) in
    let base = is.base in
    let at = ended.1 in
    let own : cell.number ≡ (stream_at part place).base + row_place (dims_at part place) (by_column row) = omega (arith, base, at) in
    record { inside = sym ended.0; cell = (is.several, own, is.kind) }

-- the cell of a row by its place in the box of the part of a number
pub cell_in_box : (parts : List PartPlan) (place : ℕ) (row : List ℤ) (i : ℕ) (part : PartPlan) → part ≡ get_or parts i part → (placement : Option Placement) → IfSome placement (λ p. IsInBox part place row p)
    → (cell : Option CellAt) → IfSome cell (λ x. placement ≡ Some (placed x)) → IfSome cell (λ x. IsCellIn parts place row i x)
cell_in_box parts place row i part at placement there None is = tt
cell_in_box parts place row i part at placement there (Some cell) is = λ p at_p.
    subst (λ x. IsInBox x place row (placed cell)) (at ∙ get_or_from_slice_get parts i p part at_p)
    (subst (λ o. IfSome o (λ x. IsInBox part place row x)) is there)

-- a row stands inside a part of one dim without a cell where its value is in range
pub in_one_range : (part : PartPlan) (place : ℕ) (dim : Dim) → dims_at part place ≡ dim ∷ [] → (row : List ℤ) (placement : Placement) → is_inside placement ≡ in_range (by_column row) dim → IsCell part place row placement
    → IsInBox part place row placement
in_one_range part place dim is row placement inside cell = record {
  inside = inside ∙ sym (ap (λ (ds : List Dim). list_all (in_range (by_column row)) ds) is ∙ and-true (in_range (by_column row) dim));
  cell = cell;
}
