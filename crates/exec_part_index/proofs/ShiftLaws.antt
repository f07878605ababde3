-- Boxes of two parts at one place of FROM that are the same but for where they begin.
use Rattle.std.proofs.Common.{◌≡◌, ℕ, ◌+◌, ◌<◌, ◌^◌, Bool, true, List, [], ◌∷◌, ℤ, int_eq, Option, Some, None, refl, sym, ap, subst, ◌∙◌, arith}
use Rattle.std.specs.Option.{IfSome}
use Rattle.std.specs.List.{list_all}
use Rattle.sem_query.specs.declared.plan.Dim.{Dim}
use Rattle.sem_query.specs.declared.plan.Kind.{Kind}
use Rattle.sem_query.specs.declared.plan.PartPlan.{PartPlan}
use Rattle.sem_query.specs.Boxes.{box_size}
use Rattle.sem_query.specs.Query.{attr_eq}
use Rattle.sem_query.specs.Plan.{stream_at, dims_at}
use Rattle.sem_query.specs.Meaning.{by_column}
use Rattle.sem_query.specs.Admission.{in_range}
use Rattle.sem_query.specs.Cells.{row_place}
use Rattle.sem_query.specs.Sharing.{same_dim, same_dims}
use Rattle.std.proofs.lemmas.Int.{ints}
use Rattle.std.proofs.lemmas.Bool.Decides.{Decides-int_eq}
use Rattle.sem_laws.proofs.Tests.{and-left, and-right, attr_eq-is}
use Rattle.sem_laws.proofs.Places.{place-below}
use Rattle.exec_synopsis.specs.declared.axes.Placement.TheVariants.{Cell}
use Rattle.exec_part_index.specs.declared.shift.Shift.{Shift}
use Rattle.exec_synopsis.specs.declared.axes.BoxLayout.{BoxLayout}
use Rattle.exec_synopsis.specs.Axes.{IsPlacement, IsBoxLayout}
use Rattle.exec_part_index.specs.Shift.{IsShifted}

int_is : (x y : ℤ) → int_eq x y ≡ true → x ≡ y
int_is x y h = grind (arith, ints, Decides-int_eq)

dim-is : (d e : Dim) → same_dim d e ≡ true → d ≡ e
dim-is d e h =
    let a : d.attr ≡ e.attr = attr_eq-is d.attr e.attr (and-left _ _ h) in
    let r = and-right (attr_eq d.attr e.attr) _ h in
    let l : d.lo ≡ e.lo = int_is d.lo e.lo (and-left _ _ r) in
    let u : d.hi ≡ e.hi = int_is d.hi e.hi (and-right (int_eq d.lo e.lo) _ r) in
    λ i. record { attr = a i; lo = l i; hi = u i }

pub dims-are : (ds es : List Dim) → same_dims ds es ≡ true → ds ≡ es
dims-are [] [] h = refl
dims-are [] (e ∷ es) h = absurd cc
dims-are (d ∷ ds) [] h = absurd cc
dims-are (d ∷ ds) (e ∷ es) h =
    let a = dim-is d e (and-left _ _ h) in
    let b = dims-are ds es (and-right (same_dim d e) _ h) in
    λ i. a i ∷ b i

-- where the dims are the same, the box begins so many cells later
pub shift-is : (part other : PartPlan) (listed : BoxLayout) (place at base : ℕ) (kind : Kind) (shift : Option Shift) → IsBoxLayout other place listed → at ≡ place
    → same_dims (dims_at part at) (dims_at other at) ≡ true → base ≡ (stream_at part place).base → kind ≡ listed.kind
    → IfSome shift (λ s. (listed.base ≡ base + s.cells) × (s.kind ≡ kind)) → IfSome shift (λ s. IsShifted part other place s)
shift-is part other listed place at base kind None is here same from kept to = tt
shift-is part other listed place at base kind (Some s) is here same from kept to = record {
  several = is.several;
  dims = subst (λ p. dims_at part p ≡ dims_at other p) here (dims-are _ _ same);
  base = sym is.base ∙ to.0 ∙ ap (λ b. b + s.cells) from;
  kind = to.1 ∙ kept ∙ is.kind;
  few = subst (λ b. b + box_size (dims_at other place) < 2 ^ 32) is.base is.few;
}

module _ (part other : PartPlan) (place : ℕ) (shift : Shift) (is : IsShifted part other place shift) (row : List ℤ) (number : ℕ) (kind : Kind) where
  -- the cell of a row in the other part has a number of 32 bits
  pub in-bounds : (admitted : Bool) → IsPlacement part place row admitted (Cell number kind) → (admitted ≡ true → list_all (in_range (by_column row)) (dims_at part place) ≡ true) → number + shift.cells < 2 ^ 32
  in-bounds admitted stands inside =
      let below = place-below (dims_at part place) (by_column row) (inside (sym stands.inside)) in
      let own : number ≡ (stream_at part place).base + row_place (dims_at part place) (by_column row) = stands.cell.1 in
      let size : box_size (dims_at part place) ≡ box_size (dims_at other place) = ap box_size is.dims in
      let base = is.base in
      let few = is.few in
      omega (arith, below, own, size, base, few)

  -- a row stands in the other part where it stands in the part, so many cells later
  pub stands-shifted : (admitted : Bool) → IsPlacement part place row admitted (Cell number kind) → IsPlacement other place row admitted (Cell (number + shift.cells) shift.kind)
  stands-shifted admitted stands =
      let own : number ≡ (stream_at part place).base + row_place (dims_at part place) (by_column row) = stands.cell.1 in
      let same : row_place (dims_at part place) (by_column row) ≡ row_place (dims_at other place) (by_column row) = ap (λ dims. row_place dims (by_column row)) is.dims in
      let base = is.base in
      record { inside = stands.inside; cell = (is.several, omega (arith, own, same, base), is.kind) }
