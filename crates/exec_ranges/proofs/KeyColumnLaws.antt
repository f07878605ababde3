-- What is listed of places of which the arriving row's own columns fix all dims.
use Rattle.std.proofs.Common.{◌≡◌, ◌≢◌, ℕ, ◌+◌, ◌*◌, ◌<◌, ◌^◌, Bool, true, false, List, [], ◌∷◌, ◌++◌, length, get_or, map, refl, sym, ap, ◌∙◌, subst, arith, ℤ, ◌-ℤ◌, ◌≤ℤ◌, if◌then◌else◌, ◌==◌, slice_get, pos, ◌≤◌}
use Rattle.std.specs.Prelude.{nat_abs}
use Rattle.std.proofs.lemmas.Bool.Decides.{nat_tests}
use Rattle.std.proofs.lemmas.List.{get_or-map, length-map}
use Rattle.sem_query.specs.Boxes.{dim_size, box_size, place_of, AreFull, AreInside}
use Rattle.sem_query.specs.declared.atom.Attr.{Attr}
use Rattle.sem_query.specs.declared.part.Pair.{Pair}
use Rattle.sem_query.specs.declared.plan.Dim.{Dim}
use Rattle.sem_query.specs.declared.plan.PartPlan.{PartPlan}
use Rattle.sem_query.specs.Meaning.{by_column}
use Rattle.sem_query.specs.Plan.{stream_at, dims_at}
use Rattle.sem_query.proofs.BoxLaws.{sound-full, sound-from, room-at, place-below}
use Rattle.exec_ranges.specs.declared.binding.Binding.{Binding}
use Rattle.exec_synopsis.specs.declared.key_columns.KeyColumn.{KeyColumn}
use Rattle.exec_ranges.specs.Lined.{IsFixed, AreFixed}
use Rattle.exec_synopsis.specs.Pinning.{IsKeyColumn, AreKeyColumns}
use Rattle.exec_synopsis.specs.Premises.{IsLaidOut}
use Rattle.exec_ranges.specs.Values.{value_in, chosen_value}
use Rattle.exec_synopsis.specs.Narrowing.{narrow, narrowed_to}
use Rattle.exec_ranges.specs.Narrowed.{narrowed_dims}
use Rattle.exec_ranges.proofs.FixedLaws.{SoFixed, place-fits, fixed-next, fixed-end}
use Rattle.exec_ranges.proofs.NarrowLaws.{fixed-narrow}
use Rattle.exec_ranges.proofs.DimLaws.{dims-beside}

-- the value of a column of the arriving row
pub own-value : (ps : List Pair) (part : PartPlan) (arriving : ℕ) (row : List ℤ) (known : List Binding) (a : Attr) → a.stream ≡ arriving → value_in ps part arriving row known a ≡ by_column row a.column
unfolding value_in
own-value ps part arriving row known a e = by (a.stream == arriving) refl
  where
    by : (t : Bool) → (a.stream == arriving) ≡ t → (if t then by_column row a.column else chosen_value ps part a (slice_get known a.stream)) ≡ by_column row a.column
    by true f = refl
    by false f = absurd (grind (arith, nat_tests, e, f))

-- a dim that such a column fixes
pub key_column-fixes : (ps : List Pair) (part : PartPlan) (arriving : ℕ) (row : List ℤ) (known : List Binding) (key_column : KeyColumn) (n : Dim) → IsKeyColumn part arriving (length known) key_column
    → n ≡ narrowed_to key_column.dim (by_column row key_column.column.column) → n.lo ≤ℤ n.hi
    → IsFixed key_column.dim (narrow arriving (length known) part.equal.items part.less.items (value_in ps part arriving row known) key_column.dim) n
key_column-fixes ps part arriving row known key_column n h is some =
    fixed-narrow arriving (length known) part.equal.items part.less.items (value_in ps part arriving row known) key_column.dim key_column.column n h.known
    (is ∙ ap (narrowed_to key_column.dim) (sym (own-value ps part arriving row known key_column.column h.own))) some

abbrev pub bare : KeyColumn
bare = record { dim = record { attr = record { stream = 0; column = 0 }; lo = pos 0; hi = pos 0 }; column = record { stream = 0; column = 0 } }

pub same-key_columns : (part : PartPlan) (arriving place here : ℕ) (listed key_columns : List KeyColumn) → place ≡ here → key_columns ≡ listed → AreKeyColumns part arriving place (dims_at part place) listed → AreKeyColumns part arriving here (dims_at part here) key_columns
same-key_columns part arriving place here listed key_columns e f are = subst (AreKeyColumns part arriving here (dims_at part here)) (sym f) (subst (λ n. AreKeyColumns part arriving n (dims_at part n) listed) e are)

abbrev dims_of : List KeyColumn → List Dim
dims_of key_columns = map (λ (p : KeyColumn). p.dim) key_columns

module _ (ps : List Pair) (part : PartPlan) (arriving : ℕ) (row : List ℤ) (known : List Binding) (key_columns : List KeyColumn) (are : AreKeyColumns part arriving (length known) (dims_at part (length known)) key_columns) (laid : IsLaidOut (stream_at part (length known)) (2 ^ 32)) where
  abbrev narrows : Dim → Dim
  narrows = narrow arriving (length known) part.equal.items part.less.items (value_in ps part arriving row known)

  full : AreFull (dims_of key_columns)
  full = subst AreFull (sym are.dims) laid.full

  few : box_size (dims_of key_columns) < 2 ^ 32
  few = let s = ap box_size are.dims in omega (arith, s, laid.size, laid.few)

  there : (i : ℕ) → i < length key_columns → i < length (dims_of key_columns)
  there i l = let n = length-map key_columns (λ (p : KeyColumn). p.dim) in omega (arith, n, l)

  here : (i : ℕ) → i < length key_columns → (get_or key_columns i bare).dim ≡ get_or (dims_of key_columns) i bare.dim
  here i l = sym (get_or-map (λ (p : KeyColumn). p.dim) key_columns i bare bare.dim l)

  pub key_column-size : (i : ℕ) → i < length key_columns → dim_size (get_or key_columns i bare).dim < 2 ^ 32
  key_column-size i l =
      subst (λ (d : Dim). dim_size d < 2 ^ 32) (sym (here i l))
      (room-at (dims_of key_columns) i bare.dim (there i l) (sound-from (dims_of key_columns) i (sound-full (dims_of key_columns) full few))).one

  module _ (fixed : List Dim) (i place : ℕ) (so_far : SoFixed narrows (dims_of key_columns) fixed i place) where
    module _ (n : Dim) (l : i < length key_columns) (is : IsFixed (get_or key_columns i bare).dim (narrows (get_or key_columns i bare).dim) n) where
      pub key_column-fits : place * dim_size (get_or key_columns i bare).dim + nat_abs (n.lo -ℤ (get_or key_columns i bare).dim.lo) < 2 ^ 32
      key_column-fits = place-fits narrows (dims_of key_columns) fixed i place so_far (get_or key_columns i bare).dim bare.dim n (there i l) (here i l) is.is is.one is.low is.high full few

      pub key_column-next : (more : List Dim) → more ≡ fixed ++ n ∷ [] → SoFixed narrows (dims_of key_columns) more (i + 1) (place * dim_size (get_or key_columns i bare).dim + nat_abs (n.lo -ℤ (get_or key_columns i bare).dim.lo))
      key_column-next = fixed-next narrows (dims_of key_columns) fixed i place so_far (get_or key_columns i bare).dim bare.dim n (there i l) (here i l) is.is is.one is.low is.high

    module _ (past : length key_columns ≤ i) where
      whole : (fixed ≡ map narrows (dims_of key_columns)) × AreInside (dims_of key_columns) (map (λ d. d.lo) fixed) × (place ≡ place_of (dims_of key_columns) (map (λ d. d.lo) fixed))
      whole = fixed-end narrows (dims_of key_columns) fixed i place so_far (let n = length-map key_columns (λ (p : KeyColumn). p.dim) in omega (arith, n, past))

      pub numbered : (stream_at part (length known)).base + place < 2 ^ 32
      numbered =
          let w = whole in
          let b = place-below (dims_of key_columns) (map (λ d. d.lo) fixed) w.1 in
          let s = ap box_size are.dims in
          let p = w.2 in
          omega (arith, b, p, s, laid.size, laid.few)

      pub key_columns-fixed : length known ≢ arriving → AreFixed part (length known) (narrowed_dims ps part arriving row known) fixed ((stream_at part (length known)).base + place)
      unfolding narrowed_dims
      key_columns-fixed other = record {
        are = whole.0 ∙ ap (map narrows) (are.dims ∙ sym (dims-beside ps part arriving row (2 ^ 32) known (λ n. laid) other));
        one = so_far.one;
        cell = ap (λ ds. (stream_at part (length known)).base + place_of ds (map (λ d. d.lo) fixed)) (sym are.dims) ∙ ap (λ n. (stream_at part (length known)).base + n) (sym whole.2);
      }
