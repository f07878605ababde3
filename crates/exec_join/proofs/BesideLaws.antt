-- A row whose own columns leave no cell that holds anything at some other place is answered nothing.
use Rattle.std.proofs.lemmas.List.{take_more, map-append}
use Rattle.std.proofs.Common.{◌≡◌, ◌≢◌, ℕ, zero, suc, ◌+◌, ◌-◌, ◌*◌, ◌<◌, ◌≤◌, ◌==◌, ◌⊎◌, inl, inr, Bool, true, false, get_or, List, [], ◌∷◌, ◌++◌, map, take, length, refl, sym, ap, ◌∙◌, subst, arith, append_assoc, length-append, ℤ, pos, ◌-ℤ◌, ◌≤ℤ◌, nat_abs, ◌^◌, if◌then◌else◌, ◌&&◌, ◌||◌}
use Rattle.std.specs.Prelude.{Some, None, flat_map, nat_lt, slice_get, slice_index_or}
use Rattle.std.specs.List.{list_all}
use Rattle.std.specs.Ordering.{int_eq}
use Rattle.std.proofs.lemmas.Bool.Decides.{nat_tests}
use Rattle.std.proofs.Math.Nat.{mul-le-mul}
use Rattle.std.proofs.lemmas.List.Folds.{flat_map-map}
use Rattle.sem_query.specs.Boxes.{box, dim_size, box_size, place_of, values_at, AreNumbered, AreInside}
use Rattle.sem_query.proofs.BoxLaws.{place-below, values-inside, length-box, at-box, sound-full}
use Rattle.sem_query.specs.declared.atom.Attr.{Attr}
use Rattle.sem_query.specs.declared.cell.Cell.{Cell}
use Rattle.sem_query.specs.declared.cell.Cell.TheVariants.{Empty, Count, Present, Extreme}
use Rattle.sem_query.specs.declared.part.Pair.{Pair}
use Rattle.sem_query.specs.declared.plan.Dim.{Dim}
use Rattle.sem_query.specs.declared.plan.Link.{Link}
use Rattle.sem_query.specs.declared.plan.PartPlan.{PartPlan}
use Rattle.sem_query.specs.declared.plan.StreamPlan.{StreamPlan}
use Rattle.sem_query.specs.Combinations.{Reading, Found}
use Rattle.sem_query.specs.Meaning.{by_column}
use Rattle.sem_query.specs.Parts.{pairs}
use Rattle.sem_query.specs.Plan.{stream_at, dims_at}
use Rattle.sem_query.specs.Probing.{is_known, found_beside}
use Rattle.sem_query.specs.Query.{QueryValue}
use Rattle.sem_query.specs.Assignment.{compares}
use Rattle.exec_pool.specs.declared.scan.StridedCells.{StridedCells}
use Rattle.exec_pool.specs.Strides.{NoneOccupied}
use Rattle.exec_join.specs.Beside.{last_beside, beside_dims, IsEmptyBeside, IsInnerBox, IsEmptyIn}
use Rattle.exec_ranges.specs.declared.binding.Binding.{Binding}
use Rattle.exec_join.specs.Choosing.{Setting, setting, chosen, value, cell_at, cell_in, dims_beside, meets, meets_links, found}
use Rattle.exec_ranges.specs.Narrowed.{dims_in}
use Rattle.exec_ranges.specs.Lined.{IsLine}
use Rattle.exec_ranges.proofs.LineLaws.{line-more}
use Rattle.exec_synopsis.specs.Premises.{IsWalked, IsLaidOut}
use Rattle.exec_ranges.specs.Values.{value_in, chosen_value, extreme_of}
use Rattle.exec_join.specs.Walk.{walk}
use Rattle.exec_synopsis.specs.Narrowing.{clip}
use Rattle.exec_join.proofs.BreakLaws.{breaks, breaks-inequality, value-chosen, valued-own, get-here}
use Rattle.exec_join.proofs.CutLaws.{is_allowed, breaks-less}
use Rattle.exec_join.proofs.ExactLaws.{kept, choices, combinations_from, flat_map-same, flat_map-flat_map, narrow-box, walk-all, walk-is}
use Rattle.exec_join.proofs.ModelLaws.{combinations-are}
use Rattle.exec_ranges.proofs.NarrowLaws.{clip-narrower, map-sound, map-inside, map-low}
use Rattle.exec_synopsis.proofs.PlanLaws.{IsNamed, named}

none-of : {X Y : Type 0} (f : X → List Y) (xs : List X) → ((x : X) → f x ≡ []) → flat_map f xs ≡ []
none-of f [] h = refl
none-of f (x ∷ xs) h = λ k. h x k ++ none-of f xs h k

pub none-at : {X Y : Type 0} (f : X → List Y) (d : X) (xs : List X) → ((i : ℕ) → i < length xs → f (get_or xs i d) ≡ []) → flat_map f xs ≡ []
none-at f d [] h = refl
none-at f d (x ∷ xs) h = λ k. h 0 (omega arith) k ++ none-at f d xs (λ i l. h (suc i) (omega (arith, l))) k

not-both : (s t : Bool) → t ≡ false → s && t ≡ false
not-both true t e = e
not-both false t e = refl

none-is-no : (a : Attr) → None ≡ Some a → ⊥
none-is-no a e = cc

row-value : (ps : List Pair) (part : PartPlan) (arriving : ℕ) (row : List ℤ) (known : List Binding) (a : Attr) → is_known arriving 0 a ≡ true → value_in ps part arriving row known a ≡ by_column row a.column
unfolding value_in
row-value ps part arriving row known a = by (a.stream == arriving)
  where
    by : (t : Bool) → (t || nat_lt a.stream 0) ≡ true → (if t then by_column row a.column else chosen_value ps part a (slice_get known a.stream)) ≡ by_column row a.column
    by true e = refl
    by false e = absurd (grind (arith, nat_tests))

module _ (w : Setting) (name : IsNamed w.pairs w.part) (place : ℕ) (other : place ≢ w.arriving) where
  dims-there : dims_beside w place ≡ dims_at w.part place
  unfolding dims_in
  dims-there = by (place == w.arriving) refl
    where
      by : (t : Bool) → (place == w.arriving) ≡ t → (if t then [] else dims_at w.part place) ≡ dims_at w.part place
      by true e = absurd (other (grind (arith, nat_tests)))
      by false e = refl

  pub cell-there : (vs : List ℤ) → cell_at w place vs ≡ w.read w.part place (place_of (dims_at w.part place) vs)
  unfolding cell_in
  cell-there vs = by (place == w.arriving) refl
    where
      by : (t : Bool) → (place == w.arriving) ≡ t → (if t then Present else w.read w.part place (place_of (dims_at w.part place) vs)) ≡ w.read w.part place (place_of (dims_at w.part place) vs)
      by true e = absurd (other (grind (arith, nat_tests)))
      by false e = refl

  -- a value that the row's own columns exclude breaks an inequality, whatever is chosen
  breaks-beside : (known : List Binding) (k : ℕ) (d : Dim) (vs : List ℤ) (c : Cell) (cs : List Binding) → length known ≡ place → k < length (dims_at w.part place) → k < length vs
      → is_allowed w.arriving 0 w.part.less.items (λ a. by_column w.row a.column) (get_or (dims_at w.part place) k d).attr (get_or vs k (pos 0)) ≡ false
      → meets w ((known ++ chosen vs c ∷ []) ++ cs) ≡ false
  unfolding meets_links
  breaks-beside known k d vs c cs at l m f =
      let whole = (known ++ chosen vs c ∷ []) ++ cs in
      let dim = get_or (dims_at w.part place) k d in
      let n = name place in
      let away : (place == w.arriving) ≡ false = apart (place == w.arriving) refl in
      let here : slice_get whole place ≡ Some (chosen vs c) = subst (λ p. slice_get whole p ≡ Some (chosen vs c)) at (get-here known cs (chosen vs c)) in
      let is : value w whole dim.attr ≡ get_or vs k (pos 0) =
      value-chosen w.pairs w.part w.arriving place w.row whole dim.attr (chosen vs c) (get_or vs k (pos 0))
      (n.streams k d l) away here (valued-own w.pairs w.part (dims_at w.part place) vs k d (extreme_of c) n.names l m) in
      ap (λ b. b && list_all (λ l. compares l.op (value w whole l.left) (value w whole l.right)) w.part.soft.items)
      (not-both (list_all (λ l. int_eq (value w whole l.left) (value w whole l.right)) w.part.equal.items) _
      (breaks-less w.arriving 0 dim.attr (λ a. by_column w.row a.column) (value w whole) (λ y t. row-value w.pairs w.part w.arriving w.row whole y t) (get_or vs k (pos 0)) is w.part.less.items f))
    where
      apart : (t : Bool) → (place == w.arriving) ≡ t → t ≡ false
      apart true e = absurd (other (grind (arith, nat_tests)))
      apart false e = refl

  gone-whole : (cs : List Binding) → meets w cs ≡ false → walk w 0 cs ≡ []
  unfolding walk
  gone-whole cs e = ap (λ b. if b then found w cs ∷ [] else []) e

  -- all that begins with these choices and goes on with one more
  abbrev with_one : ℕ → List Binding → Binding → List Found
  with_one m known c = flat_map (λ cs. walk w 0 (known ++ c ∷ cs)) (combinations_from w m (length known + 1))

  one-more-level : (m : ℕ) (known : List Binding) → flat_map (λ cs. walk w 0 (known ++ cs)) (combinations_from w (suc m) (length known)) ≡ flat_map (with_one m known) (choices w (length known))
  one-more-level m known =
      flat_map-flat_map (λ cs. walk w 0 (known ++ cs)) (λ c. map (λ cs. c ∷ cs) (combinations_from w m (length known + 1))) (choices w (length known))
      ∙ flat_map-same _ _ (choices w (length known)) (λ c. flat_map-map (λ cs. walk w 0 (known ++ cs)) (λ (cs : List Binding). c ∷ cs) (combinations_from w m (length known + 1)))

  kept-none : (G : Binding → List Found) (vs : List ℤ) (c : Cell) → ((x : Cell) → G (chosen vs x) ≡ []) → flat_map G (kept vs c) ≡ []
  kept-none G vs Empty h = refl
  kept-none G vs (Count n) h = λ k. h (Count n) k ++ []
  kept-none G vs Present h = λ k. h Present k ++ []
  kept-none G vs (Extreme z) h = λ k. h (Extreme z) k ++ []

  module _ (empty : IsEmptyBeside w.part w.read w.arriving w.row place) where
    -- at that place itself
    none-there : (m : ℕ) (known : List Binding) → length known ≡ place → flat_map (with_one m known) (choices w place) ≡ []
    none-there m known at =
        let G = with_one m known in
        let g : List ℤ → List Found = λ vs. flat_map G (kept vs (cell_at w place vs)) in
        let D = beside_dims w.part w.arriving w.row place in
        let broken : (k : ℕ) (d : Dim) (vs : List ℤ) → k < length (dims_at w.part place) → k < length vs → is_allowed w.arriving 0 w.part.less.items (λ a. by_column w.row a.column) (get_or (dims_at w.part place) k d).attr (get_or vs k (pos 0)) ≡ false → g vs ≡ [] =
        λ k d vs l j f. kept-none G vs (cell_at w place vs) (λ x. none-of _ (combinations_from w m (length known + 1)) (λ cs.
        (λ i. walk w 0 (sym (append_assoc known (chosen vs x ∷ []) cs) i)) ∙ gone-whole _ (breaks-beside known k d vs x cs at l j f))) in
        let cells : flat_map g (box D) ≡ [] = none-at g [] (box D) (λ i l.
        let b : i < box_size D = omega (arith, l, length-box D) in
        (λ j. g (at-box D i b j)) ∙ ap (λ c. flat_map G (kept (values_at D i) c)) (cell-there (values_at D i) ∙ empty i b)) in
        flat_map-flat_map G (λ vs. kept vs (cell_at w place vs)) (box (dims_beside w place))
        ∙ ap (λ ds. flat_map g (box ds)) dims-there
        ∙ sym (narrow-box w.arriving 0 w.part.less.items (λ a. by_column w.row a.column) (λ d. None) (dims_at w.part place) g (λ k d a vs l j e i. absurd (none-is-no a e)) broken)
        ∙ cells

    -- and before it
    none-from : (m : ℕ) (known : List Binding) → length known ≤ place → place < length known + m → flat_map (λ cs. walk w 0 (known ++ cs)) (combinations_from w m (length known)) ≡ []
    none-from zero known a b = absurd (omega (arith, a, b))
    none-from (suc m) known a b = elim (here-or-before (length known) place a) [
      | inl e ↦ one-more-level m known ∙ ap (λ p. flat_map (with_one m known) (choices w p)) e ∙ none-there m known e
      | inr l ↦ one-more-level m known ∙ none-of _ (choices w (length known)) (λ c.
          let long = length-append known (c ∷ []) in
          (λ k. flat_map (λ cs. walk w 0 (sym (append_assoc known (c ∷ []) cs) k)) (combinations_from w m (sym long k)))
          ∙ none-from m (known ++ c ∷ []) (omega (arith, long, l)) (omega (arith, long, b)))
    ]
      where
        here-or-before : (x y : ℕ) → x ≤ y → (x ≡ y) ⊎ (x < y)
        here-or-before x y l = grind arith

-- where the row's own columns leave no cell that holds anything at a place, nothing is found
pub nothing-beside : (q : QueryValue) (part : PartPlan) (arriving : ℕ) (row : List ℤ) (read : Reading) → IsWalked q part → arriving < length part.streams.items
    → (place : ℕ) → place < length part.streams.items → place ≢ arriving → IsEmptyBeside part read arriving row place → found_beside q part read arriving (by_column row) ≡ []
nothing-beside q part arriving row read walked here place there other empty =
    let w = setting (pairs q) q.select part arriving row read in
    let N = length part.streams.items in
    let n = named q part walked in
    sym (walk-is w (breaks w n) (breaks-inequality w n) ∙ combinations-are q part arriving row read here)
    ∙ walk-all w (breaks w n) (breaks-inequality w n) N []
    ∙ none-from w n place other empty N [] (omega arith) (omega (arith, there))

-- the last place that a walk comes to is another one than the row's own
pub last-there : (arriving streams : ℕ) → 2 ≤ streams → arriving < streams → (last_beside streams arriving < streams) × (last_beside streams arriving ≢ arriving)
last-there arriving streams e l = by (arriving == streams - 1) refl
  where
    by : (t : Bool) → (arriving == streams - 1) ≡ t → ((if t then streams - 2 else streams - 1) < streams) × ((if t then streams - 2 else streams - 1) ≢ arriving)
    by true f = let g : arriving ≡ streams - 1 = grind (arith, nat_tests) in (omega (arith, e), λ h. omega (arith, h, g, e))
    by false f = let g : arriving ≢ streams - 1 = grind (arith, nat_tests) in (omega (arith, e), λ h. g (sym h))

-- there are no links
pub no-links : (links equal : List Link) → links ≡ equal → (empty : Bool) → empty ≡ (length links == 0) → empty ≡ true → equal ≡ []
no-links [] equal e empty is t = sym e
no-links (l ∷ links) equal e empty is t = absurd (let f : (suc (length links) == 0) ≡ true = sym is ∙ t in let g : suc (length links) ≡ 0 = grind (arith, nat_tests) in omega (arith, g))

pub last-other : (arriving streams : ℕ) → 2 ≤ streams → last_beside streams arriving ≢ arriving
last-other arriving streams e = by (arriving == streams - 1) refl
  where
    by : (t : Bool) → (arriving == streams - 1) ≡ t → (if t then streams - 2 else streams - 1) ≢ arriving
    by true f = let g : arriving ≡ streams - 1 = grind (arith, nat_tests) in λ h. omega (arith, h, g, e)
    by false f = let g : arriving ≢ streams - 1 = grind (arith, nat_tests) in λ h. g (sym h)

-- what is left of the dims of a place has no more values
pub beside-few : (part : PartPlan) (arriving : ℕ) (row : List ℤ) (place : ℕ) → box_size (beside_dims part arriving row place) ≤ box_size (dims_at part place)
beside-few part arriving row place = by (dims_at part place)
  where
    by : (ds : List Dim) → box_size (map (clip arriving 0 part.less.items (λ a. by_column row a.column)) ds) ≤ box_size ds
    by [] = omega arith
    by (d ∷ ds) = mul-le-mul (clip-narrower arriving 0 part.less.items (λ a. by_column row a.column) d).size (by ds)

-- what is left of the dims of a place lies inside them
pub inner-box : (part : PartPlan) (arriving : ℕ) (row : List ℤ) (place cells : ℕ) → IsLaidOut (stream_at part place) cells → IsInnerBox (dims_at part place) (beside_dims part arriving row place)
inner-box part arriving row place cells laid =
    let f = clip arriving 0 part.less.items (λ a. by_column row a.column) in
    let narrows = λ (d : Dim) (s : d.lo ≤ℤ d.hi). clip-narrower arriving 0 part.less.items (λ a. by_column row a.column) d in
    let sound : AreNumbered (dims_at part place) = sound-full _ laid.full (omega (arith, laid.size, laid.few)) in
    record {
      sound = map-sound f narrows (dims_at part place) laid.full sound;
      inside = λ vs i. map-inside f narrows (dims_at part place) vs laid.full i;
      low = λ some. map-low f narrows (dims_at part place) laid.full some;
    }

-- the cells of a box that stand side by side
module _ (plan : StreamPlan) (dims : List Dim) (cells : ℕ) (line : StridedCells) (laid : IsLaidOut plan cells) (inner : IsInnerBox plan.dims.items dims) (on : IsLine plan.base plan.dims.items dims line) (one : line.stride ≡ 1) where
  abbrev cell_number : ℕ → ℕ
  cell_number i = plan.base + place_of plan.dims.items (values_at dims i)

  pub number-is : (i : ℕ) → i < box_size dims → cell_number i ≡ line.first + i
  number-is i l =
      let apart : i * line.stride ≡ i = ap (λ n. i * n) one ∙ (let e : i * 1 ≡ i = omega arith in e) in
      omega (arith, on i l, apart)

  pub axis-within : (size : ℕ) → size ≡ box_size dims → (size ≡ 0 → ⊥) → line.first + size ≤ cells
  axis-within size e some = by size refl
    where
      by : (n : ℕ) → size ≡ n → line.first + size ≤ cells
      by zero z = absurd (some z)
      by (suc n) z =
          let l : n < box_size dims = omega (arith, e, z) in
          let b = place-below plan.dims.items (values_at dims n) (inner.inside (values_at dims n) (values-inside dims n l)) in
          omega (arith, number-is n l, b, laid.size, laid.room, z)

  pub axis-empty : (contents : List Cell) (size : ℕ) → size ≡ box_size dims → NoneOccupied (λ i. slice_index_or contents (line.first + i) Empty) 0 size → IsEmptyIn plan contents dims
  axis-empty contents size e none i l = ap (λ n. slice_index_or contents n Empty) (number-is i l) ∙ none i (omega arith) (omega (arith, l, e))

-- the cells of a box of one dim stand side by side
pub only-line : (base : ℕ) (f d : Dim) → f.lo ≤ℤ d.lo → IsLine base (f ∷ []) (d ∷ []) (record { first = base + nat_abs (d.lo -ℤ f.lo); stride = 1 })
only-line base f d low i l =
    line-more f d [] [] base base 1 1 (λ k m. omega (arith, m)) low (omega arith) (λ k m. omega arith) i l
    ∙ (let e : base + nat_abs (d.lo -ℤ f.lo) * 1 + i * 1 ≡ base + nat_abs (d.lo -ℤ f.lo) + i * 1 = omega arith in e)

-- some values of the one dim of a box
pub record IsWithin (plan : StreamPlan) (cells : ℕ) (whole left : Dim) : Type 0 where
  pub low : whole.lo ≤ℤ left.lo
  pub high : left.lo ≤ℤ whole.hi
  pub size : dim_size whole < 2 ^ 32
  pub line : IsLine plan.base plan.dims.items (left ∷ []) (record { first = plan.base + nat_abs (left.lo -ℤ whole.lo); stride = 1 })
  pub room : plan.base + nat_abs (left.lo -ℤ whole.lo) + dim_size left ≤ cells
  pub fits : plan.base + nat_abs (left.lo -ℤ whole.lo) < 2 ^ 32

pub only-within : (plan : StreamPlan) (cells : ℕ) (whole left : Dim) → IsLaidOut plan cells → plan.dims.items ≡ whole ∷ [] → IsInnerBox plan.dims.items (left ∷ []) → (dim_size left ≡ 0 → ⊥) → IsWithin plan cells whole left
only-within plan cells whole left laid only inner some =
    let e : dim_size left ≡ box_size (left ∷ []) = omega arith in
    let inside = subst (λ ds. AreInside ds (left.lo ∷ [])) only (inner.low (omega (arith, e, some))) in
    let numbered = subst AreNumbered only (sound-full _ laid.full (omega (arith, laid.size, laid.few))) in
    let line = subst (λ ds. IsLine plan.base ds (left ∷ []) (record { first = plan.base + nat_abs (left.lo -ℤ whole.lo); stride = 1 })) (sym only) (only-line plan.base whole left inside.0) in
    let room = axis-within plan (left ∷ []) cells (record { first = plan.base + nat_abs (left.lo -ℤ whole.lo); stride = 1 }) laid inner line refl (dim_size left) e some in
    let below = axis-within plan (left ∷ []) (plan.base + plan.size) (record { first = plan.base + nat_abs (left.lo -ℤ whole.lo); stride = 1 }) (record { full = laid.full; size = laid.size; room = omega arith; few = laid.few }) inner line refl (dim_size left) e some in
    record { low = inside.0; high = inside.1; size = numbered.0; line = line; room = room; fits = omega (arith, below, some, laid.few) }

one-item : (xs : List Dim) (o : Dim) → 1 ≤ length xs → length xs < 2 → xs ≡ get_or xs 0 o ∷ []
one-item [] o l m = absurd (omega (arith, l))
one-item (x ∷ []) o l m = refl
one-item (x ∷ y ∷ xs) o l m = absurd (omega (arith, m))

-- what is left of the one dim of a box
pub only-beside : (part : PartPlan) (arriving : ℕ) (row : List ℤ) (place : ℕ) (items : List Dim) (links : List Link) (left o : Dim)
    → items ≡ dims_at part place → 1 ≤ length items → length items < 2 → links ≡ part.less.items
    → left ≡ clip arriving 0 links (λ a. by_column row a.column) (get_or items 0 o)
    → beside_dims part arriving row place ≡ left ∷ []
only-beside part arriving row place items links left o whole l m less is =
    ap (map (clip arriving 0 part.less.items (λ a. by_column row a.column))) (sym whole ∙ one-item items o l m)
    ∙ (λ k. sym (is ∙ ap (λ ls. clip arriving 0 ls (λ a. by_column row a.column) (get_or items 0 o)) less) k ∷ [])

-- one dim more
pub next_beside : (F : List Link → Dim → Dim) (links less : List Link) (items old new : List Dim) (i : ℕ) (one o : Dim)
    → links ≡ less → old ≡ map (F less) (take i items) → new ≡ old ++ one ∷ [] → one ≡ F links (get_or items i o) → i < length items → new ≡ map (F less) (take (i + 1) items)
next_beside F links less items old new i one o same before pushed is l =
    pushed ∙ (λ k. before k ++ (is ∙ ap (λ ls. F ls (get_or items i o)) same) k ∷ []) ∙ sym (map-append (F less) (take i items) (get_or items i o ∷ [])) ∙ ap (map (F less)) (sym (take_more items i o l))
