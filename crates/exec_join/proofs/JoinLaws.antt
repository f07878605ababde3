-- Over two streams, where columns of the row fix all dims of the other place: the one cell that can answer.
use Rattle.std.proofs.Common.{◌≡◌, ◌≢◌, ℕ, zero, suc, ◌+◌, ◌-◌, ◌*◌, ◌<◌, ◌≤◌, ◌==◌, ◌&&◌, not, Bool, true, false, List, [], ◌∷◌, ◌++◌, All, length, map, append-nil, refl, sym, ap, ◌∙◌, subst, arith, ℤ, pos, ◌-ℤ◌, int_lt, if◌then◌else◌}
use Rattle.std.proofs.lemmas.Bool.Decides.{nat_tests}
use Rattle.std.proofs.lemmas.Int.{ints}
use Rattle.std.specs.Prelude.{Option, Some, None, slice_get, slice_index_or, nat_abs, int_le}
use Rattle.std.specs.List.{flat_map, list_all}
use Rattle.std.specs.Ordering.{int_eq}
use Rattle.sem_query.specs.Admission.{in_range}
use Rattle.sem_query.specs.Boxes.{dim_size, box_size, box, place_of}
use Rattle.sem_query.specs.Cells.{row_place}
use Rattle.sem_query.proofs.BoxLaws.{length-box}
use Rattle.sem_query.specs.declared.atom.Attr.{Attr}
use Rattle.sem_query.specs.declared.cell.Cell.{Cell}
use Rattle.sem_query.specs.declared.cell.Cell.TheVariants.{Empty, Present}
use Rattle.sem_query.specs.declared.part.Pair.{Pair}
use Rattle.sem_query.specs.declared.plan.Dim.{Dim}
use Rattle.sem_query.specs.declared.plan.Link.{Link}
use Rattle.sem_query.specs.declared.plan.SoftLink.{SoftLink}
use Rattle.sem_query.specs.declared.plan.PartPlan.{PartPlan}
use Rattle.sem_query.specs.Combinations.{Reading, read_from}
use Rattle.sem_query.specs.Meaning.{by_column}
use Rattle.sem_query.specs.Parts.{pairs}
use Rattle.sem_query.specs.Plan.{dims_at}
use Rattle.sem_query.specs.Probing.{found_beside}
use Rattle.sem_query.specs.Query.{QueryValue}
use Rattle.sem_query.specs.Assignment.{compares}
use Rattle.exec_synopsis.specs.declared.key_columns.KeyColumn.{KeyColumn}
use Rattle.exec_synopsis.specs.declared.join_lookup.JoinLookup.{JoinLookup}
use Rattle.exec_synopsis.specs.Joining.{key_dim, number_of, column_at, or_none, told_column, same_column, is_told, class_at, IsJoinLookup}
use Rattle.exec_synopsis.specs.Narrowing.{narrow, narrowed_to, narrowed_by, clip}
use Rattle.exec_synopsis.specs.Pinning.{IsKeyColumn, AreKeyColumns}
use Rattle.exec_synopsis.specs.Premises.{IsWalked}
use Rattle.exec_synopsis.proofs.Lookups.{some-is, none-is}
use Rattle.exec_synopsis.proofs.PlanLaws.{named, laid-beside}
use Rattle.exec_ranges.specs.declared.binding.Binding.{Binding}
use Rattle.exec_join.specs.Choosing.{Setting, setting, start, both, chosen, cell_in, meets, meets_links, tuple_of, found, product_of}
use Rattle.exec_ranges.specs.Narrowed.{dims_in, narrowed_dims}
use Rattle.exec_join.specs.Joining.{is_some, value_of, are_told, told_values}
use Rattle.exec_join.specs.Remaining.{as_found}
use Rattle.exec_ranges.specs.Values.{value_in, chosen_value, value_or, extreme_of, rows_in}
use Rattle.exec_join.specs.Walk.{walk, opened, entered, candidates}
use Rattle.exec_join.proofs.BreakLaws.{breaks, breaks-inequality}
use Rattle.exec_join.proofs.ExactLaws.{walk-is}
use Rattle.exec_ranges.proofs.KeyColumnLaws.{own-value}
use Rattle.exec_join.proofs.ModelLaws.{combinations-are}
use Rattle.exec_ranges.proofs.NarrowLaws.{one-value}
use Rattle.exec_join.proofs.NothingLaws.{box-one}
use Rattle.exec_join.proofs.StepLaws.{own-cell}
use Rattle.exec_join.proofs.UnderwayLaws.{own-dims}
use Rattle.exec_ranges.proofs.ValueLaws.{valued_at}
use Rattle.exec_join.proofs.WalkLaws.{entered-some}

-- the values that the row has at the columns
abbrev pub key_values : List ℤ → List KeyColumn → List ℤ
key_values row keys = map (λ (k : KeyColumn). by_column row k.column.column) keys

-- the dims with these values alone
abbrev pub fixed_to : List ℤ → List KeyColumn → List Dim
fixed_to row keys = map (λ (k : KeyColumn). narrowed_to k.dim (by_column row k.column.column)) keys

module _ (ps : List Pair) (part : PartPlan) (arriving : ℕ) (row : List ℤ) (known : List Binding) where
  abbrev narrows : Dim → Dim
  narrows = narrow arriving (length known) part.equal.items part.less.items (value_in ps part arriving row known)

  one-narrowed : (k : KeyColumn) → IsKeyColumn part arriving (length known) k → narrows k.dim ≡ narrowed_to k.dim (by_column row k.column.column)
  unfolding narrow
  one-narrowed k h =
      ap (narrowed_by k.dim (clip arriving (length known) part.less.items (value_in ps part arriving row known) k.dim) (value_in ps part arriving row known)) h.known
      ∙ ap (narrowed_to k.dim) (own-value ps part arriving row known k.column h.own)

  all-narrowed : (keys : List KeyColumn) → All (IsKeyColumn part arriving (length known)) keys → map narrows (map (λ (k : KeyColumn). k.dim) keys) ≡ fixed_to row keys
  all-narrowed [] h = refl
  all-narrowed (k ∷ keys) h = λ i. one-narrowed k (h 0 k (omega arith)) i ∷ all-narrowed keys (λ n d l. h (suc n) d (omega (arith, l))) i

-- where the row lies in the ranges, one combination of values is left
both-true : (a b : Bool) → (a && b) ≡ true → (a ≡ true) × (b ≡ true)
both-true true b e = (refl, e)
both-true false b e = absurd (grind (arith, e))

at-most : (x y : ℤ) → int_le x y ≡ not (int_lt y x)
at-most x y = by (int_lt y x) refl
  where
    by : (t : Bool) → int_lt y x ≡ t → int_le x y ≡ not t
    by true e = grind (arith, ints, e)
    by false e = grind (arith, ints, e)

module _ (row : List ℤ) where
  abbrev in_key : KeyColumn → Bool
  in_key k = in_range (by_column row) (key_dim k)

  abbrev narrowed : KeyColumn → Dim
  narrowed k = narrowed_to k.dim (by_column row k.column.column)

  in-range : (k : KeyColumn) → (int_le k.dim.lo (by_column row k.column.column) && int_le (by_column row k.column.column) k.dim.hi) ≡ in_key k
  in-range k = λ i. at-most k.dim.lo (by_column row k.column.column) i && at-most (by_column row k.column.column) k.dim.hi i

  key-in : (k : KeyColumn) → in_key k ≡ true → narrowed k ≡ record { attr = k.dim.attr; lo = by_column row k.column.column; hi = by_column row k.column.column }
  key-in k e = ap (λ (t : Bool). if t then record { attr = k.dim.attr; lo = by_column row k.column.column; hi = by_column row k.column.column } else record { attr = k.dim.attr; lo = pos 1; hi = pos 0 }) (in-range k ∙ e)

  key-out : (k : KeyColumn) → in_key k ≡ false → dim_size (narrowed k) ≡ 0
  key-out k e = ap (λ (t : Bool). dim_size (if t then record { attr = k.dim.attr; lo = by_column row k.column.column; hi = by_column row k.column.column } else record { attr = k.dim.attr; lo = pos 1; hi = pos 0 })) (in-range k ∙ e)

  pub inside-one : (keys : List KeyColumn) → list_all (in_range (by_column row)) (map key_dim keys) ≡ true → box_size (fixed_to row keys) ≡ 1
  inside-one [] e = refl
  inside-one (k ∷ keys) e =
      let b = both-true (in_key k) _ e in
      let one : dim_size (narrowed k) ≡ 1 = ap dim_size (key-in k b.0) ∙ one-value (by_column row k.column.column) in
      λ i. one i * inside-one keys b.1 i

  pub inside-values : (keys : List KeyColumn) → list_all (in_range (by_column row)) (map key_dim keys) ≡ true → map (λ d. d.lo) (fixed_to row keys) ≡ key_values row keys
  inside-values [] e = refl
  inside-values (k ∷ keys) e =
      let b = both-true (in_key k) _ e in
      λ i. (key-in k b.0 i).lo ∷ inside-values keys b.1 i

  pub outside-none : (keys : List KeyColumn) → list_all (in_range (by_column row)) (map key_dim keys) ≡ false → box_size (fixed_to row keys) ≡ 0
  outside-none [] e = absurd (grind (arith, e))
  outside-none (k ∷ keys) e = by (in_key k) refl (outside-none keys)
    where
      later : (n m : ℕ) → m ≡ 0 → n * m ≡ 0
      later n m z = ap (λ x. n * x) z ∙ (let w : n * 0 ≡ 0 = omega arith in w)

      by : (t : Bool) → in_key k ≡ t → (list_all (in_range (by_column row)) (map key_dim keys) ≡ false → box_size (fixed_to row keys) ≡ 0) → dim_size (narrowed k) * box_size (fixed_to row keys) ≡ 0
      by true f go = later (dim_size (narrowed k)) (box_size (fixed_to row keys)) (go (sym (ap (λ b. b && list_all (in_range (by_column row)) (map key_dim keys)) f) ∙ e))
      by false f go = ap (λ x. x * box_size (fixed_to row keys)) (key-out k f) ∙ (let w : 0 * box_size (fixed_to row keys) ≡ 0 = omega arith in w)

  size-same : (keys : List KeyColumn) → box_size (map (λ (k : KeyColumn). k.dim) keys) ≡ box_size (map key_dim keys)
  size-same [] = refl
  size-same (k ∷ keys) = ap (λ n. dim_size k.dim * n) (size-same keys)

  pub place-same : (keys : List KeyColumn) → place_of (map (λ (k : KeyColumn). k.dim) keys) (key_values row keys) ≡ row_place (map key_dim keys) (by_column row)
  place-same [] = refl
  place-same (k ∷ keys) = λ i. nat_abs (by_column row k.column.column -ℤ k.dim.lo) * size-same keys i + place-same keys i

-- the other of two places
other-start : (arriving place : ℕ) → arriving < 2 → place ≡ 1 - arriving → place ≡ length (start arriving)
other-start zero place l e = e
other-start (suc zero) place l e = e
other-start (suc (suc a)) place l e = absurd (omega (arith, l))

other-chosen : (arriving place : ℕ) (values : List ℤ) (cell : Cell) → arriving < 2 → place ≡ 1 - arriving → slice_get (both arriving values cell) place ≡ Some (chosen values cell)
other-chosen zero place values cell l e = ap (slice_get (both 0 values cell)) e
other-chosen (suc zero) place values cell l e = ap (slice_get (both 1 values cell)) e
other-chosen (suc (suc a)) place values cell l e = absurd (omega (arith, l))

pub both-rows : (arriving : ℕ) (values : List ℤ) (cell : Cell) → product_of (both arriving values cell) ≡ rows_in cell
both-rows zero values cell = omega arith
both-rows (suc a) values cell = omega arith

-- the value of a class, by the column that fixes its dim
key-value : (row : List ℤ) (keys : List KeyColumn) (z : ℤ) (k c : ℕ) → number_of (slice_get keys k) ≡ Some c → slice_index_or (key_values row keys) k z ≡ by_column row c
key-value row [] z k c e = absurd (none-is c e)
key-value row (key ∷ keys) z zero c e = ap (by_column row) (some-is key.column.column c e)
key-value row (key ∷ keys) z (suc k) c e = key-value row keys z k c e

class-value : (row : List ℤ) (keys : List KeyColumn) (z : ℤ) (class : Option ℕ) (c : ℕ) → column_at keys class ≡ Some c → value_or (key_values row keys) z class ≡ by_column row c
class-value row keys z None c e = absurd (none-is c e)
class-value row keys z (Some k) c e = key-value row keys z k c e

module _ (ps : List Pair) (part : PartPlan) (arriving : ℕ) (listed : JoinLookup) (is : IsJoinLookup ps part arriving listed) (row : List ℤ) (cell : Cell) where
  abbrev cs : List Binding
  cs = both arriving (key_values row is.keys) cell

  abbrev told : Attr → Option ℕ
  told a = told_column listed.told.items listed.place arriving a

  other-value : (a : Attr) (c : ℕ) → a.stream ≡ listed.place → or_none (slice_get listed.told.items a.column) ≡ Some c → chosen_value ps part a (slice_get cs a.stream) ≡ by_column row c
  other-value a c s e = by (slice_get listed.told.items a.column) refl
    where
      there : slice_get cs a.stream ≡ Some (chosen (key_values row is.keys) cell)
      there = ap (slice_get cs) s ∙ other-chosen arriving listed.place (key_values row is.keys) cell is.here is.place

      class : column_at is.keys (class_at ps part listed.place a.column) ≡ Some c → column_at is.keys (class_at ps part a.stream a.column) ≡ Some c
      class h = ap (λ n. column_at is.keys (class_at ps part n a.column)) s ∙ h

      by : (t : Option (Option ℕ)) → slice_get listed.told.items a.column ≡ t → chosen_value ps part a (slice_get cs a.stream) ≡ by_column row c
      by None f = absurd (none-is c (sym (ap or_none f) ∙ e))
      by (Some t) f =
          let is_c : slice_get listed.told.items a.column ≡ Some (Some c) = f ∙ ap (λ (o : Option ℕ). Some o) (sym (ap or_none f) ∙ e) in
          ap (chosen_value ps part a) there
          ∙ valued_at ps part (extreme_of cell) a (dims_at part a.stream) (key_values row is.keys)
          ∙ class-value row is.keys (extreme_of cell) (class_at ps part a.stream a.column) c (class (is.told a.column c is_c))

  -- a column that is told has the value of the row
  pub told-value : (a : Attr) (c : ℕ) → told a ≡ Some c → value_in ps part arriving row cs a ≡ by_column row c
  unfolding value_in
  told-value a c = by (a.stream == arriving) refl
    where
      beside : (t : Bool) → (a.stream == listed.place) ≡ t → (if t then or_none (slice_get listed.told.items a.column) else None) ≡ Some c → chosen_value ps part a (slice_get cs a.stream) ≡ by_column row c
      beside true f e = other-value a c (grind (arith, nat_tests)) e
      beside false f e = absurd (none-is c e)

      by : (t : Bool) → (a.stream == arriving) ≡ t → (if t then Some a.column else (if a.stream == listed.place then or_none (slice_get listed.told.items a.column) else None)) ≡ Some c
          → (if t then by_column row a.column else chosen_value ps part a (slice_get cs a.stream)) ≡ by_column row c
      by true f e = ap (by_column row) (some-is a.column c e)
      by false f e = beside (a.stream == listed.place) refl e

  abbrev value : Attr → ℤ
  value = value_in ps part arriving row cs

  link-holds : (l : Link) (m n : Option ℕ) → told l.left ≡ m → told l.right ≡ n → same_column m n ≡ true → value l.left ≡ value l.right
  link-holds l None n e f h = absurd (grind (arith, h))
  link-holds l (Some m) None e f h = absurd (grind (arith, h))
  link-holds l (Some m) (Some n) e f h =
      let same : m ≡ n = grind (arith, nat_tests, h) in
      told-value l.left m e ∙ ap (by_column row) same ∙ sym (told-value l.right n f)

  equal-test : (x y : ℤ) → x ≡ y → int_eq x y ≡ true
  equal-test x y e = grind (arith, ints)

  links-hold : (links : List Link) → list_all (is_told listed.told.items listed.place arriving) links ≡ true → list_all (λ l. int_eq (value l.left) (value l.right)) links ≡ true
  links-hold [] e = refl
  links-hold (l ∷ links) e =
      let b = both-true (is_told listed.told.items listed.place arriving l) _ e in
      let here : int_eq (value l.left) (value l.right) ≡ true = equal-test (value l.left) (value l.right) (link-holds l (told l.left) (told l.right) refl refl b.0) in
      λ i. here i && links-hold links b.1 i

  none-less : (links : List Link) → length links ≡ 0 → list_all (λ l. int_lt (value l.left) (value l.right)) links ≡ true
  none-less [] e = refl
  none-less (l ∷ links) e = absurd (omega (arith, e))

  none-soft : (links : List SoftLink) → length links ≡ 0 → list_all (λ l. compares l.op (value l.left) (value l.right)) links ≡ true
  none-soft [] e = refl
  none-soft (l ∷ links) e = absurd (omega (arith, e))

  -- all links of the part hold
  pub join-meets : meets_links ps part arriving row cs ≡ true
  unfolding meets_links
  join-meets = λ i. (links-hold part.equal.items is.equal i && none-less part.less.items is.less i) && none-soft part.soft.items is.soft i

  values-told : (select : List Attr) → are_told listed arriving select ≡ true → told_values listed arriving row select ≡ map value select
  values-told [] e = refl
  values-told (a ∷ select) e =
      let b = both-true (is_some (told a)) _ e in
      λ i. one (told a) refl b.0 i ∷ values-told select b.1 i
    where
      one : (t : Option ℕ) → told a ≡ t → is_some t ≡ true → value_of row t ≡ value a
      one None f h = absurd (grind (arith, h))
      one (Some c) f h = sym (told-value a c f)

  -- and the tuple is that of the row
  pub join-tuple : (select : List Attr) → are_told listed arriving select ≡ true → told_values listed arriving row select ≡ tuple_of ps select part arriving row cs
  unfolding tuple_of
  join-tuple select e = values-told select e

  -- one combination of values is left, or none
  start-dims : dims_in part arriving (length (start arriving)) ≡ dims_at part (length (start arriving))
  unfolding dims_in
  start-dims = by arriving is.here
    where
      by : (a : ℕ) → a < 2 → (if length (start a) == a then [] else dims_at part (length (start a))) ≡ dims_at part (length (start a))
      by zero l = refl
      by (suc zero) l = refl
      by (suc (suc a)) l = absurd (omega (arith, l))

  place-is : listed.place ≡ length (start arriving)
  place-is = other-start arriving listed.place is.here is.place

  pub join-dims : narrowed_dims ps part arriving row (start arriving) ≡ fixed_to row is.keys
  unfolding narrowed_dims
  join-dims =
      let keys = subst (λ n. AreKeyColumns part arriving n (dims_at part n) is.keys) place-is is.key_columns in
      ap (map (narrows ps part arriving row (start arriving))) (start-dims ∙ sym keys.dims)
      ∙ all-narrowed ps part arriving row (start arriving) is.keys keys.each

  pub join-cell : (contents : List Cell) → list_all (in_range (by_column row)) listed.dims.items ≡ true
      → cell_in part (read_from contents) arriving (length (start arriving)) (map (λ d. d.lo) (fixed_to row is.keys)) ≡ slice_index_or contents (listed.base + row_place listed.dims.items (by_column row)) Empty
  unfolding cell_in
  join-cell contents e =
      let inside : list_all (in_range (by_column row)) (map key_dim is.keys) ≡ true = ap (list_all (in_range (by_column row))) (sym is.dims) ∙ e in
      by arriving is.here refl
      ∙ (λ i. read_from contents part (sym place-is i) (place_of (dims_at part (sym place-is i)) (inside-values row is.keys inside i)))
      ∙ (λ i. slice_index_or contents (sym is.base i + place_of (sym is.key_columns.dims i) (key_values row is.keys)) Empty)
      ∙ (λ i. slice_index_or contents (listed.base + place-same row is.keys i) Empty)
      ∙ (λ i. slice_index_or contents (listed.base + row_place (sym is.dims i) (by_column row)) Empty)
    where
      values : List ℤ
      values = map (λ d. d.lo) (fixed_to row is.keys)

      by : (a : ℕ) → a < 2 → a ≡ arriving → (if length (start arriving) == arriving then Present else read_from contents part (length (start arriving)) (place_of (dims_at part (length (start arriving))) values))
          ≡ read_from contents part (length (start arriving)) (place_of (dims_at part (length (start arriving))) values)
      by zero l f = subst (λ b. (if length (start b) == b then Present else read_from contents part (length (start b)) (place_of (dims_at part (length (start b))) values)) ≡ read_from contents part (length (start b)) (place_of (dims_at part (length (start b))) values)) f refl
      by (suc zero) l f = subst (λ b. (if length (start b) == b then Present else read_from contents part (length (start b)) (place_of (dims_at part (length (start b))) values)) ≡ read_from contents part (length (start b)) (place_of (dims_at part (length (start b))) values)) f refl
      by (suc (suc a)) l f = absurd (omega (arith, l))

-- the arriving row's own level
own-level : (w : Setting) (more : ℕ) (known : List Binding) → length known ≡ w.arriving → walk w (suc more) known ≡ walk w more (known ++ chosen [] Present ∷ [])
unfolding walk
own-level w more known here =
    let all : candidates w known ≡ [] ∷ [] = ap box (own-dims w.pairs w.part w.arriving w.row known here) in
    ap (flat_map (opened w known (walk w more))) all
    ∙ ap (λ c. entered [] known (walk w more) c ++ []) (own-cell w.part w.read w.arriving (length known) [] here)
    ∙ append-nil (walk w more (known ++ chosen [] Present ∷ []))

-- no candidate is tried
no-box : (ds : List Dim) → box_size ds ≡ 0 → box ds ≡ []
no-box ds e = by (box ds) (length-box ds ∙ e)
  where
    by : (xs : List (List ℤ)) → length xs ≡ 0 → xs ≡ []
    by [] f = refl
    by (x ∷ xs) f = absurd (omega (arith, f))

level-none : (w : Setting) (more : ℕ) (known : List Binding) → box_size (narrowed_dims w.pairs w.part w.arriving w.row known) ≡ 0 → walk w (suc more) known ≡ []
unfolding walk
level-none w more known none = ap (flat_map (opened w known (walk w more))) (no-box (narrowed_dims w.pairs w.part w.arriving w.row known) none)

-- one candidate is tried
level-one : (w : Setting) (more : ℕ) (known : List Binding) (fixed : List Dim) (cell : Cell) → narrowed_dims w.pairs w.part w.arriving w.row known ≡ fixed → box_size fixed ≡ 1
    → cell_in w.part w.read w.arriving (length known) (map (λ d. d.lo) fixed) ≡ cell → walk w (suc more) known ≡ entered (map (λ d. d.lo) fixed) known (walk w more) cell
unfolding walk
level-one w more known fixed cell are one is =
    let all : candidates w known ≡ map (λ d. d.lo) fixed ∷ [] = ap box are ∙ box-one fixed one in
    ap (flat_map (opened w known (walk w more))) all ∙ ap (λ c. entered (map (λ d. d.lo) fixed) known (walk w more) c ++ []) is ∙ append-nil (entered (map (λ d. d.lo) fixed) known (walk w more) cell)

module _ (ps : List Pair) (sel : List Attr) (part : PartPlan) (row : List ℤ) (read : Reading) where
  pub walk-none : (arriving : ℕ) → arriving < 2 → box_size (narrowed_dims ps part arriving row (start arriving)) ≡ 0 → walk (setting ps sel part arriving row read) 2 [] ≡ []
  walk-none zero l none = own-level (setting ps sel part 0 row read) 1 [] refl ∙ level-none (setting ps sel part 0 row read) 0 (start 0) none
  walk-none (suc zero) l none = level-none (setting ps sel part 1 row read) 1 [] none
  walk-none (suc (suc a)) l none = absurd (omega (arith, l))

  module _ (fixed : List Dim) (cell : Cell) (one : box_size fixed ≡ 1) where
    pub walk-empty-cell : (arriving : ℕ) → arriving < 2 → narrowed_dims ps part arriving row (start arriving) ≡ fixed → cell_in part read arriving (length (start arriving)) (map (λ d. d.lo) fixed) ≡ cell → cell ≡ Empty
        → walk (setting ps sel part arriving row read) 2 [] ≡ []
    walk-empty-cell zero l are is none =
        let w = setting ps sel part 0 row read in
        own-level w 1 [] refl ∙ level-one w 0 (start 0) fixed cell are one is ∙ ap (entered (map (λ d. d.lo) fixed) (start 0) (walk w 0)) none
    walk-empty-cell (suc zero) l are is none =
        let w = setting ps sel part 1 row read in
        level-one w 1 [] fixed cell are one is ∙ ap (entered (map (λ d. d.lo) fixed) [] (walk w 1)) none
    walk-empty-cell (suc (suc a)) l are is none = absurd (omega (arith, l))

    pub walk-one-cell : (arriving : ℕ) → arriving < 2 → narrowed_dims ps part arriving row (start arriving) ≡ fixed → cell_in part read arriving (length (start arriving)) (map (λ d. d.lo) fixed) ≡ cell → (cell ≡ Empty → ⊥)
        → walk (setting ps sel part arriving row read) 2 [] ≡ walk (setting ps sel part arriving row read) 0 (both arriving (map (λ d. d.lo) fixed) cell)
    walk-one-cell zero l are is some =
        let w = setting ps sel part 0 row read in
        own-level w 1 [] refl ∙ level-one w 0 (start 0) fixed cell are one is ∙ entered-some (map (λ d. d.lo) fixed) (start 0) (walk w 0) cell some
    walk-one-cell (suc zero) l are is some =
        let w = setting ps sel part 1 row read in
        level-one w 1 [] fixed cell are one is ∙ entered-some (map (λ d. d.lo) fixed) [] (walk w 1) cell some ∙ own-level w 0 (chosen (map (λ d. d.lo) fixed) cell ∷ []) refl
    walk-one-cell (suc (suc a)) l are is some = absurd (omega (arith, l))

-- a whole combination that meets the links
whole : (w : Setting) (known : List Binding) → meets w known ≡ true → walk w 0 known ≡ found w known ∷ []
unfolding walk
whole w known e = ap (λ b. if b then found w known ∷ [] else []) e

-- what the one cell answers
module _ (q : QueryValue) (part : PartPlan) (walked : IsWalked q part) (arriving : ℕ) (listed : JoinLookup) (is : IsJoinLookup (pairs q) part arriving listed) (row : List ℤ) (contents : List Cell) where
  abbrev w : Setting
  w = setting (pairs q) q.select part arriving row (read_from contents)

  walk-found : walk w 2 [] ≡ found_beside q part (read_from contents) arriving (by_column row)
  walk-found =
      let here : arriving < length part.streams.items = omega (arith, is.here, is.two) in
      ap (λ n. walk w n []) (sym is.two) ∙ walk-is w (breaks w (named q part walked)) (breaks-inequality w (named q part walked)) ∙ combinations-are q part arriving row (read_from contents) here

  pub nothing-outside : list_all (in_range (by_column row)) listed.dims.items ≡ false → found_beside q part (read_from contents) arriving (by_column row) ≡ []
  nothing-outside e =
      let out : list_all (in_range (by_column row)) (map key_dim is.keys) ≡ false = ap (list_all (in_range (by_column row))) (sym is.dims) ∙ e in
      sym walk-found ∙ walk-none (pairs q) q.select part row (read_from contents) arriving is.here (ap box_size (join-dims (pairs q) part arriving listed is row Empty) ∙ outside-none row is.keys out)

  module _ (e : list_all (in_range (by_column row)) listed.dims.items ≡ true) where
    inside : list_all (in_range (by_column row)) (map key_dim is.keys) ≡ true
    inside = ap (list_all (in_range (by_column row))) (sym is.dims) ∙ e

    abbrev cell : Cell
    cell = slice_index_or contents (listed.base + row_place listed.dims.items (by_column row)) Empty

    pub nothing-there : cell ≡ Empty → found_beside q part (read_from contents) arriving (by_column row) ≡ []
    nothing-there none =
        sym walk-found
        ∙ walk-empty-cell (pairs q) q.select part row (read_from contents) (fixed_to row is.keys) cell (inside-one row is.keys inside) arriving is.here (join-dims (pairs q) part arriving listed is row Empty) (join-cell (pairs q) part arriving listed is row Empty contents e) none

    pub one-there : (cell ≡ Empty → ⊥) → are_told listed arriving q.select ≡ true
        → found_beside q part (read_from contents) arriving (by_column row) ≡ as_found (told_values listed arriving row q.select) (rows_in cell) ∷ []
    one-there some t =
        let cs = both arriving (key_values row is.keys) cell in
        sym walk-found
        ∙ walk-one-cell (pairs q) q.select part row (read_from contents) (fixed_to row is.keys) cell (inside-one row is.keys inside) arriving is.here (join-dims (pairs q) part arriving listed is row Empty) (join-cell (pairs q) part arriving listed is row Empty contents e) some
        ∙ ap (λ vs. walk w 0 (both arriving vs cell)) (inside-values row is.keys inside)
        ∙ whole w cs (join-meets (pairs q) part arriving listed is row cell)
        ∙ (λ i. as_found (sym (join-tuple (pairs q) part arriving listed is row cell q.select t) i) (both-rows arriving (key_values row is.keys) cell i) ∷ [])

  -- its number is below that of the cells
  pub there-below : (cells : ℕ) → walked.cells ≤ cells → row_place listed.dims.items (by_column row) < box_size listed.dims.items → listed.base + row_place listed.dims.items (by_column row) < cells
  there-below cells within below =
      let here : arriving < length part.streams.items = omega (arith, is.here, is.two) in
      let other : listed.place ≢ arriving = λ f. (let p = is.place in let h = is.here in omega (arith, p, h, f)) in
      let place : listed.place < length part.streams.items = (let p = is.place in let h = is.here in omega (arith, p, h, is.two)) in
      let laid = laid-beside q part walked cells within arriving listed.place here place other in
      let s : box_size listed.dims.items ≡ box_size (dims_at part listed.place) = ap box_size is.dims ∙ sym (size-same row is.keys) ∙ ap box_size is.key_columns.dims in
      let b = is.base in
      omega (arith, laid.size, laid.room, s, b, below)
