-- Rows of a query of one part of which one column tells the two cells that they meet.
use Rattle.std.proofs.Common.{◌⊎◌, inl, inr, All, get_or, cond, ◌^◌, ◌≡◌, ◌≢◌, ℕ, zero, suc, ◌+◌, ◌-◌, ◌*◌, ◌<◌, ◌≤◌, ◌==◌, ◌&&◌, Bool, true, false, List, [], ◌∷◌, length, map, refl, sym, ap, ◌∙◌, subst, arith, ℤ, pos, ◌+ℤ◌, if◌then◌else◌}
use Rattle.std.proofs.lemmas.Bool.Decides.{nat_tests}
use Rattle.std.proofs.lemmas.List.{length-map}
use Rattle.std.specs.Prelude.{Option, Some, None, slice_get, slice_index_or}
use Rattle.std.specs.List.{list_all, list_any}
use Rattle.std.proofs.lemmas.List.Folds.{list_any_at}
use Rattle.sem_query.specs.declared.atom.Attr.{Attr}
use Rattle.sem_query.specs.declared.cell.Cell.{Cell}
use Rattle.sem_query.specs.declared.cell.Cell.TheVariants.{Empty}
use Rattle.sem_query.specs.declared.plan.Dim.{Dim}
use Rattle.sem_query.specs.declared.plan.Kind.TheVariants as kinds
use Rattle.sem_query.specs.declared.plan.Numbers.{Numbers}
use Rattle.sem_query.specs.declared.plan.PartPlan.{PartPlan}
use Rattle.sem_query.specs.declared.plan.Plan.{Plan}
use Rattle.sem_query.specs.declared.plan.Plan.TheVariants as plans
use Rattle.sem_query.specs.Numbers.{parts_of}
use Rattle.sem_query.specs.Admission.{admits, in_range}
use Rattle.sem_query.specs.Boxes.{box_size, AreFull}
use Rattle.sem_query.specs.Cells.{row_place}
use Rattle.sem_query.specs.Combinations.{Reading, read_from, found_in}
use Rattle.sem_query.specs.Meaning.{by_column}
use Rattle.sem_query.specs.Parts.{pairs}
use Rattle.sem_query.specs.Plan.{stream_at, dims_at}
use Rattle.sem_query.specs.Probing.{found_beside}
use Rattle.sem_query.specs.Query.{QueryValue, IsWithinLimits}
use Rattle.exec_ranges.specs.Values.{rows_in}
use Rattle.exec_join.specs.Joining.{is_some, value_of}
use Rattle.exec_join.specs.Remaining.{as_found}
use Rattle.exec_join.proofs.JoinLaws.{nothing-there, one-there, there-below}
use Rattle.exec_synopsis.specs.declared.axes.Axis.{Axis}
use Rattle.exec_synopsis.specs.declared.key_columns.KeyColumn.{KeyColumn}
use Rattle.exec_synopsis.specs.Axes.{axis_of, IsShort, IsAbove, IsCell}
use Rattle.exec_synopsis.specs.declared.axes.Placement.TheVariants as placement
use Rattle.exec_synopsis.specs.Joining.{key_dim, column_at, or_none, told_column, class_at}
use Rattle.exec_synopsis.specs.Premises.{IsWalked}
use Rattle.exec_synopsis.proofs.AxisLaws.{start, further, out, at-end}
use Rattle.exec_synopsis.proofs.Lookups.{some-is, none-is}
use Rattle.exec_point_lookup.specs.declared.direct.DirectLookup.{DirectLookup}
use Rattle.exec_point_lookup.specs.Direct.{own_axis, other_axis, IsDirectIn, IsDirect}
use Rattle.exec_query.specs.TwoCells.{told_by}
use Rattle.exec_query.specs.Executor.{arrival}
use Rattle.exec_query.specs.CellSteps.{arrives, all_found, answered_by}
use Rattle.exec_query.proofs.InPart.{found_admitted}
use Rattle.exec_query.proofs.OnlyPart.{only-signed}
use Rattle.exec_query.specs.Signed.{IsSigned}

-- one range tells whether a row lies in the box, and where
module _ (v : ℕ → ℤ) (dims : List Dim) (a : Axis) (are : a ∷ [] ≡ map axis_of dims) (full : AreFull dims) where
  count : length dims ≡ 1
  count = sym (ap length are ∙ length-map dims axis_of)

  pub one-out : ((n : ℕ) → n < a.size → v a.column ≢ a.lo +ℤ pos n) → list_all (in_range v) dims ≡ false
  one-out h = out v dims (a ∷ []) are 0 0 (start v dims full) a a (omega arith) refl h

  pub one-in : (n : ℕ) → n < a.size → v a.column ≡ a.lo +ℤ pos n → (list_all (in_range v) dims ≡ true) × (n ≡ row_place dims v) × (n < box_size dims)
  one-in n l e =
      let f = further v dims (a ∷ []) are 0 0 (start v dims full) a a (omega arith) refl n l e in
      let r = at-end v dims 1 (0 * a.size + n) (omega (arith, count)) f in
      (r.0, (let p = r.1 in omega (arith, p)), (let p = r.2 in omega (arith, p)))

-- the column that fixes the only dim
only-column : (key : KeyColumn) (class : Option ℕ) (c : ℕ) → column_at (key ∷ []) class ≡ Some c → key.column.column ≡ c
only-column key None c e = absurd (none-is c e)
only-column key (Some zero) c e = some-is key.column.column c e
only-column key (Some (suc k)) c e = absurd (none-is c e)

-- a column of the other stream is told as it is listed
listed-column : (told : List (Option ℕ)) (place arriving column c : ℕ) → arriving < 2 → place ≡ 1 - arriving
    → told_column told place arriving (record { stream = 1 - arriving; column = column }) ≡ Some c → slice_get told column ≡ Some (Some c)
listed-column told place arriving column c l p e = own ((1 - arriving) == arriving) refl e
  where
    there : (t : Option (Option ℕ)) → slice_get told column ≡ t → or_none t ≡ Some c → slice_get told column ≡ Some (Some c)
    there None f h = absurd (none-is c h)
    there (Some t) f h = f ∙ ap (λ (o : Option ℕ). Some o) h

    beside : (t : Bool) → (if t then or_none (slice_get told column) else None) ≡ Some c → slice_get told column ≡ Some (Some c)
    beside true h = there (slice_get told column) refl h
    beside false h = absurd (none-is c h)

    own : (t : Bool) → ((1 - arriving) == arriving) ≡ t → (if t then Some column else (if (1 - arriving) == place then or_none (slice_get told column) else None)) ≡ Some c
        → slice_get told column ≡ Some (Some c)
    own true f h = absurd (let same : 1 - arriving ≡ arriving = grind (arith, nat_tests, f) in omega (arith, same, l))
    own false f h = beside ((1 - arriving) == place) h

-- the ranges of the one dim there, of the column of the row that fixes it
key-axis : (keys : List KeyColumn) (a b : Axis) (class : Option ℕ) → b ∷ [] ≡ map axis_of (map (λ (k : KeyColumn). k.dim) keys) → column_at keys class ≡ Some a.column → a.lo ≡ b.lo → a.size ≡ b.size
    → a ∷ [] ≡ map axis_of (map key_dim keys)
key-axis [] a b class e c lo size = absurd (let n = ap length e in omega (arith, n))
key-axis (key ∷ []) a b class e c lo size =
    let same : b ≡ axis_of key.dim = cc in
    let column = only-column key class a.column c in
    λ i. record { lo = (lo ∙ ap (λ (x : Axis). x.lo) same) i; size = (size ∙ ap (λ (x : Axis). x.size) same) i; column = sym column i } ∷ []
key-axis (key ∷ k ∷ keys) a b class e c lo size = absurd (let n = ap length e in omega (arith, n))

-- for each of these columns one of the row is told
all-told : (told : Attr → Option ℕ) (row : List ℤ) (select : List Attr) (columns : List ℕ) → map told select ≡ map (λ (c : ℕ). Some c) columns
    → (list_all (λ a. is_some (told a)) select ≡ true) × (map (λ a. value_of row (told a)) select ≡ map (by_column row) columns)
all-told told row [] [] e = (refl, refl)
all-told told row [] (c ∷ columns) e = absurd (let n = ap length e in omega (arith, n))
all-told told row (a ∷ select) [] e = absurd (let n = ap length e in omega (arith, n))
all-told told row (a ∷ select) (c ∷ columns) e =
    let first : told a ≡ Some c = cc in
    let rest : map told select ≡ map (λ (c : ℕ). Some c) columns = cc in
    let r = all-told told row select columns rest in
    ((λ i. is_some (first i) && r.0 i), (λ i. value_of row (first i) ∷ r.1 i))

module _ (q : QueryValue) (part : PartPlan) (d : DirectLookup) (is : IsDirectIn q part d) (row : List ℤ) where
  own-are : own_axis d ∷ [] ≡ map axis_of (dims_at part d.pos)
  own-are = sym is.is.own_axes ∙ is.own_layout.axes.are

  -- a row out of the range is not in the ranges of the dims
  pub direct-out : IsAbove (by_column row d.range.column) (own_axis d) None → list_all (in_range (by_column row)) (dims_at part d.pos) ≡ false
  direct-out h = one-out (by_column row) (dims_at part d.pos) (own_axis d) own-are is.own_layout.axes.full h

  module _ (n : ℕ) (above : IsAbove (by_column row d.range.column) (own_axis d) (Some n)) where
    own-in : (list_all (in_range (by_column row)) (dims_at part d.pos) ≡ true) × (n ≡ row_place (dims_at part d.pos) (by_column row)) × (n < box_size (dims_at part d.pos))
    own-in = one-in (by_column row) (dims_at part d.pos) (own_axis d) own-are is.own_layout.axes.full n above.0 above.1

    -- a row in the range is in those of the dims
    pub direct-in : list_all (in_range (by_column row)) (dims_at part d.pos) ≡ true
    direct-in = own-in.0

    -- its own cell is told
    pub direct-own : IsCell part d.pos row (placement.Cell (d.own + n) kinds.Count)
    direct-own = (
      is.own_layout.several,
      (let b = is.own_layout.base in let o = is.is.own_base in let p = own-in.1 in omega (arith, b, o, p)),
      sym is.is.kind ∙ is.own_layout.kind,
    )

    pub direct-few : d.own + n < 2 ^ 32
    direct-few = let few = is.own_layout.few in let o = is.is.own_base in let b = own-in.2 in omega (arith, few, o, b)

    other-is : is.listed.place ≡ 1 - d.pos
    other-is = is.joins.place

    other-are : own_axis d ∷ [] ≡ map axis_of is.listed.dims.items
    other-are =
        let told = listed-column is.listed.told.items is.listed.place d.pos d.joined d.range.column is.joins.here is.joins.place is.is.told in
        let there : other_axis d ∷ [] ≡ map axis_of (map (λ (k : KeyColumn). k.dim) is.joins.keys)
        = sym is.is.other_axes ∙ is.other_layout.axes.are ∙ ap (λ place. map axis_of (dims_at part place)) (sym other-is) ∙ ap (map axis_of) (sym is.joins.key_columns.dims) in
        key-axis is.joins.keys (own_axis d) (other_axis d) (class_at (pairs q) part is.listed.place d.joined) there (is.joins.told d.joined d.range.column told) refl refl
        ∙ ap (map axis_of) (sym is.joins.dims)

    other-in : (list_all (in_range (by_column row)) is.listed.dims.items ≡ true) × (n ≡ row_place is.listed.dims.items (by_column row)) × (n < box_size is.listed.dims.items)
    other-in = one-in (by_column row) is.listed.dims.items (own_axis d) other-are is.joins.axes.full n above.0 above.1

    -- so is the other
    other-number : is.listed.base + row_place is.listed.dims.items (by_column row) ≡ d.other + n
    other-number =
        let b : is.listed.base ≡ d.other = is.joins.base ∙ ap (λ place. (stream_at part place).base) other-is ∙ sym is.other_layout.base ∙ is.is.other_base in
        let p = other-in.1 in
        omega (arith, b, p)

    pub other-few : d.other + n < 2 ^ 32
    other-few = let few = is.joins.few in let e = other-number in let p = other-in.1 in let b = other-in.2 in omega (arith, few, e, p, b)

    module _ (walked : IsWalked q part) where
      pub other-below : (cells : ℕ) → walked.cells ≤ cells → d.other + n < cells
      other-below cells within =
          let p = other-in.1 in
          let b = other-in.2 in
          let l : row_place is.listed.dims.items (by_column row) < box_size is.listed.dims.items = omega (arith, p, b) in
          let below = there-below q part walked d.pos is.listed is.joins row [] cells within l in
          let e = other-number in
          omega (arith, below, e)

      module _ (contents : List Cell) where
        -- what it holds is what is found
        pub direct-none : slice_index_or contents (d.other + n) Empty ≡ Empty → found_beside q part (read_from contents) d.pos (by_column row) ≡ []
        direct-none none =
            nothing-there q part walked d.pos is.listed is.joins row contents other-in.0 (ap (λ k. slice_index_or contents k Empty) other-number ∙ none)

        pub direct-one : (slice_index_or contents (d.other + n) Empty ≡ Empty → ⊥)
            → found_beside q part (read_from contents) d.pos (by_column row) ≡ as_found (map (by_column row) d.selected.items) (rows_in (slice_index_or contents (d.other + n) Empty)) ∷ []
        direct-one some =
            let same = ap (λ k. slice_index_or contents k Empty) other-number in
            let told = all-told (told_column is.listed.told.items is.listed.place d.pos) row q.select d.selected.items is.columns in
            one-there q part walked d.pos is.listed is.joins row contents other-in.0 (λ e. some (sym same ∙ e)) told.0
            ∙ (λ i. as_found (told.1 i) (rows_in (same i)) ∷ [])

-- what a cell tells
pub told-empty : (d : DirectLookup) (row : List ℤ) (cell : Cell) → cell ≡ Empty → told_by d row cell ≡ []
told-empty d row cell e = ap (told_by d row) e

pub told-some : (d : DirectLookup) (row : List ℤ) (cell : Cell) → (cell ≡ Empty → ⊥) → told_by d row cell ≡ as_found (map (by_column row) d.selected.items) (rows_in cell) ∷ []
told-some d row Empty n = absurd (n refl)
told-some d row (Cell.Count m) n = refl
told-some d row Cell.Present n = refl
told-some d row (Cell.Extreme z) n = refl

empty-or : (cell : Cell) → (cell ≡ Empty) ⊎ (cell ≡ Empty → ⊥)
empty-or Empty = inl refl
empty-or (Cell.Count m) = inr (λ e. cc)
empty-or Cell.Present = inr (λ e. cc)
empty-or (Cell.Extreme z) = inr (λ e. cc)

-- the range of a look-up has 64 bits
pub direct-short : (q : QueryValue) (part : PartPlan) (d : DirectLookup) → IsDirectIn q part d → IsShort (own_axis d)
direct-short q part d is =
    let short : All IsShort (own_axis d ∷ []) = subst (λ (xs : List Axis). All IsShort xs) is.is.own_axes is.own_layout.axes.short in
    short 0 (own_axis d) (omega arith)

-- the ranges tell all that is asked
pub direct-signed : (q : QueryValue) (plan : List PartPlan) (d : DirectLookup) → IsDirect q plan d → IsSigned q plan d.pos
direct-signed q plan d is = λ part at_0 v inside.
    let k = is.only part at_0 in
    k.joins.signed k.is.signed v inside

module _ (q : QueryValue) (plan : List PartPlan) (d : DirectLookup) (is : IsDirect q plan d) (part : PartPlan) (at_0 : slice_get plan 0 ≡ Some part) (row values : List ℤ) (same : values ≡ row) where
  -- a row out of the range is not admitted
  pub direct-refused : IsAbove (by_column values d.range.column) (own_axis d) None → admits q part d.pos (by_column row) ≡ false
  direct-refused h =
      only-signed q plan d.pos part at_0 (direct-signed q plan d is) (by_column row)
      ∙ direct-out q part d (is.only part at_0) row (subst (λ (xs : List ℤ). IsAbove (by_column xs d.range.column) (own_axis d) None) same h)

  module _ (n : ℕ) (above : IsAbove (by_column values d.range.column) (own_axis d) (Some n)) where
    pub direct-above : IsAbove (by_column row d.range.column) (own_axis d) (Some n)
    direct-above = subst (λ (xs : List ℤ). IsAbove (by_column xs d.range.column) (own_axis d) (Some n)) same above

    -- one in it is
    pub direct-admitted : admits q part d.pos (by_column row) ≡ true
    direct-admitted =
        only-signed q plan d.pos part at_0 (direct-signed q plan d is) (by_column row)
        ∙ direct-in q part d (is.only part at_0) row n direct-above

    module _ (limits : IsWithinLimits q) (walked : IsWalked q part) (contents : List Cell) where
      -- and what the other cell tells is all that is found
      pub direct-found : found_in q part (read_from contents) (arrives q d.pos row) ≡ told_by d row (slice_index_or contents (d.other + n) Empty)
      direct-found =
          found_admitted q part limits walked.plan d.pos is.here row (read_from contents) direct-admitted
          ∙ elim (empty-or (slice_index_or contents (d.other + n) Empty)) [
            | inl e ↦ direct-none q part d (is.only part at_0) row n direct-above walked contents e ∙ sym (told-empty d row (slice_index_or contents (d.other + n) Empty) e)
            | inr s ↦ direct-one q part d (is.only part at_0) row n direct-above walked contents s ∙ sym (told-some d row (slice_index_or contents (d.other + n) Empty) s)
          ]

-- the plan of a query with a look-up is no filter
pub direct-parts : (q : QueryValue) (p : Plan) (d : DirectLookup) → IsDirect q (parts_of p) d → p ≡ plans.Filter → ⊥
direct-parts q p d is e = let n = is.one in let z : length (parts_of p) ≡ 0 = ap (λ o. length (parts_of o)) e in omega (arith, n, z)

-- a row of its stream arrives at its place
pub direct-arrives : (q : QueryValue) (plan : List PartPlan) (d : DirectLookup) → IsDirect q plan d → (stream : ℕ) → d.stream ≡ stream → (row : List ℤ) → arrival stream row ≡ arrives q d.pos row
direct-arrives q plan d is stream e row = ap (λ s. arrival s row) (sym e ∙ is.stream)

pub direct-named : (q : QueryValue) (plan : List PartPlan) (d : DirectLookup) → IsDirect q plan d → (stream : ℕ) → d.stream ≡ stream → list_any (λ s. stream == s) q.from ≡ true
direct-named q plan d is stream e =
    list_any_at (λ s. stream == s) q.from d.pos 0 is.here (let same : stream ≡ get_or q.from d.pos 0 = sym e ∙ is.stream in grind (arith, nat_tests, same))

pub direct-answers : (q : QueryValue) (p : Plan) (parts : List PartPlan) (numbers : Numbers) (d : DirectLookup) → IsDirect q (parts_of p) d → (stream : ℕ) → d.stream ≡ stream → p ≡ plans.Parts parts numbers
    → (read : Reading) (row : List ℤ) → answered_by q p read (arrival stream row) ≡ all_found q parts read (arrives q d.pos row)
direct-answers q p parts numbers d is stream e isp read row =
    ap (λ o. answered_by q o read (arrival stream row)) isp
    ∙ ap (λ b. cond b (all_found q parts read (arrival stream row)) []) (direct-named q (parts_of p) d is stream e)
    ∙ ap (all_found q parts read) (direct-arrives q (parts_of p) d is stream e row)
