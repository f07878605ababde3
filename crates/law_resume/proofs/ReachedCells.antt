-- Cells that are kept, each of its kind, counting at most the rows given, with extremes of 64 bits: at first, after a row, and after one was told.
use Rattle.std.proofs.Common.{◌≡◌, ◌≢◌, ℕ, zero, suc, ◌+◌, ◌-◌, ◌<◌, ◌≤◌, ◌^◌, ◌⊎◌, inl, inr, Bool, true, false, cond, ◌&&◌, ◌==◌, nat_lt, nat_eq, int_le, int_lt, ℤ, pos, nat_abs, List, [], ◌∷◌, ◌++◌, map, filter, length, replicate, slice_set, slice_index_or, Option, Some, None, option_and_then, refl, sym, ap, ◌∙◌, subst, arith}
use Rattle.std.specs.List.{AllByRecursion}
use Rattle.std.specs.Ordering.{int_eq}
use Rattle.std.proofs.lemmas.Bool.Decides.{nat_tests}
use Rattle.std.proofs.lemmas.Grind.{get_or-set_at}
use Rattle.std.proofs.lemmas.Int.{ints}
use Rattle.std.proofs.lemmas.List.{get_or_default, get_or-replicate, get_or-set_other}
use Rattle.sem_query.specs.declared.cell.Cell.{Cell}
use Rattle.sem_query.specs.declared.plan.Kind.{Kind}
use Rattle.sem_query.specs.declared.plan.PartPlan.{PartPlan}
use Rattle.sem_query.specs.Query.{QueryValue}
use Rattle.sem_query.specs.Meaning.{Arrival, by_column}
use Rattle.sem_query.specs.Plan.{stream_at, dims_at}
use Rattle.sem_query.specs.Admission.{admits}
use Rattle.sem_query.specs.Cells.{content, row_place, cell_of, FitsKind}
use Rattle.sem_query.specs.Merge.{merged}
use Rattle.sem_query.specs.Sharing.{Box, size_in, sizes_in, synopsis_in, merge_in}
use Rattle.sem_laws.proofs.RowMerge.{content-none, merged-empty}
use Rattle.sem_laws.proofs.SameBoxes.{sizes-cons}
use Rattle.sem_laws.proofs.SharedCells.{Lies, lies-in, into-size, into-at}
use Rattle.sem_laws.proofs.Tests.{and-left, and-right}
use Rattle.exec_restore.specs.Loadable.{kind_at, filled_cell}
use Rattle.exec_query.specs.Standing.{CountsUpto}
use Rattle.exec_query.proofs.RowCells.{kept_by}
use Rattle.exec_registry.specs.Sound.{IsCellOf}
use Rattle.law_resume.specs.Small.{FitsContent}
use Rattle.law_resume.proofs.ReachedRanges.{Fits, zero_fits}

-- the cell of a number is one that is kept there, and its extreme is an integer of 64 bits
pub record IsKeptCell (list : List Box) (given i : ℕ) (cell : Cell) : Type 0 where
  pub own : IsCellOf list given i cell
  pub content : FitsContent cell

abbrev pub AreKeptCells : List Box → ℕ → List Cell → Type 0
AreKeptCells list given cells = (i : ℕ) (d : Cell) → i < sizes_in list → IsKeptCell list given i (slice_index_or cells i d)

-- the kind of the cell of a number, by where the number lies
less : (n m : ℕ) → n < m → nat_lt n m ≡ true
less n m l = grind (arith, nat_tests)

not_less : (n m k : ℕ) → n ≡ m + k → nat_lt n m ≡ false
not_less n m k e = grind (arith, nat_tests)

kind_first : (b : Box) (boxes : List Box) (i : ℕ) → i < size_in b → kind_at (b ∷ boxes) i ≡ Some (stream_at b.part b.place).kind
unfolding kind_at
kind_first b boxes i inside = ap (λ t. cond t (Some (stream_at b.part b.place).kind) (kind_at boxes (i - size_in b))) (less i (size_in b) inside)

kind_past : (b : Box) (boxes : List Box) (n m : ℕ) → n ≡ size_in b + m → kind_at (b ∷ boxes) n ≡ kind_at boxes m
unfolding kind_at
kind_past b boxes n m e =
    ap (λ t. cond t (Some (stream_at b.part b.place).kind) (kind_at boxes (n - size_in b))) (not_less n (size_in b) m e)
    ∙ ap (kind_at boxes) (let z : n - size_in b ≡ m = omega (arith, e) in z)

kind_behind : (before : List Box) (b : Box) (after : List Box) (n i : ℕ) → i < size_in b → n ≡ sizes_in before + i → kind_at (before ++ b ∷ after) n ≡ Some (stream_at b.part b.place).kind
kind_behind [] b after n i inside e = ap (kind_at (b ∷ after)) (let z : n ≡ i = omega (arith, e) in z) ∙ kind_first b after i inside
kind_behind (x ∷ before) b after n i inside e =
    let all = sizes-cons x before in
    kind_past x (before ++ b ∷ after) n (sizes_in before + i) (omega (arith, e, all)) ∙ kind_behind before b after (sizes_in before + i) i inside refl

kind_lies : (list : List Box) (n : ℕ) (l : Lies list n) → kind_at list n ≡ Some (stream_at l.box.part l.box.place).kind
kind_lies list n l = ap (λ (xs : List Box). kind_at xs n) l.whole ∙ kind_behind l.before l.box l.after n l.i l.inside l.there

-- an empty cell is of any kind
empty_fits : (k : Kind) → FitsKind k Cell.Empty
empty_fits Kind.Count = tt
empty_fits Kind.Present = tt
empty_fits (Kind.Least a) = tt
empty_fits (Kind.Greatest a) = tt

-- after creation
pub first_kept : (list : List Box) → AreKeptCells list 0 (replicate (sizes_in list) Cell.Empty)
first_kept list i d l =
    let at : Lies list i = lies-in list i l in
    let k : Kind = (stream_at at.box.part at.box.place).kind in
    subst (λ (c : Cell). IsKeptCell list 0 i c) (sym (get_or-replicate (sizes_in list) i Cell.Empty d l))
    (record { own = record { kind = k; there = kind_lies list i at; fits = empty_fits k; counts = tt }; content = tt })

-- where more rows were given
more_counts : (m n : ℕ) (c : Cell) → m ≤ n → CountsUpto m c → CountsUpto n c
more_counts m n Cell.Empty l h = tt
more_counts m n (Cell.Count k) l h = omega (arith, l, h)
more_counts m n Cell.Present l h = tt
more_counts m n (Cell.Extreme z) l h = tt

pub more_kept : (list : List Box) (m n : ℕ) (cells : List Cell) → m ≤ n → AreKeptCells list m cells → AreKeptCells list n cells
more_kept list m n cells l h i d inside =
    (let k : IsKeptCell list m i (slice_index_or cells i d) = h i d inside in
    record {
      own = record { kind = k.own.kind; there = k.own.there; fits = k.own.fits; counts = more_counts m n (slice_index_or cells i d) l k.own.counts };
      content = k.content;
    })

-- a row of integers of 64 bits
value_fits : (values : List ℤ) (c : ℕ) → AllByRecursion Fits values → Fits (by_column values c)
value_fits [] c h = zero_fits
value_fits (v ∷ values) zero h = h.0
value_fits (v ∷ values) (suc c) h = value_fits values c h.1

either_fits : (b : Bool) (x y : ℤ) → Fits x → Fits y → Fits (cond b x y)
either_fits true x y h k = h
either_fits false x y h k = k

content_merged : (k : Kind) (c : Cell) (values : List ℤ) → AllByRecursion Fits values → FitsKind k c → FitsContent c → FitsContent (merged k c (content k (values ∷ [])))
content_merged Kind.Count Cell.Empty values f h e = tt
content_merged Kind.Present Cell.Empty values f h e = tt
content_merged (Kind.Least a) Cell.Empty values f h e = value_fits values a.column f
content_merged (Kind.Greatest a) Cell.Empty values f h e = value_fits values a.column f
content_merged Kind.Count (Cell.Count m) values f h e = tt
content_merged Kind.Present (Cell.Count m) values f h e = absurd h
content_merged (Kind.Least a) (Cell.Count m) values f h e = absurd h
content_merged (Kind.Greatest a) (Cell.Count m) values f h e = absurd h
content_merged Kind.Count Cell.Present values f h e = absurd h
content_merged Kind.Present Cell.Present values f h e = tt
content_merged (Kind.Least a) Cell.Present values f h e = absurd h
content_merged (Kind.Greatest a) Cell.Present values f h e = absurd h
content_merged Kind.Count (Cell.Extreme z) values f h e = absurd h
content_merged Kind.Present (Cell.Extreme z) values f h e = absurd h
content_merged (Kind.Least a) (Cell.Extreme z) values f h e =
    either_fits (int_lt (by_column values a.column) z) (by_column values a.column) z (value_fits values a.column f) e
content_merged (Kind.Greatest a) (Cell.Extreme z) values f h e =
    either_fits (int_lt z (by_column values a.column)) (by_column values a.column) z (value_fits values a.column f) e

-- a cell has the row, or none
one_or_none : (k : Kind) (values : List ℤ) (b : Bool) → (content k (cond b (values ∷ []) []) ≡ Cell.Empty) ⊎ (content k (cond b (values ∷ []) []) ≡ content k (values ∷ []))
one_or_none k values true = inr refl
one_or_none k values false = inl (content-none k)

row_or_none : (k : Kind) (own : List ℤ → Bool) (r : Arrival) (b : Bool)
    → (content k (filter own (map (λ (x : Arrival). x.values) (cond b (r ∷ []) []))) ≡ Cell.Empty) ⊎ (content k (filter own (map (λ (x : Arrival). x.values) (cond b (r ∷ []) []))) ≡ content k (r.values ∷ []))
row_or_none k own r true = one_or_none k r.values (own r.values)
row_or_none k own r false = inl (content-none k)

cell_of_row : (q : QueryValue) (r : Arrival) (part : PartPlan) (place i : ℕ)
    → (cell_of q (r ∷ []) part place i ≡ Cell.Empty) ⊎ (cell_of q (r ∷ []) part place i ≡ content (stream_at part place).kind (r.values ∷ []))
cell_of_row q r part place i =
    row_or_none (stream_at part place).kind (λ row. admits q part place (by_column row) && nat_eq (row_place (dims_at part place) (by_column row)) i) r (r.stream == slice_index_or q.from place 0)

same_kind : (k l : Kind) → Some k ≡ Some l → k ≡ l
same_kind k l e = cc

module _ (q : QueryValue) (list : List Box) (given : ℕ) (few : given < 2 ^ 40) (r : Arrival) (fit : AllByRecursion Fits r.values) where
  -- one cell after the row
  cell_kept : (i : ℕ) (c : Cell) (k : Kind) → kind_at list i ≡ Some k → IsKeptCell list given i c → (e : Cell) → (e ≡ Cell.Empty) ⊎ (e ≡ content k (r.values ∷ []))
      → IsKeptCell list (given + 1) i (merged k c e)
  cell_kept i c k there h e o =
      let fits : FitsKind k c = subst (λ (x : Kind). FitsKind x c) (same_kind h.own.kind k (sym h.own.there ∙ there)) h.own.fits in
      elim o [
        | inl none ↦ (
            let both = kept_by false given k c r.values few fits h.own.counts in
            subst (λ (x : Cell). IsKeptCell list (given + 1) i x) (sym (ap (merged k c) none ∙ merged-empty k c))
            (record { own = record { kind = k; there = there; fits = both.0; counts = both.1 }; content = h.content })
            )
        | inr one ↦ (
            let both = kept_by true given k c r.values few fits h.own.counts in
            subst (λ (x : Cell). IsKeptCell list (given + 1) i x) (sym (ap (merged k c) one))
            (record { own = record { kind = k; there = there; fits = both.0; counts = both.1 }; content = content_merged k c r.values fit fits h.content })
            )
      ]

  -- all cells after it
  pub row_kept : (cells : List Cell) → length cells ≡ sizes_in list → AreKeptCells list given cells → AreKeptCells list (given + 1) (merge_in list cells (synopsis_in q list (r ∷ [])))
  row_kept cells whole h i d l =
      let at : Lies list i = lies-in list i l in
      let k : Kind = (stream_at at.box.part at.box.place).kind in
      let size : length (merge_in list cells (synopsis_in q list (r ∷ []))) ≡ sizes_in list = into-size q list cells whole (r ∷ []) in
      subst (λ (x : Cell). IsKeptCell list (given + 1) i x)
      (sym (get_or_default (merge_in list cells (synopsis_in q list (r ∷ []))) i d Cell.Empty (omega (arith, l, size)) ∙ into-at q list cells whole (r ∷ []) i at))
      (cell_kept i (slice_index_or cells i Cell.Empty) k (kind_lies list i at) (h i Cell.Empty l) (cell_of q (r ∷ []) at.box.part at.box.place at.i) (cell_of_row q r at.box.part at.box.place at.i))

-- a cell that is told
filled_kept : (list : List Box) (given i : ℕ) (k : Kind) (v : ℤ) (c : Cell) → given ≤ 2 ^ 40 → Fits v → kind_at list i ≡ Some k → filled_cell given k v ≡ Some c → IsKeptCell list given i c
filled_kept list given i Kind.Count v c few fit there e = by (int_le (pos 1) v && int_le v (pos given)) refl e
  where
    by : (b : Bool) → (int_le (pos 1) v && int_le v (pos given)) ≡ b → cond b (Some (Cell.Count (nat_abs v))) None ≡ Some c → IsKeptCell list given i c
    by true t f =
        let low : int_le (pos 1) v ≡ true = and-left _ (int_le v (pos given)) t in
        let high : int_le v (pos given) ≡ true = and-right (int_le (pos 1) v) _ t in
        let some : 0 < nat_abs v = grind (arith, ints, low) in
        let most : nat_abs v ≤ given = grind (arith, ints, low, high) in
        let is : Cell.Count (nat_abs v) ≡ c = cc in
        subst (λ (x : Cell). IsKeptCell list given i x) is
        (record { own = record { kind = Kind.Count; there = there; fits = (some, omega (arith, most, few)); counts = most }; content = tt })
    by false t f = absurd cc
filled_kept list given i Kind.Present v c few fit there e = by (int_eq v (pos 1)) e
  where
    by : (b : Bool) → cond b (Some Cell.Present) None ≡ Some c → IsKeptCell list given i c
    by true f =
        (let is : Cell.Present ≡ c = cc in
        subst (λ (x : Cell). IsKeptCell list given i x) is (record { own = record { kind = Kind.Present; there = there; fits = tt; counts = tt }; content = tt }))
    by false f = absurd cc
filled_kept list given i (Kind.Least a) v c few fit there e =
    (let is : Cell.Extreme v ≡ c = cc in
    subst (λ (x : Cell). IsKeptCell list given i x) is (record { own = record { kind = Kind.Least a; there = there; fits = tt; counts = tt }; content = fit }))
filled_kept list given i (Kind.Greatest a) v c few fit there e =
    (let is : Cell.Extreme v ≡ c = cc in
    subst (λ (x : Cell). IsKeptCell list given i x) is (record { own = record { kind = Kind.Greatest a; there = there; fits = tt; counts = tt }; content = fit }))

pub set_kept : (list : List Box) (given n : ℕ) (cells : List Cell) (c : Cell) → length cells ≡ sizes_in list → AreKeptCells list given cells → IsKeptCell list given n c
    → AreKeptCells list given (slice_set cells n c)
set_kept list given n cells c whole h own i d l = by (nat_eq i n) refl
  where
    by : (b : Bool) → nat_eq i n ≡ b → IsKeptCell list given i (slice_index_or (slice_set cells n c) i d)
    by true e =
        (let same : i ≡ n = grind (arith, nat_tests, e) in
        subst (λ (x : Cell). IsKeptCell list given i x) (sym (get_or-set_at cells n i c d same (omega (arith, l, whole, same)))) (subst (λ (j : ℕ). IsKeptCell list given j c) (sym same) own))
    by false e =
        (let other : i ≢ n = λ s. grind (arith, nat_tests, e, s) in
        subst (λ (x : Cell). IsKeptCell list given i x) (sym (get_or-set_other cells n i c d other)) (h i d l))

-- the kind of a told cell, and its content
pub told_kept : (list : List Box) (given n : ℕ) (v : ℤ) (c : Cell) → given ≤ 2 ^ 40 → Fits v → option_and_then (λ kind. filled_cell given kind v) (kind_at list n) ≡ Some c → IsKeptCell list given n c
told_kept list given n v c few fit e = by (kind_at list n) refl e
  where
    by : (o : Option Kind) → kind_at list n ≡ o → option_and_then (λ kind. filled_cell given kind v) o ≡ Some c → IsKeptCell list given n c
    by None there f = absurd cc
    by (Some k) there f = filled_kept list given n k v c few fit there f
