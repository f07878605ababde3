-- Cells that are laid out by a list of boxes: read by bases, merged, and grown row by row.
use Rattle.std.proofs.Common.{◌≡◌, ℕ, zero, suc, ◌+◌, ◌-◌, ◌<◌, ◌≤◌, ◌⊎◌, inl, inr, List, [], ◌∷◌, ◌++◌, length, cond, int_lt, refl, sym, ap, ◌∙◌, arith, ℤ, slice_index_or, replicate}
use Rattle.std.proofs.lemmas.Int.{ints}
use Rattle.sem_query.specs.declared.cell.Cell.{Cell}
use Rattle.sem_query.specs.declared.plan.Kind.{Kind}
use Rattle.sem_query.specs.declared.plan.PartPlan.{PartPlan}
use Rattle.sem_query.specs.Query.{QueryValue}
use Rattle.sem_query.specs.Meaning.{Arrival, rows, by_column}
use Rattle.sem_query.specs.Plan.{stream_at}
use Rattle.sem_query.specs.Cells.{least, greatest, content, cell_of, rows_of_cell, upto}
use Rattle.sem_query.specs.Merge.{merged, merged_cells}
use Rattle.sem_query.specs.Sharing.{Box, size_in, spread, sizes_in, kinds_in, synopsis_in, merge_in}
use Rattle.sem_laws.specs.Sharing.{BoxesMerge, BasesGrow}
use Rattle.sem_laws.proofs.LaidOut.{length-more, length-upto, get-upto, get-front, get-back}
use Rattle.sem_laws.proofs.Merge.{cell-append, merged-pieces, merged-upto}
use Rattle.sem_laws.proofs.RowMerge.{merged-length, merged-at, merged-empty, content-none}
use Rattle.sem_laws.proofs.Numbering.{same-lists}
use Rattle.sem_laws.proofs.SameBoxes.{sizes-cons}

pub sizes-append : (xs ys : List Box) → sizes_in (xs ++ ys) ≡ sizes_in xs + sizes_in ys
sizes-append [] ys = omega arith
sizes-append (x ∷ xs) ys = omega (arith, sizes-cons x (xs ++ ys), sizes-cons x xs, sizes-append xs ys)

pub spread-length : {X : Type 0} (f : PartPlan → ℕ → ℕ → X) (xs : List Box) → length (spread f xs) ≡ sizes_in xs
spread-length f [] = refl
spread-length f (x ∷ xs) =
    omega (arith, length-more (upto (f x.part x.place) (size_in x)) (spread f xs), length-upto (f x.part x.place) (size_in x), spread-length f xs, sizes-cons x xs)

-- what stands in the middle
pub spread-at : {X : Type 0} (f : PartPlan → ℕ → ℕ → X) (before : List Box) (b : Box) (after : List Box) (i : ℕ) (d : X) → i < size_in b
    → slice_index_or (spread f (before ++ b ∷ after)) (sizes_in before + i) d ≡ f b.part b.place i
spread-at f [] b after i d l =
    let n : sizes_in [] + i ≡ i = omega arith in
    ap (λ (n : ℕ). slice_index_or (spread f (b ∷ after)) n d) n
    ∙ get-front (upto (f b.part b.place) (size_in b)) (spread f after) i d (omega (arith, l, length-upto (f b.part b.place) (size_in b)))
    ∙ get-upto (f b.part b.place) (size_in b) i d l
spread-at f (x ∷ before) b after i d l =
    get-back (upto (f x.part x.place) (size_in x)) (spread f (before ++ b ∷ after)) (sizes_in before + i) (sizes_in (x ∷ before) + i) d
    (omega (arith, length-upto (f x.part x.place) (size_in x), sizes-cons x before))
    ∙ spread-at f before b after i d l

-- where a number below the sizes lies
pub record Lies (list : List Box) (n : ℕ) : Type 0 where
  pub before : List Box
  pub box : Box
  pub after : List Box
  pub i : ℕ
  pub whole : list ≡ before ++ box ∷ after
  pub inside : i < size_in box
  pub there : n ≡ sizes_in before + i

pub lies-in : (list : List Box) (n : ℕ) → n < sizes_in list → Lies list n
lies-in [] n l = absurd (omega (arith, l))
lies-in (x ∷ xs) n l = elim (below_or n (size_in x)) [
  | inl b ↦ record { before = []; box = x; after = xs; i = n; whole = refl; inside = b; there = omega arith }
  | inr b ↦ (
      let c = sizes-cons x xs in
      let r = lies-in xs (n - size_in x) (omega (arith, b, l, c)) in
      record {
        before = x ∷ r.before;
        box = r.box;
        after = r.after;
        i = r.i;
        whole = ap (λ (l : List Box). x ∷ l) r.whole;
        inside = r.inside;
        there = (let t = r.there in let d = sizes-cons x r.before in omega (arith, t, d, b));
      })
]
  where
    below_or : (n m : ℕ) → (n < m) ⊎ (m ≤ n)
    below_or n m = grind (arith)

-- two places of a list in which numbers meet are one
pub record Met (b c : Box) (i j : ℕ) : Type 0 where
  pub box : b ≡ c
  pub place : i ≡ j

pub meet : (list xs : List Box) (b : Box) (xs' ys : List Box) (c : Box) (ys' : List Box) (i j : ℕ) → list ≡ xs ++ b ∷ xs' → list ≡ ys ++ c ∷ ys'
    → i < size_in b → j < size_in c → sizes_in xs + i ≡ sizes_in ys + j → Met b c i j
meet [] [] b xs' ys c ys' i j e f l k h = absurd (let n : length (b ∷ xs') ≡ 0 = sym (ap length e) in omega (arith, n))
meet [] (x ∷ xs) b xs' ys c ys' i j e f l k h = absurd (let n : length (x ∷ xs ++ b ∷ xs') ≡ 0 = sym (ap length e) in omega (arith, n))
meet (z ∷ list) [] b xs' [] c ys' i j e f l k h =
    let same : b ≡ c = (let a : (b ∷ xs') ≡ (c ∷ ys') = sym e ∙ f in cc) in
    record { box = same; place = omega (arith, h) }
meet (z ∷ list) [] b xs' (y ∷ ys) c ys' i j e f l k h =
    let a : z ≡ b = cc in
    let o : z ≡ y = cc in
    let s : size_in b ≡ size_in y = ap size_in (sym a ∙ o) in
    absurd (let t = sizes-cons y ys in omega (arith, h, l, s, t))
meet (z ∷ list) (x ∷ xs) b xs' [] c ys' i j e f l k h =
    let a : z ≡ x = cc in
    let o : z ≡ c = cc in
    let s : size_in c ≡ size_in x = ap size_in (sym o ∙ a) in
    absurd (let t = sizes-cons x xs in omega (arith, h, k, s, t))
meet (z ∷ list) (x ∷ xs) b xs' (y ∷ ys) c ys' i j e f l k h =
    let a : z ≡ x = cc in
    let o : z ≡ y = cc in
    let s : size_in x ≡ size_in y = ap size_in (sym a ∙ o) in
    let u : list ≡ xs ++ b ∷ xs' = cc in
    let w : list ≡ ys ++ c ∷ ys' = cc in
    let t = sizes-cons x xs in
    let v = sizes-cons y ys in
    meet list xs b xs' ys c ys' i j u w l k (omega (arith, h, s, t, v))

-- merging
pub boxes-merge : BoxesMerge
unfolding synopsis_in merge_in
boxes-merge q [] h g = refl
boxes-merge q (b ∷ list) h g =
    let k : Kind = (stream_at b.part b.place).kind in
    let n : ℕ = size_in b in
    (λ j. merged-upto k (cell_of q h b.part b.place) (cell_of q g b.part b.place) (cell_of q (h ++ g) b.part b.place) n (λ i. cell-append q h g b.part b.place i) j ++ boxes-merge q list h g j)
    ∙ sym (merged-pieces (upto (λ (i : ℕ). k) n) (kinds_in list) (upto (cell_of q h b.part b.place) n) (spread (cell_of q h) list) (upto (cell_of q g b.part b.place) n) (spread (cell_of q g) list)
    (length-upto (cell_of q h b.part b.place) n ∙ sym (length-upto (λ (i : ℕ). k) n)) (length-upto (cell_of q g b.part b.place) n ∙ sym (length-upto (λ (i : ℕ). k) n)))

-- merging a history into a cell, at once or one part after the other
lesser : (x y z : ℤ)
    → cond (int_lt (cond (int_lt z y) z y) x) (cond (int_lt z y) z y) x ≡ cond (int_lt z (cond (int_lt y x) y x)) z (cond (int_lt y x) y x)
lesser x y z = grind (arith, ints)

greater : (x y z : ℤ)
    → cond (int_lt x (cond (int_lt y z) z y)) (cond (int_lt y z) z y) x ≡ cond (int_lt (cond (int_lt x y) y x) z) z (cond (int_lt x y) y x)
greater x y z = grind (arith, ints)

content-into : (k : Kind) (c : Cell) (xs ys : List (List ℤ)) → merged k c (merged k (content k xs) (content k ys)) ≡ merged k (merged k c (content k xs)) (content k ys)
content-into k c [] ys = ap (λ e. merged k c (merged k e (content k ys))) (content-none k) ∙ ap (λ e. merged k e (content k ys)) (sym (ap (merged k c) (content-none k) ∙ merged-empty k c))
content-into k c (x ∷ xs) [] =
    ap (λ e. merged k c (merged k (content k (x ∷ xs)) e)) (content-none k) ∙ ap (merged k c) (merged-empty k (content k (x ∷ xs)))
    ∙ sym (ap (merged k (merged k c (content k (x ∷ xs)))) (content-none k) ∙ merged-empty k (merged k c (content k (x ∷ xs))))
content-into Kind.Count Cell.Empty (x ∷ xs) (y ∷ ys) = refl
content-into Kind.Count (Cell.Count n) (x ∷ xs) (y ∷ ys) = ap (λ (m : ℕ). Cell.Count m) (omega arith)
content-into Kind.Count Cell.Present (x ∷ xs) (y ∷ ys) = refl
content-into Kind.Count (Cell.Extreme z) (x ∷ xs) (y ∷ ys) = refl
content-into Kind.Present Cell.Empty (x ∷ xs) (y ∷ ys) = refl
content-into Kind.Present (Cell.Count n) (x ∷ xs) (y ∷ ys) = refl
content-into Kind.Present Cell.Present (x ∷ xs) (y ∷ ys) = refl
content-into Kind.Present (Cell.Extreme z) (x ∷ xs) (y ∷ ys) = refl
content-into (Kind.Least a) Cell.Empty (x ∷ xs) (y ∷ ys) = refl
content-into (Kind.Least a) (Cell.Count n) (x ∷ xs) (y ∷ ys) = refl
content-into (Kind.Least a) Cell.Present (x ∷ xs) (y ∷ ys) = refl
content-into (Kind.Least a) (Cell.Extreme z) (x ∷ xs) (y ∷ ys) =
    ap (λ (u : ℤ). Cell.Extreme u) (lesser z (least a (by_column x a.column) xs) (least a (by_column y a.column) ys))
content-into (Kind.Greatest a) Cell.Empty (x ∷ xs) (y ∷ ys) = refl
content-into (Kind.Greatest a) (Cell.Count n) (x ∷ xs) (y ∷ ys) = refl
content-into (Kind.Greatest a) Cell.Present (x ∷ xs) (y ∷ ys) = refl
content-into (Kind.Greatest a) (Cell.Extreme z) (x ∷ xs) (y ∷ ys) =
    ap (λ (u : ℤ). Cell.Extreme u) (greater z (greatest a (by_column x a.column) xs) (greatest a (by_column y a.column) ys))

-- what stands at a number that lies in a list of boxes
pub spread-lies : {X : Type 0} (f : PartPlan → ℕ → ℕ → X) (list : List Box) (n : ℕ) (d : X) (l : Lies list n)
    → slice_index_or (spread f list) n d ≡ f l.box.part l.box.place l.i
spread-lies f list n d l =
    (λ j. slice_index_or (spread f (l.whole j)) (l.there j) d) ∙ spread-at f l.before l.box l.after l.i d l.inside

module _ (q : QueryValue) (list : List Box) (cells : List Cell) (whole : length cells ≡ sizes_in list) where
  kinds : length (kinds_in list) ≡ length cells
  kinds = spread-length (λ part place i. (stream_at part place).kind) list ∙ sym whole

  owns : (h : List Arrival) → length cells ≡ length (synopsis_in q list h)
  unfolding synopsis_in
  owns h = whole ∙ sym (spread-length (cell_of q h) list)

  pub into-size : (h : List Arrival) → length (merge_in list cells (synopsis_in q list h)) ≡ sizes_in list
  unfolding merge_in
  into-size h = merged-length (kinds_in list) cells (synopsis_in q list h) kinds (owns h) ∙ whole

  pub into-at : (h : List Arrival) (n : ℕ) (l : Lies list n)
      → slice_index_or (merge_in list cells (synopsis_in q list h)) n Cell.Empty
      ≡ merged (stream_at l.box.part l.box.place).kind (slice_index_or cells n Cell.Empty) (cell_of q h l.box.part l.box.place l.i)
  unfolding merge_in synopsis_in
  into-at h n l =
      let below : n < length cells
      = (let a = ap sizes_in l.whole in let s = sizes-append l.before (l.box ∷ l.after) in let c = sizes-cons l.box l.after in let i = l.inside in let t = l.there in omega (arith, whole, a, s, c, i, t)) in
      merged-at (kinds_in list) cells (synopsis_in q list h) Kind.Count n kinds (owns h) below
      ∙ (λ j. merged (spread-lies (λ part place i. (stream_at part place).kind) list n Kind.Count l j) (slice_index_or cells n Cell.Empty) (spread-lies (cell_of q h) list n Cell.Empty l j))

  into-none : merge_in list cells (synopsis_in q list []) ≡ cells
  into-none =
      same-lists (merge_in list cells (synopsis_in q list [])) cells Cell.Empty (into-size [] ∙ sym whole) (λ n b.
      let l = lies-in list n (omega (arith, b, into-size [])) in
      let k : Kind = (stream_at l.box.part l.box.place).kind in
      into-at [] n l ∙ ap (merged k (slice_index_or cells n Cell.Empty)) (content-none k) ∙ merged-empty k (slice_index_or cells n Cell.Empty))

pub into-more : (q : QueryValue) (list : List Box) (cells : List Cell) → length cells ≡ sizes_in list → (h g : List Arrival)
    → merge_in list cells (synopsis_in q list (h ++ g)) ≡ merge_in list (merge_in list cells (synopsis_in q list h)) (synopsis_in q list g)
into-more q list cells whole h g =
    same-lists (merge_in list cells (synopsis_in q list (h ++ g))) (merge_in list once (synopsis_in q list g)) Cell.Empty
    (into-size q list cells whole (h ++ g) ∙ sym (into-size q list once (into-size q list cells whole h) g)) (λ n b.
    let l = lies-in list n (omega (arith, b, into-size q list cells whole (h ++ g))) in
    let k : Kind = (stream_at l.box.part l.box.place).kind in
    let c : Cell = slice_index_or cells n Cell.Empty in
    into-at q list cells whole (h ++ g) n l
    ∙ ap (merged k c) (cell-append q h g l.box.part l.box.place l.i)
    ∙ content-into k c (rows_of_cell q l.box.part l.box.place l.i (rows h (slice_index_or q.from l.box.place 0))) (rows_of_cell q l.box.part l.box.place l.i (rows g (slice_index_or q.from l.box.place 0)))
    ∙ ap (λ (d : Cell). merged k d (cell_of q g l.box.part l.box.place l.i)) (sym (into-at q list cells whole h n l))
    ∙ sym (into-at q list once (into-size q list cells whole h) g n l))
  where
    once : List Cell
    once = merge_in list cells (synopsis_in q list h)

merged-none : (ks : List Kind) (cs : List Cell) (n : ℕ) → length ks ≡ length cs → n ≡ length cs → merged_cells ks (replicate n Cell.Empty) cs ≡ cs
merged-none [] [] zero e f = refl
merged-none [] [] (suc n) e f = refl
merged-none [] (c ∷ cs) n e f = absurd (omega (arith, e))
merged-none (k ∷ ks) [] n e f = absurd (omega (arith, e))
merged-none (k ∷ ks) (c ∷ cs) zero e f = absurd (omega (arith, f))
merged-none (k ∷ ks) (c ∷ cs) (suc n) e f =
    let r = merged-none ks cs n (omega (arith, e)) (omega (arith, f)) in
    ap (λ (l : List Cell). c ∷ l) r

pub bases-grow : BasesGrow
unfolding merge_in synopsis_in
bases-grow q list = (
  λ cells whole. record { none = into-none q list cells whole; more = into-more q list cells whole; size = into-size q list cells whole },
  λ h. merged-none (kinds_in list) (synopsis_in q list h) (sizes_in list)
      (spread-length (λ part place i. (stream_at part place).kind) list ∙ sym (spread-length (cell_of q h) list)) (sym (spread-length (cell_of q h) list)),
)
