-- Synopses merge, and so a row is inserted; the printed tuples grow by the new answers.
use Rattle.std.proofs.Common.{◌≡◌, ℕ, zero, suc, ◌+◌, ◌*◌, min, ◌≤◌, List, [], ◌∷◌, ◌++◌, map, filter, length, cond, not, Bool, true, false, ◌&&◌, ◌==◌, nat_eq, refl, sym, ap, ◌∙◌, subst, arith, ℤ, int_lt, slice_index_or}
use Rattle.std.proofs.lemmas.Int.{ints}
use Rattle.std.proofs.lemmas.List.{map-append}
use Rattle.std.proofs.lemmas.List.Elements.{filter-append}
use Rattle.std.specs.List.{list_any}
use Rattle.sem_laws.proofs.Tests.{append-nothing}
use Rattle.sem_laws.proofs.Sums.{sums_append, bit}
use Rattle.sem_laws.proofs.Counts.{times, times-answers, gives, nested-more, nested-outside}
use Rattle.sem_laws.proofs.Order.{times-ascending, times-once, any-times, ascending-rises, same-counts, Rises}
use Rattle.sem_laws.proofs.NewAnswers.{outside, none-times, times-new-distinct}
use Rattle.sem_laws.proofs.LaidOut.{length-more, length-upto}
use Rattle.sem_laws.proofs.ServedLaw.{once_in}
use Rattle.sem_query.specs.declared.atom.Attr.{Attr}
use Rattle.sem_query.specs.Query.{QueryValue}
use Rattle.sem_query.specs.declared.cell.Cell.{Cell}
use Rattle.sem_query.specs.declared.plan.Kind.{Kind}
use Rattle.sem_query.specs.Meaning.{Arrival, rows, by_column, answers, new_answers}
use Rattle.sem_query.specs.Tuples.{is_same, sorted, distinct_tuples}
use Rattle.sem_query.specs.declared.plan.PartPlan.{PartPlan}
use Rattle.sem_query.specs.declared.plan.StreamPlan.{StreamPlan}
use Rattle.sem_laws.proofs.Queries.{IsQuery, query_within}
use Rattle.sem_query.specs.Plan.{stream_at}
use Rattle.sem_query.specs.Cells.{least, greatest, content, rows_of_cell, cell_of, row_place, upto, by_box, laid_out, synopsis, printed}
use Rattle.sem_query.specs.Admission.{admits}
use Rattle.sem_query.specs.Merge.{merged, kinds_of, merged_cells, merge, merged_table}
use Rattle.sem_laws.specs.Growth.{SynopsesMerge, PrintedGrows}

-- the lesser and the greater of two
lesser : (x y z : ℤ)
    → cond (int_lt x (cond (int_lt y z) y z)) x (cond (int_lt y z) y z) ≡ cond (int_lt (cond (int_lt x y) x y) z) (cond (int_lt x y) x y) z
lesser x y z = grind (arith, ints)

least-start : (a : Attr) (z w : ℤ) (ys : List (List ℤ))
    → least a (cond (int_lt w z) w z) ys ≡ cond (int_lt (least a w ys) z) (least a w ys) z
least-start a z w [] = refl
least-start a z w (y ∷ ys) =
    let v : ℤ = by_column y a.column in
    ap (λ u. least a u ys) (lesser v w z) ∙ least-start a z (cond (int_lt v w) v w) ys

least-append : (a : Attr) (z : ℤ) (xs : List (List ℤ)) (y : List ℤ) (ys : List (List ℤ))
    → least a z (xs ++ y ∷ ys) ≡ cond (int_lt (least a (by_column y a.column) ys) (least a z xs)) (least a (by_column y a.column) ys) (least a z xs)
least-append a z [] y ys = least-start a z (by_column y a.column) ys
least-append a z (x ∷ xs) y ys = least-append a (cond (int_lt (by_column x a.column) z) (by_column x a.column) z) xs y ys

greater : (x y z : ℤ)
    → cond (int_lt (cond (int_lt z y) y z) x) x (cond (int_lt z y) y z) ≡ cond (int_lt z (cond (int_lt y x) x y)) (cond (int_lt y x) x y) z
greater x y z = grind (arith, ints)

greatest-start : (a : Attr) (z w : ℤ) (ys : List (List ℤ))
    → greatest a (cond (int_lt z w) w z) ys ≡ cond (int_lt z (greatest a w ys)) (greatest a w ys) z
greatest-start a z w [] = refl
greatest-start a z w (y ∷ ys) =
    let v : ℤ = by_column y a.column in
    ap (λ u. greatest a u ys) (greater v w z) ∙ greatest-start a z (cond (int_lt w v) v w) ys

greatest-append : (a : Attr) (z : ℤ) (xs : List (List ℤ)) (y : List ℤ) (ys : List (List ℤ))
    → greatest a z (xs ++ y ∷ ys) ≡ cond (int_lt (greatest a z xs) (greatest a (by_column y a.column) ys)) (greatest a (by_column y a.column) ys) (greatest a z xs)
greatest-append a z [] y ys = greatest-start a z (by_column y a.column) ys
greatest-append a z (x ∷ xs) y ys = greatest-append a (cond (int_lt z (by_column x a.column)) (by_column x a.column) z) xs y ys

pub merged-empty : (k : Kind) (xs : List (List ℤ)) → merged k (content k xs) Cell.Empty ≡ content k xs
merged-empty k [] = refl
merged-empty Kind.Count (x ∷ xs) = refl
merged-empty Kind.Present (x ∷ xs) = refl
merged-empty (Kind.Least a) (x ∷ xs) = refl
merged-empty (Kind.Greatest a) (x ∷ xs) = refl

pub content-append : (k : Kind) (xs ys : List (List ℤ)) → content k (xs ++ ys) ≡ merged k (content k xs) (content k ys)
content-append k [] ys = refl
content-append k (x ∷ xs) [] = ap (λ l. content k (x ∷ l)) (append-nothing xs) ∙ sym (merged-empty k (x ∷ xs))
content-append Kind.Count (x ∷ xs) (y ∷ ys) = ap (λ n. Cell.Count n) (omega (arith, length-more xs (y ∷ ys)))
content-append Kind.Present (x ∷ xs) (y ∷ ys) = refl
content-append (Kind.Least a) (x ∷ xs) (y ∷ ys) = ap (λ z. Cell.Extreme z) (least-append a (by_column x a.column) xs y ys)
content-append (Kind.Greatest a) (x ∷ xs) (y ∷ ys) = ap (λ z. Cell.Extreme z) (greatest-append a (by_column x a.column) xs y ys)

pub rows-append : (h g : List Arrival) (stream : ℕ) → rows (h ++ g) stream ≡ rows h stream ++ rows g stream
rows-append h g stream =
    ap (map (λ t. t.values)) (filter-append (λ t. t.stream == stream) h g)
    ∙ map-append (λ t. t.values) (filter (λ t. t.stream == stream) h) (filter (λ t. t.stream == stream) g)

-- a cell of a longer history
pub cell-append : (q : QueryValue) (h g : List Arrival) (part : PartPlan) (place i : ℕ)
    → cell_of q (h ++ g) part place i ≡ merged (stream_at part place).kind (cell_of q h part place i) (cell_of q g part place i)
cell-append q h g part place i =
    ap (λ xs. content (stream_at part place).kind (rows_of_cell q part place i xs)) (rows-append h g (slice_index_or q.from place 0))
    ∙ ap (content (stream_at part place).kind) (filter-append (λ row. admits q part place (by_column row) && nat_eq (row_place (stream_at part place).dims.items (by_column row)) i) (rows h (slice_index_or q.from place 0)) (rows g (slice_index_or q.from place 0)))
    ∙ content-append (stream_at part place).kind (rows_of_cell q part place i (rows h (slice_index_or q.from place 0))) (rows_of_cell q part place i (rows g (slice_index_or q.from place 0)))

pub merged-pieces : (ks ls : List Kind) (es bs cs ds : List Cell) → length es ≡ length ks → length cs ≡ length ks
    → merged_cells (ks ++ ls) (es ++ bs) (cs ++ ds) ≡ merged_cells ks es cs ++ merged_cells ls bs ds
merged-pieces [] ls [] bs [] ds e f = refl
merged-pieces [] ls [] bs (c ∷ cs) ds e f = absurd (omega (arith, f))
merged-pieces [] ls (a ∷ es) bs cs ds e f = absurd (omega (arith, e))
merged-pieces (k ∷ ks) ls [] bs cs ds e f = absurd (omega (arith, e))
merged-pieces (k ∷ ks) ls (a ∷ es) bs [] ds e f = absurd (omega (arith, f))
merged-pieces (k ∷ ks) ls (a ∷ es) bs (c ∷ cs) ds e f =
    ap (λ l. merged k a c ∷ l) (merged-pieces ks ls es bs cs ds (omega (arith, e)) (omega (arith, f)))

pub merged-upto : (k : Kind) (f g o : ℕ → Cell) (n : ℕ) → ((i : ℕ) → o i ≡ merged k (f i) (g i))
    → upto o n ≡ merged_cells (upto (λ i. k) n) (upto f n) (upto g n)
merged-upto k f g o zero h = refl
merged-upto k f g o (suc n) h =
    ap (λ l. l ++ o n ∷ []) (merged-upto k f g o n h)
    ∙ ap (λ c. merged_cells (upto (λ i. k) n) (upto f n) (upto g n) ++ c ∷ []) (h n)
    ∙ sym (merged-pieces (upto (λ i. k) n) (k ∷ []) (upto f n) (f n ∷ []) (upto g n) (g n ∷ [])
    (omega (arith, length-upto f n, length-upto (λ (i : ℕ). k) n)) (omega (arith, length-upto g n, length-upto (λ (i : ℕ). k) n)))

boxes-length : (q : QueryValue) (h : List Arrival) (part : PartPlan) (place : ℕ) (streams : List StreamPlan)
    → length (by_box (cell_of q h part) place streams) ≡ length (by_box (λ place (i : ℕ). (stream_at part place).kind) place streams)
boxes-length q h part place [] = refl
boxes-length q h part place (s ∷ streams) =
    omega (
      arith,
      length-more (upto (cell_of q h part place) s.size) (by_box (cell_of q h part) (suc place) streams),
      length-upto (cell_of q h part place) s.size,
      length-more (upto (λ (i : ℕ). (stream_at part place).kind) s.size) (by_box (λ place (i : ℕ). (stream_at part place).kind) (suc place) streams),
      length-upto (λ (i : ℕ). (stream_at part place).kind) s.size,
      boxes-length q h part (suc place) streams,
    )

boxes-merge : (q : QueryValue) (h g : List Arrival) (part : PartPlan) (place : ℕ) (streams : List StreamPlan)
    → by_box (cell_of q (h ++ g) part) place streams ≡ merged_cells (by_box (λ place (i : ℕ). (stream_at part place).kind) place streams) (by_box (cell_of q h part) place streams) (by_box (cell_of q g part) place streams)
boxes-merge q h g part place [] = refl
boxes-merge q h g part place (s ∷ streams) =
    let k : Kind = (stream_at part place).kind in
    ap (λ l. l ++ by_box (cell_of q (h ++ g) part) (suc place) streams) (merged-upto k (cell_of q h part place) (cell_of q g part place) (cell_of q (h ++ g) part place) s.size (λ i. cell-append q h g part place i))
    ∙ ap (λ l. merged_cells (upto (λ i. k) s.size) (upto (cell_of q h part place) s.size) (upto (cell_of q g part place) s.size) ++ l) (boxes-merge q h g part (suc place) streams)
    ∙ sym (merged-pieces (upto (λ i. k) s.size) (by_box (λ place (i : ℕ). (stream_at part place).kind) (suc place) streams) (upto (cell_of q h part place) s.size) (by_box (cell_of q h part) (suc place) streams) (upto (cell_of q g part place) s.size) (by_box (cell_of q g part) (suc place) streams)
    (omega (arith, length-upto (cell_of q h part place) s.size, length-upto (λ (i : ℕ). k) s.size)) (omega (arith, length-upto (cell_of q g part place) s.size, length-upto (λ (i : ℕ). k) s.size)))

pub synopses-merge : SynopsesMerge
unfolding synopsis merge
synopses-merge q [] h g = refl
synopses-merge q (p ∷ plan) h g =
    ap (λ l. l ++ laid_out (cell_of q (h ++ g)) plan) (boxes-merge q h g p 0 p.streams.items)
    ∙ ap (λ l. merged_cells (by_box (λ place (i : ℕ). (stream_at p place).kind) 0 p.streams.items) (by_box (cell_of q h p) 0 p.streams.items) (by_box (cell_of q g p) 0 p.streams.items) ++ l) (synopses-merge q plan h g)
    ∙ sym (merged-pieces (by_box (λ place (i : ℕ). (stream_at p place).kind) 0 p.streams.items) (kinds_of plan) (by_box (cell_of q h p) 0 p.streams.items) (laid_out (cell_of q h) plan) (by_box (cell_of q g p) 0 p.streams.items) (laid_out (cell_of q g) plan)
    (boxes-length q h p 0 p.streams.items) (boxes-length q g p 0 p.streams.items))

-- no count falls
pub counts-stay : (q : QueryValue) → IsQuery q → (h : List Arrival) (r : Arrival) (z : List ℤ)
    → times z (answers q h) ≤ times z (answers q (h ++ r ∷ []))
counts-stay q well h r z = by (list_any (λ s. r.stream == s) q.from) refl
  where
    by : (b : Bool) → list_any (λ s. r.stream == s) q.from ≡ b → times z (answers q h) ≤ times z (answers q (h ++ r ∷ []))
    by true e =
        omega (arith, times-answers q z h, times-answers q z (h ++ r ∷ []), nested-more h r q.from (λ c. gives q z (map by_column c)) (once_in r.stream q.from well.once e))
    by false e =
        omega (arith, times-answers q z h, times-answers q z (h ++ r ∷ []), nested-outside h r q.from (λ c. gives q z (map by_column c)) (outside r.stream q.from e))

pub times-printed-is : (q : QueryValue) (h : List Arrival) (z : List ℤ) → q.distinct ≡ true
    → times z (printed q h) ≡ min 1 (times z (answers q h))
times-printed-is q h z e =
    ap (times z) (ap (λ b. cond b (sorted (distinct_tuples (answers q h))) []) e) ∙ times-ascending z (distinct_tuples (answers q h))
    ∙ times-once z (answers q h)

pub printed-grows : PrintedGrows
printed-grows q h r within e =
    same-counts (printed q (h ++ r ∷ [])) (merged_table (printed q h) (new_answers q h r)) rising (ascending-rises (distinct_tuples (printed q h ++ new_answers q h r))) (λ z.
    times-printed-is q (h ++ r ∷ []) z e
    ∙ sym (times-ascending z (distinct_tuples (printed q h ++ new_answers q h r)) ∙ times-once z (printed q h ++ new_answers q h r)
    ∙ ap (min 1) (sums_append (λ t. bit (is_same z t)) (printed q h) (new_answers q h r))
    ∙ by z (list_any (is_same z) (answers q h)) refl))
  where
    well : IsQuery q
    well = query_within q within

    rising : Rises (printed q (h ++ r ∷ []))
    rising =
        subst Rises (sym (ap (λ b. cond b (sorted (distinct_tuples (answers q (h ++ r ∷ [])))) []) e)) (ascending-rises (distinct_tuples (answers q (h ++ r ∷ []))))

    by : (z : List ℤ) (b : Bool) → list_any (is_same z) (answers q h) ≡ b
        → min 1 (times z (printed q h) + times z (new_answers q h r)) ≡ min 1 (times z (answers q (h ++ r ∷ [])))
    by z true f = omega (arith, times-printed-is q h z e, counts-stay q well h r z, any-times z (answers q h) f)
    by z false f =
        let n : times z (new_answers q h r) ≡ 1 * min 1 (times z (answers q (h ++ r ∷ [])))
        = times-new-distinct q h r z e ∙ ap (λ b. bit (not b) * min 1 (times z (answers q (h ++ r ∷ [])))) f in
        omega (arith, n, times-printed-is q h z e, none-times z (answers q h) f)
