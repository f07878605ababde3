-- The cells and the tables of the shards merge to those of one process.
use Rattle.std.proofs.Common.{◌≡◌, ℕ, zero, suc, ◌+◌, ◌*◌, min, ◌<◌, List, [], ◌∷◌, ◌++◌, filter, length, cond, Bool, true, false, ◌&&◌, refl, sym, ap, ◌∙◌, subst, arith, nat_eq, ℤ, int_lt, ◌<ℤ◌, ◌≤ℤ◌, slice_index_or}
use Rattle.std.proofs.lemmas.Int.{ints, by_lt_z}
use Rattle.std.proofs.lemmas.List.Elements.{All-contains}
use Rattle.sem_query.proofs.Has.{Has-from_contains, Contains-from_has}
use Rattle.sem_laws.proofs.Sums.{sums, sums_append, sums_filter, sums_same, sums_both, sums_zero, bit}
use Rattle.sem_laws.proofs.Counts.{times}
use Rattle.sem_laws.proofs.Order.{Rises, ascending-rises, same-counts, times-ascending, times-once}
use Rattle.sem_laws.proofs.Extremes.{some-summand, summand-counts}
use Rattle.sem_laws.proofs.ExactExtremes.{extremes-are-exact}
use Rattle.sem_laws.proofs.Merge.{content-append, times-printed-is}
use Rattle.sem_laws.proofs.Queries.{query_within}
use Rattle.sem_query.specs.declared.atom.Attr.{Attr}
use Rattle.sem_query.specs.declared.cell.Cell.{Cell}
use Rattle.sem_query.specs.declared.plan.Kind.{Kind}
use Rattle.sem_query.specs.Query.{QueryValue}
use Rattle.sem_query.specs.Meaning.{Arrival, rows, by_column, answers}
use Rattle.sem_query.specs.Tuples.{is_same, sorted, distinct_tuples}
use Rattle.sem_query.specs.Plan.{stream_at, dims_at}
use Rattle.sem_query.specs.Admission.{admits}
use Rattle.sem_query.specs.Cells.{content, least, greatest, row_place, printed}
use Rattle.sem_query.specs.Merge.{merged}
use Rattle.sem_sharding.specs.Shards.{Routing, share}
use Rattle.sem_sharding.specs.Checkpoints.{merged_over, CellsOfShardsMerge, all_printed, TablesOfShardsMerge}
use Rattle.sem_sharding.proofs.Shares.{over, rows-share, filter-all}
use Rattle.sem_sharding.proofs.Parted.{one-of, cover}
use Rattle.sem_sharding.proofs.Splits.{seen, has, is}

-- two lists with the same rows, each as often
abbrev Alike : List (List ℤ) → List (List ℤ) → Type 0
Alike xs ys = (f : List ℤ → ℕ) → sums f xs ≡ sums f ys

count-length : (xs : List (List ℤ)) → sums (λ x. 1) xs ≡ length xs
unfolding sums
count-length [] = refl
count-length (x ∷ xs) = omega (arith, count-length xs)

below-bit : (x z : ℤ) → x <ℤ z → 0 < bit (int_lt x z)
below-bit x z l = let e : int_lt x z ≡ true = grind (arith, ints, l) in subst (λ b. 0 < bit b) (sym e) (omega arith)

bit-below : (x z : ℤ) → 0 < bit (int_lt x z) → x <ℤ z
bit-below x z h = by (int_lt x z) refl h
  where
    by : (b : Bool) → int_lt x z ≡ b → 0 < bit b → x <ℤ z
    by true e l = grind (arith, ints, e)
    by false e l = absurd (omega (arith, l))

not-less : (a : Attr) (xs ys : List (List ℤ)) → Alike xs ys → (x y : ℤ) → content (Kind.Least a) xs ≡ Cell.Extreme x → content (Kind.Least a) ys ≡ Cell.Extreme y → y ≤ℤ x
not-less a xs ys alike x y e f = by_lt_z x y (λ l.
    (let m = (extremes-are-exact a xs x).0 e in
    let n = (extremes-are-exact a ys y).0 f in
    let below : List ℤ → ℕ = λ row. bit (int_lt (by_column row a.column) y) in
    let p : 0 < below m.row = subst (λ z. 0 < bit (int_lt z y)) (sym m.reached) (below-bit x y l) in
    let s = some-summand below ys (subst (λ n. 0 < n) (alike below) (summand-counts below xs m.row (Has-from_contains xs m.row m.among) p)) in
    let above : y ≤ℤ by_column s.0 a.column = All-contains (λ other. y ≤ℤ by_column other a.column) ys s.0 n.above (Contains-from_has ys s.0 s.1) in
    absurd (omega (arith, ints, above, bit-below (by_column s.0 a.column) y s.2)))) (λ l. omega (arith, ints, l))

not-greater : (a : Attr) (xs ys : List (List ℤ)) → Alike xs ys → (x y : ℤ) → content (Kind.Greatest a) xs ≡ Cell.Extreme x → content (Kind.Greatest a) ys ≡ Cell.Extreme y → x ≤ℤ y
not-greater a xs ys alike x y e f = by_lt_z y x (λ l.
    (let m = (extremes-are-exact a xs x).1 e in
    let n = (extremes-are-exact a ys y).1 f in
    let over_it : List ℤ → ℕ = λ row. bit (int_lt y (by_column row a.column)) in
    let p : 0 < over_it m.row = subst (λ z. 0 < bit (int_lt y z)) (sym m.reached) (below-bit y x l) in
    let s = some-summand over_it ys (subst (λ n. 0 < n) (alike over_it) (summand-counts over_it xs m.row (Has-from_contains xs m.row m.among) p)) in
    let above : by_column s.0 a.column ≤ℤ y = All-contains (λ other. by_column other a.column ≤ℤ y) ys s.0 n.below (Contains-from_has ys s.0 s.1) in
    absurd (omega (arith, ints, above, bit-below y (by_column s.0 a.column) s.2)))) (λ l. omega (arith, ints, l))

-- a cell keeps the same of both
content-alike : (kind : Kind) (xs ys : List (List ℤ)) → Alike xs ys → content kind xs ≡ content kind ys
content-alike kind [] [] a = refl
content-alike kind [] (y ∷ ys) a = absurd (omega (arith, a (λ x. 1), count-length [], count-length (y ∷ ys)))
content-alike kind (x ∷ xs) [] a = absurd (omega (arith, a (λ x. 1), count-length [], count-length (x ∷ xs)))
content-alike Kind.Count (x ∷ xs) (y ∷ ys) a = ap (λ n. Cell.Count n) (omega (arith, a (λ x. 1), count-length (x ∷ xs), count-length (y ∷ ys)))
content-alike Kind.Present (x ∷ xs) (y ∷ ys) a = refl
content-alike (Kind.Least c) (x ∷ xs) (y ∷ ys) a =
    ap (λ z. Cell.Extreme z) (omega (
      arith,
      ints,
      not-less c (x ∷ xs) (y ∷ ys) a (least c (by_column x c.column) xs) (least c (by_column y c.column) ys) refl refl,
      not-less c (y ∷ ys) (x ∷ xs) (λ f. sym (a f)) (least c (by_column y c.column) ys) (least c (by_column x c.column) xs) refl refl,
    ))
content-alike (Kind.Greatest c) (x ∷ xs) (y ∷ ys) a =
    ap (λ z. Cell.Extreme z) (omega (
      arith,
      ints,
      not-greater c (x ∷ xs) (y ∷ ys) a (greatest c (by_column x c.column) xs) (greatest c (by_column y c.column) ys) refl refl,
      not-greater c (y ∷ ys) (x ∷ xs) (λ f. sym (a f)) (greatest c (by_column y c.column) ys) (greatest c (by_column x c.column) xs) refl refl,
    ))

-- the members of a list that pass each test, one test after the other
piled : (ℕ → List ℤ → Bool) → ℕ → List (List ℤ) → List (List ℤ)
piled test zero xs = []
piled test (suc k) xs = piled test k xs ++ filter (test k) xs

sums-piled : (test : ℕ → List ℤ → Bool) (k : ℕ) (xs : List (List ℤ)) (f : List ℤ → ℕ)
    → sums f (piled test k xs) ≡ sums (λ x. over k (λ i. bit (test i x) * f x)) xs
unfolding piled over sums
sums-piled test zero xs f = sym (sums_zero xs)
sums-piled test (suc k) xs f =
    sums_append f (piled test k xs) (filter (test k) xs)
    ∙ ap (λ n. n + sums f (filter (test k) xs)) (sums-piled test k xs f)
    ∙ ap (λ n. sums (λ x. over k (λ i. bit (test i x) * f x)) xs + n) (sym (sums_filter (test k) f xs))
    ∙ sym (sums_both (λ x. over k (λ i. bit (test i x) * f x)) (λ x. bit (test k x) * f x) xs)

merged-piled : (kind : Kind) (test : ℕ → List ℤ → Bool) (k : ℕ) (xs : List (List ℤ))
    → content kind (piled test k xs) ≡ merged_over kind k (λ i. content kind (filter (test i) xs))
unfolding piled
merged-piled kind test zero xs = refl
merged-piled kind test (suc k) xs =
    content-append kind (piled test k xs) (filter (test k) xs)
    ∙ ap (λ c. merged kind c (content kind (filter (test k) xs))) (merged-piled kind test k xs)

content-dealt : (kind : Kind) (test : ℕ → List ℤ → Bool) (k : ℕ) (xs : List (List ℤ))
    → ((x : List ℤ) → (i : ℕ) × (i < k) × (test i x ≡ true))
    → ((x : List ℤ) (i j : ℕ) → i < k → j < k → test i x ≡ true → test j x ≡ true → i ≡ j)
    → content kind xs ≡ merged_over kind k (λ i. content kind (filter (test i) xs))
content-dealt kind test k xs some one =
    content-alike kind xs (piled test k xs) (λ f. sym (sums-piled test k xs f ∙ sums_same _ f xs (λ x. one-of k (λ i. test i x) (f x) (some x) (one x))))
    ∙ merged-piled kind test k xs

filters-swap : {X : Type 0} (s t : X → Bool) (xs : List X) → filter s (filter t xs) ≡ filter t (filter s xs)
filters-swap s t [] = refl
filters-swap {X} s t (x ∷ xs) = by (s x) (t x) refl refl (filters-swap s t xs)
  where
    by : (a b : Bool) → s x ≡ a → t x ≡ b → filter s (filter t xs) ≡ filter t (filter s xs)
        → filter s (cond b (x ∷ filter t xs) (filter t xs)) ≡ filter t (cond a (x ∷ filter s xs) (filter s xs))
    by true true e f g =
        ap (λ b. cond b (x ∷ filter s (filter t xs)) (filter s (filter t xs))) e ∙ ap (λ l. x ∷ l) g
        ∙ sym (ap (λ b. cond b (x ∷ filter t (filter s xs)) (filter t (filter s xs))) f)
    by true false e f g = g ∙ sym (ap (λ b. cond b (x ∷ filter t (filter s xs)) (filter t (filter s xs))) f)
    by false true e f g = ap (λ b. cond b (x ∷ filter s (filter t xs)) (filter s (filter t xs))) e ∙ g
    by false false e f g = g

pub cells-of-shards-merge : CellsOfShardsMerge
cells-of-shards-merge q k to h part place i = record {
  dealt = λ d.
      content-dealt (stream_at part place).kind goes k (in_cell (rows h stream)) (λ x. d.some (row x) refl) (λ x. d.one (row x) refl)
      ∙ merged-same k (λ j. ap (content (stream_at part place).kind) (filters-swap (goes j) cell (rows h stream) ∙ ap in_cell (sym (rows-share (to j) h stream))));
  sent = λ shard s.
      ap (λ xs. content (stream_at part place).kind (in_cell xs)) (sym (rows-share (to shard) h stream ∙ filter-all (goes shard) (rows h stream) (λ x. s (row x) refl)));
}
  where
    stream : ℕ
    stream = slice_index_or q.from place 0

    row : List ℤ → Arrival
    row x = record { stream = stream; values = x }

    goes : ℕ → List ℤ → Bool
    goes j x = to j (row x)

    cell : List ℤ → Bool
    cell x = admits q part place (by_column x) && nat_eq (row_place (dims_at part place) (by_column x)) i

    in_cell : List (List ℤ) → List (List ℤ)
    in_cell xs = filter cell xs

    merged-same : (n : ℕ) {c d : ℕ → Cell} → ((j : ℕ) → c j ≡ d j) → merged_over (stream_at part place).kind n c ≡ merged_over (stream_at part place).kind n d
    merged-same zero e = refl
    merged-same (suc n) {c = c} {d = d} e =
        ap (λ x. merged (stream_at part place).kind x (c n)) (merged-same n e) ∙ ap (merged (stream_at part place).kind (merged_over (stream_at part place).kind n d)) (e n)

times-all : (q : QueryValue) → q.distinct ≡ true → (to : Routing) (k : ℕ) (h : List Arrival) (z : List ℤ)
    → times z (all_printed q to k h) ≡ over k (λ i. min 1 (times z (answers q (share to i h))))
unfolding over sums
times-all q e to zero h z = refl
times-all q e to (suc k) h z =
    sums_append (λ t. bit (is_same z t)) (all_printed q to k h) (printed q (share to k h))
    ∙ omega (arith, times-all q e to k h z, times-printed-is q (share to k h) z e)

pub tables-of-shards-merge : TablesOfShardsMerge
tables-of-shards-merge q k to within e some h keep =
    same-counts (printed q h) (sorted (distinct_tuples (all_printed q to k h))) rising (ascending-rises (distinct_tuples (all_printed q to k h))) (λ z.
    times-printed-is q h z e
    ∙ sym (cover q (query_within q within) h keep k (seen q to) (has q to h) (is q to h) some z)
    ∙ ap (min 1) (sym (times-all q e to k h z))
    ∙ sym (times-ascending z (distinct_tuples (all_printed q to k h)) ∙ times-once z (all_printed q to k h)))
  where
    rising : Rises (printed q h)
    rising = subst Rises (sym (ap (λ b. cond b (sorted (distinct_tuples (answers q h))) []) e)) (ascending-rises (distinct_tuples (answers q h)))
