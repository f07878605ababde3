-- A row in a box leaves its bit.
use Rattle.std.proofs.Common.{◌≡◌, ℕ, ◌+◌, ◌<◌, min, ℤ, pos, Bool, true, false, cond, int_lt, nat_abs, ◌-ℤ◌, ◌/◌, ◌%◌, ◌^◌, List, [], ◌∷◌, length, Some, Option, ap, ◌∙◌, arith, slice_get, slice_index_or, bit_and}
use Rattle.std.specs.Int.{bit_at}
use Rattle.std.proofs.lemmas.Nat.Bits.{bit_at_and, bit_at-lt}
use Rattle.std.proofs.lemmas.Option.{slice_get-get_or}
use Rattle.exec_query_index.specs.declared.boxes.Interval.{Interval}
use Rattle.exec_query_index.specs.declared.boxes.QueryBox.{QueryBox}
use Rattle.exec_query_index.specs.declared.column.Column.{Column}
use Rattle.exec_query_index.specs.declared.candidates.Candidates.{Candidates}
use Rattle.exec_query_index.specs.Boxes.{holds, unbounded, IsInside}
use Rattle.exec_query_index.specs.Buckets.{bucket, word_at, narrowed, candidates_of, IsColumn, AreFor, AreMarked, IsMachine}
use Rattle.exec_query_index.proofs.Ordered.{bucket_up, least_below, greatest_above}

both : (a b k : ℕ) → bit_at a k ≡ 1 → bit_at b k ≡ 1 → bit_at (bit_and a b) k ≡ 1
both a b k x y = let m = bit_at_and a b k in omega (arith, m, x, y)

pub first : (a b k : ℕ) → bit_at (bit_and a b) k ≡ 1 → bit_at a k ≡ 1
first a b k h = let m = bit_at_and a b k in let x = bit_at-lt a k in let y = bit_at-lt b k in omega (arith, m, x, y, h)

-- in the word of its bucket
pub marked : (boxes : List (Option QueryBox)) (c : Column) → IsColumn boxes c → (k : ℕ) (box : QueryBox) → slice_get boxes k ≡ Some (Some box)
    → (row : List ℤ) → IsMachine (slice_index_or row c.column (pos 0)) → IsInside box row → bit_at (word_at c row) k ≡ 1
marked boxes c is k box there row machine inside =
    let x : ℤ = slice_index_or row c.column (pos 0) in
    let own : Interval = slice_index_or box.columns c.column unbounded in
    let held : holds own x ≡ true = inside c.column is.few in
    is.marks k box there (bucket c.grid x) (few c x)
    (bucket_up c.grid own.least x (least_below own x machine.low held))
    (bucket_up c.grid x own.greatest (greatest_above own x machine.high held))
  where
    few : (c : Column) (x : ℤ) → bucket c.grid x < 256
    few c x = by (int_lt x c.grid.low) (nat_abs (x -ℤ c.grid.low) / 2 ^ (c.grid.shift % 64))
      where
        by : (b : Bool) (n : ℕ) → cond b 0 (1 + min 254 n) < 256
        by true n = omega arith
        by false n = omega arith

only : (columns : List Column) (row : List ℤ) (word k : ℕ) → bit_at (narrowed word row columns) k ≡ 1 → bit_at word k ≡ 1
only [] row word k h = h
only (c ∷ columns) row word k h = first word (word_at c row) k (only columns row (bit_and word (word_at c row)) k h)

pub listed : (boxes : List (Option QueryBox)) (c : Candidates) → AreFor boxes c → (row : List ℤ) (k : ℕ) → bit_at (candidates_of c row) k ≡ 1 → k < length boxes
listed boxes c are row k h = are.named.only k (only c.columns.items row c.named k h)

-- nothing is left of a word without bits
pub none_left : (columns : List Column) (row : List ℤ) (word : ℕ) → word ≡ 0 → narrowed word row columns ≡ 0
none_left [] row word none = none
none_left (c ∷ columns) row word none = none_left columns row (bit_and word (word_at c row)) (ap (λ (w : ℕ). bit_and w (word_at c row)) none)

-- a bit that each column has stays
pub held_more : (row : List ℤ) (columns : List Column) (left own n : ℕ) (d : Column) → n < length columns → own ≡ word_at (slice_index_or columns n d) row
    → IsMachine (slice_index_or row (slice_index_or columns n d).column (pos 0)) → (k : ℕ) → AreMarked k row columns → bit_at left k ≡ 1 → bit_at (bit_and left own) k ≡ 1
held_more row columns left own n d within is machine k marks on =
    both left own k on (ap (λ (w : ℕ). bit_at w k) is ∙ marks n (slice_index_or columns n d) (slice_get-get_or columns n d within) machine)
