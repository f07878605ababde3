-- Which rows lie in a box of intervals.
use Rattle.std.specs.Prelude.{◌≡◌, ℕ, ◌<◌, ◌&&◌, ◌||◌, not, Bool, true, ℤ, pos, neg_ℤ, int_lt, List, slice_index_or}
use Rattle.std.specs.Ordering.{int_eq}
use Rattle.exec_query_index.specs.declared.boxes.Interval.{Interval}
use Rattle.exec_query_index.specs.declared.boxes.QueryBox.{QueryBox}

-- an integer lies in the interval, of which the least integer of 64 bits is no bound, and neither is the greatest
abbrev pub holds : Interval → ℤ → Bool
holds i x = (int_eq i.least (neg_ℤ (pos 9223372036854775808)) || not (int_lt x i.least)) && (int_eq i.greatest (pos 9223372036854775807) || not (int_lt i.greatest x))

-- the interval of all integers
abbrev pub unbounded : Interval
unbounded = record { least = neg_ℤ (pos 9223372036854775808); greatest = pos 9223372036854775807 }

-- the value of each column lies in the interval of the box; a column that the row has not is 0
abbrev pub IsInside : QueryBox → List ℤ → Type 0
IsInside box row = (column : ℕ) → column < 8 → holds (slice_index_or box.columns column unbounded) (slice_index_or row column (pos 0)) ≡ true
