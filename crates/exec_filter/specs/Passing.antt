-- Boxes of intervals around the rows that a prefilter lets pass.
use Rattle.std.specs.Prelude.{◌≡◌, ℕ, ◌<◌, true, false, ℤ, List, ◌∷◌, Option, Some, None, slice_index_or}
use Rattle.exec_query_index.specs.declared.boxes.QueryBox.{QueryBox}
use Rattle.exec_query_index.specs.Boxes.{holds, unbounded, IsInside}
use Rattle.exec_filter.specs.declared.prefilter.StreamFilter.{StreamFilter}
use Rattle.exec_filter.specs.declared.prefilter.Prefilter.{Prefilter}
use Rattle.exec_filter.specs.Prefilter.{comes_in}

-- the box holds these values of its columns
abbrev pub AreHeld : QueryBox → (ℕ → ℤ) → Type 0
AreHeld box v = (column : ℕ) → column < 8 → holds (slice_index_or box.columns column unbounded) (v column) ≡ true

-- a row of the stream that comes in lies in the box; where there is none, no row of the stream does
abbrev pub IsBoxAmong : List StreamFilter → ℕ → Option QueryBox → Type 0
IsBoxAmong filters stream None = (row : List ℤ) → comes_in (record { stream = stream; values = row }) filters ≡ false
IsBoxAmong filters stream (Some box) = (row : List ℤ) → comes_in (record { stream = stream; values = row }) filters ≡ true → IsInside box row

-- so it is of a prefilter
abbrev pub IsBoxOf : Prefilter → ℕ → Option QueryBox → Type 0
IsBoxOf prefilter stream own = IsBoxAmong (prefilter.front ∷ prefilter.others.items) stream own
