-- Which parts may admit a row, told by its signs: parts of one code stand in one bucket, and a chain leads through them that leaves out none. A bucket
-- may hold others too.
use Rattle.std.specs.Prelude.{◌≡◌, ◌≢◌, ℕ, ◌+◌, ◌*◌, ◌%◌, ◌^◌, ◌<◌, ◌≤◌, ℤ, true, List, [], ◌∷◌, map, length, slice_get, slice_index_or, Some}
use Rattle.std.specs.Int.Bits.{bit_and}
use Rattle.std.specs.List.{list_all}
use Rattle.sem_query.specs.declared.part.Sign.{Sign}
use Rattle.sem_query.specs.declared.part.Pair.{Pair}
use Rattle.sem_query.specs.declared.plan.LocalCondition.{LocalCondition}
use Rattle.sem_query.specs.declared.plan.PartPlan.{PartPlan}
use Rattle.sem_query.specs.Query.{QueryValue}
use Rattle.sem_query.specs.Parts.{pairs, sign_at}
use Rattle.sem_query.specs.Plan.{dims_at}
use Rattle.sem_query.specs.Admission.{alone, in_range, meets_local, admits}
use Rattle.exec_synopsis.specs.Keeping.{keeps_part}
use Rattle.exec_part_index.specs.declared.part_index.PartIndex.{PartIndex}
use Rattle.exec_part_index.specs.Owners.{AreOwners, EachTakes}
use Rattle.exec_part_index.specs.Span.{no_span, in_span, IsSpan}
use Rattle.exec_part_index.specs.PartEntry.{ArePartEntries}

-- the signs that a row, given by its values by column, has at these pairs
abbrev pub signs_at : (ℕ → ℤ) → List Pair → List Sign
signs_at v ps = map (sign_at (alone v)) ps

-- the number of a sign
abbrev pub number_of : Sign → ℕ
number_of Sign.Lt = 0
number_of Sign.Eq = 1
number_of Sign.Gt = 2

-- the code of signs that follow others, which have this code: signs are digits of base three, and a code has 32 bits
abbrev pub code_after : ℕ → List Sign → ℕ
code_after code [] = code
code_after code (s ∷ ss) = code_after ((code * 3 + number_of s) % 2 ^ 32) ss

-- the code of a row by the signs that it has at these pairs
abbrev pub row_code : List Pair → (ℕ → ℤ) → ℕ
row_code tested v = code_after 0 (signs_at v tested)

-- each row that a part admits at a place has these signs at these pairs
abbrev pub Shows : QueryValue → PartPlan → ℕ → List Pair → List Sign → Type 0
Shows q part place tested signs = (v : ℕ → ℤ) → admits q part place v ≡ true → signs_at v tested ≡ signs

-- each row that a part admits at a place has this code
abbrev pub HasCode : QueryValue → PartPlan → ℕ → List Pair → ℕ → Type 0
HasCode q part place tested code = (v : ℕ → ℤ) → admits q part place v ≡ true → row_code tested v ≡ code

-- of a row in the ranges of its dims that has the code, a part asks these conditions and nothing else
abbrev pub AsksOnly : QueryValue → PartPlan → ℕ → List Pair → ℕ → List LocalCondition → Type 0
AsksOnly q part place tested code conditions =
    (v : ℕ → ℤ) → list_all (in_range v) (dims_at part place) ≡ true → row_code tested v ≡ code
    → keeps_part (pairs q) part place v ≡ list_all (meets_local (alone v)) conditions

-- the conditions of a part that its code does not tell
abbrev pub asked_at : PartIndex → ℕ → List LocalCondition
asked_at c k = in_span c.conditions.items (slice_index_or c.spans.items k no_span)

-- a bucket is told by the last bits of a code: those of the parts
abbrev pub buckets : PartIndex → List ℕ
buckets c = map (λ code. bit_and code c.mask) c.codes.items

-- and that of a row
abbrev pub row_bucket : PartIndex → (ℕ → ℤ) → ℕ
row_bucket c v = bit_and (row_code c.tested.items v) c.mask

-- the first number from n on that is of the bucket, or how many numbers there are where none is
pub record IsNext (buckets : List ℕ) (bucket n i : ℕ) : Type 0 where
  pub behind : n ≤ i
  pub within : i ≤ length buckets
  pub passed : (k : ℕ) → n ≤ k → k < i → slice_index_or buckets k 0 ≢ bucket
  pub there : i < length buckets → slice_index_or buckets i 0 ≡ bucket

-- of the numbers from n on, each bucket has its first, and each of them has the next one of its bucket
pub record AreLinked (buckets : List ℕ) (mask n : ℕ) (heads links : List ℕ) : Type 0 where
  pub many : length heads ≡ mask + 1
  pub all : length links ≡ length buckets
  pub first : (b : ℕ) → b ≤ mask → IsNext buckets b n (slice_index_or heads b 0)
  pub next : (k : ℕ) → n ≤ k → k < length buckets → IsNext buckets (slice_index_or buckets k 0) (k + 1) (slice_index_or links k 0)

-- each part has its code and the conditions that this does not tell, and a mark where it takes rows into a box of its own, as each does where that is
-- said, the parts are chained by their buckets, and it is listed what a row meets at each
pub record IsPartIndex (q : QueryValue) (parts : List PartPlan) (place : ℕ) (c : PartIndex) : Type 0 where
  pub many : length c.codes.items ≡ length parts
  pub codes : (k : ℕ) (part : PartPlan) → slice_get parts k ≡ Some part → HasCode q part place c.tested.items (slice_index_or c.codes.items k 0)
  pub within : (k : ℕ) → IsSpan (length c.conditions.items) (slice_index_or c.spans.items k no_span)
  pub asks : (k : ℕ) (part : PartPlan) → slice_get parts k ≡ Some part
      → AsksOnly q part place c.tested.items (slice_index_or c.codes.items k 0) (asked_at c k)
  pub joined : AreLinked (buckets c) c.mask 0 c.heads.items c.links.items
  pub owners : AreOwners q parts place c.owns.items
  pub each : c.each ≡ true → EachTakes q parts place
  pub entries : ArePartEntries parts place c.codes.items c.links.items c.spans.items c.entries.items
