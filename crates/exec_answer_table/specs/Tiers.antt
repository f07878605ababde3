-- A list of numbers in blocks of 256, of which all but the last are full. Each block is a ring that begins at its head.
use Rattle.std.specs.Prelude.{◌≡◌, ℕ, ◌+◌, ◌-◌, ◌*◌, ◌/◌, ◌%◌, ◌<◌, ◌≤◌, ◌⊎◌, Bool, false, List, length, map, slice_index}
use Rattle.std.specs.List.{range_with_len}

-- the numbers, and for how many there is room
pub record TieredValue : Type 0 where
  pub items : List ℕ
  pub room : ℕ

-- where number k stands: in its block, counted from the head
abbrev pub place_of : List ℕ → ℕ → ℕ
place_of heads k = k / 256 * 256 + (slice_index heads (k / 256) + k % 256) % 256

-- number k
abbrev pub number_at : List ℕ → List ℕ → ℕ → ℕ
number_at numbers heads k = slice_index numbers (place_of heads k)

-- the numbers in order
unfoldable pub items_of : List ℕ → List ℕ → List ℕ
items_of numbers heads = map (number_at numbers heads) (range_with_len 0 (length numbers))

-- some numbers stand one after another among all, from a place on
abbrev pub StandsAt : List ℕ → List ℕ → ℕ → Type 0
StandsAt some all from = (k : ℕ) → k < length some → slice_index some k ≡ slice_index all (from + k)

-- from one place up to another each number moved on by one place: one came in at the front, and one went out at the end
pub record Shifted (before after : ℕ → ℕ) (from to came went : ℕ) : Type 0 where
  pub outside : (k : ℕ) → (k < from) ⊎ (to ≤ k) → after k ≡ before k
  pub first : from < to → after from ≡ came
  pub moved : (k : ℕ) → from ≤ k → k + 1 < to → after (k + 1) ≡ before k
  pub last : from < to → went ≡ before (to - 1)
  pub none : from ≡ to → went ≡ came

-- there is a head for each block, which is a place in it, and that of a block that holds the last number, or none, is its first place
pub record IsTiered (numbers heads : List ℕ) (room : ℕ) : Type 0 where
  pub few : length numbers ≤ room
  pub blocks : room < length heads * 256
  pub own : (block : ℕ) → block < length heads → slice_index heads block / 256 ≡ block
  pub plain : (block : ℕ) → length numbers ≤ (block + 1) * 256 → slice_index heads block % 256 ≡ 0

-- where no block was turned, each begins at its first place
abbrev pub Unturned : Bool → List ℕ → Type 0
Unturned turned heads = turned ≡ false → (block : ℕ) → slice_index heads block % 256 ≡ 0
