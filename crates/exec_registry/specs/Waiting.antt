-- The live queries of which answers may wait, as the bits of a word.
use Rattle.std.specs.Prelude.{◌≡◌, ℕ, ◌<◌, List, [], length, slice_index_or}
use Rattle.std.specs.Int.{bit_at}
use Rattle.exec_query.specs.Executor.{waiting_in}
use Rattle.exec_registry.specs.Live.{Live}

-- the word has bits of live queries alone, and of each that has none no answer waits
pub record AreQuiet (word : ℕ) (live : List Live) : Type 0 where
  pub only : (k : ℕ) → bit_at word k ≡ 1 → k < length live
  pub quiet : (k : ℕ) (l : Live) → k < length live → bit_at word k ≡ 0 → waiting_in (slice_index_or live k l).executor ≡ []
