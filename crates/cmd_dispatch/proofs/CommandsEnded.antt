-- The counts of faults of files.
use Rattle.std.proofs.Common.{◌<◌, ◌≤◌, List, [], ◌∷◌, map, length, get_or, slice_set, arith}
use Rattle.io_streams.specs.Source.{SourceState}
use Rattle.cmd_dispatch.specs.Files.{NoneFell}
use Rattle.cmd_dispatch.proofs.Sessions.{same-fell}

-- the counts of the files did not fall where the first one's did not
pub first-fell : {X : Type 0} (seen : X → SourceState) (xs : List X) (d new : X) → 0 < length (map seen xs) → (seen (get_or xs 0 d)).faults ≤ (seen new).faults → NoneFell (map seen xs) (map seen (slice_set xs 0 new))
first-fell seen [] d new some le = absurd (omega (arith, some))
first-fell seen (x ∷ xs) d new some le = (le, same-fell (map seen xs))
