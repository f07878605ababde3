use Rattle.std.proofs.Common.{◌≡◌, ℕ, ◌<◌, false}
use Rattle.std.specs.Str.{bytes_eq}
use Rattle.sql_catalog.specs.Streams.{shapes_of, shape_at}
use Rattle.sql_catalog.proofs.entries.place_of_bytes.Given as goal

-- no stream before the place has the name
abbrev pub invariant-loop-place : goal.invariant-loop-place
invariant-loop-place l = (k : ℕ) → k < l.place → bytes_eq (shape_at (shapes_of l.streams.entries) k).name l.name ≡ false
