-- The counts of faults of feeds are those of files.
use Rattle.std.proofs.Common.{List, [], ◌∷◌, inl, inr}
use Rattle.io_streams.specs.Source.{SourceState}
use Rattle.cmd_feeds.specs.FeedsEnd as feeds
use Rattle.cmd_dispatch.specs.Files as files

pub none-fell : (xs ys : List SourceState) → feeds.NoneFell xs ys → files.NoneFell xs ys
none-fell [] [] h = tt
none-fell [] (y ∷ ys) h = h
none-fell (x ∷ xs) [] h = h
none-fell (x ∷ xs) (y ∷ ys) h = (h.0, none-fell xs ys h.1)

pub some-rose : (xs ys : List SourceState) → feeds.SomeRose xs ys → files.SomeRose xs ys
some-rose [] ys h = h
some-rose (x ∷ xs) [] h = h
some-rose (x ∷ xs) (y ∷ ys) (inl h) = inl h
some-rose (x ∷ xs) (y ∷ ys) (inr h) = inr (some-rose xs ys h)
