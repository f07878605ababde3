-- The files that the words name, of which one is read at most.
use Rattle.std.specs.Prelude.{◌≡◌, ◌≤◌, ◌⊎◌, ⊤, List, [], ◌∷◌}
use Rattle.io_streams.specs.Counts.{Rose}
use Rattle.io_streams.specs.Source.{SourceState}

-- The first of the files alone was read, and this holds of it.
pub record FirstRead (files files' : List SourceState) (P : SourceState → SourceState → Type 0) : Type 0 where
  pub file : SourceState
  pub file' : SourceState
  pub others : List SourceState
  pub were : files ≡ file ∷ others
  pub are : files' ≡ file' ∷ others
  pub holds : P file file'

-- the count of faults of one of these files rose
abbrev pub SomeRose : List SourceState → List SourceState → Type 0
SomeRose [] nows = ⊥
SomeRose (file ∷ files) [] = ⊥
SomeRose (file ∷ files) (now ∷ nows) = Rose file.faults now.faults ⊎ SomeRose files nows

-- no count of faults of these files fell
abbrev pub NoneFell : List SourceState → List SourceState → Type 0
NoneFell [] [] = ⊤
NoneFell [] (now ∷ nows) = ⊥
NoneFell (file ∷ files) [] = ⊥
NoneFell (file ∷ files) (now ∷ nows) = (file.faults ≤ now.faults) × NoneFell files nows
