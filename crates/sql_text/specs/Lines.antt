-- A text as its lines, and the parts of a text that is cut at a byte.
use Rattle.std.specs.Prelude.{ℕ, Bool, List, [], ◌∷◌, ◌==◌}
use Rattle.std.specs.List.{slice_split}
use Rattle.std.specs.Borrow.{Bor}
use Rattle.std.specs.declared.option.Option.{Option}
use Rattle.std.specs.declared.option.Option.TheVariants.{None, Some}

abbrev pub is_line_feed : ℕ → Bool
is_line_feed b = b == 10

-- a last piece that is empty is no line
abbrev pub without_empty_last : List (List ℕ) → List (List ℕ)
without_empty_last [] = []
without_empty_last ([] ∷ []) = []
without_empty_last (piece ∷ pieces) = piece ∷ without_empty_last pieces

-- the lines of a text, which is cut at each LF
abbrev pub lines : List ℕ → List (List ℕ)
lines text = without_empty_last (slice_split is_line_feed text)

-- the parts of what stands behind a cut, where there is one
abbrev pub parts_behind : ℕ → Option (Bor (List ℕ)) → List (List ℕ)
parts_behind at None = []
parts_behind at (Some rest) = slice_split (λ b. b == at) rest.now
