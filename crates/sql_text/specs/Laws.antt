-- What holds of the lines of every text.
use Rattle.std.specs.Prelude.{◌≡◌, ℕ, List, [], ◌∷◌, ◌++◌}
use Rattle.sql_text.specs.Lines.{lines}

-- the lines of a text that is cut at a line end are those of the two pieces, one after the other
abbrev pub CutsAtLineEnd : Type 0
CutsAtLineEnd = (front rest : List ℕ) → lines (front ++ 10 ∷ rest) ≡ lines (front ++ 10 ∷ []) ++ lines rest
