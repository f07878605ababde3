-- How many choices of keys there are.
use Rattle.std.specs.Prelude.{ℕ, ◌+◌, ◌*◌, ◌<◌, List, [], ◌∷◌}

-- of each stream a column is the key, or none is
abbrev pub choice_count : List ℕ → ℕ
choice_count [] = 1
choice_count (width ∷ others) = (width + 1) * choice_count others

-- more than 2^20
abbrev pub HasManyChoices : List ℕ → Type 0
HasManyChoices widths = 1048576 < choice_count widths
