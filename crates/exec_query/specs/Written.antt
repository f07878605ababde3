-- How the answers that wait are written.
use Rattle.std.specs.Prelude.{ℕ, ℤ, List}
use Rattle.std.specs.List.{flat_map}
use Rattle.sql_text.specs.Tuple.{tuple_line}

-- a line for each of these tuples, as answers of the query of this name
abbrev pub answer_lines : List ℕ → List (List ℤ) → List ℕ
answer_lines name tuples = flat_map (tuple_line name) tuples
