-- The line of an answer.
use Rattle.std.specs.Prelude.{ℕ, List, [], ◌∷◌, ◌++◌, ℤ}
use Rattle.std.specs.List.{flat_map}
use Rattle.std.specs.Fmt.{signed_decimal}

-- the values of a tuple, each behind a comma
abbrev pub tuple_text : List ℤ → List ℕ
tuple_text values = flat_map (λ v. 44 ∷ signed_decimal v) values

-- a tuple that the query of this name answers
abbrev pub tuple_line : List ℕ → List ℤ → List ℕ
tuple_line name values = name ++ tuple_text values ++ 10 ∷ []
