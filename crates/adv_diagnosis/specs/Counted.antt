-- How many tokens are of a kind, and what their numbers tell of a statement.
use Rattle.std.specs.Prelude.{ℕ, ◌+◌, ◌-◌, ◌*◌, ℤ, pos, Bool, true, false, if◌then◌else◌, List, [], ◌∷◌, filter, length, slice_range, unwrap_or, Option, Some, None}
use Rattle.std.specs.List.{find, flat_map}
use Rattle.std.specs.Option.{option_map}
use Rattle.std.specs.Ordering.{int_eq}
use Rattle.sql_text.specs.Value.{value_of}
use Rattle.sql_lexer.specs.declared.token.TokenKind.{TokenKind}
use Rattle.sql_lexer.specs.declared.token.TokenKind.TheVariants.{Integer, Comma, Less, Equal, Greater, LessEqual, GreaterEqual, Unequal}
use Rattle.sql_lexer.specs.declared.token.Token.{Token}
use Rattle.sql_parser.specs.declared.parsing.What.{What}
use Rattle.sql_parser.specs.declared.parsing.What.TheVariants as limits
use Rattle.sql_parser.specs.DraftLimits.{is_long_token}
use Rattle.sql_parser.specs.Limits.{same_column, number_of_different}
use Rattle.adv_diagnosis.specs.declared.passing.Counted.{Counted}
use Rattle.adv_diagnosis.specs.declared.passing.Counted.TheVariants as counted
use Rattle.adv_diagnosis.specs.Compared.{columns_compared}
use Rattle.adv_diagnosis.specs.Marks.{is_point}

-- a comma
abbrev pub is_comma : TokenKind → Bool
is_comma Comma = true
is_comma _ = false

-- an integer
abbrev pub is_integer : TokenKind → Bool
is_integer Integer = true
is_integer _ = false

-- the sign of a soft comparison
abbrev pub is_soft_sign : TokenKind → Bool
is_soft_sign LessEqual = true
is_soft_sign GreaterEqual = true
is_soft_sign Unequal = true
is_soft_sign _ = false

-- the sign of a comparison
abbrev pub is_comparison : TokenKind → Bool
is_comparison Less = true
is_comparison Equal = true
is_comparison Greater = true
is_comparison LessEqual = true
is_comparison GreaterEqual = true
is_comparison Unequal = true
is_comparison _ = false

-- what is counted
abbrev pub is_counted : Counted → TokenKind → Bool
is_counted counted.Comma = is_comma
is_counted counted.Point = is_point
is_counted counted.Integer = is_integer
is_counted counted.SoftSign = is_soft_sign
is_counted counted.Comparison = is_comparison

-- how many tokens are of such a kind
abbrev pub count_of : (TokenKind → Bool) → List Token → ℕ
count_of p ts = length (filter (λ t. p t.kind) ts)

-- how many columns a query selects: each column has a point, and of the two sides of a comparison each is an integer or a column
abbrev pub selected_number : List Token → ℕ
selected_number ts = (count_of is_point ts + count_of is_integer ts) - 2 * count_of is_comparison ts

-- how many streams FROM names: commas stand between the columns that are selected, and between the streams
abbrev pub from_number : List Token → ℕ
from_number ts = (count_of is_comma ts + 2) - selected_number ts

-- the integer that a token is, 0 where it has more than 64 bits
abbrev pub integer_at : List ℕ → Token → ℤ
integer_at line t = unwrap_or (value_of (slice_range line t.from t.to)) (pos 0)

-- the integers among tokens
abbrev pub integer_with : List ℕ → Token → List ℤ
integer_with line t = if is_integer t.kind then integer_at line t ∷ [] else []

abbrev pub integers_at : List ℕ → List Token → List ℤ
integers_at line ts = flat_map (integer_with line) ts

-- how many bytes the first word has that is too long for a name
abbrev pub long_bytes : List Token → Option ℕ
long_bytes ts = option_map (λ t. t.to - t.from) (find is_long_token ts)

-- how many the tokens of a line tell of what a limit is on
abbrev pub found_by : What → List ℕ → List Token → Option ℕ
found_by limits.Name line ts = long_bytes ts
found_by limits.Columns line ts = Some (count_of is_comma ts + 1)
found_by limits.Select line ts = Some (selected_number ts)
found_by limits.From line ts = Some (from_number ts)
found_by limits.Atoms line ts = Some (count_of is_comparison ts)
found_by limits.Soft line ts = Some (count_of is_soft_sign ts)
found_by limits.Attrs line ts = Some (number_of_different same_column (columns_compared line ts))
found_by limits.Value line ts = None
found_by limits.Consts line ts = Some (number_of_different int_eq (integers_at line ts))
found_by limits.Domain line ts = None
found_by limits.Tuple line ts = Some (count_of is_integer ts)
found_by limits.Streams line ts = Some (count_of is_comma ts + 1)
