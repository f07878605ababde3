-- How many a statement has of what a limit is on.
use Rattle.std.specs.Prelude.{ℕ, if◌then◌else◌, List, [], ◌∷◌, length, Option, Some, None}
use Rattle.std.specs.Ordering.{int_eq}
use Rattle.sql_parser.specs.declared.parsing.What.{What}
use Rattle.sql_parser.specs.declared.parsing.What.TheVariants as limits
use Rattle.sql_parser.specs.declared.tree.Statement.{Statement}
use Rattle.sql_parser.specs.Limits.{names_of, columns_of, selected_by, streams_of, atoms_of, values_of, opened_by, soft_in, columns_in, integers_in, same_column, number_of_different, is_long}

-- how many bytes the first name has that is too long
abbrev pub long_length : List (List ℕ) → Option ℕ
long_length [] = None
long_length (w ∷ names) = if is_long w then Some (length w) else long_length names

-- how many a statement has of what a limit is on, and of names the bytes of the first that is too long; of the other limits none is told
abbrev pub found_in : What → Statement → Option ℕ
found_in limits.Name s = long_length (names_of s)
found_in limits.Columns s = Some (length (columns_of s))
found_in limits.Select s = Some (length (selected_by s))
found_in limits.From s = Some (length (streams_of s))
found_in limits.Atoms s = Some (length (atoms_of s))
found_in limits.Soft s = Some (length (soft_in (atoms_of s)))
found_in limits.Attrs s = Some (number_of_different same_column (columns_in (atoms_of s)))
found_in limits.Value s = None
found_in limits.Consts s = Some (number_of_different int_eq (integers_in (atoms_of s)))
found_in limits.Domain s = None
found_in limits.Tuple s = Some (length (values_of s))
found_in limits.Streams s = Some (length (opened_by s))
