-- Why a line is refused.
use Rattle.std.specs.Prelude.{◌≡◌, ℕ, List, Some}
use Rattle.sql_parser.specs.declared.parsing.ParseError.{ParseError}
use Rattle.sql_parser.specs.declared.parsing.ParseError.TheVariants.{Syntax, Limit}
use Rattle.sql_parser.specs.declared.tree.Statement.{Statement}
use Rattle.sql_parser.specs.Syntax.{IsStatement, IsFault}
use Rattle.sql_parser.specs.Limits.{limit_of}

-- outside the grammar the place at which it is left; inside it the first limit that the statement passes
abbrev pub IsRefusal : List ℕ → ParseError → Type 0
IsRefusal line (Syntax at) = IsFault line at
IsRefusal line (Limit what) = (s : Statement) × IsStatement line s × (limit_of s ≡ Some what)
