-- The lines and the pieces of lines that tell names and numbers, each a template with its holes filled.
use Rattle.std.specs.Prelude.{ℕ, ◌-◌, ◌^◌, ℤ, nat_eq, Bool, true, false, if◌then◌else◌, List, [], ◌∷◌, ◌++◌, codes, decimal}
use Rattle.std.specs.Fmt.{signed_decimal}
use Rattle.sem_query.specs.declared.condition.Condition.{Condition}
use Rattle.sem_query.specs.declared.condition.Condition.TheVariants.{C1, C2, C3}
use Rattle.sem_query.specs.declared.decision.Which.{Which}
use Rattle.sem_query.specs.declared.plan.Numbers.{Numbers}
use Rattle.sem_query.specs.Verdict.{most}
use Rattle.sql_parser.specs.declared.tree.ColumnAst.{ColumnAst}
use Rattle.sql_replies.specs.Texts.{condition_text, which_text}
use Rattle.adv_templates.specs.Template.{filled}
use Rattle.adv_lines.specs.declared.templates.TheConstants.{NUMBERS, QUERY, POOL, ABOVE, VIOLATION, CHANGE, DOMAIN, PART, KEPT, MOST_KEPT, RANGE}

-- some pieces, one behind another
abbrev pub text_of : List (List ℕ) → List ℕ
text_of [] = []
text_of (piece ∷ others) = piece ++ text_of others

-- the four numbers of a query behind its name, or behind a change, and the end of the line
unfoldable pub numbers_text : Numbers → List ℕ
numbers_text n = filled NUMBERS.now (decimal n.parts ∷ decimal n.cells ∷ decimal n.answers ∷ decimal n.work ∷ [])

-- the query of a line, as `line 5: query wide`, and what is said of it
unfoldable pub query_line : ℕ → List ℕ → List ℕ → List ℕ
query_line number name behind = filled QUERY.now (decimal number ∷ name ∷ behind ∷ [])

-- a query whose pages are not free
unfoldable pub pool_line : ℕ → List ℕ → ℕ → ℕ → List ℕ
pool_line number name needed free = filled POOL.now (decimal number ∷ name ∷ decimal needed ∷ decimal free ∷ [])

-- whether a number of 64 bits is the greatest of them, which stands for all numbers from there on
abbrev pub is_capped : ℕ → Bool
is_capped value = nat_eq value (2 ^ 64 - 1)

-- what stands before a number of 64 bits
abbrev pub at_least : ℕ → List ℕ
at_least value = if is_capped value then codes "at least " else []

-- a query of which a number is above its limit
unfoldable pub above_line : ℕ → List ℕ → Which → ℕ → List ℕ
above_line number name which value = filled ABOVE.now (decimal number ∷ name ∷ which_text which ∷ at_least value ∷ decimal value ∷ decimal (most which) ∷ [])

-- why a column breaks a condition, by whether an answer counts once
abbrev pub reason_text : Bool → Condition → List ℕ
reason_text true C1 = codes " is selected and nothing bounds it\n"
reason_text true C2 = codes " equals a column of another stream and nothing bounds it\n"
reason_text true C3 = codes " is one unbounded column too many: of each stream one may be compared with other streams, and on one side\n"
reason_text false C1 = codes " is selected and nothing bounds it\n"
reason_text false C2 = codes " equals a column of another stream and nothing bounds it\n"
reason_text false C3 = codes " is compared with a column of another stream and nothing bounds it\n"

-- a query that breaks a condition first in this part and at this column
unfoldable pub violation_line : ℕ → List ℕ → ℕ → Bool → Condition → ColumnAst → List ℕ
violation_line number name part distinct condition c = filled VIOLATION.now (decimal number ∷ name ∷ condition_text condition ∷ decimal part ∷ c.stream ∷ c.column ∷ reason_text distinct condition ∷ [])

-- a change that has a name
unfoldable pub change_head : List ℕ → List ℕ
change_head change = filled CHANGE.now (change ∷ [])

-- a column between two integers
unfoldable pub bounds_item : ColumnAst → List ℕ
bounds_item c = text_of (codes " AND " ∷ c.stream ∷ codes "." ∷ c.column ∷ codes " > LO AND " ∷ c.stream ∷ codes "." ∷ c.column ∷ codes " < HI" ∷ [])

-- a column in a domain
unfoldable pub domain_item : ColumnAst → List ℕ
domain_item c = filled DOMAIN.now (c.stream ∷ c.column ∷ [])

-- that a part has the elements that follow, as `  part 23 has`
unfoldable pub part_head : ℕ → List ℕ
part_head part = filled PART.now (decimal part ∷ [])

-- what stands behind a number of cells
abbrev pub cells_text : ℕ → List ℕ
cells_text cells = if nat_eq cells 1 then codes " cell: " else codes " cells: "

-- whether all cells of a part are of one stream: not where there are so many that 64 bits do not tell
abbrev pub is_alone : ℕ → ℕ → Bool
is_alone cells kept = if is_capped cells then false else nat_eq cells kept

-- how many cells a part keeps, and of which stream so many of them are: all, as `  part 5 keeps 1369 cells: Temp`, or as `  part 5 keeps 2738 cells, 1369 of them of Temp`
unfoldable pub kept_head : ℕ → ℕ → ℕ → List ℕ → List ℕ
kept_head part cells kept stream =
    if is_alone cells kept
    then filled KEPT.now (decimal part ∷ decimal cells ∷ cells_text cells ∷ stream ∷ [])
    else filled MOST_KEPT.now (decimal part ∷ at_least cells ∷ decimal cells ∷ at_least kept ∷ decimal kept ∷ stream ∷ [])

-- a column with its least and greatest value behind a text
unfoldable pub range_text : List ℕ → ColumnAst → ℤ → ℤ → List ℕ
range_text lead c lo hi = filled RANGE.now (lead ∷ c.stream ∷ c.column ∷ signed_decimal lo ∷ signed_decimal hi ∷ [])

-- a text where it is due
abbrev pub text_if : Bool → List ℕ → List ℕ
text_if due text = if due then text else []
