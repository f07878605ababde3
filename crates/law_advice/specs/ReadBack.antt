-- What `advise` tells of a change, written into the statement of the query, is read as the query that was tried.
use Rattle.std.specs.Prelude.{◌≡◌, ◌≢◌, ℕ, Bool, List, [], ◌∷◌, ◌++◌, map, codes, None, Ok}
use Rattle.std.specs.List.{flat_map}
use Rattle.std.specs.Fmt.{signed_decimal}
use Rattle.sem_query.specs.declared.atom.Attr.{Attr}
use Rattle.sem_query.specs.declared.atom.Atom.{Atom}
use Rattle.sem_query.specs.declared.plan.Numbers.{Numbers}
use Rattle.sem_query.specs.Query.{QueryValue, IsWithinLimits}
use Rattle.sql_catalog.specs.Streams.{Shape, IsName, IsCatalog}
use Rattle.sql_parser.specs.declared.tree.ColumnAst.{ColumnAst}
use Rattle.sql_parser.specs.declared.tree.Statement.{Statement}
use Rattle.sql_parser.specs.declared.tree.Statement.TheVariants.{CreateQuery}
use Rattle.sql_parser.specs.Syntax.{IsStatement}
use Rattle.sql_parser.specs.Limits.{limit_of}
use Rattle.sql_parser.specs.Resolution.{HasNamed, atom_named, column_named, named_select, resolved}
use Rattle.sql_printer.specs.Printed.{printed_form}
use Rattle.sql_printer.specs.PrintedParts.{each_behind, atom_text}
use Rattle.adv_mends.specs.declared.mend.Ends.{Ends}
use Rattle.adv_mends.specs.declared.mend.Mend.{Mend}
use Rattle.adv_mends.specs.declared.mend.Mend.TheVariants.{Distinct, Domains, Bounds, Comparison, Compact, Shared}
use Rattle.adv_mends.specs.Mended.{bounds_on, with_atoms, mended}
use Rattle.adv_mends.specs.Numbered.{shares}
use Rattle.adv_mends.specs.Sets.{IsMendOf}
use Rattle.adv_lines.specs.Lines.{text_of, numbers_text}
use Rattle.adv_lines.specs.Items.{bounds_items, comparison_line}

-- the statement that creates a query under a name, with shared cells or without
abbrev pub creation : List Shape → List ℕ → QueryValue → Bool → Statement
creation streams name q shared = CreateQuery name (named_select streams q) shared

-- a line says the statement of a query within the limits, and its names stand for this query
pub record ReadsAs (streams : List Shape) (name line : List ℕ) (q : QueryValue) (shared : Bool) : Type 0 where
  pub says : IsStatement line (creation streams name q shared)
  pub within : limit_of (creation streams name q shared) ≡ None
  pub asks : resolved streams (named_select streams q) ≡ Ok q

-- the change is written in the statement of the query, and none in those of its streams
abbrev pub IsOfQuery : Mend → Type 0
IsOfQuery Distinct = Unit {0}
IsOfQuery (Domains columns ends) = ⊥
IsOfQuery (Bounds columns ends) = Unit {0}
IsOfQuery (Comparison t) = Unit {0}
IsOfQuery Compact = Unit {0}
IsOfQuery Shared = Unit {0}

-- the printed form of a query with a change that was tried is read as this query
abbrev pub ChangesReadBack : Type 0
ChangesReadBack =
    (streams : List Shape) (name : List ℕ) (q : QueryValue) (shared : Bool) (mend : Mend) → IsCatalog streams → IsName name → HasNamed streams q → IsMendOf q mend → IsOfQuery mend → IsWithinLimits (mended mend q)
    → ReadsAs streams name (printed_form (creation streams name (mended mend q) (shares mend shared))) (mended mend q) (shares mend shared)

-- comparisons, each behind AND
abbrev pub added_text : List Shape → List ℕ → List Atom → List ℕ
added_text streams from more = each_behind (codes " AND ") atom_text (map (atom_named streams from) more)

-- two comparisons on a column, with these texts in place of two integers
abbrev pub bounds_with : List ℕ → List ℕ → ColumnAst → List ℕ
bounds_with lo hi c = text_of (codes " AND " ∷ c.stream ∷ codes "." ∷ c.column ∷ codes " > " ∷ lo ∷ codes " AND " ∷ c.stream ∷ codes "." ∷ c.column ∷ codes " < " ∷ hi ∷ [])

-- What is told of comparisons is what stands behind the statement of the query: the line of one comparison has it, and the line of a set has it with the words LO
-- and HI in place of the two integers.
pub record AreToldBehind (streams : List Shape) (name : List ℕ) (q : QueryValue) (shared : Bool) : Type 0 where
  pub behind : (more : List Atom) → q.atoms ≢ [] → printed_form (creation streams name (with_atoms more q) shared) ≡ printed_form (creation streams name q shared) ++ added_text streams q.from more
  pub one : (t : Atom) (numbers : Numbers) → comparison_line streams q.from t numbers ≡ codes "    with AND " ++ (atom_text (atom_named streams q.from t) ++ numbers_text numbers)
  pub told : (set : List Attr) → bounds_items streams q.from set ≡ flat_map (λ a. bounds_with (codes "LO") (codes "HI") (column_named streams q.from a)) set
  pub filled : (ends : Ends) (set : List Attr) → added_text streams q.from (bounds_on ends set) ≡ flat_map (λ a. bounds_with (signed_decimal ends.lo) (signed_decimal ends.hi) (column_named streams q.from a)) set

-- they are for each query
abbrev pub ComparisonsAreToldBehind : Type 0
ComparisonsAreToldBehind = (streams : List Shape) (name : List ℕ) (q : QueryValue) (shared : Bool) → AreToldBehind streams name q shared
