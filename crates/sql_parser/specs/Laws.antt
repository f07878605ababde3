-- The laws of statements and their texts.
use Rattle.std.specs.Prelude.{true, ◌≡◌, ℕ, List, ◌++◌, None, Ok, All, Contains}
use Rattle.sem_query.specs.Query.{QueryValue, IsWithinLimits, attrs_of}
use Rattle.sem_query.specs.Meaning.{Arrival}
use Rattle.sem_query.specs.Domains.{RowKeeps}
use Rattle.sql_catalog.specs.declared.column.ColumnDef.{ColumnDef}
use Rattle.sem_query.specs.declared.atom.Attr.{Attr}
use Rattle.sql_catalog.specs.Streams.{Shape, IsCatalog, HasEnds, KeepsDomains}
use Rattle.sql_parser.specs.declared.tree.SelectAst.{SelectAst}
use Rattle.sql_parser.specs.declared.tree.Statement.TheVariants.{CreateStream}
use Rattle.sql_parser.specs.Limits.{limit_of}
use Rattle.sql_parser.specs.LineKind.{is_row, IsRowText}
use Rattle.sql_parser.specs.Resolution.{resolved, HasNamed, named_select, IsColumnOf}

-- the test for a row line finds just the lines of one word, blanks or none, and a comma, with anything behind
abbrev pub RowsAreRows : Type 0
RowsAreRows = (bs : List ℕ) → (is_row bs ≡ true → IsRowText bs) × (IsRowText bs → is_row bs ≡ true)

-- a query within the limits, whose streams and columns are there, is the one that its names stand for
abbrev pub ResolvesBack : Type 0
ResolvesBack = (streams : List Shape) → (q : QueryValue) → IsCatalog streams → IsWithinLimits q → HasNamed streams q → resolved streams (named_select streams q) ≡ Ok q

-- the streams and columns that a query names are there after more streams were added
abbrev pub StaysNamed : Type 0
StaysNamed = (streams : List Shape) → (more : List Shape) → (q : QueryValue) → HasNamed streams q → HasNamed (streams ++ more) q

-- a query that names stand for is named with these names
abbrev pub NamesBack : Type 0
NamesBack = (streams : List Shape) → (s : SelectAst) → (q : QueryValue) → resolved streams s ≡ Ok q → named_select streams q ≡ s

-- a query is named as before after more streams were added
abbrev pub NamesStay : Type 0
NamesStay = (streams : List Shape) → (more : List Shape) → (q : QueryValue) → HasNamed streams q → named_select (streams ++ more) q ≡ named_select streams q

-- the columns that the atoms of a query name are there, where the query is named
abbrev pub AttributesAreNamed : Type 0
AttributesAreNamed = (streams : List Shape) → (q : QueryValue) → HasNamed streams q → (a : Attr) → Contains (attrs_of q.atoms) a → IsColumnOf streams q.from a

-- within the limits each domain of a stream that is created has ends
abbrev pub DomainsHaveEnds : Type 0
DomainsHaveEnds = (name : List ℕ) → (columns : List ColumnDef) → limit_of (CreateStream name (record { items = columns })) ≡ None → All (λ c. HasEnds c.domain) columns

-- a row whose values lie in the domains of its stream keeps to the domains of each query that is named
abbrev pub RowsKeepDomains : Type 0
RowsKeepDomains = (streams : List Shape) → (q : QueryValue) → (r : Arrival) → HasNamed streams q → KeepsDomains streams r.stream r.values → RowKeeps q r
