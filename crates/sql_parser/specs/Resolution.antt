-- What the names of a query stand for over the streams of a catalog.
use Rattle.std.specs.Prelude.{◌≡◌, ℕ, ◌<◌, ℤ, Bool, false, not, ◌&&◌, List, [], ◌∷◌, ◌++◌, length, map, slice_index, if◌then◌else◌, is_some, unwrap_or, option_and_then, Option, Some, None, Result, Ok, Err}
use Rattle.std.specs.List.{All, list_all, flat_map, position, slice_index_or}
use Rattle.std.specs.Str.{bytes_eq}
use Rattle.sem_query.specs.declared.atom.Attr.{Attr}
use Rattle.sem_query.specs.declared.atom.Domain.{Domain}
use Rattle.sem_query.specs.declared.atom.Element.{Element}
use Rattle.sem_query.specs.declared.atom.Element.TheVariants as element
use Rattle.sem_query.specs.declared.atom.Atom.{Atom}
use Rattle.sem_query.specs.Query.{QueryValue, attr_lt, with_new, attrs_of}
use Rattle.sql_catalog.specs.Streams.{Shape, stream_number, column_place, shape_at, column_at, domain_at, all_differ}
use Rattle.sql_parser.specs.declared.tree.ColumnAst.{ColumnAst}
use Rattle.sql_parser.specs.declared.tree.OperandAst.{OperandAst}
use Rattle.sql_parser.specs.declared.tree.OperandAst.TheVariants.{Column, Integer}
use Rattle.sql_parser.specs.declared.tree.AtomAst.{AtomAst}
use Rattle.sql_parser.specs.declared.tree.SelectAst.{SelectAst}
use Rattle.sql_parser.specs.declared.tree.Statement.TheVariants.{CreateQuery}
use Rattle.sql_parser.specs.declared.resolution.ResolveError.{ResolveError}
use Rattle.sql_parser.specs.declared.resolution.ResolveError.TheVariants.{UnknownStream, UnknownColumn, SelfJoin}
use Rattle.sql_parser.specs.Grammar.{IsWhole}
use Rattle.sql_parser.specs.Limits.{limit_of, columns_in}

-- a query as it is written in a CREATE QUERY statement that passes no limit
pub record IsTaken (s : SelectAst) : Type 0 where
  pub name : List ℕ
  pub shared : Bool
  pub whole : IsWhole (CreateQuery name s shared)
  pub within : limit_of (CreateQuery name s shared) ≡ None

-- the columns that are named: those that are selected, and those of the atoms
abbrev pub named_columns : SelectAst → List ColumnAst
named_columns s = s.select.items ++ columns_in s.atoms.items

-- the place of FROM at which the stream of a column stands
abbrev pub place_in : List (List ℕ) → ColumnAst → Option ℕ
place_in from c = position (λ name. bytes_eq name c.stream) from

-- the place of a column in its stream, where both are there
abbrev pub place_under : List Shape → ColumnAst → Option ℕ
place_under streams c = option_and_then (λ n. column_place (shape_at streams n).columns c.column) (stream_number streams c.stream)

-- the number of the stream of this name, 0 where there is none
abbrev pub number_for : List Shape → List ℕ → ℕ
number_for streams name = unwrap_or (stream_number streams name) 0

-- whether each name in FROM is a stream, and each column's stream is in FROM
abbrev pub has_streams : List Shape → SelectAst → Bool
has_streams streams s = list_all (λ name. is_some (stream_number streams name)) s.from.items && list_all (λ c. is_some (place_in s.from.items c)) (named_columns s)

-- whether each column is one of its stream
abbrev pub has_columns : List Shape → SelectAst → Bool
has_columns streams s = list_all (λ c. is_some (place_under streams c)) (named_columns s)

-- the column by its places, each 0 where it has none
abbrev pub attr_for : List Shape → List (List ℕ) → ColumnAst → Attr
attr_for streams from c = record { stream = unwrap_or (place_in from c) 0; column = unwrap_or (place_under streams c) 0 }

-- the side of a comparison
abbrev pub element_for : List Shape → List (List ℕ) → OperandAst → Element
element_for streams from (Column c) = element.Attr (attr_for streams from c)
element_for streams from (Integer z) = element.Const z

-- the comparison
abbrev pub atom_for : List Shape → List (List ℕ) → AtomAst → Atom
atom_for streams from a = record { left = element_for streams from a.left; op = a.op; right = element_for streams from a.right }

-- the columns that a query names, the selected ones and those of its comparisons, in FROM order and then column order, each once
abbrev pub named_attrs : List Attr → List Atom → List Attr
named_attrs [] atoms = attrs_of atoms
named_attrs (a ∷ select) atoms = with_new attr_lt a (named_attrs select atoms)

-- the domain of a column, where it has one
abbrev pub domain_with : Attr → Option (ℤ × ℤ) → List Domain
domain_with a None = []
domain_with a (Some ends) = record { attr = a; lo = ends.0; hi = ends.1 } ∷ []

-- the domain that the catalog gives to a column of a stream of FROM, which is given by the numbers of its streams
abbrev pub domain_for : List Shape → List ℕ → Attr → Option (ℤ × ℤ)
domain_for streams from a = domain_at streams (slice_index_or from a.stream 0) a.column

-- the domains that the catalog gives to columns, in their order
abbrev pub domains_for : List Shape → List ℕ → List Attr → List Domain
domains_for streams from attrs = flat_map (λ a. domain_with a (domain_for streams from a)) attrs

-- a query with the domains that the catalog gives to the columns that it names, which is not compact
abbrev pub query_with : List Shape → Bool → List ℕ → List Attr → List Atom → QueryValue
query_with streams distinct from select atoms = record {
  distinct = distinct;
  from = from;
  select = select;
  atoms = atoms;
  domains = domains_for streams from (named_attrs select atoms);
  compact = false;
}

-- the query whose names are all there
abbrev pub query_for : List Shape → SelectAst → QueryValue
query_for streams s =
    record (query_with streams s.distinct (map (number_for streams) s.from.items) (map (attr_for streams s.from.items) s.select.items) (map (atom_for streams s.from.items) s.atoms.items)) { compact = s.compact }

-- The query that is asked for, or the first reason why there is none: a name in FROM is no stream, or a column's stream is not in
-- FROM; a column is none of its stream; FROM names a stream twice.
unfoldable pub resolved : List Shape → SelectAst → Result QueryValue ResolveError
resolved streams s =
    if not (has_streams streams s) then Err UnknownStream else
    (if not (has_columns streams s) then Err UnknownColumn else
    (if not (all_differ s.from.items) then Err SelfJoin else Ok (query_for streams s)))

-- a column of a stream of FROM, which is given by the numbers of its streams
pub record IsColumnOf (streams : List Shape) (from : List ℕ) (a : Attr) : Type 0 where
  pub stream : a.stream < length from
  pub column : a.column < length (shape_at streams (slice_index from a.stream)).columns

-- the side of a comparison is there
abbrev pub HasSide : List Shape → List ℕ → Element → Type 0
HasSide streams from (element.Attr a) = IsColumnOf streams from a
HasSide streams from (element.Const k) = Unit {0}

-- both sides of the comparison are there
abbrev pub HasSides : List Shape → List ℕ → Atom → Type 0
HasSides streams from t = HasSide streams from t.left × HasSide streams from t.right

-- the streams and the columns that a query names are there, and its domains are those that the catalog gives to these columns
pub record HasNamed (streams : List Shape) (q : QueryValue) : Type 0 where
  pub from : All (λ n. n < length streams) q.from
  pub select : All (IsColumnOf streams q.from) q.select
  pub atoms : All (HasSides streams q.from) q.atoms
  pub domains : q.domains ≡ domains_for streams q.from (named_attrs q.select q.atoms)

-- the name of the stream of this number
abbrev pub stream_named : List Shape → ℕ → List ℕ
stream_named streams n = (shape_at streams n).name

-- the column by its names
abbrev pub column_named : List Shape → List ℕ → Attr → ColumnAst
column_named streams from a = record {
  stream = stream_named streams (slice_index from a.stream);
  column = column_at (shape_at streams (slice_index from a.stream)).columns a.column;
}

-- the side of a comparison, by its names
abbrev pub operand_named : List Shape → List ℕ → Element → OperandAst
operand_named streams from (element.Attr a) = Column (column_named streams from a)
operand_named streams from (element.Const k) = Integer k

-- the comparison by its names
abbrev pub atom_named : List Shape → List ℕ → Atom → AtomAst
atom_named streams from t = record { left = operand_named streams from t.left; op = t.op; right = operand_named streams from t.right }

-- the query by the names of its streams and columns
abbrev pub named_select : List Shape → QueryValue → SelectAst
named_select streams q = record {
  compact = q.compact;
  distinct = q.distinct;
  select = record { items = map (column_named streams q.from) q.select };
  from = record { items = map (stream_named streams) q.from };
  atoms = record { items = map (atom_named streams q.from) q.atoms };
}
