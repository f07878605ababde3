-- The printed form of a statement, part by part.
use Rattle.std.specs.Prelude.{ℕ, ℤ, Bool, true, false, List, [], ◌∷◌, ◌++◌, codes, if◌then◌else◌, Option, Some, None}
use Rattle.std.specs.List.{flat_map}
use Rattle.std.specs.Fmt.{signed_decimal}
use Rattle.sem_query.specs.declared.atom.Op.{Op}
use Rattle.sem_query.specs.declared.atom.Op.TheVariants.{Lt, Eq, Gt, Le, Ge, Ne}
use Rattle.sql_catalog.specs.declared.column.ColumnDef.{ColumnDef}
use Rattle.sql_parser.specs.declared.tree.ColumnAst.{ColumnAst}
use Rattle.sql_parser.specs.declared.tree.OperandAst.{OperandAst}
use Rattle.sql_parser.specs.declared.tree.OperandAst.TheVariants.{Column, Integer}
use Rattle.sql_parser.specs.declared.tree.AtomAst.{AtomAst}
use Rattle.sql_parser.specs.declared.tree.SelectAst.{SelectAst}
use Rattle.sql_parser.specs.Naming.{column_text}

-- each item behind the same separator
abbrev pub each_behind : {X : Type 0} → List ℕ → (X → List ℕ) → List X → List ℕ
each_behind sep text xs = flat_map (λ x. sep ++ text x) xs

-- a list, and what stands before it
abbrev pub listed : {X : Type 0} → List ℕ → List ℕ → (X → List ℕ) → List X → List ℕ
listed lead sep text [] = []
listed lead sep text (x ∷ xs) = (lead ++ text x) ++ each_behind sep text xs

-- a name is its text
abbrev pub name_text : List ℕ → List ℕ
name_text n = n

-- a side of an atom
abbrev pub operand_text : OperandAst → List ℕ
operand_text (Column c) = column_text c
operand_text (Integer z) = signed_decimal z

-- a comparison between two spaces
abbrev pub op_text : Op → List ℕ
op_text Lt = codes " < "
op_text Eq = codes " = "
op_text Gt = codes " > "
op_text Le = codes " <= "
op_text Ge = codes " >= "
op_text Ne = codes " <> "

-- an atom
abbrev pub atom_text : AtomAst → List ℕ
atom_text a = operand_text a.left ++ (op_text a.op ++ operand_text a.right)

-- names, and what stands before them
abbrev pub names_text : List ℕ → List (List ℕ) → List ℕ
names_text lead names = listed lead (codes ", ") name_text names

-- the selected columns
abbrev pub columns_text : List ColumnAst → List ℕ
columns_text columns = listed (codes " ") (codes ", ") column_text columns

-- the atoms behind WHERE
abbrev pub atoms_text : List AtomAst → List ℕ
atoms_text atoms = listed (codes " WHERE ") (codes " AND ") atom_text atoms

-- DISTINCT behind SELECT
abbrev pub distinct_text : Bool → List ℕ
distinct_text distinct = if distinct then codes " DISTINCT" else []

-- the streams and the atoms
abbrev pub streams_text : SelectAst → List ℕ
streams_text s = names_text (codes " ") s.from.items ++ atoms_text s.atoms.items

-- what stands from FROM on
abbrev pub sources_text : SelectAst → List ℕ
sources_text s = codes " FROM" ++ streams_text s

-- what stands behind SELECT or DISTINCT
abbrev pub selection_text : SelectAst → List ℕ
selection_text s = columns_text s.select.items ++ sources_text s

-- what stands before the selected columns
abbrev pub select_head_text : Bool → List ℕ
select_head_text distinct = codes "SELECT" ++ distinct_text distinct

-- what stands from SELECT on
abbrev pub select_text : SelectAst → List ℕ
select_text s = select_head_text s.distinct ++ selection_text s

-- what stands before the name of a query, which is shared or not, and compact or not
abbrev pub create_text : Bool → Bool → List ℕ
create_text true true = codes "CREATE SHARED COMPACT QUERY "
create_text true false = codes "CREATE SHARED QUERY "
create_text false true = codes "CREATE COMPACT QUERY "
create_text false false = codes "CREATE QUERY "

-- what stands before SELECT
abbrev pub query_head_text : List ℕ → Bool → Bool → List ℕ
query_head_text name shared compact = (create_text shared compact ++ name) ++ codes " AS "

-- CREATE QUERY
abbrev pub query_text : List ℕ → SelectAst → Bool → List ℕ
query_text name s shared = query_head_text name shared s.compact ++ select_text s

-- what stands before the columns of a stream
abbrev pub stream_head_text : List ℕ → List ℕ
stream_head_text name = codes "CREATE STREAM " ++ (name ++ codes " (")

-- a domain behind the name of its column
abbrev pub domain_text : Option (ℤ × ℤ) → List ℕ
domain_text None = []
domain_text (Some ends) = (codes " IN " ++ signed_decimal ends.0) ++ (codes ".." ++ signed_decimal ends.1)

-- a column of a stream
abbrev pub coldef_text : ColumnDef → List ℕ
coldef_text c = c.name ++ domain_text c.domain

-- the columns of a stream
abbrev pub coldefs_text : List ColumnDef → List ℕ
coldefs_text columns = listed [] (codes ", ") coldef_text columns

-- what stands before the integers of a line of a checkpoint that has a name
abbrev pub resume_text : List ℕ → List ℕ
resume_text name = codes "RESUME " ++ name

-- RESUME name AS
abbrev pub given_text : List ℕ → ℤ → List ℕ
given_text name rows = resume_text name ++ (codes " AS " ++ signed_decimal rows)

-- what a cell holds, behind RESUME and the name
abbrev pub content_text : ℤ → ℤ → List ℕ
content_text index content = (codes " FROM " ++ signed_decimal index) ++ (codes " " ++ signed_decimal content)

-- RESUME name FROM
abbrev pub cell_text : List ℕ → ℤ → ℤ → List ℕ
cell_text name index content = resume_text name ++ content_text index content

-- the integers of a tuple, behind RESUME and the name
abbrev pub values_text : List ℤ → List ℕ
values_text values = codes " SELECT" ++ each_behind (codes " ") signed_decimal values

-- RESUME name SELECT
abbrev pub tuple_text : List ℕ → List ℤ → List ℕ
tuple_text name values = resume_text name ++ values_text values

-- LOCK, and its key where it has one
abbrev pub lock_head_text : Option ℤ → List ℕ
lock_head_text None = codes "LOCK"
lock_head_text (Some k) = codes "LOCK " ++ signed_decimal k

-- LOCK, and the streams behind TO where there are any
abbrev pub lock_text : Option ℤ → List (List ℕ) → List ℕ
lock_text k names = lock_head_text k ++ names_text (codes " TO ") names

-- CREATE STREAM
abbrev pub stream_text : List ℕ → List ColumnDef → List ℕ
stream_text name columns = stream_head_text name ++ (coldefs_text columns ++ codes ")")
