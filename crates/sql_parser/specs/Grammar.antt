-- The grammar of statements: the tokens that each statement is spelled by.
use Rattle.std.specs.Prelude.{◌≡◌, ℕ, ◌<◌, ◌⊎◌, Bool, true, false, ℤ, List, [], ◌∷◌, ◌++◌, length, map, codes, Option, Some, None}
use Rattle.std.specs.List.{AllByRecursion}
use Rattle.std.specs.Str.{str_eq_ignore_ascii_case}
use Rattle.sql_text.specs.declared.key.Key.{Key}
use Rattle.sql_text.specs.declared.key.Key.TheVariants.{CreateKey, StreamKey, QueryKey, AsKey, SelectKey, DistinctKey, FromKey, WhereKey, AndKey, ExplainKey, DropKey, InKey, SharedKey, CheckpointKey, ResumeKey}
use Rattle.sem_query.specs.declared.atom.Op.{Op}
use Rattle.sem_query.specs.declared.atom.Op.TheVariants.{Lt, Eq, Gt, Le, Ge, Ne}
use Rattle.sql_catalog.specs.declared.column.ColumnDef.{ColumnDef}
use Rattle.sql_parser.specs.declared.tree.ColumnAst.{ColumnAst}
use Rattle.sql_parser.specs.declared.tree.OperandAst.{OperandAst}
use Rattle.sql_parser.specs.declared.tree.OperandAst.TheVariants.{Column, Integer}
use Rattle.sql_parser.specs.declared.tree.AtomAst.{AtomAst}
use Rattle.sql_parser.specs.declared.tree.SelectAst.{SelectAst}
use Rattle.sql_parser.specs.declared.tree.Statement.{Statement}
use Rattle.sql_parser.specs.declared.tree.Statement.TheVariants.{CreateStream, CreateQuery, Explain, DropQuery, Checkpoint, ResumeRows, ResumeGiven, ResumeCell, ResumeTuple, Lock, Unlock}

-- a token by what it says: a name, an integer, a reserved word or a sign
pub data Lexeme : Type 0 where
  word : List ℕ → Lexeme
  number : ℤ → Lexeme
  key : Key → Lexeme
  comma : Lexeme
  point : Lexeme
  opening : Lexeme
  closing : Lexeme
  less : Lexeme
  equal : Lexeme
  greater : Lexeme
  less_equal : Lexeme
  greater_equal : Lexeme
  unequal : Lexeme
  semicolon : Lexeme

-- each of xs as its tokens, and a separator between two
abbrev pub separated : {X : Type 0} → Lexeme → (X → List Lexeme) → List X → List Lexeme
separated sep f [] = []
separated sep f (x ∷ []) = f x
separated sep f (x ∷ y ∷ xs) = f x ++ sep ∷ separated sep f (y ∷ xs)

-- a name is one token
abbrev pub name_tokens : List ℕ → List Lexeme
name_tokens n = word n ∷ []

-- [ IN integer "." "." integer ]
abbrev pub domain_tokens : Option (ℤ × ℤ) → List Lexeme
domain_tokens None = []
domain_tokens (Some ends) = key InKey ∷ number ends.0 ∷ point ∷ point ∷ number ends.1 ∷ []

-- coldef = name [ IN integer "." "." integer ]
abbrev pub coldef_tokens : ColumnDef → List Lexeme
coldef_tokens c = word c.name ∷ domain_tokens c.domain

-- column = name "." name
abbrev pub column_tokens : ColumnAst → List Lexeme
column_tokens c = word c.stream ∷ point ∷ word c.column ∷ []

-- column | integer
abbrev pub operand_tokens : OperandAst → List Lexeme
operand_tokens (Column c) = column_tokens c
operand_tokens (Integer z) = number z ∷ []

-- op = "<" | "=" | ">" | "<=" | ">=" | "<>"
abbrev pub op_token : Op → Lexeme
op_token Lt = less
op_token Eq = equal
op_token Gt = greater
op_token Le = less_equal
op_token Ge = greater_equal
op_token Ne = unequal

-- atom = column op ( column | integer ) | integer op column
abbrev pub atom_tokens : AtomAst → List Lexeme
atom_tokens a = operand_tokens a.left ++ op_token a.op ∷ operand_tokens a.right

-- [ WHERE atom { AND atom } ]
abbrev pub where_tokens : List AtomAst → List Lexeme
where_tokens [] = []
where_tokens (a ∷ atoms) = key WhereKey ∷ separated (key AndKey) atom_tokens (a ∷ atoms)

-- [ DISTINCT ]
abbrev pub distinct_tokens : Bool → List Lexeme
distinct_tokens true = key DistinctKey ∷ []
distinct_tokens false = []

-- SELECT [ DISTINCT ] column { "," column } FROM name { "," name } [ WHERE atom { AND atom } ]
abbrev pub select_tokens : SelectAst → List Lexeme
select_tokens s =
    key SelectKey ∷ distinct_tokens s.distinct ++ separated comma column_tokens s.select.items
    ++ key FromKey ∷ separated comma name_tokens s.from.items ++ where_tokens s.atoms.items

-- [ SHARED ]
abbrev pub shared_tokens : Bool → List Lexeme
shared_tokens true = key SharedKey ∷ []
shared_tokens false = []

-- [ COMPACT ], which stands as these tokens
abbrev pub compact_tokens : List Lexeme → Bool → List Lexeme
compact_tokens mark true = mark
compact_tokens mark false = []

-- [ integer ]
abbrev pub key_tokens : Option ℤ → List Lexeme
key_tokens None = []
key_tokens (Some z) = number z ∷ []

-- [ TO name { "," name } ], where TO stands as these tokens
abbrev pub to_tokens : List Lexeme → List (List ℕ) → List Lexeme
to_tokens mark [] = []
to_tokens mark (n ∷ ns) = mark ++ separated comma name_tokens (n ∷ ns)

-- the words of the grammar that are reserved nowhere, each with what it stands as
pub record FreeWords (X : Type 0) : Type 0 where
  pub compact : X
  pub lock : X
  pub unlock : X
  pub to : X

-- The tokens of a statement, without a semicolon, where COMPACT, LOCK, UNLOCK and TO stand as the given ones:
-- CREATE STREAM name "(" coldef { "," coldef } ")"  |  CREATE [ SHARED ] [ COMPACT ] QUERY name AS select  |  EXPLAIN name  |  DROP QUERY name
-- CHECKPOINT  |  RESUME integer  |  RESUME name AS integer  |  RESUME name FROM integer integer  |  RESUME name SELECT integer { integer }
-- LOCK [ integer ] [ TO name { "," name } ]  |  UNLOCK integer
abbrev pub tokens_with : FreeWords (List Lexeme) → Statement → List Lexeme
tokens_with mark (CreateStream name columns) =
    key CreateKey ∷ key StreamKey ∷ word name ∷ opening ∷ separated comma coldef_tokens columns.items ++ closing ∷ []
tokens_with mark (CreateQuery name select shared) = key CreateKey ∷ shared_tokens shared ++ compact_tokens mark.compact select.compact ++ key QueryKey ∷ word name ∷ key AsKey ∷ select_tokens select
tokens_with mark (Explain name) = key ExplainKey ∷ word name ∷ []
tokens_with mark (DropQuery name) = key DropKey ∷ key QueryKey ∷ word name ∷ []
tokens_with mark Checkpoint = key CheckpointKey ∷ []
tokens_with mark (ResumeRows rows) = key ResumeKey ∷ number rows ∷ []
tokens_with mark (ResumeGiven name rows) = key ResumeKey ∷ word name ∷ key AsKey ∷ number rows ∷ []
tokens_with mark (ResumeCell name index content) = key ResumeKey ∷ word name ∷ key FromKey ∷ number index ∷ number content ∷ []
tokens_with mark (ResumeTuple name values) = key ResumeKey ∷ word name ∷ key SelectKey ∷ map number values.items
tokens_with mark (Lock k streams) = mark.lock ++ key_tokens k ++ to_tokens mark.to streams.items
tokens_with mark (Unlock k) = mark.unlock ++ number k ∷ []

-- the free words left out
abbrev pub no_words : FreeWords (List Lexeme)
no_words = record { compact = []; lock = []; unlock = []; to = [] }

-- the free words as tokens, by how they are spelled
abbrev pub written : FreeWords (List ℕ) → FreeWords (List Lexeme)
written w = record { compact = word w.compact ∷ []; lock = word w.lock ∷ []; unlock = word w.unlock ∷ []; to = word w.to ∷ [] }

-- the free words in capitals
abbrev pub capitals : FreeWords (List ℕ)
capitals = record { compact = codes "COMPACT"; lock = codes "LOCK"; unlock = codes "UNLOCK"; to = codes "TO" }

-- the tokens of a statement as it is printed, the free words in capitals
abbrev pub statement_tokens : Statement → List Lexeme
statement_tokens s = tokens_with (written capitals) s

-- whether a side of an atom is a column
abbrev pub IsColumn : OperandAst → Type 0
IsColumn (Column c) = Unit {0}
IsColumn (Integer z) = ⊥

-- at least one side is a column
abbrev pub HasColumn : AtomAst → Type 0
HasColumn a = IsColumn a.left ⊎ IsColumn a.right

-- no list but that of the atoms and that of a lock is empty, and no atom has two integers
abbrev pub IsWhole : Statement → Type 0
IsWhole (CreateStream name columns) = 0 < length columns.items
IsWhole (CreateQuery name select shared) = (0 < length select.select.items) × (0 < length select.from.items) × AllByRecursion HasColumn select.atoms.items
IsWhole (Explain name) = Unit {0}
IsWhole (DropQuery name) = Unit {0}
IsWhole Checkpoint = Unit {0}
IsWhole (ResumeRows rows) = Unit {0}
IsWhole (ResumeGiven name rows) = Unit {0}
IsWhole (ResumeCell name index content) = Unit {0}
IsWhole (ResumeTuple name values) = 0 < length values.items
IsWhole (Lock k streams) = Unit {0}
IsWhole (Unlock k) = Unit {0}

-- the word COMPACT, in any case of letters
unfoldable pub is_compact : List ℕ → Bool
is_compact w = str_eq_ignore_ascii_case w (codes "COMPACT")

-- the words LOCK, UNLOCK and TO, in any case of letters
unfoldable pub is_lock : List ℕ → Bool
is_lock w = str_eq_ignore_ascii_case w (codes "LOCK")

unfoldable pub is_unlock : List ℕ → Bool
is_unlock w = str_eq_ignore_ascii_case w (codes "UNLOCK")

unfoldable pub is_to : List ℕ → Bool
is_to w = str_eq_ignore_ascii_case w (codes "TO")

-- each free word is spelled, in any case of letters
pub record IsSpelling (w : FreeWords (List ℕ)) : Type 0 where
  pub compact : is_compact w.compact ≡ true
  pub lock : is_lock w.lock ≡ true
  pub unlock : is_unlock w.unlock ≡ true
  pub to : is_to w.to ≡ true

-- the tokens are the statement's, with the free words in any case of letters, and with or without a semicolon
abbrev pub Spells : List Lexeme → Statement → Type 0
Spells ts s = IsWhole s × (w : FreeWords (List ℕ)) × IsSpelling w × ((ts ≡ tokens_with (written w) s) ⊎ (ts ≡ tokens_with (written w) s ++ semicolon ∷ []))

-- some statement begins so
abbrev pub Begins : List Lexeme → Type 0
Begins ts = (more : List Lexeme) × (s : Statement) × Spells (ts ++ more) s
