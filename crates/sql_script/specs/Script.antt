-- Scripts of one query: CREATE STREAM lines and then one CREATE QUERY line, between blank lines and comments.
use Rattle.std.specs.Prelude.{◌≡◌, ℕ, suc, ◌<◌, ◌≤◌, Bool, List, [], ◌∷◌, ◌++◌, length, Some, None}
use Rattle.std.specs.declared.result.Result.{Result}
use Rattle.std.specs.declared.result.Result.TheVariants.{Ok, Err}
use Rattle.sem_query.specs.Query.{QueryValue}
use Rattle.sql_catalog.specs.Streams.{Shape, added}
use Rattle.sql_catalog.specs.declared.stream_error.StreamError.{StreamError}
use Rattle.sql_parser.specs.declared.line.LineKind.{LineKind}
use Rattle.sql_parser.specs.declared.line.LineKind.TheVariants as kinds
use Rattle.sql_parser.specs.declared.parsing.What.{What}
use Rattle.sql_parser.specs.declared.tree.SelectAst.{SelectAst}
use Rattle.sql_parser.specs.declared.tree.Statement.{Statement}
use Rattle.sql_parser.specs.declared.tree.Statement.TheVariants as statements
use Rattle.sql_parser.specs.declared.resolution.ResolveError.{ResolveError}
use Rattle.sql_parser.specs.LineKind.{stripped, kind_of_line}
use Rattle.sql_parser.specs.Syntax.{IsStatement}
use Rattle.sql_parser.specs.Limits.{limit_of}
use Rattle.sql_parser.specs.Resolution.{resolved}
use Rattle.sql_replies.specs.Words.{stream_refusal, resolve_refusal}
use Rattle.sql_replies.specs.declared.refusal.Refusal.{Refusal}
use Rattle.sql_replies.specs.declared.refusal.Refusal.TheVariants.{LineTooLong, Syntax, Limit}

-- What a line is in a script before its query: nothing, a stream, the query under its name, which is shared or not, or it is refused.
pub data ScriptLine : Type 0 where
  nothing : ScriptLine
  stream : Shape → ScriptLine
  query : List ℕ → SelectAst → Bool → QueryValue → ScriptLine
  refused : Refusal → ScriptLine

-- a stream is created where it can be added
abbrev pub stream_line : Shape → Result ℕ StreamError → ScriptLine
stream_line shape (Ok number) = stream shape
stream_line shape (Err error) = refused (stream_refusal error)

-- the query, where its names stand for one
abbrev pub query_line : List ℕ → SelectAst → Bool → Result QueryValue ResolveError → ScriptLine
query_line name select shared (Ok q) = query name select shared q
query_line name select shared (Err error) = refused (resolve_refusal error)

-- a statement creates a stream or the query; no other has a place
abbrev pub statement_line : List Shape → Statement → ScriptLine
statement_line streams (statements.CreateStream name columns) = stream_line (record { name = name; columns = columns.items }) (added streams (record { name = name; columns = columns.items }))
statement_line streams (statements.CreateQuery name select shared) = query_line name select shared (resolved streams select)
statement_line streams _ = refused Syntax

-- a statement creates a stream or a query
abbrev pub Creates : Statement → Type 0
Creates (statements.CreateStream name columns) = Unit {0}
Creates (statements.CreateQuery name select shared) = Unit {0}
Creates _ = ⊥

-- the name in a statement, and nothing where it has none
abbrev pub name_of : Statement → List ℕ
name_of (statements.CreateStream name columns) = name
name_of (statements.CreateQuery name select shared) = name
name_of (statements.Explain name) = name
name_of (statements.DropQuery name) = name
name_of statements.Checkpoint = []
name_of (statements.ResumeRows rows) = []
name_of (statements.ResumeGiven name rows) = name
name_of (statements.ResumeCell name index content) = name
name_of (statements.ResumeTuple name values) = name
name_of (statements.Lock k streams) = []
name_of (statements.Unlock k) = []

-- What a text is that is read as a statement: no statement, or one that has no place, whether or not it passes a limit; one that passes a
-- limit; or what the statement creates.
pub data IsScriptStatement (streams : List Shape) (text : List ℕ) (line : ScriptLine) : Type 0 where
  outside : ((s : Statement) → ¬ IsStatement text s) → line ≡ refused Syntax → IsScriptStatement streams text line
  misplaced : (s : Statement) → IsStatement text s → ¬ Creates s → line ≡ refused Syntax → IsScriptStatement streams text line
  limited : (s : Statement) → (what : What) → IsStatement text s → Creates s → limit_of s ≡ Some what → line ≡ refused Limit → IsScriptStatement streams text line
  stated : (s : Statement) → IsStatement text s → limit_of s ≡ None → line ≡ statement_line streams s → IsScriptStatement streams text line

-- what a text of a kind is; a row has no place
abbrev pub IsScriptText : List Shape → LineKind → List ℕ → ScriptLine → Type 0
IsScriptText streams kinds.Nothing text line = line ≡ nothing
IsScriptText streams kinds.RowLine text line = line ≡ refused Syntax
IsScriptText streams kinds.StatementLine text line = IsScriptStatement streams text line

-- what a line is, behind lines that created these streams: it is too long, or what is left of it is this
pub data IsScriptLine (streams : List Shape) (bytes : List ℕ) (line : ScriptLine) : Type 0 where
  too_long : 1024 < length bytes → line ≡ refused LineTooLong → IsScriptLine streams bytes line
  fits : length bytes ≤ 1024 → IsScriptText streams (kind_of_line (stripped bytes)) (stripped bytes) line → IsScriptLine streams bytes line

-- lines that create streams, behind some that created others, and nothing else
pub data CreateStreams : List Shape → List (List ℕ) → List Shape → Type 0 where
  none : {streams : List Shape} → CreateStreams streams [] streams
  blank : {streams all : List Shape} {line : List ℕ} {lines : List (List ℕ)}
      → IsScriptLine streams line nothing → CreateStreams streams lines all → CreateStreams streams (line ∷ lines) all
  one : {streams all : List Shape} {line : List ℕ} {lines : List (List ℕ)} (shape : Shape)
      → IsScriptLine streams line (stream shape) → CreateStreams (streams ++ shape ∷ []) lines all → CreateStreams streams (line ∷ lines) all

-- A script's query, and the streams before it: the lines before its line create the streams, and its line the query.
pub record Asks (lines : List (List ℕ)) (streams : List Shape) (name : List ℕ) (select : SelectAst) (shared : Bool) (q : QueryValue) (number : ℕ) : Type 0 where
  pub before : List (List ℕ)
  pub line : List ℕ
  pub behind : List (List ℕ)
  pub whole : lines ≡ before ++ line ∷ behind
  pub create : CreateStreams [] before streams
  pub is : IsScriptLine streams line (query name select shared q)
  pub number_is : number ≡ suc (length before)

-- The first line that is refused before the query, by its number from 1; or the script ends before its query, which is refused at the
-- number behind the last line.
pub data IsRefusedAt (lines : List (List ℕ)) (number : ℕ) (word : Refusal) : Type 0 where
  at_line : (before : List (List ℕ)) (line : List ℕ) (behind : List (List ℕ)) (streams : List Shape) → lines ≡ before ++ line ∷ behind
      → CreateStreams [] before streams → IsScriptLine streams line (refused word) → number ≡ suc (length before) → IsRefusedAt lines number word
  at_end : (streams : List Shape) → CreateStreams [] lines streams → word ≡ Syntax → number ≡ suc (length lines) → IsRefusedAt lines number word

-- what is left of a line says nothing
abbrev pub SaysNothing : List ℕ → Type 0
SaysNothing line = kind_of_line (stripped line) ≡ kinds.Nothing

-- a line of a script that says nothing
pub record IsBlank (line : List ℕ) : Type 0 where
  pub short : length line ≤ 1024
  pub nothing : SaysNothing line

-- why a line behind the query is refused where none has a place there but blank ones
pub data IsMisplaced (line : List ℕ) (word : Refusal) : Type 0 where
  too_long : 1024 < length line → word ≡ LineTooLong → IsMisplaced line word
  loud : length line ≤ 1024 → ¬ IsBlank line → word ≡ Syntax → IsMisplaced line word
