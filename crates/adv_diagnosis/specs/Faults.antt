-- What a fault says of a line, and its word.
use Rattle.std.specs.Prelude.{◌≡◌, ℕ, ℤ, ◌<◌, ◌≤◌, Bool, true, false, not, List, [], ◌∷◌, ◌++◌, length, take, is_some, if◌then◌else◌, Option, Some, None, All}
use Rattle.std.specs.List.{find, list_any}
use Rattle.std.specs.Str.{bytes_eq}
use Rattle.std.specs.Result.{result_map_both, IfErr}
use Rattle.std.specs.declared.result.Result.{Result}
use Rattle.std.specs.declared.result.Result.TheVariants.{Ok, Err}
use Rattle.sql_catalog.specs.Streams.{Shape, HasEnds, column_names, stream_number}
use Rattle.sql_parser.specs.declared.tree.ColumnAst.{ColumnAst}
use Rattle.sql_parser.specs.declared.tree.Statement.{Statement}
use Rattle.sql_parser.specs.declared.tree.Statement.TheVariants as statements
use Rattle.sql_parser.specs.LineKind.{stripped}
use Rattle.sql_parser.specs.Syntax.{IsStatement, IsFault}
use Rattle.sql_parser.specs.Limits.{limit_of, columns_of, selected_by, streams_of, atoms_of, opened_by, columns_in}
use Rattle.sql_parser.specs.Resolution.{place_in, place_under, resolved, query_for, HasNamed}
use Rattle.sql_parser.specs.declared.tree.SelectAst.{SelectAst}
use Rattle.sql_parser.specs.declared.resolution.ResolveError.{ResolveError}
use Rattle.sql_replies.specs.Words.{resolve_refusal}
use Rattle.adv_hints.specs.declared.candidates.TheConstants.{ALL}
use Rattle.adv_diagnosis.specs.declared.fault.Asks.{Asks}
use Rattle.adv_diagnosis.specs.declared.fault.Asks.TheVariants as asks
use Rattle.adv_diagnosis.specs.declared.fault.Fault.{Fault}
use Rattle.adv_diagnosis.specs.declared.fault.Fault.TheVariants.{LineTooLong, Syntax, Limit, DuplicateStream, DuplicateColumn, DuplicateQuery, TooManyStreams, TooManyQueries, NoStream, NotInFrom, NoColumn, SelfJoin, NoQuery, LockTwice, LockNoStream, NoLock, RowKey, RowName, RowStream, Arity, Value, Domain}
use Rattle.adv_diagnosis.specs.FaultWords.{word_of}
use Rattle.adv_diagnosis.specs.Asked.{IsAsked, IsStatementAsked, statement_asked, is_live}
use Rattle.adv_hints.specs.Candidates.{AreNext}
use Rattle.adv_diagnosis.specs.Passed.{found_in}
use Rattle.adv_diagnosis.specs.RowFaults.{IsOfRow}

-- the name that a statement begins with, where it has one
abbrev pub name_in : Statement → Option (List ℕ)
name_in (statements.CreateStream name columns) = Some name
name_in (statements.CreateQuery name select shared) = Some name
name_in (statements.Explain name) = Some name
name_in (statements.DropQuery name) = Some name
name_in statements.Checkpoint = None
name_in (statements.ResumeRows rows) = None
name_in (statements.ResumeGiven name rows) = Some name
name_in (statements.ResumeCell name index content) = Some name
name_in (statements.ResumeTuple name values) = Some name
name_in (statements.Lock k streams) = None
name_in (statements.Unlock k) = None

-- the first name that stands among those behind it
abbrev pub first_repeated : List (List ℕ) → Option (List ℕ)
first_repeated [] = None
first_repeated (x ∷ xs) = if list_any (bytes_eq x) xs then Some x else first_repeated xs

-- whether a name is that of no stream
abbrev pub is_no_stream : List Shape → List ℕ → Bool
is_no_stream streams name = not (is_some (stream_number streams name))

-- whether the stream of a column stands nowhere in FROM
abbrev pub is_not_from : List (List ℕ) → ColumnAst → Bool
is_not_from from c = not (is_some (place_in from c))

-- whether a column is none of its stream
abbrev pub is_no_column : List Shape → ColumnAst → Bool
is_no_column streams c = not (is_some (place_under streams c))

-- the columns that a statement names: those that are selected, and those of the atoms
abbrev pub columns_named : Statement → List ColumnAst
columns_named s = selected_by s ++ columns_in (atoms_of s)

-- whether a stream has the name
abbrev pub has_stream : List Shape → List ℕ → Bool
has_stream streams name = list_any (λ x. bytes_eq x.name name) streams

-- no stream has the name of the statement
abbrev pub IsNewStream : List Shape → Statement → Type 0
IsNewStream streams s = (name : List ℕ) → name_in s ≡ Some name → has_stream streams name ≡ false

-- no live query has the name of the statement
abbrev pub IsNewQuery : List (List ℕ) → Statement → Type 0
IsNewQuery live s = (name : List ℕ) → name_in s ≡ Some name → is_live live name ≡ false

-- a query may be added under its name, so that it comes to the names in it
abbrev pub MayBeAdded : List (List ℕ) → Statement → Type 0
MayBeAdded live s = IsNewQuery live s × (length live < 64)

-- FROM names streams alone
abbrev pub NamesStreams : List Shape → Statement → Type 0
NamesStreams streams s = find (is_no_stream streams) (streams_of s) ≡ None

-- each column is one of a stream of FROM
abbrev pub NamesFrom : Statement → Type 0
NamesFrom s = find (is_not_from (streams_of s)) (columns_named s) ≡ None

-- each column is one of its stream
abbrev pub NamesColumns : List Shape → Statement → Type 0
NamesColumns streams s = find (is_no_column streams) (columns_named s) ≡ None

-- what a fault says of a statement within the limits, over these streams and live queries: the cause holds, and none before it
abbrev pub IsOfStatement : List Shape → List (List ℕ) → Statement → Fault → Type 0
IsOfStatement streams live s (DuplicateStream name) = (name_in s ≡ Some name) × (has_stream streams name ≡ true)
IsOfStatement streams live s (DuplicateColumn name) = IsNewStream streams s × (first_repeated (column_names (columns_of s)) ≡ Some name)
IsOfStatement streams live s TooManyStreams = IsNewStream streams s × (first_repeated (column_names (columns_of s)) ≡ None) × (16 ≤ length streams)
IsOfStatement streams live s (DuplicateQuery name) = (name_in s ≡ Some name) × (is_live live name ≡ true)
IsOfStatement streams live s TooManyQueries = IsNewQuery live s × (64 ≤ length live)
IsOfStatement streams live s (NoStream name) = MayBeAdded live s × (find (is_no_stream streams) (streams_of s) ≡ Some name)
IsOfStatement streams live s (NotInFrom column) = MayBeAdded live s × NamesStreams streams s × (find (is_not_from (streams_of s)) (columns_named s) ≡ Some column)
IsOfStatement streams live s (NoColumn column) = MayBeAdded live s × NamesStreams streams s × NamesFrom s × (find (is_no_column streams) (columns_named s) ≡ Some column)
IsOfStatement streams live s (SelfJoin name) = MayBeAdded live s × NamesStreams streams s × NamesFrom s × NamesColumns streams s × (first_repeated (streams_of s) ≡ Some name)
IsOfStatement streams live s (NoQuery name) = (name_in s ≡ Some name) × (is_live live name ≡ false)
IsOfStatement streams live s (LockTwice name) = first_repeated (opened_by s) ≡ Some name
IsOfStatement streams live s (LockNoStream name) = (first_repeated (opened_by s) ≡ None) × (find (is_no_stream streams) (opened_by s) ≡ Some name)
IsOfStatement streams live s NoLock = (k : ℤ) × (s ≡ statements.Unlock k)
IsOfStatement streams live s _ = ⊥

-- it is said of the statement that a text is, which is within the limits
abbrev pub IsOfText : List Shape → List (List ℕ) → List ℕ → Fault → Type 0
IsOfText streams live text fault = (s : Statement) × IsStatement text s × (limit_of s ≡ None) × IsOfStatement streams live s fault

-- what a fault says of a text that is read as a statement is so
abbrev pub IsTrueOfText : List Shape → List (List ℕ) → List ℕ → Fault → Type 0
IsTrueOfText streams live text (Syntax at next) = IsFault text at × AreNext (take at text) ALL next.items
IsTrueOfText streams live text (Limit what found) = (s : Statement) × IsStatement text s × (limit_of s ≡ Some what) × (found ≡ found_in what s)
IsTrueOfText streams live text fault = IsOfText streams live text fault

-- what a fault says of a line of an open session is so
abbrev pub IsTrueOf : List Shape → List (List ℕ) → List ℕ → Fault → Type 0
IsTrueOf streams live line LineTooLong = 1024 < length line
IsTrueOf streams live line RowKey = IsOfRow streams (stripped line) RowKey
IsTrueOf streams live line (RowName bytes) = IsOfRow streams (stripped line) (RowName bytes)
IsTrueOf streams live line RowStream = IsOfRow streams (stripped line) RowStream
IsTrueOf streams live line (Arity stream wanted found) = IsOfRow streams (stripped line) (Arity stream wanted found)
IsTrueOf streams live line (Value field) = IsOfRow streams (stripped line) (Value field)
IsTrueOf streams live line (Domain stream field) = IsOfRow streams (stripped line) (Domain stream field)
IsTrueOf streams live line fault = IsTrueOfText streams live (stripped line) fault

-- What is found for a line of an open session: what it asks for, or a fault with the word by which the session refuses it; and what the fault
-- says is so.
pub record IsDiagnosis (streams : List Shape) (live : List (List ℕ)) (line : List ℕ) (result : Result Asks Fault) : Type 0 where
  pub asked : IsAsked streams live line (result_map_both (λ asks. asks) word_of result)
  pub facts : IfErr result (IsTrueOf streams live line)

-- what is found for a text that is read as a statement
pub record IsTextDiagnosis (streams : List Shape) (live : List (List ℕ)) (text : List ℕ) (result : Result Asks Fault) : Type 0 where
  pub asked : IsStatementAsked streams live text (result_map_both (λ asks. asks) word_of result)
  pub facts : IfErr result (IsTrueOfText streams live text)

-- what is found for a statement
pub record IsStatementDiagnosis (streams : List Shape) (live : List (List ℕ)) (s : Statement) (result : Result Asks Fault) : Type 0 where
  pub asked : result_map_both (λ asks. asks) word_of result ≡ statement_asked streams live s
  pub facts : IfErr result (IsOfStatement streams live s)

-- what is found for a statement that asks for a live query by its name
abbrev pub live_found : List (List ℕ) → List ℕ → Asks → Result Asks Fault
live_found live name asked = if is_live live name then Ok asked else Err (NoQuery name)

-- the names of a query stand for none, and the fault tells the first cause
pub record HasNameFault (streams : List Shape) (select : SelectAst) (fault : Fault) : Type 0 where
  pub error : ResolveError
  pub refused : resolved streams select ≡ Err error
  pub word : resolve_refusal error ≡ word_of fault
  pub fact : (live : List (List ℕ)) (name : List ℕ) (shared : Bool) → MayBeAdded live (statements.CreateQuery name select shared) → IsOfStatement streams live (statements.CreateQuery name select shared) fault

-- the fault of the names of a query, or the query that they stand for
abbrev pub IsNameFault : List Shape → SelectAst → Option Fault → Type 0
IsNameFault streams select None = resolved streams select ≡ Ok (query_for streams select)
IsNameFault streams select (Some fault) = HasNameFault streams select fault

-- a stream that is asked for can be added as it is; the streams and columns of a query that is asked for are there
abbrev pub IsReady : List Shape → Asks → Type 0
IsReady streams (asks.Stream name columns) = (0 < length columns.items) × All (λ c. HasEnds c.domain) columns.items
IsReady streams (asks.Query name query shared) = HasNamed streams query
IsReady streams _ = Unit {0}
