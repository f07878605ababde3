-- What a line asks for over streams and live queries in an open session, or the word by which a session refuses it: the first that applies. Of rows only the
-- form is asked, and of the lines of checkpoints whether their query is there.
use Rattle.std.specs.Prelude.{◌≡◌, ℕ, ◌<◌, ◌≤◌, Bool, not, List, length, if◌then◌else◌, is_some, nat_le, Some, None}
use Rattle.std.specs.List.{list_any, list_all}
use Rattle.std.specs.Str.{bytes_eq}
use Rattle.std.specs.declared.result.Result.{Result}
use Rattle.std.specs.declared.result.Result.TheVariants.{Ok, Err}
use Rattle.sem_query.specs.Query.{QueryValue}
use Rattle.sql_catalog.specs.Streams.{Shape, added, all_differ, stream_number}
use Rattle.sql_catalog.specs.Rows.{Entry, row_of}
use Rattle.sql_catalog.specs.declared.stream_error.StreamError.{StreamError}
use Rattle.sql_catalog.specs.declared.row_error.RowError.{RowError}
use Rattle.sql_parser.specs.declared.line.LineKind.{LineKind}
use Rattle.sql_parser.specs.declared.line.LineKind.TheVariants as kinds
use Rattle.sql_parser.specs.declared.parsing.What.{What}
use Rattle.sql_parser.specs.declared.tree.Statement.{Statement}
use Rattle.sql_parser.specs.declared.tree.Statement.TheVariants as statements
use Rattle.sql_parser.specs.declared.resolution.ResolveError.{ResolveError}
use Rattle.sql_parser.specs.LineKind.{stripped, kind_of_line}
use Rattle.sql_parser.specs.Syntax.{IsStatement}
use Rattle.sql_parser.specs.Limits.{limit_of}
use Rattle.sql_parser.specs.Resolution.{resolved}
use Rattle.sql_replies.specs.Words.{stream_refusal, row_refusal, resolve_refusal}
use Rattle.sql_replies.specs.declared.refusal.Refusal.{Refusal}
use Rattle.sql_replies.specs.declared.refusal.Refusal.TheVariants.{LineTooLong, Syntax, Limit, Duplicate, TooMany, UnknownStream, UnknownQuery, Value}
use Rattle.adv_diagnosis.specs.declared.fault.Asks.{Asks}
use Rattle.adv_diagnosis.specs.declared.fault.Asks.TheVariants as asks

-- a row asks for nothing more where it has the form of one
abbrev pub row_asked : Result Entry RowError → Result Asks Refusal
row_asked (Err error) = Err (row_refusal error)
row_asked (Ok entry) = Ok asks.Row

-- a stream is asked for that can be added
abbrev pub stream_asked : Asks → Result ℕ StreamError → Result Asks Refusal
stream_asked stream (Err error) = Err (stream_refusal error)
stream_asked stream (Ok number) = Ok stream

-- the query that names stand for
abbrev pub query_named : List ℕ → Bool → Result QueryValue ResolveError → Result Asks Refusal
query_named name shared (Err error) = Err (resolve_refusal error)
query_named name shared (Ok query) = Ok (asks.Query name query shared)

-- whether a live query has the name
abbrev pub is_live : List (List ℕ) → List ℕ → Bool
is_live live name = list_any (λ other. bytes_eq other name) live

-- a query is asked for under a name that no live query has, while fewer than 64 are live
abbrev pub query_asked : List (List ℕ) → List ℕ → Result Asks Refusal → Result Asks Refusal
query_asked live name named = if is_live live name then Err Duplicate else (if nat_le 64 (length live) then Err TooMany else named)

-- a live query is asked for by its name
abbrev pub live_asked : List (List ℕ) → List ℕ → Asks → Result Asks Refusal
live_asked live name asked = if is_live live name then Ok asked else Err UnknownQuery

-- a lock is asked for that names streams that are there, each once
abbrev pub lock_asked : List Shape → List (List ℕ) → Asks → Result Asks Refusal
lock_asked streams names lock =
    if not (all_differ names) then Err Duplicate else (if not (list_all (λ n. is_some (stream_number streams n)) names) then Err UnknownStream else Ok lock)

-- what a statement asks for in an open session, in which no line unlocks
abbrev pub statement_asked : List Shape → List (List ℕ) → Statement → Result Asks Refusal
statement_asked streams live (statements.CreateStream name columns) = stream_asked (asks.Stream name columns) (added streams (record { name = name; columns = columns.items }))
statement_asked streams live (statements.CreateQuery name select shared) = query_asked live name (query_named name shared (resolved streams select))
statement_asked streams live (statements.Explain name) = live_asked live name asks.Explain
statement_asked streams live (statements.DropQuery name) = live_asked live name (asks.Drop name)
statement_asked streams live statements.Checkpoint = Ok asks.Other
statement_asked streams live (statements.ResumeRows rows) = Ok asks.Other
statement_asked streams live (statements.ResumeGiven name rows) = live_asked live name asks.Other
statement_asked streams live (statements.ResumeCell name index content) = live_asked live name asks.Other
statement_asked streams live (statements.ResumeTuple name values) = live_asked live name asks.Other
statement_asked streams live (statements.Lock k opened) = lock_asked streams opened.items (asks.Lock k opened)
statement_asked streams live (statements.Unlock k) = Err Value

-- What a text asks for that is read as a statement: it is none, or one that passes a limit, or what the statement asks for.
pub data IsStatementAsked (streams : List Shape) (live : List (List ℕ)) (text : List ℕ) (asked : Result Asks Refusal) : Type 0 where
  outside : ((s : Statement) → IsStatement text s → ⊥) → asked ≡ Err Syntax → IsStatementAsked streams live text asked
  limited : (s : Statement) → (what : What) → IsStatement text s → limit_of s ≡ Some what → asked ≡ Err Limit → IsStatementAsked streams live text asked
  stated : (s : Statement) → IsStatement text s → limit_of s ≡ None → asked ≡ statement_asked streams live s → IsStatementAsked streams live text asked

-- what a text of a kind asks for
abbrev pub IsTextAsked : List Shape → List (List ℕ) → LineKind → List ℕ → Result Asks Refusal → Type 0
IsTextAsked streams live kinds.Nothing text asked = asked ≡ Ok asks.Nothing
IsTextAsked streams live kinds.RowLine text asked = asked ≡ row_asked (row_of streams text)
IsTextAsked streams live kinds.StatementLine text asked = IsStatementAsked streams live text asked

-- What a line asks for: it is too long, or what is left of it asks for this.
pub data IsAsked (streams : List Shape) (live : List (List ℕ)) (line : List ℕ) (asked : Result Asks Refusal) : Type 0 where
  too_long : 1024 < length line → asked ≡ Err LineTooLong → IsAsked streams live line asked
  fits : length line ≤ 1024 → IsTextAsked streams live (kind_of_line (stripped line)) (stripped line) asked → IsAsked streams live line asked
