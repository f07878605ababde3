-- What a line asks for: the first that applies.
use Rattle.std.specs.Option.{option_map}
use Rattle.std.specs.Prelude.{◌≡◌, ℕ, ◌<◌, ◌≤◌, Bool, List, length, if◌then◌else◌, nat_le, nat_eq, int_le, int_lt, ℤ, pos, nat_abs, not, ◌||◌, option_and_then, Option, Some, None, [], ◌∷◌}
use Rattle.std.specs.List.{list_any}
use Rattle.std.specs.Str.{bytes_eq}
use Rattle.std.specs.declared.result.Result.{Result}
use Rattle.std.specs.declared.result.Result.TheVariants.{Ok, Err}
use Rattle.sem_query.specs.Query.{QueryValue}
use Rattle.sem_query.specs.Bases.{Base}
use Rattle.sem_query.specs.Numbers.{parts_of}
use Rattle.exec_query.specs.Loading.{loaded_given, loaded_cell, loaded_tuple}
use Rattle.exec_registry.specs.Live.{LiveQuery, boxes_of, base_in}
use Rattle.sql_catalog.specs.declared.column.ColumnDef.{ColumnDef}
use Rattle.sql_catalog.specs.Streams.{Shape, added, all_differ, stream_number}
use Rattle.sql_catalog.specs.Rows.{Entry, row_of}
use Rattle.sql_catalog.specs.declared.stream_error.StreamError.{StreamError}
use Rattle.sql_catalog.specs.declared.row_error.RowError.{RowError}
use Rattle.sql_parser.specs.declared.line.LineKind.{LineKind}
use Rattle.sql_parser.specs.declared.line.LineKind.TheVariants as kinds
use Rattle.sql_parser.specs.declared.parsing.What.{What}
use Rattle.sql_parser.specs.declared.tree.SelectAst.{SelectAst}
use Rattle.sql_parser.specs.declared.tree.Statement.{Statement}
use Rattle.sql_parser.specs.declared.tree.Statement.TheVariants as statements
use Rattle.sql_parser.specs.declared.resolution.ResolveError.{ResolveError}
use Rattle.sql_parser.specs.LineKind.{stripped, kind_of_line}
use Rattle.sql_parser.specs.Syntax.{IsStatement}
use Rattle.sql_parser.specs.Limits.{limit_of}
use Rattle.sql_parser.specs.Resolution.{resolved}
use Rattle.cmd_session.specs.Request.{Request, silent, created, asked, explained, dropped, taken, saved, resumed, based, locked, unlocked, refused}
use Rattle.cmd_session.specs.Lock.{Lock, Lets}
use Rattle.sql_replies.specs.Words.{stream_refusal, row_refusal, resolve_refusal}
use Rattle.sql_replies.specs.declared.refusal.Refusal.{Refusal}
use Rattle.sql_replies.specs.declared.refusal.Refusal.TheVariants.{LineTooLong, Locked, Syntax, Limit, Duplicate, TooMany, UnknownStream, UnknownQuery, Late, Arity, Value, RowLimit}
use Rattle.cmd_session.specs.State.{State, live_names, has_room}

-- a row is taken where one more may be
abbrev pub entry_request : Bool → Result Entry RowError → Request
entry_request room (Err error) = refused (row_refusal error)
entry_request room (Ok entry) = if room then taken entry.stream entry.values else refused RowLimit

-- what a row line asks for
abbrev pub row_request : List Shape → Bool → List ℕ → Request
row_request streams room text = entry_request room (row_of streams text)

-- a stream is created where it can be added
abbrev pub stream_request : List ℕ → List ColumnDef → Result ℕ StreamError → Request
stream_request name columns (Err error) = refused (stream_refusal error)
stream_request name columns (Ok number) = created name columns

-- the query that names stand for, or the word that refuses the line
abbrev pub query_named : Result QueryValue ResolveError → Result QueryValue Refusal
query_named (Err error) = Err (resolve_refusal error)
query_named (Ok query) = Ok query

-- whether a live query has the name
abbrev pub is_live : List (List ℕ) → List ℕ → Bool
is_live live name = list_any (λ other. bytes_eq other name) live

-- the query of CREATE QUERY, or the first word that refuses the line
abbrev pub query_of : List Shape → List (List ℕ) → List ℕ → SelectAst → Result QueryValue Refusal
query_of streams live name select =
    if is_live live name then Err Duplicate
    else (if nat_le 64 (length live) then Err TooMany else query_named (resolved streams select))

-- a query is to be decided on, with shared cells or without, or the line is refused
abbrev pub found_request : List ℕ → Bool → Result QueryValue Refusal → Request
found_request name shared (Ok query) = asked name query shared
found_request name shared (Err word) = refused word

-- what CREATE QUERY asks for, with SHARED or without
abbrev pub query_request : List Shape → List (List ℕ) → List ℕ → SelectAst → Bool → Request
query_request streams live name select shared = found_request name shared (query_of streams live name select)

-- what EXPLAIN asks for
abbrev pub explain_request : List (List ℕ) → List ℕ → Request
explain_request live name = if is_live live name then explained name else refused UnknownQuery

-- what DROP QUERY asks for
abbrev pub drop_request : List (List ℕ) → List ℕ → Request
drop_request live name = if is_live live name then dropped name else refused UnknownQuery

-- the live query of a name: the first that has it
abbrev pub live_named : List ℕ → List LiveQuery → Option LiveQuery
live_named name [] = None
live_named name (q ∷ queries) = if bytes_eq q.name name then Some q else live_named name queries

-- a natural number
abbrev pub natural : ℤ → Option ℕ
natural z = if int_le (pos 0) z then Some (nat_abs z) else None

-- a natural number that is not above this one
abbrev pub natural_upto : ℕ → ℤ → Option ℕ
natural_upto most z = if int_le z (pos most) then natural z else None

-- a live query goes on from the base that came of a line, or the line is refused
abbrev pub loaded_request : List ℕ → Option Base → Request
loaded_request name (Some base) = based name base
loaded_request name None = refused Value

-- what a line asks for that says what a live query of this name keeps: none has the name, or a row line was taken before, or this
abbrev pub load_request : State → List ℕ → (LiveQuery → Request) → Option LiveQuery → Request
load_request s name load None = refused UnknownQuery
load_request s name load (Some live) = if s.began then refused Late else load live

-- what RESUME n asks for, by whether a row line was taken, how many rows were taken, and how many may be
abbrev pub count_request : Bool → ℕ → ℕ → ℤ → Request
count_request began rows limit z =
    if began || not (nat_eq rows 0) then refused Late
    else (if int_lt z (pos 0) then refused Value else (if int_lt (pos limit) z then refused RowLimit else resumed (nat_abs z)))

-- what RESUME n asks for
abbrev pub rows_request : State → ℤ → Request
rows_request s z = count_request s.began s.taken s.limit z

-- what RESUME q AS n asks for
abbrev pub given_request : State → List ℕ → ℤ → Request
given_request s name z =
    load_request s name (λ live. loaded_request name (option_and_then (λ n. loaded_given n (base_in live)) (natural_upto s.taken z))) (live_named name s.queries)

-- what RESUME q FROM i v asks for
abbrev pub cell_request : State → List ℕ → ℤ → ℤ → Request
cell_request s name i v =
    load_request s name (λ live. loaded_request name (option_and_then (λ n. loaded_cell (boxes_of live) n v (base_in live)) (natural i))) (live_named name s.queries)

-- what RESUME q SELECT v1 v2 .. asks for
abbrev pub tuple_request : State → List ℕ → List ℤ → Request
tuple_request s name t =
    load_request s name
    (λ live. if nat_eq (length t) (length live.query.select) then loaded_request name (loaded_tuple live.query (parts_of live.plan) t (base_in live)) else refused Arity)
    (live_named name s.queries)

-- the numbers of the streams of these names, where each is the name of one
abbrev pub numbers_of : List Shape → List (List ℕ) → Option (List ℕ)
numbers_of streams [] = Some []
numbers_of streams (name ∷ names) = option_and_then (λ n. option_map (λ ns. n ∷ ns) (numbers_of streams names)) (stream_number streams name)

-- these streams are open, where all were found
abbrev pub found_open : Option (List ℕ) → Result (Option (List ℕ)) Refusal
found_open None = Err UnknownStream
found_open (Some numbers) = Ok (Some numbers)

-- the streams that LOCK leaves open, which are all where it names none; or the first word that refuses the line
abbrev pub opened_by : List Shape → List (List ℕ) → Result (Option (List ℕ)) Refusal
opened_by streams [] = Ok None
opened_by streams (name ∷ names) = if all_differ (name ∷ names) then found_open (numbers_of streams (name ∷ names)) else Err Duplicate

-- what LOCK asks for
abbrev pub lock_request : Option ℤ → Result (Option (List ℕ)) Refusal → Request
lock_request key (Ok opened) = locked (record { key = key; opened = opened })
lock_request key (Err word) = refused word

-- what UNLOCK asks for: a line of another number than the lock's is not let
abbrev pub unlock_request : Option Lock → Request
unlock_request None = refused Value
unlock_request (Some lock) = unlocked

-- what a statement asks for
abbrev pub statement_request : State → Statement → Request
statement_request s (statements.CreateStream name columns) = stream_request name columns.items (added s.streams (record { name = name; columns = columns.items }))
statement_request s (statements.CreateQuery name select shared) = query_request s.streams (live_names s) name select shared
statement_request s (statements.Explain name) = explain_request (live_names s) name
statement_request s (statements.DropQuery name) = drop_request (live_names s) name
statement_request s statements.Checkpoint = saved
statement_request s (statements.ResumeRows rows) = rows_request s rows
statement_request s (statements.ResumeGiven name rows) = given_request s name rows
statement_request s (statements.ResumeCell name index content) = cell_request s name index content
statement_request s (statements.ResumeTuple name values) = tuple_request s name values.items
statement_request s (statements.Lock key streams) = lock_request key (opened_by s.streams streams.items)
statement_request s (statements.Unlock key) = unlock_request s.lock

-- What a text asks for that is read as a statement: it is none, or one that passes a limit, or what the statement asks for.
pub data IsStatementRequest (state : State) (text : List ℕ) (request : Request) : Type 0 where
  outside : ((s : Statement) → IsStatement text s → ⊥) → request ≡ refused Syntax → IsStatementRequest state text request
  limited : (s : Statement) → (what : What) → IsStatement text s → limit_of s ≡ Some what → request ≡ refused Limit → IsStatementRequest state text request
  stated : (s : Statement) → IsStatement text s → limit_of s ≡ None → request ≡ statement_request state s → IsStatementRequest state text request

-- what a text of a kind asks for
abbrev pub IsTextRequest : State → LineKind → List ℕ → Request → Type 0
IsTextRequest s kinds.Nothing text request = request ≡ silent
IsTextRequest s kinds.RowLine text request = request ≡ row_request s.streams (has_room s) text
IsTextRequest s kinds.StatementLine text request = IsStatementRequest s text request

-- What a line asks for: it is too long; or it is not let; or what is left of it asks for this.
pub data IsRequest (s : State) (line : List ℕ) (request : Request) : Type 0 where
  too_long : 1024 < length line → request ≡ refused LineTooLong → IsRequest s line request
  barred : length line ≤ 1024 → (Lets s.lock s.streams line → ⊥) → request ≡ refused Locked → IsRequest s line request
  fits : length line ≤ 1024 → Lets s.lock s.streams line → IsTextRequest s (kind_of_line (stripped line)) (stripped line) request → IsRequest s line request
