-- What a line of a script comes to.
use Rattle.std.specs.Prelude.{◌≡◌, ℕ, ◌+◌, ◌<◌, ◌≤◌, nat_lt, nat_eq, Bool, true, false, if◌then◌else◌, List, [], ◌∷◌, length, decimal, Option, Some, None}
use Rattle.std.specs.declared.result.Result.{Result}
use Rattle.std.specs.declared.result.Result.TheVariants.{Ok, Err}
use Rattle.sem_query.specs.Query.{QueryValue}
use Rattle.adv_diagnosis.specs.declared.fault.Asks.{Asks}
use Rattle.adv_diagnosis.specs.declared.fault.Asks.TheVariants as asks
use Rattle.adv_diagnosis.specs.declared.fault.Fault.{Fault}
use Rattle.adv_diagnosis.specs.declared.fault.Fault.TheVariants.{LineTooLong}
use Rattle.adv_diagnosis.specs.declared.fault.Fault.TheVariants as faults
use Rattle.sql_parser.specs.declared.line.LineKind.{LineKind}
use Rattle.sql_parser.specs.declared.line.LineKind.TheVariants as kinds
use Rattle.sql_parser.specs.LineKind.{stripped, kind_of_line}
use Rattle.sql_catalog.specs.Streams.{Shape}
use Rattle.adv_diagnosis.specs.Faults.{IsDiagnosis}
use Rattle.adv_diagnosis.specs.Locked.{IsLockedDiagnosis}
use Rattle.cmd_advise.specs.declared.state.StandingLock.{StandingLock}
use Rattle.adv_sentences.specs.Texts.{fault_text}
use Rattle.adv_mends.specs.declared.advising.QueryAdvice.{QueryAdvice}
use Rattle.adv_mends.specs.Advised.{IsAdvice}
use Rattle.adv_templates.specs.Template.{filled}
use Rattle.cmd_advise.specs.declared.queries.AdvisedQuery.{AdvisedQuery}
use Rattle.cmd_advise.specs.State.{State, free_pages, one_line_more, one_fault_more, one_stream_more, one_query_less, one_query_more, one_lock_more, one_lock_less}
use Rattle.cmd_advise.specs.declared.faults.TheConstants.{MOST_ROWS, COUNTED}
use Rattle.cmd_advise.specs.Queries.{query_text}

-- What a line comes to: nothing is to be said of what it asks for; it is at fault; or it asks for a query, on which this is advised.
pub data Finding : Type 0 where
  fine : Asks → Finding
  fault : Fault → Finding
  query : AdvisedQuery → Finding

-- a query that is asked for behind some lines, with the advice on it
abbrev pub advised : State → List ℕ → QueryValue → QueryAdvice → AdvisedQuery
advised s name q advice = record { number = s.lines + 1; name = name; query = q; advice = advice; free = free_pages s }

-- a query is advised on, and this is what its line comes to
pub record IsAdvised (s : State) (name : List ℕ) (q : QueryValue) (shared : Bool) (finding : Finding) : Type 0 where
  pub advice : QueryAdvice
  pub right : IsAdvice shared q advice
  pub is : finding ≡ query (advised s name q advice)

-- what a line comes to by what was found by looking at it
abbrev pub ComesOf : State → Result Asks Fault → Finding → Type 0
ComesOf s (Err wrong) finding = finding ≡ fault wrong
ComesOf s (Ok (asks.Query name q shared)) finding = IsAdvised s name q shared finding
ComesOf s (Ok asks.Nothing) finding = finding ≡ fine asks.Nothing
ComesOf s (Ok asks.Row) finding = finding ≡ fine asks.Row
ComesOf s (Ok (asks.Stream name columns)) finding = finding ≡ fine (asks.Stream name columns)
ComesOf s (Ok asks.Explain) finding = finding ≡ fine asks.Explain
ComesOf s (Ok (asks.Drop name)) finding = finding ≡ fine (asks.Drop name)
ComesOf s (Ok asks.Other) finding = finding ≡ fine asks.Other
ComesOf s (Ok (asks.Lock key streams)) finding = finding ≡ fine (asks.Lock key streams)
ComesOf s (Ok asks.Unlock) finding = finding ≡ fine asks.Unlock

-- what is found by looking at a line over these streams and live queries, by whether a lock stands
abbrev pub FoundBehind : List Shape → List (List ℕ) → Option StandingLock → List ℕ → Result Asks Fault → Type 0
FoundBehind streams live None line result = IsDiagnosis streams live line result
FoundBehind streams live (Some lock) line result = IsLockedDiagnosis streams live lock.line lock.key lock.streams.items line result

-- the same behind lines that came to a state
abbrev pub IsFound : State → List ℕ → Result Asks Fault → Type 0
IsFound s line result = FoundBehind s.streams s.live s.lock line result

-- What a line comes to behind lines that came to a state: it is too long, or it comes to what is found by looking at it.
pub data IsFinding (s : State) (line : List ℕ) (finding : Finding) : Type 0 where
  too_long : 1024 < length line → finding ≡ fault LineTooLong → IsFinding s line finding
  fits : length line ≤ 1024 → (result : Result Asks Fault) → IsFound s line result → ComesOf s result finding → IsFinding s line finding

-- the state behind a line that asks for this, of which nothing is to be said
abbrev pub after_asks : State → Asks → State
after_asks s asks.Nothing = one_line_more s
after_asks s asks.Row = one_line_more s
after_asks s (asks.Stream name columns) = one_stream_more s (record { name = name; columns = columns.items })
after_asks s (asks.Query name q shared) = one_line_more s
after_asks s asks.Explain = one_line_more s
after_asks s (asks.Drop name) = one_query_less s name
after_asks s asks.Other = one_line_more s
after_asks s (asks.Lock key streams) = one_lock_more s key streams
after_asks s asks.Unlock = one_lock_less s

-- whether a line is a row
abbrev pub is_row_kind : LineKind → Bool
is_row_kind kinds.RowLine = true
is_row_kind kinds.StatementLine = false
is_row_kind kinds.Nothing = false

-- whether a fault of a line is one of a row: where a lock does not let the line, where it is one
abbrev pub is_row_fault : List ℕ → Fault → Bool
is_row_fault line faults.RowKey = true
is_row_fault line (faults.RowName bytes) = true
is_row_fault line faults.RowStream = true
is_row_fault line (faults.Arity stream wanted found) = true
is_row_fault line (faults.Value field) = true
is_row_fault line (faults.Domain stream field) = true
is_row_fault line (faults.Locked number) = is_row_kind (kind_of_line (stripped line))
is_row_fault line _ = false

-- the state behind a line that comes to this
abbrev pub after : State → List ℕ → Finding → State
after s line (fine asks) = after_asks s asks
after s line (fault wrong) = one_fault_more s (is_row_fault line wrong)
after s line (query a) = one_query_more s a.name a.advice.judgement

-- of a line that is too long nothing is shown
abbrev pub shown : List ℕ → List ℕ
shown line = if nat_lt 1024 (length line) then [] else line

-- that a row is wrong, and that from here on such rows are counted alone
unfoldable pub counted_text : ℕ → List ℕ
counted_text number = filled COUNTED.now (decimal number ∷ [])

-- what is said of a row that is wrong: of the first 20 what is wrong, of the next that it is counted alone, and nothing of those behind it
abbrev pub row_text : State → List ℕ → Fault → List ℕ
row_text s line wrong =
    if nat_lt s.rows MOST_ROWS then fault_text (s.lines + 1) line wrong s.streams s.live else
    (if nat_eq s.rows MOST_ROWS then counted_text (s.lines + 1) else [])

-- what is said of a line that is at fault
abbrev pub told_text : State → List ℕ → Fault → List ℕ
told_text s line wrong = if is_row_fault line wrong then row_text s line wrong else fault_text (s.lines + 1) line wrong s.streams s.live

-- what is said of a line that comes to this
abbrev pub finding_text : State → List ℕ → Finding → List ℕ
finding_text s line (fine asks) = []
finding_text s line (fault wrong) = told_text s (shown line) wrong
finding_text s line (query a) = query_text s.streams a
