-- What a line asks for under a lock.
use Rattle.std.proofs.Common.{◌≡◌, ℕ, ℤ, Bool, true, false, List, Option, Some, None, refl, sym, ap, ◌∙◌, subst, IsTrue, Ok, Err}
use Rattle.std.specs.declared.result.Result.{Result}
use Rattle.sql_parser.specs.declared.line.LineKind.{LineKind}
use Rattle.sql_parser.specs.declared.line.LineKind.TheVariants as kinds
use Rattle.sql_parser.specs.declared.parsing.What.{What}
use Rattle.sql_parser.specs.declared.tree.Statement.{Statement}
use Rattle.sql_parser.specs.declared.tree.Statement.TheVariants.{Unlock}
use Rattle.sql_parser.specs.LineKind.{stripped, kind_of_line}
use Rattle.sql_parser.specs.Limits.{limit_of}
use Rattle.sql_printer.proofs.ReadBack.{one_statement}
use Rattle.sql_catalog.specs.declared.row_error.RowError.{RowError}
use Rattle.sql_catalog.specs.Rows.{Entry, entry, row_of}
use Rattle.sql_catalog.specs.Streams.{Shape, stream_number}
use Rattle.sql_text.specs.Word.{word_of}
use Rattle.sql_replies.specs.declared.refusal.Refusal.TheVariants.{LineTooLong, Locked, RowLimit}
use Rattle.sql_replies.specs.Words.{row_refusal}
use Rattle.io_row_reader.specs.Open.{is_open}
use Rattle.cmd_session.proofs.LetRows.{row_stream}
use Rattle.cmd_session.specs.Lock.{Lock, IsUnlock, LetsText, Unlocks, is_found_open, lets_row}
use Rattle.cmd_session.specs.Request.{Request, unlocked}
use Rattle.cmd_session.specs.Requests.{entry_request, statement_request, unlock_request, IsStatementRequest, outside, limited, stated, IsTextRequest, too_long, barred, fits}
use Rattle.cmd_session.specs.State.{State, has_room}
use Rattle.law_lock.specs.Lets.{IsLetRequest, nothing, row, unlocks, refuses, LinesAreFewKinds}

-- the stream of a row that is let is open
open_found : (numbers : List ℕ) (o : Option ℕ) (stream : ℕ) → o ≡ Some stream → IsTrue (is_found_open (Some numbers) o) → IsTrue (is_open (Some numbers) stream)
open_found numbers o stream e lets = subst (λ (x : Option ℕ). IsTrue (is_found_open (Some numbers) x)) e lets

stream_open : (opened : Option (List ℕ)) (streams : List Shape) (text : List ℕ) (stream : ℕ) → stream_number streams (word_of text) ≡ Some stream → IsTrue (lets_row opened streams text) → IsTrue (is_open opened stream)
stream_open None streams text stream e lets = refl
stream_open (Some numbers) streams text stream e lets = open_found numbers (stream_number streams (word_of text)) stream e lets

-- a row line
let_row : (lock : Lock) (line text : List ℕ) (streams : List Shape) (room : Bool) (o : Result Entry RowError) → row_of streams text ≡ o → IsTrue (lets_row lock.opened streams text) → IsLetRequest lock line (entry_request room o)
let_row lock line text streams room (Err error) e lets = refuses (row_refusal error) refl
let_row lock line text streams true (Ok x) e lets =
    let same : row_of streams text ≡ Ok (entry x.stream x.values) = e in
    row x.stream x.values (stream_open lock.opened streams text x.stream (row_stream streams text x.stream x.values same) lets) refl
let_row lock line text streams false (Ok x) e lets = refuses RowLimit refl

-- a statement that is let
unlocks_then : (s : State) (lock : Lock) → s.lock ≡ Some lock → unlock_request s.lock ≡ unlocked
unlocks_then s lock e = ap unlock_request e

limits_differ : (x y : Statement) (what : What) → x ≡ y → limit_of x ≡ Some what → limit_of y ≡ None → ⊥
limits_differ x y what e p q =
    let same : limit_of x ≡ limit_of y = ap limit_of e in
    let bad : Some what ≡ None = cc in
    cc

statement_unlocks : (s : State) (lock : Lock) (text : List ℕ) (key : ℤ) (request : Request) → s.lock ≡ Some lock → IsUnlock text key → IsStatementRequest s text request → request ≡ unlocked
statement_unlocks s lock text key request e u (outside n p) = absurd (n (Unlock key) u.says)
statement_unlocks s lock text key request e u (limited x what is l p) = absurd (limits_differ x (Unlock key) what (one_statement text x (Unlock key) is u.says) l u.within)
statement_unlocks s lock text key request e u (stated x is l p) = p ∙ ap (statement_request s) (one_statement text x (Unlock key) is u.says) ∙ unlocks_then s lock e

pub key_unlocks : (s : State) (lock : Lock) (text : List ℕ) (request : Request) → s.lock ≡ Some lock → (o : Option ℤ) → Unlocks o text → IsStatementRequest s text request → request ≡ unlocked
key_unlocks s lock text request e None u is = absurd u
key_unlocks s lock text request e (Some key) u is = statement_unlocks s lock text key request e u is

let_key : (s : State) (lock : Lock) (line : List ℕ) (request : Request) → s.lock ≡ Some lock → (o : Option ℤ) → lock.key ≡ o → Unlocks o (stripped line) → IsStatementRequest s (stripped line) request → IsLetRequest lock line request
let_key s lock line request e None k u is = absurd u
let_key s lock line request e (Some key) k u is = unlocks key k u (statement_unlocks s lock (stripped line) key request e u is)

let_text : (s : State) (lock : Lock) (line : List ℕ) (request : Request) → s.lock ≡ Some lock → (kind : LineKind) → LetsText (Some lock) s.streams kind (stripped line) → IsTextRequest s kind (stripped line) request → IsLetRequest lock line request
let_text s lock line request e kinds.Nothing lets is = nothing is
let_text s lock line request e kinds.RowLine lets is =
    subst (IsLetRequest lock line) (sym is) (let_row lock line (stripped line) s.streams (has_room s) (row_of s.streams (stripped line)) refl lets)
let_text s lock line request e kinds.StatementLine lets is = let_key s lock line request e lock.key refl lets is

pub lines_are_few_kinds : LinesAreFewKinds
lines_are_few_kinds s lock line request e (too_long n p) = refuses LineTooLong p
lines_are_few_kinds s lock line request e (barred n none p) = refuses Locked p
lines_are_few_kinds s lock line request e (fits n lets is) =
    let_text s lock line request e (kind_of_line (stripped line)) (subst (λ l. LetsText l s.streams (kind_of_line (stripped line)) (stripped line)) e lets) is
