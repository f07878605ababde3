-- What is found for a line is what a session answers, case by case.
use Rattle.std.proofs.Common.{◌≡◌, ℕ, ℤ, Bool, true, false, not, ◌&&◌, cond, List, [], ◌∷◌, length, Option, Some, None, is_some, Result, Ok, Err, refl, ap, sym, ◌∙◌, subst, arith}
use Rattle.std.specs.Prelude.{nat_le, option_and_then}
use Rattle.std.specs.Option.{option_map}
use Rattle.std.specs.List.{list_all}
use Rattle.std.specs.Str.{bytes_eq}
use Rattle.arrayvec.specs.ArrayVec.{ArrayVec}
use Rattle.sem_query.specs.Query.{QueryValue}
use Rattle.sql_catalog.specs.declared.column.ColumnDef.{ColumnDef}
use Rattle.sql_catalog.specs.declared.stream_error.StreamError.{StreamError}
use Rattle.sql_catalog.specs.declared.row_error.RowError.{RowError}
use Rattle.sql_catalog.specs.Streams.{Shape, added, all_differ, stream_number}
use Rattle.sql_catalog.specs.Rows.{Entry, row_of}
use Rattle.sql_parser.specs.declared.line.LineKind.{LineKind}
use Rattle.sql_parser.specs.declared.line.LineKind.TheVariants as kinds
use Rattle.sql_parser.specs.declared.parsing.What.{What}
use Rattle.sql_parser.specs.declared.resolution.ResolveError.{ResolveError}
use Rattle.sql_parser.specs.declared.tree.Statement.{Statement}
use Rattle.sql_parser.specs.declared.tree.Statement.TheVariants as statements
use Rattle.sql_parser.specs.LineKind.{stripped, kind_of_line}
use Rattle.sql_parser.specs.Limits.{limit_of}
use Rattle.sql_parser.specs.Resolution.{resolved}
use Rattle.sql_parser.proofs.Taken.{or_left, or_right}
use Rattle.sql_printer.proofs.ReadBack.{one_statement}
use Rattle.exec_registry.specs.Live.{LiveQuery, names}
use Rattle.sql_replies.specs.declared.refusal.Refusal.{Refusal}
use Rattle.sql_replies.specs.declared.refusal.Refusal.TheVariants as words
use Rattle.sql_replies.specs.declared.refusal.Refusal.TheVariants.{Duplicate, TooMany, UnknownStream, UnknownQuery}
use Rattle.adv_diagnosis.specs.declared.fault.Asks.{Asks}
use Rattle.adv_diagnosis.specs.declared.fault.Asks.TheVariants as asks
use Rattle.adv_diagnosis.specs.Asked as found
use Rattle.adv_diagnosis.specs.Asked.{row_asked, stream_asked, query_named, is_live, lock_asked, statement_asked, IsTextAsked, IsStatementAsked}
use Rattle.cmd_session.specs.Request.{Request, silent, explained, dropped, refused}
use Rattle.cmd_session.specs.Lock.{Lock, Lets}
use Rattle.cmd_session.specs.Requests as session
use Rattle.cmd_session.specs.Requests.{entry_request, stream_request, found_request, live_named, load_request, numbers_of, found_open, opened_by, lock_request, unlock_request, statement_request, IsTextRequest, IsStatementRequest}
use Rattle.cmd_session.specs.State.{State, live_names, has_room}
use Rattle.law_advice.specs.Laws.{IsAnsweredBy, FindsAnswers}

pub row_agrees : (streams : List Shape) (r : Result Entry RowError) (room : Bool) → IsAnsweredBy streams (row_asked r) (entry_request room r)
row_agrees streams (Err error) room = refl
row_agrees streams (Ok entry) true = tt
row_agrees streams (Ok entry) false = refl

stream_agrees : (streams : List Shape) (name : List ℕ) (columns : ArrayVec ColumnDef) (r : Result ℕ StreamError) → IsAnsweredBy streams (stream_asked (asks.Stream name columns) r) (stream_request name columns.items r)
stream_agrees streams name columns (Err error) = refl
stream_agrees streams name columns (Ok number) = refl

named_agrees : (streams : List Shape) (name : List ℕ) (shared : Bool) (r : Result QueryValue ResolveError) → IsAnsweredBy streams (query_named name shared r) (found_request name shared (session.query_named r))
named_agrees streams name shared (Err error) = refl
named_agrees streams name shared (Ok query) = refl

query_agrees : (streams : List Shape) (name : List ℕ) (shared : Bool) (r : Result QueryValue ResolveError) (a b : Bool)
    → IsAnsweredBy streams (cond a (Err Duplicate) (cond b (Err TooMany) (query_named name shared r))) (found_request name shared (cond a (Err Duplicate) (cond b (Err TooMany) (session.query_named r))))
query_agrees streams name shared r true b = refl
query_agrees streams name shared r false true = refl
query_agrees streams name shared r false false = named_agrees streams name shared r

explain_agrees : (streams : List Shape) (name : List ℕ) (a : Bool) → IsAnsweredBy streams (cond a (Ok asks.Explain) (Err UnknownQuery)) (cond a (explained name) (refused UnknownQuery))
explain_agrees streams name true = tt
explain_agrees streams name false = refl

drop_agrees : (streams : List Shape) (name : List ℕ) (a : Bool) → IsAnsweredBy streams (cond a (Ok (asks.Drop name)) (Err UnknownQuery)) (cond a (dropped name) (refused UnknownQuery))
drop_agrees streams name true = refl
drop_agrees streams name false = refl

-- no live query has a name that is that of none
not_named : (name : List ℕ) (queries : List LiveQuery) → is_live (names queries) name ≡ false → live_named name queries ≡ None
not_named name [] h = refl
not_named name (q ∷ queries) h =
    ap (λ b. cond b (Some q) (live_named name queries)) (or_left (bytes_eq q.name name) (is_live (names queries) name) h) ∙ not_named name queries (or_right (bytes_eq q.name name) (is_live (names queries) name) h)

load_agrees : (s : State) (name : List ℕ) (load : LiveQuery → Request) (a : Bool) → is_live (live_names s) name ≡ a → IsAnsweredBy s.streams (cond a (Ok asks.Other) (Err UnknownQuery)) (load_request s name load (live_named name s.queries))
load_agrees s name load true e = tt
load_agrees s name load false e = ap (load_request s name load) (not_named name s.queries e)

-- names are found where each is that of a stream
numbers_found : (streams : List Shape) (names : List (List ℕ)) → list_all (λ n. is_some (stream_number streams n)) names ≡ is_some (numbers_of streams names)
numbers_found streams [] = refl
numbers_found streams (name ∷ names) = by (stream_number streams name) (numbers_of streams names) (numbers_found streams names) where
  by : (n : Option ℕ) (ns : Option (List ℕ)) → list_all (λ m. is_some (stream_number streams m)) names ≡ is_some ns
      → is_some n && list_all (λ m. is_some (stream_number streams m)) names ≡ is_some (option_and_then (λ m. option_map (λ ms. m ∷ ms) ns) n)
  by None ns h = refl
  by (Some n) None h = h
  by (Some n) (Some ns) h = h

opened_agrees : (streams : List Shape) (key : Option ℤ) (names : ArrayVec (List ℕ)) (list : List (List ℕ)) (numbers : Option (List ℕ)) → opened_by streams list ≡ found_open numbers → names.items ≡ list
    → IsAnsweredBy streams (cond (not (is_some numbers)) (Err UnknownStream) (Ok (asks.Lock key names))) (lock_request key (found_open numbers))
opened_agrees streams key names list None e is = refl
opened_agrees streams key names list (Some numbers) e is = record { opened = Some numbers; found = ap (opened_by streams) is ∙ e; is = refl }

lock_agrees : (streams : List Shape) (key : Option ℤ) (names : ArrayVec (List ℕ)) (list : List (List ℕ)) → names.items ≡ list
    → IsAnsweredBy streams (lock_asked streams list (asks.Lock key names)) (lock_request key (opened_by streams list))
lock_agrees streams key names [] is = record { opened = None; found = ap (opened_by streams) is; is = refl }
lock_agrees streams key names (name ∷ others) is = by (all_differ (name ∷ others)) refl where
  by : (b : Bool) → all_differ (name ∷ others) ≡ b
      → IsAnsweredBy streams (cond (not b) (Err Duplicate) (cond (not (list_all (λ n. is_some (stream_number streams n)) (name ∷ others))) (Err UnknownStream) (Ok (asks.Lock key names))))
      (lock_request key (cond b (found_open (numbers_of streams (name ∷ others))) (Err Duplicate)))
  by false e = refl
  by true e =
      subst (λ (b : Bool). IsAnsweredBy streams (cond (not b) (Err UnknownStream) (Ok (asks.Lock key names))) (lock_request key (found_open (numbers_of streams (name ∷ others)))))
      (sym (numbers_found streams (name ∷ others)))
      (opened_agrees streams key names (name ∷ others) (numbers_of streams (name ∷ others)) (ap (λ (b : Bool). cond b (found_open (numbers_of streams (name ∷ others))) (Err Duplicate)) e) is)

-- a statement asks for the same
statement_agrees : (s : State) → s.lock ≡ None → (t : Statement) → IsAnsweredBy s.streams (statement_asked s.streams (live_names s) t) (statement_request s t)
statement_agrees s idle (statements.CreateStream name columns) = stream_agrees s.streams name columns (added s.streams (record { name = name; columns = columns.items }))
statement_agrees s idle (statements.CreateQuery name select shared) = query_agrees s.streams name shared (resolved s.streams select) (is_live (live_names s) name) (nat_le 64 (length (live_names s)))
statement_agrees s idle (statements.Explain name) = explain_agrees s.streams name (is_live (live_names s) name)
statement_agrees s idle (statements.DropQuery name) = drop_agrees s.streams name (is_live (live_names s) name)
statement_agrees s idle statements.Checkpoint = tt
statement_agrees s idle (statements.ResumeRows rows) = tt
statement_agrees s idle (statements.ResumeGiven name rows) = load_agrees s name _ (is_live (live_names s) name) refl
statement_agrees s idle (statements.ResumeCell name index content) = load_agrees s name _ (is_live (live_names s) name) refl
statement_agrees s idle (statements.ResumeTuple name values) = load_agrees s name _ (is_live (live_names s) name) refl
statement_agrees s idle (statements.Lock key names) = lock_agrees s.streams key names names.items refl
statement_agrees s idle (statements.Unlock key) = ap unlock_request idle

-- by what was found and what is asked
pub by_both : (streams : List Shape) (a b : Result Asks Refusal) (r q : Request) → a ≡ b → r ≡ q → IsAnsweredBy streams b q → IsAnsweredBy streams a r
by_both streams a b r q e f h = subst (λ (x : Request). IsAnsweredBy streams a x) (sym f) (subst (λ (x : Result Asks Refusal). IsAnsweredBy streams x q) (sym e) h)

pub limits_differ : (s t : Statement) (what : What) → s ≡ t → limit_of s ≡ Some what → limit_of t ≡ None → ⊥
limits_differ s t what e h k = let f : Some what ≡ None = sym h ∙ ap limit_of e ∙ k in cc

text_agrees : (s : State) → s.lock ≡ None → (text : List ℕ) (a : Result Asks Refusal) (r : Request) → IsStatementAsked s.streams (live_names s) text a → IsStatementRequest s text r → IsAnsweredBy s.streams a r
text_agrees s idle text a r (found.outside none p) (session.outside unread q) = by_both s.streams a (Err words.Syntax) r (refused words.Syntax) p q refl
text_agrees s idle text a r (found.outside none p) (session.limited t w i l q) = absurd (none t i)
text_agrees s idle text a r (found.outside none p) (session.stated t i l q) = absurd (none t i)
text_agrees s idle text a r (found.limited t w i l p) (session.outside none q) = absurd (none t i)
text_agrees s idle text a r (found.limited t w i l p) (session.limited u v j m q) = by_both s.streams a (Err words.Limit) r (refused words.Limit) p q refl
text_agrees s idle text a r (found.limited t w i l p) (session.stated u j m q) = absurd (limits_differ t u w (one_statement text t u i j) l m)
text_agrees s idle text a r (found.stated t i l p) (session.outside none q) = absurd (none t i)
text_agrees s idle text a r (found.stated t i l p) (session.limited u v j m q) = absurd (limits_differ u t v (one_statement text u t j i) m l)
text_agrees s idle text a r (found.stated t i l p) (session.stated u j m q) = by_both s.streams a (statement_asked s.streams (live_names s) t) r (statement_request s t) p (q ∙ ap (statement_request s) (one_statement text u t j i)) (statement_agrees s idle t)

kind_agrees : (s : State) → s.lock ≡ None → (kind : LineKind) (text : List ℕ) (a : Result Asks Refusal) (r : Request) → IsTextAsked s.streams (live_names s) kind text a → IsTextRequest s kind text r → IsAnsweredBy s.streams a r
kind_agrees s idle kinds.Nothing text a r p q = by_both s.streams a (Ok asks.Nothing) r silent p q refl
kind_agrees s idle kinds.RowLine text a r p q = by_both s.streams a (row_asked (row_of s.streams text)) r (entry_request (has_room s) (row_of s.streams text)) p q (row_agrees s.streams (row_of s.streams text) (has_room s))
kind_agrees s idle kinds.StatementLine text a r p q = text_agrees s idle text a r p q

-- in an open session each line is let
pub all_let : (s : State) (line : List ℕ) → s.lock ≡ None → Lets s.lock s.streams line
all_let s line idle = subst (λ (lock : Option Lock). Lets lock s.streams line) (sym idle) tt

pub finds_answers : FindsAnswers
finds_answers s idle line a r (found.too_long l p) (session.too_long m q) = by_both s.streams a (Err words.LineTooLong) r (refused words.LineTooLong) p q refl
finds_answers s idle line a r (found.too_long l p) (session.barred m n q) = absurd (omega (arith, l, m))
finds_answers s idle line a r (found.too_long l p) (session.fits m lets q) = absurd (omega (arith, l, m))
finds_answers s idle line a r (found.fits l p) (session.too_long m q) = absurd (omega (arith, l, m))
finds_answers s idle line a r (found.fits l p) (session.barred m n q) = absurd (n (all_let s line idle))
finds_answers s idle line a r (found.fits l p) (session.fits m lets q) = kind_agrees s idle (kind_of_line (stripped line)) (stripped line) a r p q
