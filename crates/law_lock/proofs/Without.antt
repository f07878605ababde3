-- Sessions without a lock.
use Rattle.std.proofs.Common.{◌≡◌, ℕ, ℤ, Bool, true, false, cond, nat_eq, List, [], ◌∷◌, length, Option, Some, None, refl, sym, ap, ◌∙◌, subst, inl, inr, Ok, Err}
use Rattle.std.specs.declared.result.Result.{Result}
use Rattle.arrayvec.specs.ArrayVec.{ArrayVec}
use Rattle.sql_parser.specs.declared.line.LineKind.{LineKind}
use Rattle.sql_parser.specs.declared.line.LineKind.TheVariants as kinds
use Rattle.sql_parser.specs.declared.tree.Statement.{Statement}
use Rattle.sql_parser.specs.declared.tree.Statement.TheVariants as statements
use Rattle.sql_parser.specs.LineKind.{stripped, kind_of_line}
use Rattle.sql_parser.specs.Syntax.{IsStatement}
use Rattle.exec_query.specs.Loading.{loaded_tuple}
use Rattle.sem_query.specs.Bases.{Base}
use Rattle.sem_query.specs.Numbers.{parts_of}
use Rattle.sem_query.specs.Query.{QueryValue}
use Rattle.exec_registry.specs.Live.{LiveQuery, base_in, names}
use Rattle.sql_replies.specs.declared.refusal.Refusal.{Refusal}
use Rattle.sql_replies.specs.declared.refusal.Refusal.TheVariants.{Late, Value, RowLimit, Arity, UnknownQuery}
use Rattle.sql_catalog.specs.declared.column.ColumnDef.{ColumnDef}
use Rattle.sql_catalog.specs.declared.row_error.RowError.{RowError}
use Rattle.sql_catalog.specs.declared.stream_error.StreamError.{StreamError}
use Rattle.sql_catalog.specs.Rows.{Entry, row_of}
use Rattle.sql_catalog.specs.Streams.{added}
use Rattle.cmd_session.specs.Answer.{Answer, plain}
use Rattle.cmd_session.specs.Answers.{IsDecided, accepted, rejected, Settles}
use Rattle.cmd_session.specs.Lock.{Lock, Lets}
use Rattle.cmd_session.specs.Request.{Request, silent, created, asked, explained, dropped, taken, saved, resumed, based, locked, unlocked, refused}
use Rattle.cmd_session.specs.Requests.{entry_request, stream_request, query_of, found_request, is_live, live_named, loaded_request, load_request, unlock_request, statement_request, IsStatementRequest, outside, limited, stated, IsTextRequest, IsRequest, too_long, barred, fits}
use Rattle.cmd_session.specs.State.{State, has_room, next_by, next_of, after}
use Rattle.law_lock.specs.Without.{WithoutLockAllAreLet, NoneLocksStaysOpen}

pub without_lock_all_are_let : WithoutLockAllAreLet
without_lock_all_are_let s line request e (too_long n p) = inl (n, p)
without_lock_all_are_let s line request e (barred n none p) = absurd (none (subst (λ l. Lets l s.streams line) (sym e) tt))
without_lock_all_are_let s line request e (fits n lets is) = inr (n, is)

-- the request sets no lock
abbrev SetsNone : Request → Type 0
SetsNone silent = Unit {0}
SetsNone (created name columns) = Unit {0}
SetsNone (asked name query shared) = Unit {0}
SetsNone (explained name) = Unit {0}
SetsNone (dropped name) = Unit {0}
SetsNone (taken stream values) = Unit {0}
SetsNone saved = Unit {0}
SetsNone (resumed n) = Unit {0}
SetsNone (based name base) = Unit {0}
SetsNone (locked lock) = ⊥
SetsNone unlocked = Unit {0}
SetsNone (refused word) = Unit {0}

loaded_none : (name : List ℕ) (o : Option Base) → SetsNone (loaded_request name o)
loaded_none name (Some base) = tt
loaded_none name None = tt

either_none : (b : Bool) (x y : Request) → SetsNone x → SetsNone y → SetsNone (cond b x y)
either_none true x y h k = h
either_none false x y h k = k

load_none : (s : State) (name : List ℕ) (load : LiveQuery → Request) → ((live : LiveQuery) → SetsNone (load live)) → (o : Option LiveQuery) → SetsNone (load_request s name load o)
load_none s name load each None = tt
load_none s name load each (Some live) = either_none s.began (refused Late) (load live) tt (each live)

stream_none : (name : List ℕ) (columns : List ColumnDef) (o : Result ℕ StreamError) → SetsNone (stream_request name columns o)
stream_none name columns (Err error) = tt
stream_none name columns (Ok number) = tt

query_none : (name : List ℕ) (shared : Bool) (o : Result QueryValue Refusal) → SetsNone (found_request name shared o)
query_none name shared (Ok query) = tt
query_none name shared (Err word) = tt

unlock_none : (o : Option Lock) → SetsNone (unlock_request o)
unlock_none None = tt
unlock_none (Some lock) = tt

entry_none : (room : Bool) (o : Result Entry RowError) → SetsNone (entry_request room o)
entry_none room (Err error) = tt
entry_none room (Ok x) = either_none room (taken x.stream x.values) (refused RowLimit) tt tt

count_none : (n : ℕ) (a b c : Bool) → SetsNone (cond a (refused Late) (cond b (refused Value) (cond c (refused RowLimit) (resumed n))))
count_none n a b c =
    either_none a (refused Late) (cond b (refused Value) (cond c (refused RowLimit) (resumed n))) tt
    (either_none b (refused Value) (cond c (refused RowLimit) (resumed n)) tt (either_none c (refused RowLimit) (resumed n) tt tt))

-- no statement but LOCK sets one
statement_none : (s : State) (x : Statement) → ((key : Option ℤ) → (streams : ArrayVec (List ℕ)) → x ≡ statements.Lock key streams → ⊥) → SetsNone (statement_request s x)
statement_none s (statements.CreateStream name columns) apart = stream_none name columns.items (added s.streams (record { name = name; columns = columns.items }))
statement_none s (statements.CreateQuery name select shared) apart = query_none name shared (query_of s.streams (names s.queries) name select)
statement_none s (statements.Explain name) apart = either_none (is_live (names s.queries) name) (explained name) (refused UnknownQuery) tt tt
statement_none s (statements.DropQuery name) apart = either_none (is_live (names s.queries) name) (dropped name) (refused UnknownQuery) tt tt
statement_none s statements.Checkpoint apart = tt
statement_none s (statements.ResumeRows rows) apart = count_none _ _ _ _
statement_none s (statements.ResumeGiven name rows) apart = load_none s name _ (λ live. loaded_none name _) (live_named name s.queries)
statement_none s (statements.ResumeCell name index content) apart = load_none s name _ (λ live. loaded_none name _) (live_named name s.queries)
statement_none s (statements.ResumeTuple name values) apart =
    load_none s name _ (λ live. either_none (nat_eq (length values.items) (length live.query.select)) (loaded_request name (loaded_tuple live.query (parts_of live.plan) values.items (base_in live))) (refused Arity) (loaded_none name _) tt) (live_named name s.queries)
statement_none s (statements.Lock key streams) apart = absurd (apart key streams refl)
statement_none s (statements.Unlock key) apart = unlock_none s.lock

-- no line that is no LOCK statement sets one
abbrev IsNoLock : List ℕ → Type 0
IsNoLock text = (key : Option ℤ) → (streams : ArrayVec (List ℕ)) → IsStatement text (statements.Lock key streams) → ⊥

text_none : (s : State) (text : List ℕ) (r : Request) → IsNoLock text → IsStatementRequest s text r → SetsNone r
text_none s text r apart (outside n e) = subst SetsNone (sym e) tt
text_none s text r apart (limited x what is l e) = subst SetsNone (sym e) tt
text_none s text r apart (stated x is l e) = subst SetsNone (sym e) (statement_none s x (λ key streams same. apart key streams (subst (IsStatement text) same is)))

kind_none : (s : State) (kind : LineKind) (text : List ℕ) (r : Request) → IsNoLock text → IsTextRequest s kind text r → SetsNone r
kind_none s kinds.Nothing text r apart e = subst SetsNone (sym e) tt
kind_none s kinds.RowLine text r apart e = subst SetsNone (sym e) (entry_none (has_room s) (row_of s.streams text))
kind_none s kinds.StatementLine text r apart e = text_none s text r apart e

line_none : (s : State) (line : List ℕ) (r : Request) → IsNoLock (stripped line) → IsRequest s line r → SetsNone r
line_none s line r apart (too_long n e) = subst SetsNone (sym e) tt
line_none s line r apart (barred n none e) = subst SetsNone (sym e) tt
line_none s line r apart (fits n lets is) = kind_none s (kind_of_line (stripped line)) (stripped line) r apart is

-- so the session stays without one
next_open : (s : State) (r : Request) → s.lock ≡ None → SetsNone r → (next_by s r).lock ≡ None
next_open s silent e k = e
next_open s (created name columns) e k = e
next_open s (asked name query shared) e k = e
next_open s (explained name) e k = e
next_open s (dropped name) e k = e
next_open s (taken stream values) e k = e
next_open s saved e k = e
next_open s (resumed n) e k = e
next_open s (based name base) e k = e
next_open s (locked lock) e k = absurd k
next_open s unlocked e k = refl
next_open s (refused word) e k = e

plain_open : (s : State) (r : Request) (answer : Answer) → s.lock ≡ None → SetsNone r → answer ≡ plain r → (next_of s answer).lock ≡ None
plain_open s r answer e k is = ap (λ (x : Answer). (next_of s x).lock) is ∙ next_open s r e k

decided_open : (s : State) (name : List ℕ) (query : QueryValue) (shared : Bool) (free : ℕ) (answer : Answer) → s.lock ≡ None → IsDecided name query shared free answer → (next_of s answer).lock ≡ None
decided_open s name query shared free answer e (accepted plan is v a) = ap (λ (x : Answer). (next_of s x).lock) a ∙ e
decided_open s name query shared free answer e (rejected verdict v r a) = ap (λ (x : Answer). (next_of s x).lock) a ∙ e

settled_open : (s : State) (r : Request) (answer : Answer) → s.lock ≡ None → SetsNone r → Settles s r answer → (next_of s answer).lock ≡ None
settled_open s silent answer e k is = plain_open s silent answer e k is
settled_open s (created name columns) answer e k is = plain_open s (created name columns) answer e k is
settled_open s (asked name query shared) answer e k is = decided_open s name query shared _ answer e is
settled_open s (explained name) answer e k is = plain_open s (explained name) answer e k is
settled_open s (dropped name) answer e k is = plain_open s (dropped name) answer e k is
settled_open s (taken stream values) answer e k is = plain_open s (taken stream values) answer e k is
settled_open s saved answer e k is = plain_open s saved answer e k is
settled_open s (resumed n) answer e k is = plain_open s (resumed n) answer e k is
settled_open s (based name base) answer e k is = plain_open s (based name base) answer e k is
settled_open s (locked lock) answer e k is = absurd k
settled_open s unlocked answer e k is = plain_open s unlocked answer e k is
settled_open s (refused word) answer e k is = plain_open s (refused word) answer e k is

pub none_locks_stays_open : NoneLocksStaysOpen
unfolding after
none_locks_stays_open s [] [] e none is = e
none_locks_stays_open s [] (answer ∷ others) e none is = absurd is
none_locks_stays_open s (line ∷ lines) [] e none is = absurd is
none_locks_stays_open s (line ∷ lines) (answer ∷ others) e none is =
    none_locks_stays_open (next_of s answer) lines others (settled_open s is.0.request answer e (line_none s line is.0.request none.0 is.0.asks) is.0.settles) none.1 is.1
