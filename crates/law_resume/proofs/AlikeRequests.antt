-- A line asks the same of states that are alike.
use Rattle.std.proofs.Common.{◌≡◌, ℕ, ◌<◌, ℤ, Bool, true, false, cond, nat_lt, nat_eq, length, ◌||◌, List, [], ◌∷◌, refl, sym, ap, ◌∙◌, subst, arith, Option, Some, None, Ok, Err, IsTrue, is_some}
use Rattle.std.specs.declared.result.Result.{Result}
use Rattle.std.specs.Str.{bytes_eq}
use Rattle.std.proofs.lemmas.Bool.Decides.{nat_tests}
use Rattle.sql_text.specs.Word.{word_of}
use Rattle.sql_text.specs.Key.{key_of}
use Rattle.sql_catalog.specs.declared.column.ColumnDef.{ColumnDef}
use Rattle.sql_catalog.specs.declared.row_error.RowError.{RowError}
use Rattle.sql_catalog.specs.declared.row_error.RowError.TheVariants as row_errors
use Rattle.sql_catalog.specs.declared.stream_error.StreamError.{StreamError}
use Rattle.sql_catalog.specs.Streams.{Shape, KeepsDomains, added, shape_at, stream_number, lie_within}
use Rattle.sql_catalog.specs.Rows.{Entry, entry, entry_of, fields_of, row_for, row_of, values_of}
use Rattle.sql_catalog.proofs.ColumnDomains.{each_within}
use Rattle.sem_query.specs.Query.{QueryValue}
use Rattle.sql_parser.specs.declared.line.LineKind.{LineKind}
use Rattle.sql_parser.specs.declared.line.LineKind.TheVariants as kinds
use Rattle.sql_parser.specs.declared.tree.Statement.{Statement}
use Rattle.sql_parser.specs.declared.tree.Statement.TheVariants as statements
use Rattle.sql_parser.specs.LineKind.{stripped, kind_of_line}
use Rattle.sql_parser.specs.Syntax.{IsStatement}
use Rattle.exec_registry.specs.Live.{LiveQuery, names}
use Rattle.sql_replies.specs.declared.refusal.Refusal.{Refusal}
use Rattle.sql_replies.specs.declared.refusal.Refusal.TheVariants.{UnknownQuery, Late}
use Rattle.cmd_session.specs.Request.{Request, silent, created, asked, explained, dropped, taken, saved, resumed, based, locked, unlocked, refused}
use Rattle.cmd_session.specs.Requests.{entry_request, row_request, stream_request, query_of, found_request, query_request, is_live, live_named, explain_request, drop_request, load_request, count_request, lock_request, unlock_request, opened_by, statement_request, IsStatementRequest, outside, limited, stated, IsTextRequest, IsRequest, too_long, barred, fits}
use Rattle.cmd_session.specs.Lock.{Lock, Lets}
use Rattle.cmd_session.specs.State.{State, has_room}
use Rattle.law_resume.specs.Continuing.{is_resume, IsResumeLine}

-- the line changes nothing that is kept, but that a row is taken that keeps to its domains, or a stream or a query comes or goes
abbrev pub IsPlainIn : State → Request → Type 0
IsPlainIn s silent = Unit {0}
IsPlainIn s (created name columns) = Unit {0}
IsPlainIn s (asked name query shared) = Unit {0}
IsPlainIn s (explained name) = Unit {0}
IsPlainIn s (dropped name) = Unit {0}
IsPlainIn s (taken stream values) = KeepsDomains s.streams stream values × (s.taken < s.limit)
IsPlainIn s saved = Unit {0}
IsPlainIn s (resumed n) = ⊥
IsPlainIn s (based name base) = ⊥
IsPlainIn s (locked lock) = Unit {0}
IsPlainIn s unlocked = Unit {0}
IsPlainIn s (refused word) = Unit {0}

-- row limit, streams, number of rows, names of live queries, and lock are the same
pub record AskAlike (s t : State) : Type 0 where
  pub limit : s.limit ≡ t.limit
  pub streams : s.streams ≡ t.streams
  pub taken : s.taken ≡ t.taken
  pub named : names s.queries ≡ names t.queries
  pub lock : s.lock ≡ t.lock

-- a row line was taken before, in both
pub record HaveBegun (s t : State) : Type 0 where
  pub left : s.began ≡ true
  pub right : t.began ≡ true

-- after a row line was taken, what sets a base is refused
abbrev late : Bool → Request
late true = refused Late
late false = refused UnknownQuery

late_load : (s : State) (name : List ℕ) (load : LiveQuery → Request) → s.began ≡ true → (queries : List LiveQuery) → load_request s name load (live_named name queries) ≡ late (is_live (names queries) name)
late_load s name load b [] = refl
late_load s name load b (q ∷ queries) = by (bytes_eq q.name name) (late_load s name load b queries)
  where
    by : (c : Bool) → load_request s name load (live_named name queries) ≡ late (is_live (names queries) name)
        → load_request s name load (cond c (Some q) (live_named name queries)) ≡ late (c || is_live (names queries) name)
    by true rest = ap (λ x. cond x (refused Late) (load q)) b
    by false rest = rest

late_alike : (s t : State) (name : List ℕ) (load other : LiveQuery → Request) → AskAlike s t → HaveBegun s t
    → load_request s name load (live_named name s.queries) ≡ load_request t name other (live_named name t.queries)
late_alike s t name load other a b =
    late_load s name load b.left s.queries ∙ ap (λ ns. late (is_live ns name)) a.named ∙ sym (late_load t name other b.right t.queries)

late_count : (began : Bool) (rows limit : ℕ) (z : ℤ) → began ≡ true → count_request began rows limit z ≡ refused Late
late_count true rows limit z e = refl
late_count false rows limit z e = absurd cc

-- a statement asks the same
statement_alike : (s t : State) (statement : Statement) → AskAlike s t → (IsTrue (is_resume statement) → HaveBegun s t) → statement_request s statement ≡ statement_request t statement
statement_alike s t (statements.CreateStream name columns) a b = (λ j. stream_request name columns.items (added (a.streams j) (record { name = name; columns = columns.items })))
statement_alike s t (statements.CreateQuery name select shared) a b = (λ j. query_request (a.streams j) (a.named j) name select shared)
statement_alike s t (statements.Explain name) a b = ap (λ ns. explain_request ns name) a.named
statement_alike s t (statements.DropQuery name) a b = ap (λ ns. drop_request ns name) a.named
statement_alike s t statements.Checkpoint a b = refl
statement_alike s t (statements.ResumeRows rows) a b =
    (let h : HaveBegun s t = b refl in late_count s.began s.taken s.limit rows h.left ∙ sym (late_count t.began t.taken t.limit rows h.right))
statement_alike s t (statements.ResumeGiven name rows) a b = late_alike s t name _ _ a (b refl)
statement_alike s t (statements.ResumeCell name index content) a b = late_alike s t name _ _ a (b refl)
statement_alike s t (statements.ResumeTuple name values) a b = late_alike s t name _ _ a (b refl)
statement_alike s t (statements.Lock key streams) a b = (λ j. lock_request key (opened_by (a.streams j) streams.items))
statement_alike s t (statements.Unlock key) a b = ap unlock_request a.lock

text_alike : (s t : State) (text : List ℕ) (r : Request) → AskAlike s t → ((x : Statement) → IsStatement text x → IsTrue (is_resume x) → HaveBegun s t)
    → IsStatementRequest s text r → IsStatementRequest t text r
text_alike s t text r a b (outside n e) = outside n e
text_alike s t text r a b (limited x what is l e) = limited x what is l e
text_alike s t text r a b (stated x is l e) = stated x is l (e ∙ statement_alike s t x a (b x is))

kind_alike : (s t : State) (kind : LineKind) (text : List ℕ) (r : Request) → AskAlike s t → ((x : Statement) → IsStatement text x → IsTrue (is_resume x) → HaveBegun s t)
    → IsTextRequest s kind text r → IsTextRequest t kind text r
kind_alike s t kinds.Nothing text r a b e = e
kind_alike s t kinds.RowLine text r a b e = e ∙ (λ j. row_request (a.streams j) (nat_lt (a.taken j) (a.limit j)) text)
kind_alike s t kinds.StatementLine text r a b e = text_alike s t text r a b e

lets_alike : (s t : State) (line : List ℕ) → s.lock ≡ t.lock → s.streams ≡ t.streams → Lets s.lock s.streams line → Lets t.lock t.streams line
lets_alike s t line lock streams lets = subst (λ l. Lets l t.streams line) lock (subst (λ x. Lets s.lock x line) streams lets)

pub asks_alike : (s t : State) (line : List ℕ) (r : Request) → AskAlike s t → (IsResumeLine line → HaveBegun s t) → IsRequest s line r → IsRequest t line r
asks_alike s t line r a b (too_long n e) = too_long n e
asks_alike s t line r a b (barred n none e) = barred n (λ lets. none (lets_alike t s line (sym a.lock) (sym a.streams) lets)) e
asks_alike s t line r a b (fits n lets is) =
    fits n (lets_alike s t line a.lock a.streams lets) (kind_alike s t (kind_of_line (stripped line)) (stripped line) r a (λ x spells resumes. b (record { statement = x; spells = spells; resumes = resumes })) is)

-- the row that a line is keeps to the domains of its stream
row_keeps : (streams : List Shape) (text : List ℕ) (e : Entry) → row_of streams text ≡ Ok e → KeepsDomains streams e.stream e.values
unfolding row_of
row_keeps streams text e is = first (is_some (key_of (word_of text))) (nat_lt 24 (length (word_of text))) is
  where
    values : (stream : ℕ) (o : Option (List ℤ)) → entry_of stream (shape_at streams stream).columns o ≡ Ok e → KeepsDomains streams e.stream e.values
    values stream None h = absurd cc
    values stream (Some vs) h = inside (lie_within (shape_at streams stream).columns vs) refl h
      where
        inside : (b : Bool) → lie_within (shape_at streams stream).columns vs ≡ b → cond b (Ok (entry stream vs)) (Err row_errors.Domain) ≡ Ok e → KeepsDomains streams e.stream e.values
        inside true l h = (let same : entry stream vs ≡ e = cc in subst (λ (x : Entry). KeepsDomains streams x.stream x.values) same (λ column. each_within (shape_at streams stream).columns vs l column))
        inside false l h = absurd cc

    arity : (b : Bool) (stream : ℕ) → cond b (entry_of stream (shape_at streams stream).columns (values_of (fields_of text))) (Err row_errors.Arity) ≡ Ok e → KeepsDomains streams e.stream e.values
    arity true stream h = values stream (values_of (fields_of text)) h
    arity false stream h = absurd cc

    found : (o : Option ℕ) → row_for streams (fields_of text) o ≡ Ok e → KeepsDomains streams e.stream e.values
    found None h = absurd cc
    found (Some stream) h = arity (nat_eq (length (fields_of text)) (length (shape_at streams stream).columns)) stream h

    first : (b c : Bool) → cond b (Err row_errors.Syntax) (cond c (Err row_errors.Limit) (row_for streams (fields_of text) (stream_number streams (word_of text)))) ≡ Ok e
        → KeepsDomains streams e.stream e.values
    first true c h = absurd cc
    first false true h = absurd cc
    first false false h = found (stream_number streams (word_of text)) h

-- a row line that is taken keeps to its domains, and there is room
pub row_is_plain : (s : State) (text : List ℕ) (room : Bool) (o : Result Entry RowError) → has_room s ≡ room → row_of s.streams text ≡ o → IsPlainIn s (entry_request room o)
row_is_plain s text room (Err error) e f = tt
row_is_plain s text true (Ok x) e f = (row_keeps s.streams text x f, grind (arith, nat_tests))
row_is_plain s text false (Ok x) e f = tt

stream_is_plain : (s : State) (name : List ℕ) (columns : List ColumnDef) (o : Result ℕ StreamError) → IsPlainIn s (stream_request name columns o)
stream_is_plain s name columns (Err error) = tt
stream_is_plain s name columns (Ok number) = tt

found_is_plain : (s : State) (name : List ℕ) (shared : Bool) (o : Result QueryValue Refusal) → IsPlainIn s (found_request name shared o)
found_is_plain s name shared (Ok query) = tt
found_is_plain s name shared (Err word) = tt

explained_is_plain : (s : State) (name : List ℕ) (b : Bool) → IsPlainIn s (cond b (explained name) (refused UnknownQuery))
explained_is_plain s name true = tt
explained_is_plain s name false = tt

dropped_is_plain : (s : State) (name : List ℕ) (b : Bool) → IsPlainIn s (cond b (dropped name) (refused UnknownQuery))
dropped_is_plain s name true = tt
dropped_is_plain s name false = tt

late_is_plain : (s : State) (b : Bool) → IsPlainIn s (late b)
late_is_plain s true = tt
late_is_plain s false = tt

load_is_plain : (s : State) (name : List ℕ) (load : LiveQuery → Request) → s.began ≡ true → IsPlainIn s (load_request s name load (live_named name s.queries))
load_is_plain s name load b = subst (IsPlainIn s) (sym (late_load s name load b s.queries)) (late_is_plain s (is_live (names s.queries) name))

lock_is_plain : (s : State) (key : Option ℤ) (o : Result (Option (List ℕ)) Refusal) → IsPlainIn s (lock_request key o)
lock_is_plain s key (Ok opened) = tt
lock_is_plain s key (Err word) = tt

unlock_is_plain : (s : State) (o : Option Lock) → IsPlainIn s (unlock_request o)
unlock_is_plain s None = tt
unlock_is_plain s (Some lock) = tt

statement_is_plain : (s : State) (statement : Statement) → (IsTrue (is_resume statement) → s.began ≡ true) → IsPlainIn s (statement_request s statement)
statement_is_plain s (statements.CreateStream name columns) b = stream_is_plain s name columns.items (added s.streams (record { name = name; columns = columns.items }))
statement_is_plain s (statements.CreateQuery name select shared) b = found_is_plain s name shared (query_of s.streams (names s.queries) name select)
statement_is_plain s (statements.Explain name) b = explained_is_plain s name (is_live (names s.queries) name)
statement_is_plain s (statements.DropQuery name) b = dropped_is_plain s name (is_live (names s.queries) name)
statement_is_plain s statements.Checkpoint b = tt
statement_is_plain s (statements.ResumeRows rows) b = subst (IsPlainIn s) (sym (late_count s.began s.taken s.limit rows (b refl))) tt
statement_is_plain s (statements.ResumeGiven name rows) b = load_is_plain s name _ (b refl)
statement_is_plain s (statements.ResumeCell name index content) b = load_is_plain s name _ (b refl)
statement_is_plain s (statements.ResumeTuple name values) b = load_is_plain s name _ (b refl)
statement_is_plain s (statements.Lock key streams) b = lock_is_plain s key (opened_by s.streams streams.items)
statement_is_plain s (statements.Unlock key) b = unlock_is_plain s s.lock

text_is_plain : (s : State) (text : List ℕ) (r : Request) → ((x : Statement) → IsStatement text x → IsTrue (is_resume x) → s.began ≡ true) → IsStatementRequest s text r → IsPlainIn s r
text_is_plain s text r b (outside n e) = subst (IsPlainIn s) (sym e) tt
text_is_plain s text r b (limited x what is l e) = subst (IsPlainIn s) (sym e) tt
text_is_plain s text r b (stated x is l e) = subst (IsPlainIn s) (sym e) (statement_is_plain s x (b x is))

kind_is_plain : (s : State) (kind : LineKind) (text : List ℕ) (r : Request) → ((x : Statement) → IsStatement text x → IsTrue (is_resume x) → s.began ≡ true) → IsTextRequest s kind text r → IsPlainIn s r
kind_is_plain s kinds.Nothing text r b e = subst (IsPlainIn s) (sym e) tt
kind_is_plain s kinds.RowLine text r b e = subst (IsPlainIn s) (sym e) (row_is_plain s text (has_room s) (row_of s.streams text) refl refl)
kind_is_plain s kinds.StatementLine text r b e = text_is_plain s text r b e

-- what a line asks for that is no RESUME line, or comes after a row line was taken
pub asks_plainly : (s : State) (line : List ℕ) (r : Request) → (IsResumeLine line → s.began ≡ true) → IsRequest s line r → IsPlainIn s r
asks_plainly s line r b (too_long n e) = subst (IsPlainIn s) (sym e) tt
asks_plainly s line r b (barred n none e) = subst (IsPlainIn s) (sym e) tt
asks_plainly s line r b (fits n lets is) =
    kind_is_plain s (kind_of_line (stripped line)) (stripped line) r (λ x spells resumes. b (record { statement = x; spells = spells; resumes = resumes })) is
