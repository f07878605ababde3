-- Before a row is taken, each live query stands at its base.
use Rattle.std.proofs.Common.{◌≡◌, ℕ, ℤ, Bool, true, false, ◌&&◌, not, cond, nat_eq, List, [], ◌∷◌, ◌++◌, length, Option, Some, None, Ok, Err, option_and_then, option_map, slice_index_or, slice_set, refl, sym, ap, ◌∙◌, subst}
use Rattle.std.specs.declared.result.Result.{Result}
use Rattle.std.specs.List.{list_any}
use Rattle.std.specs.Str.{bytes_eq}
use Rattle.std.proofs.lemmas.List.{length-replicate, length-set}
use Rattle.sem_query.specs.declared.cell.Cell.{Cell}
use Rattle.sem_query.specs.Query.{QueryValue}
use Rattle.sem_query.specs.Merge.{merged_table}
use Rattle.sem_query.specs.Numbers.{parts_of}
use Rattle.sem_query.specs.Ranges.{all_tuples}
use Rattle.sem_query.specs.Tuples.{is_same}
use Rattle.sem_query.specs.Sharing.{Box, sizes_in}
use Rattle.sem_query.specs.Bases.{Base}
use Rattle.sem_laws.proofs.SharedCells.{into-size}
use Rattle.exec_restore.specs.Loadable.{is_empty, kind_at, filled_cell}
use Rattle.exec_query.specs.Loading.{loaded_given, loaded_cell, loaded_tuple}
use Rattle.sql_catalog.specs.declared.column.ColumnDef.{ColumnDef}
use Rattle.sql_catalog.specs.declared.row_error.RowError.{RowError}
use Rattle.sql_catalog.specs.declared.stream_error.StreamError.{StreamError}
use Rattle.sql_catalog.specs.Streams.{added}
use Rattle.sql_catalog.specs.Rows.{Entry, row_of}
use Rattle.sql_parser.specs.declared.line.LineKind.{LineKind}
use Rattle.sql_parser.specs.declared.line.LineKind.TheVariants as kinds
use Rattle.sql_parser.specs.declared.tree.Statement.{Statement}
use Rattle.sql_parser.specs.declared.tree.Statement.TheVariants as statements
use Rattle.sql_parser.specs.LineKind.{stripped, kind_of_line}
use Rattle.exec_registry.specs.Live.{LiveQuery, boxes_of, base_in, names, newly, without}
use Rattle.sql_replies.specs.declared.refusal.Refusal.{Refusal}
use Rattle.sql_replies.specs.declared.refusal.Refusal.TheVariants.{UnknownQuery, Late, Arity, Value, RowLimit}
use Rattle.cmd_session.specs.Request.{Request, silent, created, asked, explained, dropped, taken, saved, resumed, based, locked, unlocked, refused}
use Rattle.cmd_session.specs.Requests.{entry_request, stream_request, query_of, found_request, is_live, live_named, natural, natural_upto, loaded_request, load_request, lock_request, unlock_request, opened_by, statement_request, IsStatementRequest, outside, limited, stated, IsTextRequest, IsRequest, too_long, barred, fits}
use Rattle.cmd_session.specs.Lock.{Lock}
use Rattle.cmd_session.specs.Answer.{Answer, plain}
use Rattle.cmd_session.specs.Answers.{IsDecided, accepted, rejected, Settles}
use Rattle.cmd_session.specs.State.{State, initial, has_room, from_base, set_base, next_by, next_of, after}
use Rattle.cmd_session.specs.Replies.{AreAnswers}
use Rattle.law_resume.specs.Continuing.{IsResumed}

-- no row came since the base, which has a cell for each place in its boxes
pub record IsAtBase (q : LiveQuery) : Type 0 where
  pub none : q.history ≡ []
  pub size : length q.base.cells ≡ sizes_in (boxes_of q)

abbrev pub AreAtBase : List LiveQuery → Type 0
AreAtBase [] = Unit {0}
AreAtBase (q ∷ qs) = IsAtBase q × AreAtBase qs

-- where a base is set, it has as many cells as what was kept before
pub record SetsCells (s : State) (name : List ℕ) (base : Base) : Type 0 where
  pub live : LiveQuery
  pub named : live_named name s.queries ≡ Some live
  pub size : length base.cells ≡ length (base_in live).cells

-- so it is with what a line asks for that takes no row
abbrev pub KeepsCells : State → Request → Type 0
KeepsCells s silent = Unit {0}
KeepsCells s (created name columns) = Unit {0}
KeepsCells s (asked name query shared) = Unit {0}
KeepsCells s (explained name) = Unit {0}
KeepsCells s (dropped name) = Unit {0}
KeepsCells s (taken stream values) = Unit {0}
KeepsCells s saved = Unit {0}
KeepsCells s (resumed n) = Unit {0}
KeepsCells s (based name base) = SetsCells s name base
KeepsCells s (locked lock) = Unit {0}
KeepsCells s unlocked = Unit {0}
KeepsCells s (refused word) = Unit {0}

loaded_keeps : (s : State) (name : List ℕ) (live : LiveQuery) (o : Option Base) → live_named name s.queries ≡ Some live → ((b : Base) → o ≡ Some b → length b.cells ≡ length (base_in live).cells)
    → KeepsCells s (loaded_request name o)
loaded_keeps s name live (Some b) e h = record { live = live; named = e; size = h b refl }
loaded_keeps s name live None e h = tt

load_keeps : (s : State) (name : List ℕ) (load : LiveQuery → Request) (o : Option LiveQuery) → live_named name s.queries ≡ o
    → ((live : LiveQuery) → live_named name s.queries ≡ Some live → KeepsCells s (load live)) → KeepsCells s (load_request s name load o)
load_keeps s name load None e h = tt
load_keeps s name load (Some live) e h = by s.began
  where
    by : (b : Bool) → KeepsCells s (cond b (refused Late) (load live))
    by true = tt
    by false = h live e

-- the number of rows given
given_size : (base : Base) (p : Option ℕ) (b : Base) → option_and_then (λ n. loaded_given n base) p ≡ Some b → length b.cells ≡ length base.cells
given_size base None b e = absurd cc
given_size base (Some n) b e = by (nat_eq base.given 0) e
  where
    by : (c : Bool) → cond c (Some (record base { given = n })) None ≡ Some b → length b.cells ≡ length base.cells
    by true f = (let o : Base = record base { given = n } in let same : o ≡ b = cc in ap (λ (x : Base). length x.cells) (sym same))
    by false f = absurd cc

-- a cell
cell_size : (base : Base) (n : ℕ) (b : Base) (o : Option Cell) → option_map (λ c. record base { cells = slice_set base.cells n c }) o ≡ Some b → length b.cells ≡ length base.cells
cell_size base n b None e = absurd cc
cell_size base n b (Some c) e =
    (let o : Base = record base { cells = slice_set base.cells n c } in
    let same : o ≡ b = cc in
    ap (λ (x : Base). length x.cells) (sym same) ∙ length-set base.cells n c)

cells_size : (list : List Box) (v : ℤ) (base : Base) (p : Option ℕ) (b : Base) → option_and_then (λ n. loaded_cell list n v base) p ≡ Some b → length b.cells ≡ length base.cells
cells_size list v base None b e = absurd cc
cells_size list v base (Some n) b e = by (is_empty (slice_index_or base.cells n Cell.Present)) e
  where
    told : Option Cell
    told = option_and_then (λ kind. filled_cell base.given kind v) (kind_at list n)

    by : (c : Bool) → cond c (option_map (λ x. record base { cells = slice_set base.cells n x }) told) None ≡ Some b → length b.cells ≡ length base.cells
    by true f = cell_size base n b told f
    by false f = absurd cc

-- a printed tuple
tuple_size : (base b : Base) (t : List ℤ) (c : Bool) → cond c (Some (record base { table = merged_table base.table (t ∷ []) })) None ≡ Some b → length b.cells ≡ length base.cells
tuple_size base b t true e = (let o : Base = record base { table = merged_table base.table (t ∷ []) } in let same : o ≡ b = cc in ap (λ (x : Base). length x.cells) (sym same))
tuple_size base b t false e = absurd cc

tuple_keeps : (s : State) (name : List ℕ) (t : List ℤ) (live : LiveQuery) (c : Bool) → live_named name s.queries ≡ Some live
    → KeepsCells s (cond c (loaded_request name (loaded_tuple live.query (parts_of live.plan) t (base_in live))) (refused Arity))
tuple_keeps s name t live true e =
    loaded_keeps s name live (loaded_tuple live.query (parts_of live.plan) t (base_in live)) e
    (λ b f. tuple_size (base_in live) b t (live.query.distinct && (list_any (is_same t) (all_tuples live.query (parts_of live.plan)) && not (list_any (is_same t) (base_in live).table))) f)
tuple_keeps s name t live false e = tt

-- what a statement asks for
stream_keeps : (s : State) (name : List ℕ) (columns : List ColumnDef) (o : Result ℕ StreamError) → KeepsCells s (stream_request name columns o)
stream_keeps s name columns (Err error) = tt
stream_keeps s name columns (Ok number) = tt

found_keeps : (s : State) (name : List ℕ) (shared : Bool) (o : Result QueryValue Refusal) → KeepsCells s (found_request name shared o)
found_keeps s name shared (Ok query) = tt
found_keeps s name shared (Err word) = tt

explained_keeps : (s : State) (name : List ℕ) (b : Bool) → KeepsCells s (cond b (explained name) (refused UnknownQuery))
explained_keeps s name true = tt
explained_keeps s name false = tt

dropped_keeps : (s : State) (name : List ℕ) (b : Bool) → KeepsCells s (cond b (dropped name) (refused UnknownQuery))
dropped_keeps s name true = tt
dropped_keeps s name false = tt

count_keeps : (s : State) (n : ℕ) (a b c : Bool) → KeepsCells s (cond a (refused Late) (cond b (refused Value) (cond c (refused RowLimit) (resumed n))))
count_keeps s n true b c = tt
count_keeps s n false true c = tt
count_keeps s n false false true = tt
count_keeps s n false false false = tt

lock_keeps : (s : State) (key : Option ℤ) (o : Result (Option (List ℕ)) Refusal) → KeepsCells s (lock_request key o)
lock_keeps s key (Ok opened) = tt
lock_keeps s key (Err word) = tt

unlock_keeps : (s : State) (o : Option Lock) → KeepsCells s (unlock_request o)
unlock_keeps s None = tt
unlock_keeps s (Some lock) = tt

statement_keeps : (s : State) (x : Statement) → KeepsCells s (statement_request s x)
statement_keeps s (statements.CreateStream name columns) = stream_keeps s name columns.items (added s.streams (record { name = name; columns = columns.items }))
statement_keeps s (statements.CreateQuery name select shared) = found_keeps s name shared (query_of s.streams (names s.queries) name select)
statement_keeps s (statements.Explain name) = explained_keeps s name (is_live (names s.queries) name)
statement_keeps s (statements.DropQuery name) = dropped_keeps s name (is_live (names s.queries) name)
statement_keeps s statements.Checkpoint = tt
statement_keeps s (statements.ResumeRows rows) = count_keeps s _ _ _ _
statement_keeps s (statements.ResumeGiven name rows) =
    load_keeps s name _ (live_named name s.queries) refl (λ live e. loaded_keeps s name live _ e (λ b f. given_size (base_in live) (natural_upto s.taken rows) b f))
statement_keeps s (statements.ResumeCell name index content) =
    load_keeps s name _ (live_named name s.queries) refl (λ live e. loaded_keeps s name live _ e (λ b f. cells_size (boxes_of live) content (base_in live) (natural index) b f))
statement_keeps s (statements.ResumeTuple name values) =
    load_keeps s name _ (live_named name s.queries) refl (λ live e. tuple_keeps s name values.items live (nat_eq (length values.items) (length live.query.select)) e)
statement_keeps s (statements.Lock key streams) = lock_keeps s key (opened_by s.streams streams.items)
statement_keeps s (statements.Unlock key) = unlock_keeps s s.lock

entry_keeps : (s : State) (room : Bool) (o : Result Entry RowError) → KeepsCells s (entry_request room o)
entry_keeps s room (Err error) = tt
entry_keeps s true (Ok x) = tt
entry_keeps s false (Ok x) = tt

text_keeps : (s : State) (text : List ℕ) (r : Request) → IsStatementRequest s text r → KeepsCells s r
text_keeps s text r (outside n e) = subst (KeepsCells s) (sym e) tt
text_keeps s text r (limited x what is l e) = subst (KeepsCells s) (sym e) tt
text_keeps s text r (stated x is l e) = subst (KeepsCells s) (sym e) (statement_keeps s x)

kind_keeps : (s : State) (kind : LineKind) (text : List ℕ) (r : Request) → IsTextRequest s kind text r → KeepsCells s r
kind_keeps s kinds.Nothing text r e = subst (KeepsCells s) (sym e) tt
kind_keeps s kinds.RowLine text r e = subst (KeepsCells s) (sym e) (entry_keeps s (has_room s) (row_of s.streams text))
kind_keeps s kinds.StatementLine text r e = text_keeps s text r e

line_keeps : (s : State) (line : List ℕ) (r : Request) → IsRequest s line r → KeepsCells s r
line_keeps s line r (too_long n e) = subst (KeepsCells s) (sym e) tt
line_keeps s line r (barred n none e) = subst (KeepsCells s) (sym e) tt
line_keeps s line r (fits n lets is) = kind_keeps s (kind_of_line (stripped line)) (stripped line) r is

-- the live queries after it
with_base_set : (name : List ℕ) (base : Base) (live : LiveQuery) → length base.cells ≡ length (base_in live).cells → (qs : List LiveQuery) → AreAtBase qs → live_named name qs ≡ Some live
    → AreAtBase (set_base name base qs)
with_base_set name base live size [] all e = absurd cc
with_base_set name base live size (q ∷ qs) all e = by (bytes_eq q.name name) e (with_base_set name base live size qs all.1)
  where
    by : (c : Bool) → cond c (Some q) (live_named name qs) ≡ Some live → (live_named name qs ≡ Some live → AreAtBase (set_base name base qs))
        → AreAtBase (cond c (from_base base q ∷ qs) (q ∷ set_base name base qs))
    by true f rest =
        let same : q ≡ live = cc in
        let whole : length (base_in q).cells ≡ sizes_in (boxes_of q) = into-size q.query (boxes_of q) q.base.cells all.0.size q.history in
        (record { none = refl; size = size ∙ ap (λ (x : LiveQuery). length (base_in x).cells) (sym same) ∙ whole }, all.1)
    by false f rest = (all.0, rest f)

after_drop : (name : List ℕ) (qs : List LiveQuery) → AreAtBase qs → AreAtBase (without name qs)
after_drop name [] all = tt
after_drop name (q ∷ qs) all = by (bytes_eq q.name name) (after_drop name qs all.1)
  where
    by : (c : Bool) → AreAtBase (without name qs) → AreAtBase (cond c qs (q ∷ without name qs))
    by true rest = all.1
    by false rest = (all.0, rest)

with_new : (n : LiveQuery) (qs : List LiveQuery) → AreAtBase qs → IsAtBase n → AreAtBase (qs ++ n ∷ [])
with_new n [] all new = (new, tt)
with_new n (q ∷ qs) all new = (all.0, with_new n qs all.1 new)

-- as long as no row was taken
abbrev pub AtBaseUntilRows : State → Type 0
AtBaseUntilRows s = s.began ≡ false → AreAtBase s.queries

plain_at_base : (s : State) (r : Request) (answer : Answer) → AtBaseUntilRows s → KeepsCells s r → answer ≡ plain r → AtBaseUntilRows (next_of s answer)
plain_at_base s r answer all keeps e = subst (λ (x : Answer). AtBaseUntilRows (next_of s x)) (sym e) (by r keeps)
  where
    by : (x : Request) → KeepsCells s x → AtBaseUntilRows (next_by s x)
    by silent k = all
    by (created name columns) k = all
    by (asked name query shared) k = all
    by (explained name) k = all
    by (dropped name) k = λ b. after_drop name s.queries (all b)
    by (taken stream values) k = λ b. absurd cc
    by saved k = all
    by (resumed n) k = all
    by (based name base) k = λ b. with_base_set name base k.live k.size s.queries (all b) k.named
    by (locked lock) k = all
    by unlocked k = all
    by (refused word) k = all

decided_at_base : (s : State) (name : List ℕ) (query : QueryValue) (shared : Bool) (free : ℕ) (answer : Answer) → AtBaseUntilRows s → IsDecided name query shared free answer
    → AtBaseUntilRows (next_of s answer)
decided_at_base s name query shared free answer all (accepted plan is v e) =
    subst (λ (x : Answer). AtBaseUntilRows (next_of s x)) (sym e)
    (λ b. with_new (newly name query shared plan) s.queries (all b) (record { none = refl; size = length-replicate (sizes_in (boxes_of (newly name query shared plan))) Cell.Empty }))
decided_at_base s name query shared free answer all (rejected verdict v r e) = subst (λ (x : Answer). AtBaseUntilRows (next_of s x)) (sym e) all

settled_at_base : (s : State) (r : Request) (answer : Answer) → AtBaseUntilRows s → KeepsCells s r → Settles s r answer → AtBaseUntilRows (next_of s answer)
settled_at_base s silent answer all k e = plain_at_base s silent answer all k e
settled_at_base s (created name columns) answer all k e = plain_at_base s (created name columns) answer all k e
settled_at_base s (asked name query shared) answer all k e = decided_at_base s name query shared _ answer all e
settled_at_base s (explained name) answer all k e = plain_at_base s (explained name) answer all k e
settled_at_base s (dropped name) answer all k e = plain_at_base s (dropped name) answer all k e
settled_at_base s (taken stream values) answer all k e = plain_at_base s (taken stream values) answer all k e
settled_at_base s saved answer all k e = plain_at_base s saved answer all k e
settled_at_base s (resumed n) answer all k e = plain_at_base s (resumed n) answer all k e
settled_at_base s (based name base) answer all k e = plain_at_base s (based name base) answer all k e
settled_at_base s (locked lock) answer all k e = plain_at_base s (locked lock) answer all k e
settled_at_base s unlocked answer all k e = plain_at_base s unlocked answer all k e
settled_at_base s (refused word) answer all k e = plain_at_base s (refused word) answer all k e

lines_at_base : (s : State) (lines : List (List ℕ)) (answers : List Answer) → AtBaseUntilRows s → AreAnswers s lines answers → AtBaseUntilRows (after s answers)
unfolding after
lines_at_base s [] [] all is = all
lines_at_base s [] (answer ∷ others) all is = absurd is
lines_at_base s (line ∷ lines) [] all is = absurd is
lines_at_base s (line ∷ lines) (answer ∷ others) all is =
    let first = is.0 in
    lines_at_base (next_of s answer) lines others (settled_at_base s first.request answer all (line_keeps s line first.request first.asks) first.settles) is.1

-- so it is where lines lead from the first state on
pub resumed_at_base : (t : State) → IsResumed t → AreAtBase t.queries
resumed_at_base t is = subst (λ (x : State). AtBaseUntilRows x) is.is (lines_at_base (initial is.limit is.pages) is.lines is.answers (λ b. tt) is.answered) is.quiet
