-- What a line asks for in a state that lines lead to.
use Rattle.std.proofs.Common.{◌≡◌, ℕ, ◌<◌, ◌≤◌, ◌^◌, Bool, true, false, cond, not, ◌||◌, nat_le, nat_eq, int_lt, nat_abs, ℤ, pos, List, [], ◌∷◌, ◌++◌, length, Option, Some, None, Ok, Err, option_and_then, refl, sym, ap, ◌∙◌, subst, arith}
use Rattle.std.specs.List.{sum_by, AllByRecursion}
use Rattle.std.specs.Str.{bytes_eq}
use Rattle.std.specs.declared.result.Result.{Result}
use Rattle.std.proofs.lemmas.Bool.Decides.{nat_tests}
use Rattle.std.proofs.lemmas.Int.{ints}
use Rattle.std.proofs.lemmas.List.{length-map}
use Rattle.sem_query.specs.Query.{QueryValue}
use Rattle.sem_query.specs.Numbers.{parts_of, pages_of}
use Rattle.sem_query.specs.Bases.{Base}
use Rattle.sql_catalog.specs.declared.column.ColumnDef.{ColumnDef}
use Rattle.sql_catalog.specs.declared.row_error.RowError.{RowError}
use Rattle.sql_catalog.specs.declared.stream_error.StreamError.{StreamError}
use Rattle.sql_catalog.specs.Rows.{Entry, row_of}
use Rattle.sql_catalog.specs.Streams.{IsCatalog, KeepsDomains, added, all_differ}
use Rattle.exec_query.specs.Loading.{loaded_cell, loaded_tuple}
use Rattle.sql_parser.specs.declared.line.LineKind.{LineKind}
use Rattle.sql_parser.specs.declared.line.LineKind.TheVariants as kinds
use Rattle.sql_parser.specs.declared.resolution.ResolveError.{ResolveError}
use Rattle.sql_parser.specs.declared.tree.SelectAst.{SelectAst}
use Rattle.sql_parser.specs.declared.tree.Statement.{Statement}
use Rattle.sql_parser.specs.declared.tree.Statement.TheVariants as statements
use Rattle.sql_parser.specs.LineKind.{stripped, kind_of_line}
use Rattle.sql_parser.specs.Limits.{limit_of}
use Rattle.sql_parser.specs.Resolution.{resolved}
use Rattle.sql_parser.specs.Syntax.{IsStatement}
use Rattle.exec_registry.specs.Live.{LiveQuery, boxes_of, base_in, names}
use Rattle.sql_replies.specs.declared.refusal.Refusal.{Refusal}
use Rattle.sql_replies.specs.declared.refusal.Refusal.TheVariants.{Duplicate, TooMany, UnknownQuery, Late, Arity, Value, RowLimit}
use Rattle.sql_replies.proofs.Stripped.{stripped-short}
use Rattle.cmd_session.specs.Request.{Request, silent, created, asked, explained, dropped, taken, saved, resumed, based, locked, unlocked, refused}
use Rattle.cmd_session.specs.Requests.{entry_request, stream_request, query_named, query_of, found_request, is_live, live_named, natural, loaded_request, load_request, lock_request, unlock_request, opened_by, statement_request, IsStatementRequest, outside, limited, stated, IsTextRequest, IsRequest, too_long, barred, fits}
use Rattle.cmd_session.specs.Lock.{Lock}
use Rattle.cmd_session.specs.State.{State, has_room}
use Rattle.law_resume.proofs.AlikeRequests.{row_is_plain}
use Rattle.law_resume.proofs.ReachedBases.{IsKeptBase, given_is_kept, cell_is_kept, tuple_is_kept}
use Rattle.law_resume.proofs.ReachedQueries.{IsReachedIn}
use Rattle.law_resume.proofs.ReachedRanges.{Fits}
use Rattle.law_resume.proofs.ReachedStatements.{IsQueryOf, created_catalog, query_found, content_fits, row_fits}

-- what is true of each state that lines lead to from the first one
pub record IsReachedState (s : State) : Type 0 where
  pub limit : s.limit ≤ 2 ^ 40
  pub within : s.taken ≤ s.limit
  pub catalog : IsCatalog s.streams
  pub queries : AllByRecursion (IsReachedIn s.streams s.taken) s.queries
  pub few : length s.queries ≤ 64
  pub differ : all_differ (names s.queries) ≡ true
  pub pages : sum_by (λ (q : LiveQuery). pages_of q.plan) s.queries ≤ s.pages

-- a query that can be created in a state, with a name that no live query has
pub record IsNewQuery (s : State) (name : List ℕ) (q : QueryValue) (shared : Bool) : Type 0 where
  pub query : IsQueryOf s.streams name q shared
  pub new : is_live (names s.queries) name ≡ false
  pub room : length s.queries < 64

-- a base from which the live query of a name can go on
pub record IsBaseFor (s : State) (name : List ℕ) (base : Base) : Type 0 where
  pub live : LiveQuery
  pub named : live_named name s.queries ≡ Some live
  pub kept : IsKeptBase live.query live.shared live.plan base
  pub given : base.given ≤ s.taken

-- what a line asks for keeps all this
abbrev pub IsRight : State → Request → Type 0
IsRight s silent = Unit {0}
IsRight s (created name columns) = IsCatalog (s.streams ++ record { name = name; columns = columns } ∷ [])
IsRight s (asked name query shared) = IsNewQuery s name query shared
IsRight s (explained name) = Unit {0}
IsRight s (dropped name) = Unit {0}
IsRight s (taken stream values) = KeepsDomains s.streams stream values × (s.taken < s.limit) × AllByRecursion Fits values
IsRight s saved = Unit {0}
IsRight s (resumed n) = (s.taken ≡ 0) × (n ≤ s.limit)
IsRight s (based name base) = IsBaseFor s name base
IsRight s (locked lock) = Unit {0}
IsRight s unlocked = Unit {0}
IsRight s (refused word) = Unit {0}

-- the live query of a name is one of them
pub named_holds : (P : LiveQuery → Type 0) (name : List ℕ) (qs : List LiveQuery) (live : LiveQuery) → AllByRecursion P qs → live_named name qs ≡ Some live → P live
named_holds P name [] live all e = absurd cc
named_holds P name (q ∷ qs) live all e = by (bytes_eq q.name name) e (named_holds P name qs live all.1)
  where
    by : (c : Bool) → cond c (Some q) (live_named name qs) ≡ Some live → (live_named name qs ≡ Some live → P live) → P live
    by true f rest = (let same : q ≡ live = cc in subst P same all.0)
    by false f rest = rest f

-- a row
row_right : (s : State) (text : List ℕ) (room : Bool) (o : Result Entry RowError) → has_room s ≡ room → row_of s.streams text ≡ o → IsRight s (entry_request room o)
row_right s text room (Err error) e f = tt
row_right s text true (Ok x) e f = (let plain = row_is_plain s text true (Ok x) e f in (plain.0, plain.1, row_fits s.streams text x f))
row_right s text false (Ok x) e f = tt

module _ (s : State) (reached : IsReachedState s) where
  few : s.taken ≤ 2 ^ 40
  few = (let a = reached.within in let b = reached.limit in omega (arith, a, b))

  -- a stream
  stream_right : (text name : List ℕ) (columns : List ColumnDef) → IsStatement text (statements.CreateStream name (record { items = columns }))
      → limit_of (statements.CreateStream name (record { items = columns })) ≡ None → (o : Result ℕ StreamError) → added s.streams (record { name = name; columns = columns }) ≡ o → IsRight s (stream_request name columns o)
  stream_right text name columns is within (Err error) e = tt
  stream_right text name columns is within (Ok place) e = created_catalog s.streams text name columns reached.catalog is within place e

  -- a query
  query_right : (text name : List ℕ) (select : SelectAst) (shared : Bool) → IsStatement text (statements.CreateQuery name select shared) → limit_of (statements.CreateQuery name select shared) ≡ None → length text ≤ 1024
      → (o : Result QueryValue Refusal) → query_of s.streams (names s.queries) name select ≡ o → IsRight s (found_request name shared o)
  query_right text name select shared is within short (Err word) e = tt
  query_right text name select shared is within short (Ok q) e = by (is_live (names s.queries) name) (nat_le 64 (length (names s.queries))) (resolved s.streams select) refl refl refl e
    where
      by : (a b : Bool) (o : Result QueryValue ResolveError) → is_live (names s.queries) name ≡ a → nat_le 64 (length (names s.queries)) ≡ b → resolved s.streams select ≡ o
          → cond {A = Result QueryValue Refusal} a (Err Duplicate) (cond b (Err TooMany) (query_named o)) ≡ Ok q → IsNewQuery s name q shared
      by true b o h k r f = absurd cc
      by false true o h k r f = absurd cc
      by false false (Err error) h k r f = absurd cc
      by false false (Ok p) h k r f =
          let same : p ≡ q = cc in
          let size : length (names s.queries) ≡ length s.queries = length-map s.queries (λ (x : LiveQuery). x.name) in
          let less : length (names s.queries) < 64 = grind (arith, nat_tests, k) in
          record {
            query = query_found s.streams text name select shared q reached.catalog is within short (r ∙ ap (λ (x : QueryValue). let o : Result QueryValue ResolveError = Ok x in o) same);
            new = h;
            room = omega (arith, size, less);
          }

  explained_right : (name : List ℕ) (b : Bool) → IsRight s (cond b (explained name) (refused UnknownQuery))
  explained_right name true = tt
  explained_right name false = tt

  dropped_right : (name : List ℕ) (b : Bool) → IsRight s (cond b (dropped name) (refused UnknownQuery))
  dropped_right name true = tt
  dropped_right name false = tt

  -- a number of rows
  count_right : (z : ℤ) (a b c d : Bool) → nat_eq s.taken 0 ≡ b → int_lt z (pos 0) ≡ c → int_lt (pos s.limit) z ≡ d
      → IsRight s (cond (a || not b) (refused Late) (cond c (refused Value) (cond d (refused RowLimit) (resumed (nat_abs z)))))
  count_right z true b c d h k m = tt
  count_right z false false c d h k m = tt
  count_right z false true true d h k m = tt
  count_right z false true false true h k m = tt
  count_right z false true false false h k m = (grind (arith, nat_tests, h), grind (arith, ints, k, m))

  -- a part of what is kept
  load_right : (name : List ℕ) (load : LiveQuery → Request) (o : Option LiveQuery) → live_named name s.queries ≡ o
      → ((live : LiveQuery) → live_named name s.queries ≡ Some live → IsRight s (load live)) → IsRight s (load_request s name load o)
  load_right name load None e h = tt
  load_right name load (Some live) e h = by s.began
    where
      by : (b : Bool) → IsRight s (cond b (refused Late) (load live))
      by true = tt
      by false = h live e

  loaded_right : (name : List ℕ) (live : LiveQuery) (o : Option Base) → live_named name s.queries ≡ Some live
      → ((b : Base) → o ≡ Some b → IsKeptBase live.query live.shared live.plan b × (b.given ≤ s.taken)) → IsRight s (loaded_request name o)
  loaded_right name live None e h = tt
  loaded_right name live (Some b) e h = (let k = h b refl in record { live = live; named = e; kept = k.0; given = k.1 })

  own : (name : List ℕ) (live : LiveQuery) → live_named name s.queries ≡ Some live → IsReachedIn s.streams s.taken live
  own name live e = named_holds (IsReachedIn s.streams s.taken) name s.queries live reached.queries e

  cell_right : (name : List ℕ) (live : LiveQuery) (index content : ℤ) → live_named name s.queries ≡ Some live → Fits content
      → IsRight s (loaded_request name (option_and_then (λ n. loaded_cell (boxes_of live) n content (base_in live)) (natural index)))
  cell_right name live index content e fit =
      let r : IsReachedIn s.streams s.taken live = own name live e in
      let given = r.given in
      loaded_right name live _ e (λ b f.
      let k = cell_is_kept live.query live.shared live.plan (base_in live) content (natural index) b (omega (arith, given, few)) fit r.kept f in
      let same = k.1 in
      (k.0, omega (arith, same, given)))

  tuple_right : (name : List ℕ) (live : LiveQuery) (t : List ℤ) (c : Bool) → live_named name s.queries ≡ Some live
      → IsRight s (cond c (loaded_request name (loaded_tuple live.query (parts_of live.plan) t (base_in live))) (refused Arity))
  tuple_right name live t false e = tt
  tuple_right name live t true e =
      let r : IsReachedIn s.streams s.taken live = own name live e in
      let given = r.given in
      loaded_right name live _ e (λ b f.
      let k = tuple_is_kept live.query live.shared live.plan (base_in live) t b r.kept f in
      let same = k.1 in
      (k.0, omega (arith, same, given)))

  lock_right : (key : Option ℤ) (o : Result (Option (List ℕ)) Refusal) → IsRight s (lock_request key o)
  lock_right key (Ok opened) = tt
  lock_right key (Err word) = tt

  unlock_right : (o : Option Lock) → IsRight s (unlock_request o)
  unlock_right None = tt
  unlock_right (Some lock) = tt

  statement_right : (text : List ℕ) (x : Statement) → IsStatement text x → limit_of x ≡ None → length text ≤ 1024 → IsRight s (statement_request s x)
  statement_right text (statements.CreateStream name columns) is within short =
      stream_right text name columns.items is within (added s.streams (record { name = name; columns = columns.items })) refl
  statement_right text (statements.CreateQuery name select shared) is within short = query_right text name select shared is within short (query_of s.streams (names s.queries) name select) refl
  statement_right text (statements.Explain name) is within short = explained_right name (is_live (names s.queries) name)
  statement_right text (statements.DropQuery name) is within short = dropped_right name (is_live (names s.queries) name)
  statement_right text statements.Checkpoint is within short = tt
  statement_right text (statements.ResumeRows rows) is within short = count_right rows s.began (nat_eq s.taken 0) (int_lt rows (pos 0)) (int_lt (pos s.limit) rows) refl refl refl
  statement_right text (statements.ResumeGiven name rows) is within short =
      load_right name _ (live_named name s.queries) refl (λ live e. loaded_right name live _ e
      (λ b f. given_is_kept live.query live.shared live.plan (base_in live) s.taken rows b (own name live e).kept f))
  statement_right text (statements.ResumeCell name index content) is within short =
      load_right name _ (live_named name s.queries) refl (λ live e. cell_right name live index content e (content_fits name index content within))
  statement_right text (statements.ResumeTuple name values) is within short =
      load_right name _ (live_named name s.queries) refl (λ live e. tuple_right name live values.items (nat_eq (length values.items) (length live.query.select)) e)
  statement_right text (statements.Lock key streams) is within short = lock_right key (opened_by s.streams streams.items)
  statement_right text (statements.Unlock key) is within short = unlock_right s.lock

  text_right : (text : List ℕ) (r : Request) → length text ≤ 1024 → IsStatementRequest s text r → IsRight s r
  text_right text r short (outside n e) = subst (IsRight s) (sym e) tt
  text_right text r short (limited x what is l e) = subst (IsRight s) (sym e) tt
  text_right text r short (stated x is l e) = subst (IsRight s) (sym e) (statement_right text x is l short)

  kind_right : (kind : LineKind) (text : List ℕ) (r : Request) → length text ≤ 1024 → IsTextRequest s kind text r → IsRight s r
  kind_right kinds.Nothing text r short e = subst (IsRight s) (sym e) tt
  kind_right kinds.RowLine text r short e = subst (IsRight s) (sym e) (row_right s text (has_room s) (row_of s.streams text) refl refl)
  kind_right kinds.StatementLine text r short e = text_right text r short e

  pub asks_right : (line : List ℕ) (r : Request) → IsRequest s line r → IsRight s r
  asks_right line r (too_long n e) = subst (IsRight s) (sym e) tt
  asks_right line r (barred n none e) = subst (IsRight s) (sym e) tt
  asks_right line r (fits n lets is) = kind_right (kind_of_line (stripped line)) (stripped line) r (stripped-short line (stripped line) refl n) is
