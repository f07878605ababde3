-- The names that a line tells are names.
use Rattle.std.proofs.Common.{◌≡◌, ℕ, ℤ, pos, inl, inr, Bool, true, false, cond, not, ◌||◌, int_lt, nat_abs, option_and_then, nat_eq, List, [], ◌∷◌, length, flat_map, Option, Some, None, Ok, Err, refl, ap, ◌∙◌, sym, subst}
use Rattle.std.specs.List.{list_any, AllByRecursion}
use Rattle.std.specs.declared.result.Result.{Result}
use Rattle.sql_lexer.proofs.Exactly as exactly
use Rattle.sql_lexer.specs.declared.token.Token.{Token}
use Rattle.sem_query.specs.Bases.{Base}
use Rattle.sem_query.specs.Numbers.{parts_of}
use Rattle.sem_query.specs.Query.{QueryValue}
use Rattle.sql_parser.specs.LineKind.{stripped, kind_of_line}
use Rattle.sql_parser.specs.declared.line.LineKind.{LineKind}
use Rattle.sql_parser.specs.declared.line.LineKind.TheVariants as kinds
use Rattle.sql_parser.specs.declared.parsing.What.{What}
use Rattle.sql_parser.specs.declared.parsing.What.TheVariants as limits
use Rattle.sql_parser.specs.declared.tree.Statement.{Statement}
use Rattle.sql_parser.specs.declared.tree.Statement.TheVariants as statements
use Rattle.sql_parser.specs.Grammar.{Lexeme, semicolon, tokens_with, written, Spells}
use Rattle.sql_parser.specs.Limits.{names_of, limit_of, word_in, is_long}
use Rattle.sql_parser.specs.Syntax.{IsStatement, lexemes}
use Rattle.sql_parser.proofs.Compact.{long_with}
use Rattle.sql_parser.proofs.Said.{IsNamed, cut_at, all_named, all_left, all_query, without_semicolon}
use Rattle.exec_query.specs.Loading.{loaded_given, loaded_cell, loaded_tuple}
use Rattle.exec_registry.specs.Live.{LiveQuery, base_in, boxes_of}
use Rattle.sql_replies.specs.declared.refusal.Refusal.{Refusal}
use Rattle.sql_replies.specs.declared.refusal.Refusal.TheVariants.{Arity, Late, RowLimit, UnknownQuery, Value}
use Rattle.sql_catalog.specs.Rows.{Entry, row_of}
use Rattle.sql_catalog.specs.declared.column.ColumnDef.{ColumnDef}
use Rattle.sql_catalog.specs.declared.row_error.RowError.{RowError}
use Rattle.sql_catalog.specs.declared.stream_error.StreamError.{StreamError}
use Rattle.sql_catalog.specs.Streams.{added}
use Rattle.cmd_session.specs.Lock.{Lock}
use Rattle.cmd_session.specs.Request.{Request, silent, created, asked, explained, dropped, taken, saved, resumed, based, locked, unlocked, refused}
use Rattle.cmd_session.specs.Requests.{entry_request, stream_request, found_request, query_of, is_live, live_named, loaded_request, natural, natural_upto, load_request, lock_request, unlock_request, opened_by, statement_request, outside, limited, stated, IsTextRequest, IsRequest, too_long, barred, fits}
use Rattle.cmd_session.specs.State.{State, has_room, live_names}
use Rattle.sql_text.specs.Name.{is_name}

-- the name that is replied with what is asked for
abbrev pub TellsName : Request → Type 0
TellsName silent = Unit {0}
TellsName (created name columns) = is_name name ≡ true
TellsName (asked name query shared) = is_name name ≡ true
TellsName (explained name) = Unit {0}
TellsName (dropped name) = is_name name ≡ true
TellsName (taken stream values) = Unit {0}
TellsName saved = Unit {0}
TellsName (resumed n) = Unit {0}
TellsName (based name base) = Unit {0}
TellsName (locked lock) = Unit {0}
TellsName unlocked = Unit {0}
TellsName (refused word) = Unit {0}

-- the words of a statement within the limits are names
not_passed : (b : Bool) (x : What) (r : Option What) → cond b (Some x) r ≡ None → b ≡ false
not_passed true x r e = absurd cc
not_passed false x r e = refl

long_spelled : (ls : List Lexeme) (x : Statement) → Spells ls x → list_any is_long (flat_map word_in ls) ≡ list_any is_long (names_of x)
long_spelled ls x (whole, w, is, inl e) = ap (λ r. list_any is_long (flat_map word_in r)) e ∙ long_with w x is
long_spelled ls x (whole, w, is, inr e) = ap (λ r. list_any is_long (flat_map word_in r)) e ∙ ap (list_any is_long) (without_semicolon (tokens_with (written w) x)) ∙ long_with w x is

named_spelled : (ls : List Lexeme) (x : Statement) (t : Spells ls x) → AllByRecursion IsNamed ls → AllByRecursion IsNamed (tokens_with (written t.1) x)
named_spelled ls x (whole, w, is, inl e) h = subst (λ (r : List Lexeme). AllByRecursion IsNamed r) e h
named_spelled ls x (whole, w, is, inr e) h = all_left IsNamed (tokens_with (written w) x) (semicolon ∷ []) (subst (λ (r : List Lexeme). AllByRecursion IsNamed r) e h)

words_named : (text : List ℕ) (x : Statement) (is : IsStatement text x) → limit_of x ≡ None → AllByRecursion IsNamed (tokens_with (written is.spelled.1) x)
words_named text x is within =
    let ts : List Token = is.its_tokens in
    let stand = (exactly.standing_is_found text ts).0 is.lexed in
    let short = not_passed (list_any is_long (names_of x)) limits.Name _ within in
    named_spelled (lexemes text ts) x is.spelled (all_named text ts (cut_at text 0 ts stand) (long_spelled (lexemes text ts) x is.spelled ∙ short))

-- what no name is replied to
row_tells : (room : Bool) (o : Result Entry RowError) → TellsName (entry_request room o)
row_tells room (Err error) = tt
row_tells true (Ok x) = tt
row_tells false (Ok x) = tt

explain_tells : (b : Bool) (name : List ℕ) (word : Refusal) → TellsName (cond b (explained name) (refused word))
explain_tells true name word = tt
explain_tells false name word = tt

drop_tells : (b : Bool) (name : List ℕ) (word : Refusal) → is_name name ≡ true → TellsName (cond b (dropped name) (refused word))
drop_tells true name word h = h
drop_tells false name word h = tt

stream_tells : (name : List ℕ) (columns : List ColumnDef) (o : Result ℕ StreamError) → is_name name ≡ true → TellsName (stream_request name columns o)
stream_tells name columns (Err error) h = tt
stream_tells name columns (Ok place) h = h

query_tells : (name : List ℕ) (shared : Bool) (o : Result QueryValue Refusal) → is_name name ≡ true → TellsName (found_request name shared o)
query_tells name shared (Err word) h = tt
query_tells name shared (Ok q) h = h

loaded_tells : (name : List ℕ) (o : Option Base) → TellsName (loaded_request name o)
loaded_tells name None = tt
loaded_tells name (Some base) = tt

load_tells : (s : State) (name : List ℕ) (load : LiveQuery → Request) (o : Option LiveQuery) → ((live : LiveQuery) → TellsName (load live)) → TellsName (load_request s name load o)
load_tells s name load None h = tt
load_tells s name load (Some live) h = by s.began
  where
    by : (b : Bool) → TellsName (cond b (refused Late) (load live))
    by true = tt
    by false = h live

count_tells : (a b c : Bool) (x y z : Refusal) (n : ℕ) → TellsName (cond a (refused x) (cond b (refused y) (cond c (refused z) (resumed n))))
count_tells true b c x y z n = tt
count_tells false true c x y z n = tt
count_tells false false true x y z n = tt
count_tells false false false x y z n = tt

tuple_tells : (b : Bool) (r : Request) (word : Refusal) → TellsName r → TellsName (cond b r (refused word))
tuple_tells true r word h = h
tuple_tells false r word h = tt

lock_tells : (key : Option ℤ) (o : Result (Option (List ℕ)) Refusal) → TellsName (lock_request key o)
lock_tells key (Ok opened) = tt
lock_tells key (Err word) = tt

unlock_tells : (o : Option Lock) → TellsName (unlock_request o)
unlock_tells None = tt
unlock_tells (Some lock) = tt

statement_tells : (s : State) (text : List ℕ) (x : Statement) → IsStatement text x → limit_of x ≡ None → TellsName (statement_request s x)
statement_tells s text (statements.CreateStream name columns) is within = stream_tells name columns.items (added s.streams (record { name = name; columns = columns.items })) (words_named text (statements.CreateStream name columns) is within).1.1.0
statement_tells s text (statements.CreateQuery name select shared) is within =
    query_tells name shared (query_of s.streams (live_names s) name select) (all_query IsNamed is.spelled.1 name select shared (words_named text (statements.CreateQuery name select shared) is within)).0
statement_tells s text (statements.Explain name) is within = explain_tells (is_live (live_names s) name) name UnknownQuery
statement_tells s text (statements.DropQuery name) is within = drop_tells (is_live (live_names s) name) name UnknownQuery (words_named text (statements.DropQuery name) is within).1.1.0
statement_tells s text statements.Checkpoint is within = tt
statement_tells s text (statements.ResumeRows rows) is within = count_tells (s.began || not (nat_eq s.taken 0)) (int_lt rows (pos 0)) (int_lt (pos s.limit) rows) Late Value RowLimit (nat_abs rows)
statement_tells s text (statements.ResumeGiven name rows) is within =
    load_tells s name (λ live. loaded_request name (option_and_then (λ n. loaded_given n (base_in live)) (natural_upto s.taken rows))) (live_named name s.queries) (λ live. loaded_tells name (option_and_then (λ n. loaded_given n (base_in live)) (natural_upto s.taken rows)))
statement_tells s text (statements.ResumeCell name index content) is within =
    load_tells s name (λ live. loaded_request name (option_and_then (λ n. loaded_cell (boxes_of live) n content (base_in live)) (natural index))) (live_named name s.queries) (λ live. loaded_tells name (option_and_then (λ n. loaded_cell (boxes_of live) n content (base_in live)) (natural index)))
statement_tells s text (statements.ResumeTuple name values) is within =
    load_tells s name (λ live. cond (nat_eq (length values.items) (length live.query.select)) (loaded_request name (loaded_tuple live.query (parts_of live.plan) values.items (base_in live))) (refused Arity)) (live_named name s.queries)
    (λ live. tuple_tells (nat_eq (length values.items) (length live.query.select)) (loaded_request name (loaded_tuple live.query (parts_of live.plan) values.items (base_in live))) Arity (loaded_tells name (loaded_tuple live.query (parts_of live.plan) values.items (base_in live))))
statement_tells s text (statements.Lock key streams) is within = lock_tells key (opened_by s.streams streams.items)
statement_tells s text (statements.Unlock key) is within = unlock_tells s.lock

text_tells : (s : State) (kind : LineKind) (text : List ℕ) (request : Request) → IsTextRequest s kind text request → TellsName request
text_tells s kinds.Nothing text request is = subst TellsName (sym is) tt
text_tells s kinds.RowLine text request is = subst TellsName (sym is) (row_tells (has_room s) (row_of s.streams text))
text_tells s kinds.StatementLine text request (outside none is) = subst TellsName (sym is) tt
text_tells s kinds.StatementLine text request (limited x what of limit is) = subst TellsName (sym is) tt
text_tells s kinds.StatementLine text request (stated x of within is) = subst TellsName (sym is) (statement_tells s text x of within)

pub asks_tell : (s : State) (line : List ℕ) (request : Request) → IsRequest s line request → TellsName request
asks_tell s line request (too_long long is) = subst TellsName (sym is) tt
asks_tell s line request (barred short never is) = subst TellsName (sym is) tt
asks_tell s line request (fits short lets is) = text_tells s (kind_of_line (stripped line)) (stripped line) request is
