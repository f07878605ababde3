-- What a row line and a line of a checkpoint ask a session for, by what is found for them.
use Rattle.std.proofs.Common.{◌≡◌, ℕ, ℤ, Bool, true, false, not, cond, List, Option, None, is_some, Result, Ok, Err, refl, ap, sym, ◌∙◌, arith}
use Rattle.std.specs.Prelude.{[], ◌∷◌, ◌++◌, length, nat_le, nat_lt}
use Rattle.std.specs.List.{list_all}
use Rattle.arrayvec.specs.ArrayVec.{ArrayVec}
use Rattle.sem_query.specs.Query.{QueryValue}
use Rattle.sql_catalog.specs.declared.column.ColumnDef.{ColumnDef}
use Rattle.sql_catalog.specs.declared.row_error.RowError.{RowError}
use Rattle.sql_catalog.specs.declared.row_error.RowError.TheVariants as row_errors
use Rattle.sql_catalog.specs.declared.stream_error.StreamError.{StreamError}
use Rattle.sql_catalog.specs.declared.stream_error.StreamError.TheVariants as stream_errors
use Rattle.sql_catalog.specs.Rows.{Entry, row_of}
use Rattle.sql_catalog.specs.Streams.{Shape, added, with_stream, is_duplicate, all_differ, stream_number}
use Rattle.sql_parser.specs.declared.line.LineKind.{LineKind}
use Rattle.sql_parser.specs.declared.line.LineKind.TheVariants as kinds
use Rattle.sql_parser.specs.declared.resolution.ResolveError.{ResolveError}
use Rattle.sql_parser.specs.declared.tree.Statement.{Statement}
use Rattle.sql_parser.specs.declared.tree.Statement.TheVariants as statements
use Rattle.sql_parser.specs.LineKind.{stripped, kind_of_line}
use Rattle.sql_parser.specs.Syntax.{IsStatement}
use Rattle.sql_parser.specs.Resolution.{resolved}
use Rattle.sql_printer.proofs.ReadBack.{one_statement}
use Rattle.sql_replies.specs.declared.refusal.Refusal.{Refusal}
use Rattle.sql_replies.specs.declared.refusal.Refusal.TheVariants.{RowLimit}
use Rattle.sql_replies.specs.Words.{row_refusal}
use Rattle.adv_diagnosis.specs.declared.fault.Asks.{Asks}
use Rattle.adv_diagnosis.specs.declared.fault.Asks.TheVariants as asks
use Rattle.adv_diagnosis.specs.Asked as found
use Rattle.adv_diagnosis.specs.Asked.{row_asked, stream_asked, query_named, is_live, statement_asked, IsTextAsked, IsAsked}
use Rattle.adv_diagnosis.specs.Locked as told
use Rattle.adv_diagnosis.specs.Locked.{let_asked, IsLockedAsked}
use Rattle.cmd_advise.specs.Finding.{is_row_kind}
use Rattle.law_resume.specs.Continuing.{is_resume, IsResumeLine}
use Rattle.cmd_session.specs.Request.{Request, saved, refused}
use Rattle.cmd_session.specs.Requests as session
use Rattle.cmd_session.specs.Requests.{entry_request, statement_request, IsTextRequest, IsStatementRequest, IsRequest}
use Rattle.cmd_session.specs.State.{State, has_room}
use Rattle.law_advice.proofs.Agreement.{all_let, limits_differ}

-- whether this is what a statement may ask for
abbrev is_stated : Result Asks Refusal → Bool
is_stated (Err word) = true
is_stated (Ok asks.Nothing) = false
is_stated (Ok asks.Row) = false
is_stated (Ok (asks.Stream name columns)) = true
is_stated (Ok (asks.Query name query shared)) = true
is_stated (Ok asks.Explain) = true
is_stated (Ok (asks.Drop name)) = true
is_stated (Ok asks.Other) = true
is_stated (Ok (asks.Lock key streams)) = true
is_stated (Ok asks.Unlock) = false

-- whether it is so of a line of a checkpoint
abbrev is_other : Result Asks Refusal → Bool
is_other (Err word) = false
is_other (Ok asks.Nothing) = false
is_other (Ok asks.Row) = false
is_other (Ok (asks.Stream name columns)) = false
is_other (Ok (asks.Query name query shared)) = false
is_other (Ok asks.Explain) = false
is_other (Ok (asks.Drop name)) = false
is_other (Ok asks.Other) = true
is_other (Ok (asks.Lock key streams)) = false
is_other (Ok asks.Unlock) = false

module _ (P : Result Asks Refusal → Bool) (b : Bool) where
  added-is : (a : Asks) (r : Result ℕ StreamError) → ((w : Refusal) → P (Err w) ≡ b) → P (Ok a) ≡ b → P (stream_asked a r) ≡ b
  added-is a (Err e) f h = f _
  added-is a (Ok n) f h = h

  named-is : (name : List ℕ) (shared : Bool) (r : Result QueryValue ResolveError) → ((w : Refusal) → P (Err w) ≡ b) → ((q : QueryValue) → P (Ok (asks.Query name q shared)) ≡ b) → P (query_named name shared r) ≡ b
  named-is name shared (Err e) f h = f _
  named-is name shared (Ok q) f h = h q

  either-is : (c : Bool) (x y : Result Asks Refusal) → P x ≡ b → P y ≡ b → P (cond c x y) ≡ b
  either-is true x y p q = p
  either-is false x y p q = q

-- a statement asks for neither a row nor nothing
stated-is : (streams : List Shape) (live : List (List ℕ)) (t : Statement) → is_stated (statement_asked streams live t) ≡ true
stated-is streams live (statements.CreateStream name columns) = added-is is_stated true (asks.Stream name columns) (added streams (record { name = name; columns = columns.items })) (λ w. refl) refl
stated-is streams live (statements.CreateQuery name select shared) =
    either-is is_stated true (is_live live name) _ _ refl (either-is is_stated true (nat_le 64 (length live)) _ _ refl (named-is is_stated true name shared (resolved streams select) (λ w. refl) (λ q. refl)))
stated-is streams live (statements.Explain name) = either-is is_stated true (is_live live name) _ _ refl refl
stated-is streams live (statements.DropQuery name) = either-is is_stated true (is_live live name) _ _ refl refl
stated-is streams live statements.Checkpoint = refl
stated-is streams live (statements.ResumeRows rows) = refl
stated-is streams live (statements.ResumeGiven name rows) = either-is is_stated true (is_live live name) _ _ refl refl
stated-is streams live (statements.ResumeCell name index content) = either-is is_stated true (is_live live name) _ _ refl refl
stated-is streams live (statements.ResumeTuple name values) = either-is is_stated true (is_live live name) _ _ refl refl
stated-is streams live (statements.Lock key names) =
    either-is is_stated true (not (all_differ names.items)) _ _ refl (either-is is_stated true (not (list_all (λ n. is_some (stream_number streams n)) names.items)) _ _ refl refl)
stated-is streams live (statements.Unlock key) = refl

-- the one statement but RESUME that is found so
other-is : (streams : List Shape) (live : List (List ℕ)) (t : Statement) → is_resume t ≡ false → is_other (statement_asked streams live t) ≡ true → t ≡ statements.Checkpoint
other-is streams live (statements.CreateStream name columns) n o =
    let f : is_other (statement_asked streams live (statements.CreateStream name columns)) ≡ false = added-is is_other false (asks.Stream name columns) (added streams (record { name = name; columns = columns.items })) (λ w. refl) refl in cc
other-is streams live (statements.CreateQuery name select shared) n o =
    let f : is_other (statement_asked streams live (statements.CreateQuery name select shared)) ≡ false =
    either-is is_other false (is_live live name) _ _ refl (either-is is_other false (nat_le 64 (length live)) _ _ refl (named-is is_other false name shared (resolved streams select) (λ w. refl) (λ q. refl))) in cc
other-is streams live (statements.Explain name) n o =
    let f : is_other (statement_asked streams live (statements.Explain name)) ≡ false = either-is is_other false (is_live live name) _ _ refl refl in cc
other-is streams live (statements.DropQuery name) n o =
    let f : is_other (statement_asked streams live (statements.DropQuery name)) ≡ false = either-is is_other false (is_live live name) _ _ refl refl in cc
other-is streams live statements.Checkpoint n o = refl
other-is streams live (statements.ResumeRows rows) n o = cc
other-is streams live (statements.ResumeGiven name rows) n o = cc
other-is streams live (statements.ResumeCell name index content) n o = cc
other-is streams live (statements.ResumeTuple name values) n o = cc
other-is streams live (statements.Lock key names) n o =
    let f : is_other (statement_asked streams live (statements.Lock key names)) ≡ false =
    either-is is_other false (not (all_differ names.items)) _ _ refl (either-is is_other false (not (list_all (λ n. is_some (stream_number streams n)) names.items)) _ _ refl refl) in cc
other-is streams live (statements.Unlock key) n o = cc

-- whether it is so of a statement that creates a stream
abbrev is_stream : Result Asks Refusal → Bool
is_stream (Err word) = false
is_stream (Ok asks.Nothing) = false
is_stream (Ok asks.Row) = false
is_stream (Ok (asks.Stream name columns)) = true
is_stream (Ok (asks.Query name query shared)) = false
is_stream (Ok asks.Explain) = false
is_stream (Ok (asks.Drop name)) = false
is_stream (Ok asks.Other) = false
is_stream (Ok (asks.Lock key streams)) = false
is_stream (Ok asks.Unlock) = false

-- what a line is found to ask for, of an open session or of a locked one
abbrev row : Result Asks Refusal
row = Ok asks.Row

abbrev other : Result Asks Refusal
other = Ok asks.Other

not-entry : (r : Result Entry RowError) → other ≡ row_asked r → ⊥
not-entry (Err e) h = cc
not-entry (Ok e) h = cc

row-kind : (streams : List Shape) (live : List (List ℕ)) (kind : LineKind) (text : List ℕ) → IsTextAsked streams live kind text row → is_row_kind kind ≡ true
row-kind streams live kinds.Nothing text h = cc
row-kind streams live kinds.RowLine text h = refl
row-kind streams live kinds.StatementLine text (found.outside none p) = cc
row-kind streams live kinds.StatementLine text (found.limited t w i l p) = cc
row-kind streams live kinds.StatementLine text (found.stated t i l p) = let e : false ≡ true = ap is_stated p ∙ stated-is streams live t in cc

-- a line that is found to be a row is a row line
pub row-line : (streams : List Shape) (live : List (List ℕ)) (line : List ℕ) → IsAsked streams live line row → is_row_kind (kind_of_line (stripped line)) ≡ true
row-line streams live line (found.too_long l p) = cc
row-line streams live line (found.fits l p) = row-kind streams live (kind_of_line (stripped line)) (stripped line) p

let-kind : (streams : List Shape) (kind : LineKind) (text : List ℕ) → row ≡ let_asked streams kind text → is_row_kind kind ≡ true
let-kind streams kinds.Nothing text h = cc
let-kind streams kinds.RowLine text h = refl
let-kind streams kinds.StatementLine text h = cc

pub row-line-locked : (streams : List Shape) (key : Option ℤ) (names : List (List ℕ)) (line : List ℕ) → IsLockedAsked streams key names line row → is_row_kind (kind_of_line (stripped line)) ≡ true
row-line-locked streams key names line (told.too_long l p) = cc
row-line-locked streams key names line (told.barred l n p) = cc
row-line-locked streams key names line (told.fits l lets p) = let-kind streams (kind_of_line (stripped line)) (stripped line) p

never-limit : (e : RowError) → refused (row_refusal e) ≡ refused RowLimit → ⊥
never-limit row_errors.Syntax h = cc
never-limit row_errors.Limit h = cc
never-limit row_errors.UnknownStream h = cc
never-limit row_errors.Arity h = cc
never-limit row_errors.Value h = cc
never-limit row_errors.Domain h = cc

entry-never-late : (r : Result Entry RowError) → entry_request true r ≡ refused RowLimit → ⊥
entry-never-late (Err e) h = never-limit e h
entry-never-late (Ok e) h = cc

text-never-late : (s : State) (kind : LineKind) (text : List ℕ) (request : Request) → has_room s ≡ true → is_row_kind kind ≡ true → IsTextRequest s kind text request → request ≡ refused RowLimit → ⊥
text-never-late s kinds.Nothing text request room is q h = cc
text-never-late s kinds.RowLine text request room is q h = entry-never-late (row_of s.streams text) (ap (λ b. entry_request b (row_of s.streams text)) (sym room) ∙ sym q ∙ h)
text-never-late s kinds.StatementLine text request room is q h = cc

-- a row line is not refused for its number while one more row may be taken
pub never-late : (s : State) (line : List ℕ) (request : Request) → has_room s ≡ true → is_row_kind (kind_of_line (stripped line)) ≡ true → IsRequest s line request → request ≡ refused RowLimit → ⊥
never-late s line request room is (session.too_long l q) h = cc
never-late s line request room is (session.barred l n q) h = cc
never-late s line request room is (session.fits l lets q) h = text-never-late s (kind_of_line (stripped line)) (stripped line) request room is q h

text-saved : (s : State) (text : List ℕ) (t : Statement) (request : Request) → IsStatement text t → t ≡ statements.Checkpoint → IsStatementRequest s text request → request ≡ saved
text-saved s text t request i is (session.outside none q) = absurd (none t i)
text-saved s text t request i is (session.limited u v j m q) = absurd (limits_differ u statements.Checkpoint v (one_statement text u t j i ∙ is) m refl)
text-saved s text t request i is (session.stated u j m q) = q ∙ ap (statement_request s) (one_statement text u t j i ∙ is)

kind-saved : (s : State) (live : List (List ℕ)) (kind : LineKind) (text : List ℕ) (request : Request) → ((t : Statement) → IsStatement text t → is_resume t ≡ false) → IsTextAsked s.streams live kind text other
    → IsTextRequest s kind text request → request ≡ saved
kind-saved s live kinds.Nothing text request none p q = cc
kind-saved s live kinds.RowLine text request none p q = absurd (not-entry (row_of s.streams text) p)
kind-saved s live kinds.StatementLine text request none (found.outside n p) q = cc
kind-saved s live kinds.StatementLine text request none (found.limited t w i l p) q = cc
kind-saved s live kinds.StatementLine text request none (found.stated t i l p) q = text-saved s text t request i (other-is s.streams live t (none t i) (ap is_other (sym p))) q

-- a line that is no RESUME line is read as no statement of this kind
pub none-resumes : (line : List ℕ) → (¬ IsResumeLine line) → (t : Statement) → IsStatement (stripped line) t → is_resume t ≡ false
none-resumes line n t i = by (is_resume t) refl
  where
    by : (b : Bool) → is_resume t ≡ b → b ≡ false
    by true e = absurd (n (record { statement = t; spells = i; resumes = e }))
    by false e = refl

-- in an open session a line that is found to be of a checkpoint, and is no RESUME line, asks for one
pub other-saved : (s : State) (live : List (List ℕ)) (line : List ℕ) (request : Request) → s.lock ≡ None → (¬ IsResumeLine line) → IsAsked s.streams live line other → IsRequest s line request → request ≡ saved
other-saved s live line request idle none (found.too_long l p) q = cc
other-saved s live line request idle none (found.fits l p) (session.too_long m q) = absurd (omega (arith, l, m))
other-saved s live line request idle none (found.fits l p) (session.barred m n q) = absurd (n (all_let s line idle))
other-saved s live line request idle none (found.fits l p) (session.fits m lets q) = kind-saved s live (kind_of_line (stripped line)) (stripped line) request (none-resumes line none) p q

-- a stream that can be added stands behind the others
behind-others : (a b : Bool) (n m : ℕ) (e f : StreamError) (streams more : List Shape) → cond a (Err e) (cond b (Ok n) (Err f)) ≡ Ok m → cond a streams (cond b more streams) ≡ more
behind-others true b n m e f streams more h = cc
behind-others false true n m e f streams more h = refl
behind-others false false n m e f streams more h = cc

-- the stream that was asked for is the one that was found
by-added : (streams : List Shape) (name other_name : List ℕ) (columns other_columns : ArrayVec ColumnDef) (r : Result ℕ StreamError) → added streams (record { name = other_name; columns = other_columns.items }) ≡ r
    → (let this : Result Asks Refusal = Ok (asks.Stream name columns) in this ≡ stream_asked (asks.Stream other_name other_columns) r)
    → with_stream streams (record { name = name; columns = columns.items }) ≡ streams ++ record { name = name; columns = columns.items } ∷ []
by-added streams name other_name columns other_columns (Err e) is h = cc
by-added streams name other_name columns other_columns (Ok n) is h =
    let names : name ≡ other_name = cc in
    let lists : columns ≡ other_columns = cc in
    let same : added streams (record { name = name; columns = columns.items }) ≡ Ok n = ap (λ l. added streams (record { name = l; columns = columns.items })) names ∙ ap (λ (c : ArrayVec ColumnDef). added streams (record { name = other_name; columns = c.items })) lists ∙ is in
    behind-others (is_duplicate streams (record { name = name; columns = columns.items })) (nat_lt (length streams) 16) (length streams) n stream_errors.Duplicate stream_errors.TooMany streams _ same

by-statement : (streams : List Shape) (live : List (List ℕ)) (name : List ℕ) (columns : ArrayVec ColumnDef) (t : Statement) → (let this : Result Asks Refusal = Ok (asks.Stream name columns) in this ≡ statement_asked streams live t)
    → with_stream streams (record { name = name; columns = columns.items }) ≡ streams ++ record { name = name; columns = columns.items } ∷ []
by-statement streams live name columns (statements.CreateStream other_name other_columns) p = by-added streams name other_name columns other_columns _ refl p
by-statement streams live name columns (statements.CreateQuery query_name select shared) p =
    let f : is_stream (statement_asked streams live (statements.CreateQuery query_name select shared)) ≡ false =
    either-is is_stream false (is_live live query_name) _ _ refl (either-is is_stream false (nat_le 64 (length live)) _ _ refl (named-is is_stream false query_name shared (resolved streams select) (λ w. refl) (λ q. refl))) in
    let e : true ≡ false = ap is_stream p ∙ f in cc
by-statement streams live name columns (statements.Explain query_name) p = let e : true ≡ false = ap is_stream p ∙ either-is is_stream false (is_live live query_name) _ _ refl refl in cc
by-statement streams live name columns (statements.DropQuery query_name) p = let e : true ≡ false = ap is_stream p ∙ either-is is_stream false (is_live live query_name) _ _ refl refl in cc
by-statement streams live name columns statements.Checkpoint p = cc
by-statement streams live name columns (statements.ResumeRows rows) p = cc
by-statement streams live name columns (statements.ResumeGiven query_name rows) p = let e : true ≡ false = ap is_stream p ∙ either-is is_stream false (is_live live query_name) _ _ refl refl in cc
by-statement streams live name columns (statements.ResumeCell query_name index content) p = let e : true ≡ false = ap is_stream p ∙ either-is is_stream false (is_live live query_name) _ _ refl refl in cc
by-statement streams live name columns (statements.ResumeTuple query_name values) p = let e : true ≡ false = ap is_stream p ∙ either-is is_stream false (is_live live query_name) _ _ refl refl in cc
by-statement streams live name columns (statements.Lock key names) p =
    let f : is_stream (statement_asked streams live (statements.Lock key names)) ≡ false =
    either-is is_stream false (not (all_differ names.items)) _ _ refl (either-is is_stream false (not (list_all (λ n. is_some (stream_number streams n)) names.items)) _ _ refl refl) in
    let e : true ≡ false = ap is_stream p ∙ f in cc
by-statement streams live name columns (statements.Unlock key) p = cc

no-row-stream : (name : List ℕ) (columns : ArrayVec ColumnDef) (r : Result Entry RowError) → (let this : Result Asks Refusal = Ok (asks.Stream name columns) in this ≡ row_asked r) → ⊥
no-row-stream name columns (Err e) h = cc
no-row-stream name columns (Ok e) h = cc

by-kind : (streams : List Shape) (live : List (List ℕ)) (name : List ℕ) (columns : ArrayVec ColumnDef) (kind : LineKind) (text : List ℕ) → IsTextAsked streams live kind text (Ok (asks.Stream name columns))
    → with_stream streams (record { name = name; columns = columns.items }) ≡ streams ++ record { name = name; columns = columns.items } ∷ []
by-kind streams live name columns kinds.Nothing text h = cc
by-kind streams live name columns kinds.RowLine text h = absurd (no-row-stream name columns (row_of streams text) h)
by-kind streams live name columns kinds.StatementLine text (found.outside none p) = cc
by-kind streams live name columns kinds.StatementLine text (found.limited t w i l p) = cc
by-kind streams live name columns kinds.StatementLine text (found.stated t i l p) = by-statement streams live name columns t p

-- a stream that a line is found to ask for is added behind the others
pub stream-added : (streams : List Shape) (live : List (List ℕ)) (line : List ℕ) (name : List ℕ) (columns : ArrayVec ColumnDef) → IsAsked streams live line (Ok (asks.Stream name columns))
    → with_stream streams (record { name = name; columns = columns.items }) ≡ streams ++ record { name = name; columns = columns.items } ∷ []
stream-added streams live line name columns (found.too_long l p) = cc
stream-added streams live line name columns (found.fits l p) = by-kind streams live name columns (kind_of_line (stripped line)) (stripped line) p

-- of what a locked line is found to ask for
module _ (P : Result Asks Refusal → Bool) (fault : (w : Refusal) → P (Err w) ≡ false) (nothing : P (Ok asks.Nothing) ≡ false) (taken_row : P (Ok asks.Row) ≡ false) (unlock : P (Ok asks.Unlock) ≡ false) where
  entry-not : (r : Result Entry RowError) → P (row_asked r) ≡ false
  entry-not (Err e) = fault _
  entry-not (Ok e) = taken_row

  let-not : (streams : List Shape) (kind : LineKind) (text : List ℕ) → P (let_asked streams kind text) ≡ false
  let-not streams kinds.Nothing text = nothing
  let-not streams kinds.RowLine text = entry-not (row_of streams text)
  let-not streams kinds.StatementLine text = unlock

  locked-not : (streams : List Shape) (key : Option ℤ) (names : List (List ℕ)) (line : List ℕ) (r : Result Asks Refusal) → IsLockedAsked streams key names line r → P r ≡ false
  locked-not streams key names line r (told.too_long l p) = ap P p ∙ fault _
  locked-not streams key names line r (told.barred l n p) = ap P p ∙ fault _
  locked-not streams key names line r (told.fits l lets p) = ap P p ∙ let-not streams (kind_of_line (stripped line)) (stripped line)

-- it is neither a stream nor a line of a checkpoint
pub locked-no-stream : (streams : List Shape) (key : Option ℤ) (names : List (List ℕ)) (line : List ℕ) (name : List ℕ) (columns : ArrayVec ColumnDef) → IsLockedAsked streams key names line (Ok (asks.Stream name columns)) → ⊥
locked-no-stream streams key names line name columns h = let e : true ≡ false = locked-not is_stream (λ w. refl) refl refl refl streams key names line (Ok (asks.Stream name columns)) h in cc

pub locked-no-other : (streams : List Shape) (key : Option ℤ) (names : List (List ℕ)) (line : List ℕ) → IsLockedAsked streams key names line other → ⊥
locked-no-other streams key names line h = let e : true ≡ false = locked-not is_other (λ w. refl) refl refl refl streams key names line other h in cc
