-- Rows are answered by their queries' meaning where no query goes on from a checkpoint, and all replies are told by few definitions where none asks what is kept.
use Rattle.std.proofs.Common.{◌≡◌, ℕ, zero, suc, Bool, true, false, List, [], ◌∷◌, ◌++◌, map, replicate, cond, refl, sym, ap, ap₂, subst, All, not, ℤ, Option, Some, None}
use Rattle.std.proofs.lemmas.List.Elements.{All-head, All-tail}
use Rattle.std.specs.List.{flat_map, list_all}
use Rattle.std.specs.Str.{bytes_eq}
use Rattle.std.specs.declared.result.Result.{Result}
use Rattle.std.specs.declared.result.Result.TheVariants.{Ok, Err}
use Rattle.sql_text.specs.Tuple.{tuple_line}
use Rattle.sql_text.specs.Lines.{lines}
use Rattle.sem_query.specs.declared.cell.Cell.{Cell}
use Rattle.sem_query.specs.Query.{QueryValue}
use Rattle.sem_query.specs.Meaning.{Arrival, new_answers}
use Rattle.sem_query.specs.declared.plan.Plan.{Plan}
use Rattle.sql_catalog.specs.Rows.{Entry, row_of}
use Rattle.sql_catalog.specs.Streams.{added}
use Rattle.sql_catalog.specs.declared.row_error.RowError.{RowError}
use Rattle.sql_catalog.specs.declared.stream_error.StreamError.{StreamError}
use Rattle.sql_parser.specs.declared.line.LineKind.{LineKind}
use Rattle.sql_parser.specs.declared.line.LineKind.TheVariants as kinds
use Rattle.sql_parser.specs.declared.tree.Statement.{Statement}
use Rattle.sql_parser.specs.declared.tree.Statement.TheVariants as statements
use Rattle.sql_parser.specs.LineKind.{stripped, kind_of_line}
use Rattle.sql_parser.specs.Syntax.{IsStatement}
use Rattle.exec_query.specs.Bases.{is_fresh}
use Rattle.exec_restore.specs.Loadable.{is_empty}
use Rattle.sem_query.specs.Sharing.{sizes_in}
use Rattle.exec_registry.specs.Live.{LiveQuery, answers_of, boxes_for, newly, without, with_row}
use Rattle.sql_replies.specs.declared.refusal.Refusal.{Refusal}
use Rattle.sql_replies.specs.declared.refusal.Refusal.TheVariants.{LineTooLong, Locked, Syntax, Limit, RowLimit, UnknownQuery}
use Rattle.cmd_session.specs.Request.{Request, silent, created, asked, explained, dropped, taken, saved, resumed, based, locked, unlocked, refused}
use Rattle.cmd_session.specs.Lock.{Lock}
use Rattle.cmd_session.specs.Requests.{IsRequest, too_long, barred, fits, IsTextRequest, outside, limited, stated, entry_request, stream_request, found_request, is_live, query_of, opened_by, lock_request, unlock_request, statement_request}
use Rattle.cmd_session.specs.Answer.{Answer}
use Rattle.cmd_session.specs.Answers.{IsAnswer, Settles, accepted, rejected}
use Rattle.cmd_session.specs.State.{State, empty, initial, next_of, after, live_names}
use Rattle.cmd_session.specs.Replies.{answers_to, reply_to, replies, AreAnswers}
use Rattle.law_resume.specs.Continuing.{is_resume, IsResumeLine}
use Rattle.law_plain_texts.specs.Rows.{new_lines, RowsAreAnswered}
use Rattle.law_plain_texts.specs.Texts.{is_look, IsLookLine, RepliesPlainly, AreRepliedPlainly, TextsArePlain}

-- a line that goes on from no checkpoint, and one that asks nothing of what is kept
abbrev NoResume : List ℕ → Type 0
NoResume line = ¬ IsResumeLine line

abbrev NoLook : List ℕ → Type 0
NoLook line = ¬ IsLookLine line

-- a line that is no RESUME line is read as no statement of the kind
none-resumes : (line : List ℕ) → NoResume line → (st : Statement) → IsStatement (stripped line) st → not (is_resume st) ≡ true
none-resumes line n st i = by (is_resume st) refl
  where
    by : (b : Bool) → is_resume st ≡ b → not b ≡ true
    by true e = absurd (n (record { statement = st; spells = i; resumes = e }))
    by false e = refl

none-looks : (line : List ℕ) → NoLook line → (st : Statement) → IsStatement (stripped line) st → not (is_look st) ≡ true
none-looks line n st i = by (is_look st) refl
  where
    by : (b : Bool) → is_look st ≡ b → not b ≡ true
    by true e = absurd (n (record { statement = st; spells = i; looks = e }))
    by false e = refl

-- each query goes on from nothing
abbrev AreFresh : List LiveQuery → Type 0
AreFresh [] = Unit {0}
AreFresh (q ∷ queries) = (is_fresh q.base ≡ true) × AreFresh queries

all-empty : (n : ℕ) → list_all is_empty (replicate n Cell.Empty) ≡ true
all-empty zero = refl
all-empty (suc n) = all-empty n

newly-fresh : (name : List ℕ) (query : QueryValue) (shared : Bool) (plan : Plan) → is_fresh (newly name query shared plan).base ≡ true
newly-fresh name query shared plan = all-empty (sizes_in (boxes_for query shared plan))

more-fresh : (queries : List LiveQuery) (q : LiveQuery) → AreFresh queries → is_fresh q.base ≡ true → AreFresh (queries ++ q ∷ [])
more-fresh [] q f g = (g, tt)
more-fresh (r ∷ queries) q f g = (f.0, more-fresh queries q f.1 g)

without-fresh : (name : List ℕ) (queries : List LiveQuery) → AreFresh queries → AreFresh (without name queries)
without-fresh name [] f = tt
without-fresh name (q ∷ queries) f = by (bytes_eq q.name name) (without-fresh name queries f.1)
  where
    by : (b : Bool) → AreFresh (without name queries) → AreFresh (cond b queries (q ∷ without name queries))
    by true h = f.1
    by false h = (f.0, h)

row-fresh : (r : Arrival) (queries : List LiveQuery) → AreFresh queries → AreFresh (map (with_row r) queries)
row-fresh r [] f = tt
row-fresh r (q ∷ queries) f = (f.0, row-fresh r queries f.1)

answers-fresh : (r : Arrival) (q : LiveQuery) → is_fresh q.base ≡ true → answers_of r q ≡ new_answers q.query q.history r
answers-fresh r q f = rw f refl

-- so the live queries answer their new answers
lines-fresh : (r : Arrival) (queries : List LiveQuery) → AreFresh queries → flat_map (answers_to r) queries ≡ new_lines r queries
lines-fresh r [] f = refl
lines-fresh r (q ∷ queries) f = ap₂ (λ (x y : List ℕ). x ++ y) (ap (flat_map (tuple_line q.name)) (answers-fresh r q f.0)) (lines-fresh r queries f.1)

-- what holds of each request that is no statement's holds of what a line asks for
record Allows (P : Request → Type 0) : Type 0 where
  nothing : P silent
  row : (stream : ℕ) (values : List ℤ) → P (taken stream values)
  word : (w : Refusal) → P (refused w)

module _ (P : Request → Type 0) (a : Allows P) (s : State) where
  entry-allowed : (room : Bool) (r : Result Entry RowError) → P (entry_request room r)
  entry-allowed room (Err e) = a.word _
  entry-allowed true (Ok e) = a.row e.stream e.values
  entry-allowed false (Ok e) = a.word RowLimit

  text-allowed : (text : List ℕ) (request : Request) → ((st : Statement) → IsStatement text st → P (statement_request s st)) → (kind : LineKind) → IsTextRequest s kind text request → P request
  text-allowed text request f kinds.Nothing e = subst P (sym e) a.nothing
  text-allowed text request f kinds.RowLine e = subst P (sym e) (entry-allowed _ (row_of s.streams text))
  text-allowed text request f kinds.StatementLine (outside n e) = subst P (sym e) (a.word Syntax)
  text-allowed text request f kinds.StatementLine (limited st what i l e) = subst P (sym e) (a.word Limit)
  text-allowed text request f kinds.StatementLine (stated st i l e) = subst P (sym e) (f st i)

  line-allowed : (line : List ℕ) (request : Request) → ((st : Statement) → IsStatement (stripped line) st → P (statement_request s st)) → IsRequest s line request → P request
  line-allowed line request f (too_long l e) = subst P (sym e) (a.word LineTooLong)
  line-allowed line request f (barred l n e) = subst P (sym e) (a.word Locked)
  line-allowed line request f (fits l o t) = text-allowed (stripped line) request f (kind_of_line (stripped line)) t

-- requests that set no base, and those that tell nothing of what is kept either
abbrev SetsNone : Request → Type 0
SetsNone silent = Unit {0}
SetsNone (created name columns) = Unit {0}
SetsNone (asked name query shared) = Unit {0}
SetsNone (explained name) = Unit {0}
SetsNone (dropped name) = Unit {0}
SetsNone (taken stream values) = Unit {0}
SetsNone saved = Unit {0}
SetsNone (resumed n) = ⊥
SetsNone (based name base) = ⊥
SetsNone (locked lock) = Unit {0}
SetsNone unlocked = Unit {0}
SetsNone (refused word) = Unit {0}

abbrev IsPlainly : Request → Type 0
IsPlainly silent = Unit {0}
IsPlainly (created name columns) = Unit {0}
IsPlainly (asked name query shared) = Unit {0}
IsPlainly (explained name) = ⊥
IsPlainly (dropped name) = Unit {0}
IsPlainly (taken stream values) = Unit {0}
IsPlainly saved = ⊥
IsPlainly (resumed n) = ⊥
IsPlainly (based name base) = ⊥
IsPlainly (locked lock) = Unit {0}
IsPlainly unlocked = Unit {0}
IsPlainly (refused word) = Unit {0}

sets-none : Allows SetsNone
sets-none = record { nothing = tt; row = λ stream values. tt; word = λ w. tt }

is-plainly : Allows IsPlainly
is-plainly = record { nothing = tt; row = λ stream values. tt; word = λ w. tt }

statement-sets : (s : State) (st : Statement) → not (is_resume st) ≡ true → SetsNone (statement_request s st)
statement-sets s (statements.CreateStream name columns) h = by (added s.streams record { name = name; columns = columns.items })
  where
    by : (r : Result ℕ StreamError) → SetsNone (stream_request name columns.items r)
    by (Ok n) = tt
    by (Err e) = tt
statement-sets s (statements.CreateQuery name select shared) h = by (query_of s.streams (live_names s) name select)
  where
    by : (r : Result QueryValue Refusal) → SetsNone (found_request name shared r)
    by (Ok q) = tt
    by (Err e) = tt
statement-sets s (statements.Explain name) h = by (is_live (live_names s) name)
  where
    by : (b : Bool) → SetsNone (cond b (explained name) (refused UnknownQuery))
    by true = tt
    by false = tt
statement-sets s (statements.DropQuery name) h = by (is_live (live_names s) name)
  where
    by : (b : Bool) → SetsNone (cond b (dropped name) (refused UnknownQuery))
    by true = tt
    by false = tt
statement-sets s statements.Checkpoint h = tt
statement-sets s (statements.ResumeRows rows) h = absurd cc
statement-sets s (statements.ResumeGiven name rows) h = absurd cc
statement-sets s (statements.ResumeCell name index content) h = absurd cc
statement-sets s (statements.ResumeTuple name values) h = absurd cc
statement-sets s (statements.Lock key streams) h = by (opened_by s.streams streams.items)
  where
    by : (r : Result (Option (List ℕ)) Refusal) → SetsNone (lock_request key r)
    by (Ok opened) = tt
    by (Err e) = tt
statement-sets s (statements.Unlock key) h = by s.lock
  where
    by : (l : Option Lock) → SetsNone (unlock_request l)
    by None = tt
    by (Some l) = tt

statement-plainly : (s : State) (st : Statement) → not (is_resume st) ≡ true → not (is_look st) ≡ true → IsPlainly (statement_request s st)
statement-plainly s (statements.CreateStream name columns) h l = by (added s.streams record { name = name; columns = columns.items })
  where
    by : (r : Result ℕ StreamError) → IsPlainly (stream_request name columns.items r)
    by (Ok n) = tt
    by (Err e) = tt
statement-plainly s (statements.CreateQuery name select shared) h l = by (query_of s.streams (live_names s) name select)
  where
    by : (r : Result QueryValue Refusal) → IsPlainly (found_request name shared r)
    by (Ok q) = tt
    by (Err e) = tt
statement-plainly s (statements.Explain name) h l = absurd cc
statement-plainly s (statements.DropQuery name) h l = by (is_live (live_names s) name)
  where
    by : (b : Bool) → IsPlainly (cond b (dropped name) (refused UnknownQuery))
    by true = tt
    by false = tt
statement-plainly s statements.Checkpoint h l = absurd cc
statement-plainly s (statements.ResumeRows rows) h l = absurd cc
statement-plainly s (statements.ResumeGiven name rows) h l = absurd cc
statement-plainly s (statements.ResumeCell name index content) h l = absurd cc
statement-plainly s (statements.ResumeTuple name values) h l = absurd cc
statement-plainly s (statements.Lock key streams) h l = by (opened_by s.streams streams.items)
  where
    by : (r : Result (Option (List ℕ)) Refusal) → IsPlainly (lock_request key r)
    by (Ok opened) = tt
    by (Err e) = tt
statement-plainly s (statements.Unlock key) h l = by s.lock
  where
    by : (k : Option Lock) → IsPlainly (unlock_request k)
    by None = tt
    by (Some k) = tt

-- a line that sets no base leaves each query going on from nothing
next-fresh : (s : State) (answer : Answer) → AreFresh s.queries → (request : Request) → SetsNone request → Settles s request answer → AreFresh (next_of s answer).queries
next-fresh s answer f request n h = at request n h
  where
    same : (a : Answer) → answer ≡ a → AreFresh (next_of s a).queries → AreFresh (next_of s answer).queries
    same a e g = subst (λ b. AreFresh (next_of s b).queries) (sym e) g

    at : (request : Request) → SetsNone request → Settles s request answer → AreFresh (next_of s answer).queries
    at silent n e = same _ e f
    at (created name columns) n e = same _ e f
    at (asked name query shared) n (accepted plan p v e) = same _ e (more-fresh s.queries _ f (newly-fresh name query shared plan))
    at (asked name query shared) n (rejected verdict v r e) = same _ e f
    at (explained name) n e = same _ e f
    at (dropped name) n e = same _ e (without-fresh name s.queries f)
    at (taken stream values) n e = same _ e (row-fresh _ s.queries f)
    at saved n e = same _ e f
    at (resumed m) n e = elim n [ ]
    at (based name base) n e = elim n [ ]
    at (locked lock) n e = same _ e f
    at unlocked n e = same _ e f
    at (refused word) n e = same _ e f

line-fresh : (s : State) (line : List ℕ) (answer : Answer) → AreFresh s.queries → IsAnswer s line answer
    → NoResume line → AreFresh (next_of s answer).queries
line-fresh s line answer f i none =
    next-fresh s answer f i.request (line-allowed SetsNone sets-none s line i.request (λ st o. statement-sets s st (none-resumes line none st o)) i.asks) i.settles

after-fresh : (s : State) → AreFresh s.queries → (front : List (List ℕ)) (answers : List Answer) → AreAnswers s front answers → All NoResume front → AreFresh (after s answers).queries
unfolding after
after-fresh s f [] [] a none = f
after-fresh s f [] (answer ∷ others) a none = elim a [ ]
after-fresh s f (line ∷ front) [] a none = elim a [ ]
after-fresh s f (line ∷ front) (answer ∷ others) a none =
    after-fresh (next_of s answer) (line-fresh s line answer f a.0 (All-head NoResume line front none)) front others a.1 (All-tail NoResume line front none)

pub rows-are-answered : RowsAreAnswered
rows-are-answered limit pages front answers a none stream values =
    lines-fresh record { stream = stream; values = values } (after (initial limit pages) answers).queries (after-fresh (initial limit pages) tt front answers a none)

-- the reply to a line of the plain kinds
reply-plainly : (s : State) (answer : Answer) → AreFresh s.queries → (request : Request) → IsPlainly request → Settles s request answer → RepliesPlainly s answer (reply_to s answer)
reply-plainly s answer f request n h = at request n h
  where
    same : (a : Answer) → answer ≡ a → RepliesPlainly s a (reply_to s a) → RepliesPlainly s answer (reply_to s answer)
    same a e g = subst (λ b. RepliesPlainly s b (reply_to s b)) (sym e) g

    at : (request : Request) → IsPlainly request → Settles s request answer → RepliesPlainly s answer (reply_to s answer)
    at silent n e = same _ e refl
    at (created name columns) n e = same _ e refl
    at (asked name query shared) n (accepted plan p v e) = same _ e refl
    at (asked name query shared) n (rejected verdict v r e) = same _ e refl
    at (explained name) n e = elim n [ ]
    at (dropped name) n e = same _ e refl
    at (taken stream values) n e = same _ e (lines-fresh record { stream = stream; values = values } s.queries f)
    at saved n e = elim n [ ]
    at (resumed m) n e = elim n [ ]
    at (based name base) n e = elim n [ ]
    at (locked lock) n e = same _ e refl
    at unlocked n e = same _ e refl
    at (refused word) n e = same _ e refl

replied : (s : State) → AreFresh s.queries → (front : List (List ℕ)) (answers : List Answer) → AreAnswers s front answers → All NoResume front → All NoLook front
    → AreRepliedPlainly s answers (replies s answers)
unfolding replies
replied s f [] [] a none looks = refl
replied s f [] (answer ∷ others) a none looks = elim a [ ]
replied s f (line ∷ front) [] a none looks = elim a [ ]
replied s f (line ∷ front) (answer ∷ others) a none looks =
    let resume : NoResume line = All-head NoResume line front none in
    let look : NoLook line = All-head NoLook line front looks in (
      reply_to s answer,
      replies (next_of s answer) others,
      refl,
      reply-plainly s answer f a.0.request
          (line-allowed IsPlainly is-plainly s line a.0.request (λ st o. statement-plainly s st (none-resumes line resume st o) (none-looks line look st o)) a.0.asks) a.0.settles,
      replied (next_of s answer) (line-fresh s line answer f a.0 resume) front others a.1 (All-tail NoResume line front none) (All-tail NoLook line front looks),
    )

pub texts-are-plain : TextsArePlain
texts-are-plain limit text written r none looks = record {
  answers = r.answers;
  answered = r.answered;
  replied = subst (AreRepliedPlainly (empty limit) r.answers) (sym r.replied) (replied (empty limit) tt (lines text) r.answers r.answered none looks);
}
