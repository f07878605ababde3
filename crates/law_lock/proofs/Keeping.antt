-- What lines under a lock leave as it was.
use Rattle.std.proofs.Common.{◌≡◌, ◌≢◌, ℕ, ℤ, ◌+◌, ◌-◌, ◌≤◌, List, [], ◌∷◌, ◌++◌, map, length, length-append, append_assoc, append-nil, Option, Some, None, refl, sym, ap, ap₂, ◌∙◌, subst, arith, IsTrue}
use Rattle.std.specs.List.{sum_by}
use Rattle.std.proofs.lemmas.List.Elements.{All-append, All-cons, All-nil}
use Rattle.std.proofs.lemmas.List.Sums.{sum_by-cons}
use Rattle.sem_query.specs.Meaning.{Arrival}
use Rattle.sem_query.specs.Numbers.{pages_of}
use Rattle.exec_registry.specs.Live.{LiveQuery, with_row}
use Rattle.io_row_reader.specs.Open.{is_open}
use Rattle.cmd_session.specs.Answer.{Answer, plain}
use Rattle.cmd_session.specs.Answers.{IsAnswer, Settles}
use Rattle.cmd_session.specs.declared.outcome.LineOutcome.{LineOutcome}
use Rattle.cmd_session.specs.declared.outcome.LineOutcome.TheVariants.{Memory}
use Rattle.cmd_session.specs.Lock.{Lock}
use Rattle.cmd_session.specs.Request.{Request, silent, taken, saved, unlocked, refused}
use Rattle.cmd_session.specs.Session.{Does, creates}
use Rattle.cmd_session.specs.State.{State, one_line_more, next_of, after}
use Rattle.law_lock.specs.Kept.{row_in, rows_in, with_rows, HaveRows, IsKept, LockKeeps, CheckpointsHaveNoLock, NoneLacksMemory}
use Rattle.law_lock.specs.Lets.{IsLetRequest, nothing, row, unlocks, refuses}
use Rattle.law_lock.proofs.Classes.{lines_are_few_kinds}

-- what a line comes to under a lock that it does not take away: nothing but one line more, or a row of an open stream
pub data IsLetAnswer (lock : Lock) (answer : Answer) : Type 0 where
  idle : row_in answer ≡ [] → ((s : State) → next_of s answer ≡ one_line_more s) → IsLetAnswer lock answer
  rowed : (stream : ℕ) → (values : List ℤ) → IsTrue (is_open lock.opened stream) → answer ≡ plain (taken stream values) → IsLetAnswer lock answer

pub let_answer : (s : State) (lock : Lock) (line : List ℕ) (answer : Answer) → s.lock ≡ Some lock → IsAnswer s line answer → answer ≢ plain unlocked → IsLetAnswer lock answer
let_answer s lock line answer e is apart = by (lines_are_few_kinds s lock line is.request e is.asks)
  where
    by : IsLetRequest lock line is.request → IsLetAnswer lock answer
    by (nothing p) = (let a : answer ≡ plain silent = subst (λ r. Settles s r answer) p is.settles in idle (ap row_in a) (λ t. ap (next_of t) a))
    by (row stream values opens p) = rowed stream values opens (subst (λ r. Settles s r answer) p is.settles)
    by (unlocks key k u p) = absurd (apart (subst (λ r. Settles s r answer) p is.settles))
    by (refuses word p) = (let a : answer ≡ plain (refused word) = subst (λ r. Settles s r answer) p is.settles in idle (ap row_in a) (λ t. ap (next_of t) a))

-- no row, one row, and rows after rows
rows_none : (queries : List LiveQuery) → HaveRows [] queries queries
rows_none [] = tt
rows_none (q ∷ queries) = (ap (λ (h : List Arrival). record q { history = h }) (sym (append-nil q.history)), rows_none queries)

rows_one : (r : Arrival) (queries : List LiveQuery) → HaveRows (r ∷ []) queries (map (with_row r) queries)
rows_one r [] = tt
rows_one r (q ∷ queries) = (refl, rows_one r queries)

rows_more : (rows more : List Arrival) (qs ps rs : List LiveQuery) → HaveRows rows qs ps → HaveRows more ps rs → HaveRows (rows ++ more) qs rs
rows_more rows more [] [] [] h k = tt
rows_more rows more [] [] (r ∷ rs) h k = absurd k
rows_more rows more [] (p ∷ ps) rs h k = absurd h
rows_more rows more (q ∷ qs) [] rs h k = absurd h
rows_more rows more (q ∷ qs) (p ∷ ps) [] h k = absurd k
rows_more rows more (q ∷ qs) (p ∷ ps) (r ∷ rs) h k =
    (k.0 ∙ ap (with_rows more) h.0 ∙ ap (λ (l : List Arrival). record q { history = l }) (append_assoc q.history rows more), rows_more rows more qs ps rs h.1 k.1)

abbrev pages : List LiveQuery → ℕ
pages queries = sum_by (λ (q : LiveQuery). pages_of q.plan) queries

pages_same : (rows : List Arrival) (qs ps : List LiveQuery) → HaveRows rows qs ps → pages ps ≡ pages qs
pages_same rows [] [] h = refl
pages_same rows [] (p ∷ ps) h = absurd h
pages_same rows (q ∷ qs) [] h = absurd h
pages_same rows (q ∷ qs) (p ∷ ps) h =
    sum_by-cons (λ (x : LiveQuery). pages_of x.plan) p ps ∙ ap₂ (λ (m n : ℕ). m + n) (ap (λ (x : LiveQuery). pages_of x.plan) h.0) (pages_same rows qs ps h.1) ∙ sym (sum_by-cons (λ (x : LiveQuery). pages_of x.plan) q qs)

-- one line
kept_one : (s : State) (lock : Lock) (answer : Answer) → IsLetAnswer lock answer → IsKept lock s (next_of s answer) (row_in answer)
kept_one s lock answer (idle none next) =
    subst (IsKept lock s (next_of s answer)) (sym none) (subst (λ t. IsKept lock s t []) (sym (next s)) (record {
      limit = refl;
      streams = refl;
      stays = refl;
      queries = rows_none s.queries;
      pages = refl;
      size = refl;
      taken = omega arith;
      opens = All-nil (λ (r : Arrival). IsTrue (is_open lock.opened r.stream));
    }))
kept_one s lock answer (rowed stream values opens e) =
    let r : Arrival = record { stream = stream; values = values } in
    let have = rows_one r s.queries in
    subst (λ (x : Answer). IsKept lock s (next_of s x) (row_in x)) (sym e) (record {
      limit = refl;
      streams = refl;
      stays = refl;
      queries = have;
      pages = ap (λ n. s.pages - n) (pages_same (r ∷ []) s.queries (map (with_row r) s.queries) have);
      size = refl;
      taken = omega arith;
      opens = All-cons (λ (x : Arrival). IsTrue (is_open lock.opened x.stream)) r [] opens (All-nil (λ (x : Arrival). IsTrue (is_open lock.opened x.stream)));
    })

kept_more : (lock : Lock) (s t u : State) (rows more : List Arrival) → IsKept lock s t rows → IsKept lock t u more → IsKept lock s u (rows ++ more)
kept_more lock s t u rows more h k = record {
  limit = k.limit ∙ h.limit;
  streams = k.streams ∙ h.streams;
  stays = k.stays ∙ h.stays;
  queries = rows_more rows more s.queries t.queries u.queries h.queries k.queries;
  pages = k.pages ∙ h.pages;
  size = k.size ∙ h.size;
  taken = omega (arith, k.taken, h.taken, length-append rows more);
  opens = All-append (λ (r : Arrival). IsTrue (is_open lock.opened r.stream)) rows more h.opens k.opens;
}

one_row : (lock : Lock) (answer : Answer) → IsLetAnswer lock answer → length (row_in answer) ≤ 1
one_row lock answer (idle none next) = omega (arith, ap length none)
one_row lock answer (rowed stream values opens e) = omega (arith, ap (λ x. length (row_in x)) e)

pub lock_keeps : LockKeeps
unfolding after
lock_keeps s lock [] [] e is none = (
  record {
    limit = refl;
    streams = refl;
    stays = refl;
    queries = rows_none s.queries;
    pages = refl;
    size = refl;
    taken = omega arith;
    opens = All-nil (λ (r : Arrival). IsTrue (is_open lock.opened r.stream));
  },
  omega arith,
)
lock_keeps s lock [] (answer ∷ others) e is none = absurd is
lock_keeps s lock (line ∷ lines) [] e is none = absurd is
lock_keeps s lock (line ∷ lines) (answer ∷ others) e is none =
    let lets = let_answer s lock line answer e is.0 none.0 in
    let one = kept_one s lock answer lets in
    let rest = lock_keeps (next_of s answer) lock lines others (one.stays ∙ e) is.1 none.1 in (
      kept_more lock s (next_of s answer) (after (next_of s answer) others) (row_in answer) (rows_in others) one rest.0,
      omega (arith, one_row lock answer lets, rest.1, length-append (row_in answer) (rows_in others)),
    )

-- a checkpoint is none of these
no_saved : (lock : Lock) (line : List ℕ) → IsLetRequest lock line saved → ⊥
no_saved lock line (nothing p) = cc
no_saved lock line (row stream values opens p) = cc
no_saved lock line (unlocks key k u p) = cc
no_saved lock line (refuses word p) = cc

pub checkpoints_have_no_lock : CheckpointsHaveNoLock
checkpoints_have_no_lock s line is = by s.lock refl
  where
    by : (o : Option Lock) → s.lock ≡ o → s.lock ≡ None
    by None e = e
    by (Some lock) e = absurd (no_saved lock line (lines_are_few_kinds s lock line saved e is))

-- nor does one create something
creates_none : (lock : Lock) (line : List ℕ) (request : Request) → IsLetRequest lock line request → IsTrue (creates request) → ⊥
creates_none lock line request (nothing p) c = (let bad : IsTrue (creates silent) = subst (λ r. IsTrue (creates r)) p c in cc)
creates_none lock line request (row stream values opens p) c = (let bad : IsTrue (creates (taken stream values)) = subst (λ r. IsTrue (creates r)) p c in cc)
creates_none lock line request (unlocks key k u p) c = (let bad : IsTrue (creates unlocked) = subst (λ r. IsTrue (creates r)) p c in cc)
creates_none lock line request (refuses word p) c = (let bad : IsTrue (creates (refused word)) = subst (λ r. IsTrue (creates r)) p c in cc)

pub none_lacks_memory : NoneLacksMemory
none_lacks_memory s lock line outcome new before now e is lacks =
    let does : Does Memory s is.request new before now = subst (λ (o : LineOutcome). Does o s is.request new before now) lacks is.does in
    creates_none lock line is.request (lines_are_few_kinds s lock line is.request e is.asks) does.0
