-- What lines under a lock leave as it was.
use Rattle.std.specs.Prelude.{◌≡◌, ◌≢◌, ◌⊎◌, ⊤, ℕ, ◌+◌, ◌≤◌, List, [], ◌∷◌, ◌++◌, length, IsTrue, Some, None}
use Rattle.std.specs.List.{All}
use Rattle.io_streams.specs.Sink.{SinkState}
use Rattle.sem_query.specs.Meaning.{Arrival}
use Rattle.exec_registry.specs.Live.{LiveQuery, free_pages}
use Rattle.io_row_reader.specs.Open.{is_open}
use Rattle.cmd_session.specs.Answer.{Answer, plain, registered, decided}
use Rattle.cmd_session.specs.declared.outcome.LineOutcome.{LineOutcome}
use Rattle.cmd_session.specs.declared.outcome.LineOutcome.TheVariants.{Memory}
use Rattle.cmd_session.specs.Lock.{Lock}
use Rattle.cmd_session.specs.Replies.{reply_to, AreAnswers}
use Rattle.cmd_session.specs.Request.{silent, created, asked, explained, dropped, taken, saved, resumed, based, locked, unlocked, refused}
use Rattle.cmd_session.specs.Requests.{IsRequest}
use Rattle.cmd_session.specs.Session.{SessionValue, Answered}
use Rattle.cmd_session.specs.State.{State, next_of, after}

-- the row that an answer takes, in a list
abbrev pub row_in : Answer → List Arrival
row_in (plain silent) = []
row_in (plain (created name columns)) = []
row_in (plain (asked name query shared)) = []
row_in (plain (explained name)) = []
row_in (plain (dropped name)) = []
row_in (plain (taken stream values)) = record { stream = stream; values = values } ∷ []
row_in (plain saved) = []
row_in (plain (resumed n)) = []
row_in (plain (based name base)) = []
row_in (plain (locked lock)) = []
row_in (plain unlocked) = []
row_in (plain (refused word)) = []
row_in (registered name query shared plan) = []
row_in (decided name query verdict) = []

-- the rows that answers take, one after another
abbrev pub rows_in : List Answer → List Arrival
rows_in [] = []
rows_in (answer ∷ others) = row_in answer ++ rows_in others

-- none of these answers takes the lock away
abbrev pub NoneUnlocks : List Answer → Type 0
NoneUnlocks [] = ⊤
NoneUnlocks (answer ∷ others) = (answer ≢ plain unlocked) × NoneUnlocks others

-- the live query with rows behind its history, and nothing else changed
abbrev pub with_rows : List Arrival → LiveQuery → LiveQuery
with_rows rows live = record live { history = live.history ++ rows }

-- each live query is as it was, with these rows behind its history
abbrev pub HaveRows : List Arrival → List LiveQuery → List LiveQuery → Type 0
HaveRows rows [] [] = ⊤
HaveRows rows [] (r ∷ others) = ⊥
HaveRows rows (q ∷ queries) [] = ⊥
HaveRows rows (q ∷ queries) (r ∷ others) = (r ≡ with_rows rows q) × HaveRows rows queries others

-- from one state to another nothing was changed but the numbers of lines and rows, and that these rows were taken
pub record IsKept (lock : Lock) (s t : State) (rows : List Arrival) : Type 0 where
  pub limit : t.limit ≡ s.limit
  pub streams : t.streams ≡ s.streams
  pub stays : t.lock ≡ s.lock
  pub queries : HaveRows rows s.queries t.queries
  pub pages : free_pages t.pages t.queries ≡ free_pages s.pages s.queries
  pub size : t.pages ≡ s.pages
  pub taken : t.taken ≡ s.taken + length rows
  pub opens : All (λ (r : Arrival). IsTrue (is_open lock.opened r.stream)) rows

-- so it is from a state with a lock on, over lines none of which unlocks; at most one row is taken a line
abbrev pub LockKeeps : Type 0
LockKeeps =
    (s : State) (lock : Lock) (lines : List (List ℕ)) (answers : List Answer) → s.lock ≡ Some lock → AreAnswers s lines answers → NoneUnlocks answers
    → IsKept lock s (after s answers) (rows_in answers) × (length (rows_in answers) ≤ length lines)

-- at each place stands the same line, or two lines of which neither is taken as a row
abbrev pub AreExchanged : List (List ℕ) → List (List ℕ) → List Answer → List Answer → Type 0
AreExchanged [] [] [] [] = ⊤
AreExchanged (line ∷ lines) (other ∷ others) (x ∷ xs) (y ∷ ys) = ((line ≡ other) ⊎ ((row_in x ≡ []) × (row_in y ≡ []))) × AreExchanged lines others xs ys
AreExchanged _ _ _ _ = ⊥

-- at each place with the same line stands the same reply
abbrev pub RepliedAlike : State → State → List (List ℕ) → List (List ℕ) → List Answer → List Answer → Type 0
RepliedAlike s t [] [] [] [] = ⊤
RepliedAlike s t (line ∷ lines) (other ∷ others) (x ∷ xs) (y ∷ ys) = (line ≡ other → reply_to s x ≡ reply_to t y) × RepliedAlike (next_of s x) (next_of t y) lines others xs ys
RepliedAlike s t _ _ _ _ = ⊥

-- from a state with a lock on, lines none of which unlocks and that are exchanged so come to the same state, and are replied to alike
abbrev pub LinesAreExchanged : Type 0
LinesAreExchanged =
    (s : State) (lock : Lock) (lines others : List (List ℕ)) (xs ys : List Answer) → s.lock ≡ Some lock → AreAnswers s lines xs → AreAnswers s others ys → NoneUnlocks xs → NoneUnlocks ys
    → AreExchanged lines others xs ys → (after s xs ≡ after s ys) × RepliedAlike s s lines others xs ys

-- where a line asks for a checkpoint, no lock stands
abbrev pub CheckpointsHaveNoLock : Type 0
CheckpointsHaveNoLock = (s : State) (line : List ℕ) → IsRequest s line saved → s.lock ≡ None

-- for no line under a lock memory is wanted
abbrev pub NoneLacksMemory : Type 0
NoneLacksMemory =
    (s : State) (lock : Lock) (line : List ℕ) (outcome : LineOutcome) (new : SessionValue) (before now : SinkState) → s.lock ≡ Some lock → Answered outcome s line new before now → outcome ≢ Memory
