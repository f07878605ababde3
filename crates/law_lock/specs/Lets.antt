-- What a lock lets, and what is replied under it.
use Rattle.std.specs.Prelude.{◌≡◌, ◌≢◌, ℕ, ℤ, ◌+◌, ◌<◌, ◌≤◌, ◌^◌, List, [], length, IsTrue, Option, Some}
use Rattle.sql_parser.specs.LineKind.{stripped}
use Rattle.sql_replies.specs.declared.refusal.Refusal.{Refusal}
use Rattle.sql_replies.specs.Texts.{unlocked_text}
use Rattle.io_row_reader.specs.Open.{is_open}
use Rattle.cmd_session.specs.Answer.{Answer, plain}
use Rattle.cmd_session.specs.Answers.{IsAnswer}
use Rattle.cmd_session.specs.Lock.{Lock, IsUnlock}
use Rattle.cmd_session.specs.Replies.{reply_to}
use Rattle.cmd_session.specs.Request.{Request, silent, taken, unlocked, refused}
use Rattle.cmd_session.specs.Requests.{IsRequest}
use Rattle.cmd_session.specs.State.{State, next_of}

-- what a line asks for under a lock: nothing; a row of an open stream; to unlock, by the number of the lock; or it is refused
pub data IsLetRequest (lock : Lock) (line : List ℕ) (request : Request) : Type 0 where
  nothing : request ≡ silent → IsLetRequest lock line request
  row : (stream : ℕ) → (values : List ℤ) → IsTrue (is_open lock.opened stream) → request ≡ taken stream values → IsLetRequest lock line request
  unlocks : (key : ℤ) → lock.key ≡ Some key → IsUnlock (stripped line) key → request ≡ unlocked → IsLetRequest lock line request
  refuses : (word : Refusal) → request ≡ refused word → IsLetRequest lock line request

-- under a lock each line asks for one of these
abbrev pub LinesAreFewKinds : Type 0
LinesAreFewKinds = (s : State) (lock : Lock) (line : List ℕ) (request : Request) → s.lock ≡ Some lock → IsRequest s line request → IsLetRequest lock line request

-- a reply under a lock: none; at most 41 bytes; `ok unlock`; or the answers to a row
pub data IsShortReply (answer : Answer) (reply : List ℕ) : Type 0 where
  none : reply ≡ [] → IsShortReply answer reply
  error : length reply ≤ 41 → IsShortReply answer reply
  unlock : reply ≡ unlocked_text → IsShortReply answer reply
  answers : (stream : ℕ) → (values : List ℤ) → answer ≡ plain (taken stream values) → IsShortReply answer reply

-- under a lock each reply is such a one
abbrev pub RepliesAreShort : Type 0
RepliesAreShort = (s : State) (lock : Lock) (line : List ℕ) (answer : Answer) → s.lock ≡ Some lock → s.lines + 1 < 2 ^ 64 → IsAnswer s line answer → IsShortReply answer (reply_to s answer)

-- the state under a lock of this key, with these streams open
abbrev pub locked_by : State → Option (List ℕ) → Option ℤ → State
locked_by s opened key = record s { lock = Some (record { key = key; opened = opened }) }

-- what a line that unlocks neither comes to, in states that differ in the key alone
pub record AnswersAlike (s t : State) (opened : Option (List ℕ)) (key : Option ℤ) (x y : Answer) : Type 0 where
  pub same : x ≡ y
  pub reply : reply_to s x ≡ reply_to t y
  pub next : next_of s x ≡ locked_by (next_of t y) opened key

-- such states answer it alike, and differ in the key alone behind it
abbrev pub KeyIsNotTold : Type 0
KeyIsNotTold =
    (s : State) (opened : Option (List ℕ)) (key other : Option ℤ) (line : List ℕ) (x y : Answer) → IsAnswer (locked_by s opened key) line x → IsAnswer (locked_by s opened other) line y
    → x ≢ plain unlocked → y ≢ plain unlocked → AnswersAlike (locked_by s opened key) (locked_by s opened other) opened key x y
