-- What is found for a line, and what the line asks a session for.
use Rattle.std.specs.Prelude.{◌≡◌, ℕ, ℤ, List, Option, Some, None}
use Rattle.std.specs.declared.result.Result.{Result}
use Rattle.std.specs.declared.result.Result.TheVariants.{Ok, Err}
use Rattle.sql_replies.specs.declared.refusal.Refusal.{Refusal}
use Rattle.sql_replies.specs.declared.refusal.Refusal.TheVariants.{RowLimit}
use Rattle.adv_diagnosis.specs.declared.fault.Asks.{Asks}
use Rattle.adv_diagnosis.specs.declared.fault.Asks.TheVariants as asks
use Rattle.adv_diagnosis.specs.Asked.{IsAsked}
use Rattle.adv_diagnosis.specs.Locked.{IsLockedAsked}
use Rattle.sql_catalog.specs.Streams.{Shape}
use Rattle.cmd_session.specs.Request.{Request, silent, created, asked, explained, dropped, taken, locked, unlocked, refused}
use Rattle.cmd_session.specs.Requests.{IsRequest, opened_by}
use Rattle.cmd_session.specs.State.{State, live_names}

-- a row is taken, or there are as many as may be
abbrev pub IsTakenOrLate : Request → Type 0
IsTakenOrLate (taken stream values) = Unit {0}
IsTakenOrLate (refused word) = word ≡ RowLimit
IsTakenOrLate _ = ⊥

-- a live query of some name is explained
abbrev pub IsExplained : Request → Type 0
IsExplained (explained name) = Unit {0}
IsExplained _ = ⊥

-- a lock of this key is asked for, which leaves the streams of these names open, or all where there is none
pub record IsLocked (streams : List Shape) (key : Option ℤ) (names : List (List ℕ)) (request : Request) : Type 0 where
  pub opened : Option (List ℕ)
  pub found : opened_by streams names ≡ Ok opened
  pub is : request ≡ locked (record { key = key; opened = opened })

-- What is found for a line agrees with what it asks a session for: a fault has the word of the refusal; else the session takes the line as it is
-- found to ask. Of a row only the number of rows is left to the session, and of the lines of a checkpoint all but the name of their query.
abbrev pub IsAnsweredBy : List Shape → Result Asks Refusal → Request → Type 0
IsAnsweredBy streams (Err word) request = request ≡ refused word
IsAnsweredBy streams (Ok asks.Nothing) request = request ≡ silent
IsAnsweredBy streams (Ok asks.Row) request = IsTakenOrLate request
IsAnsweredBy streams (Ok (asks.Stream name columns)) request = request ≡ created name columns.items
IsAnsweredBy streams (Ok (asks.Query name query shared)) request = request ≡ asked name query shared
IsAnsweredBy streams (Ok asks.Explain) request = IsExplained request
IsAnsweredBy streams (Ok (asks.Drop name)) request = request ≡ dropped name
IsAnsweredBy streams (Ok asks.Other) request = Unit {0}
IsAnsweredBy streams (Ok (asks.Lock key names)) request = IsLocked streams key names.items request
IsAnsweredBy streams (Ok asks.Unlock) request = request ≡ unlocked

-- what is found for a line over the streams and live queries of an open session agrees with what it asks this session for
abbrev pub FindsAnswers : Type 0
FindsAnswers = (s : State) → s.lock ≡ None → (line : List ℕ) → (found : Result Asks Refusal) → (request : Request) → IsAsked s.streams (live_names s) line found → IsRequest s line request → IsAnsweredBy s.streams found request

-- the lock of a session, by its key and the names of the streams that it leaves open
pub record IsToldBy (s : State) (key : Option ℤ) (names : List (List ℕ)) : Type 0 where
  pub opened : Option (List ℕ)
  pub found : opened_by s.streams names ≡ Ok opened
  pub stands : s.lock ≡ Some (record { key = key; opened = opened })

-- the same of a session that is locked
abbrev pub FindsLockedAnswers : Type 0
FindsLockedAnswers = (s : State) → (key : Option ℤ) → (names : List (List ℕ)) → IsToldBy s key names → (line : List ℕ) → (found : Result Asks Refusal) → (request : Request)
    → IsLockedAsked s.streams key names line found → IsRequest s line request → IsAnsweredBy s.streams found request
