-- Sessions without a lock.
use Rattle.std.specs.Prelude.{◌≡◌, ◌⊎◌, ⊤, ℕ, ℤ, ◌<◌, ◌≤◌, List, [], ◌∷◌, length, Option, None}
use Rattle.arrayvec.specs.ArrayVec.{ArrayVec}
use Rattle.sql_parser.specs.declared.tree.Statement.TheVariants.{Lock as LockStatement}
use Rattle.sql_parser.specs.LineKind.{stripped, kind_of_line}
use Rattle.sql_parser.specs.Syntax.{IsStatement}
use Rattle.sql_replies.specs.declared.refusal.Refusal.TheVariants.{LineTooLong}
use Rattle.cmd_session.specs.Answer.{Answer}
use Rattle.cmd_session.specs.Replies.{AreAnswers}
use Rattle.cmd_session.specs.Request.{Request, refused}
use Rattle.cmd_session.specs.Requests.{IsRequest, IsTextRequest}
use Rattle.cmd_session.specs.State.{State, after}

-- where no lock stands, each line asks for what is left of it, or is too long
abbrev pub WithoutLockAllAreLet : Type 0
WithoutLockAllAreLet =
    (s : State) (line : List ℕ) (request : Request) → s.lock ≡ None → IsRequest s line request
    → ((1024 < length line) × (request ≡ refused LineTooLong)) ⊎ ((length line ≤ 1024) × IsTextRequest s (kind_of_line (stripped line)) (stripped line) request)

-- no line is a LOCK statement
abbrev pub NoneLocks : List (List ℕ) → Type 0
NoneLocks [] = ⊤
NoneLocks (line ∷ lines) = ((key : Option ℤ) → (streams : ArrayVec (List ℕ)) → IsStatement (stripped line) (LockStatement key streams) → ⊥) × NoneLocks lines

-- over such lines no lock comes
abbrev pub NoneLocksStaysOpen : Type 0
NoneLocksStaysOpen = (s : State) (lines : List (List ℕ)) (answers : List Answer) → s.lock ≡ None → NoneLocks lines → AreAnswers s lines answers → (after s answers).lock ≡ None
