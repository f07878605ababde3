-- What a line asks for in a session that is locked, by the key of the lock and the names of the streams whose rows it lets.
use Rattle.std.specs.Prelude.{◌≡◌, ℕ, ℤ, ◌<◌, ◌≤◌, Bool, true, false, ◌||◌, List, length, Option, Some, None}
use Rattle.std.specs.List.{list_any}
use Rattle.std.specs.Str.{bytes_eq}
use Rattle.std.specs.Result.{result_map_both, IfErr}
use Rattle.std.specs.declared.result.Result.{Result}
use Rattle.std.specs.declared.result.Result.TheVariants.{Ok, Err}
use Rattle.sql_text.specs.Word.{word_of}
use Rattle.sql_catalog.specs.Streams.{Shape}
use Rattle.sql_catalog.specs.Rows.{row_of}
use Rattle.sql_parser.specs.declared.line.LineKind.{LineKind}
use Rattle.sql_parser.specs.declared.line.LineKind.TheVariants as kinds
use Rattle.sql_parser.specs.declared.tree.Statement.TheVariants.{Unlock}
use Rattle.sql_parser.specs.LineKind.{stripped, kind_of_line}
use Rattle.sql_parser.specs.Syntax.{IsStatement}
use Rattle.sql_parser.specs.Limits.{limit_of}
use Rattle.sql_replies.specs.declared.refusal.Refusal.{Refusal}
use Rattle.sql_replies.specs.declared.refusal.Refusal.TheVariants.{LineTooLong, Locked}
use Rattle.adv_hints.specs.Hints.{is_empty}
use Rattle.adv_diagnosis.specs.declared.fault.Asks.{Asks}
use Rattle.adv_diagnosis.specs.declared.fault.Asks.TheVariants as asks
use Rattle.adv_diagnosis.specs.declared.fault.Fault.{Fault}
use Rattle.adv_diagnosis.specs.declared.fault.Fault.TheVariants as faults
use Rattle.adv_diagnosis.specs.Asked.{row_asked}
use Rattle.adv_diagnosis.specs.FaultWords.{word_of as refusal_of}
use Rattle.adv_diagnosis.specs.Faults.{IsTrueOf}
use Rattle.adv_diagnosis.specs.RowFaults.{IsOfRow}

-- a test tells whether something holds
abbrev pub HoldsIf : Bool → Type 0 → Type 0
HoldsIf true P = P
HoldsIf false P = P → ⊥

-- whether rows that begin with a word are let: those of the streams that are named, and of all where none is
abbrev pub lets_row : List (List ℕ) → List ℕ → Bool
lets_row names word = is_empty names || list_any (λ n. bytes_eq n word) names

-- the text is the UNLOCK of this key, within the limits
abbrev pub IsUnlock : List ℕ → ℤ → Type 0
IsUnlock text k = IsStatement text (Unlock k) × (limit_of (Unlock k) ≡ None)

-- the text unlocks; a lock without a key is opened by none
abbrev pub Unlocks : Option ℤ → List ℕ → Type 0
Unlocks None text = ⊥
Unlocks (Some k) text = IsUnlock text k

-- a text of a kind is let
abbrev pub LetsText : Option ℤ → List (List ℕ) → LineKind → List ℕ → Type 0
LetsText key names kinds.Nothing text = Unit {0}
LetsText key names kinds.RowLine text = lets_row names (word_of text) ≡ true
LetsText key names kinds.StatementLine text = Unlocks key text

-- what a text of a kind asks for that is let
abbrev pub let_asked : List Shape → LineKind → List ℕ → Result Asks Refusal
let_asked streams kinds.Nothing text = Ok asks.Nothing
let_asked streams kinds.RowLine text = row_asked (row_of streams text)
let_asked streams kinds.StatementLine text = Ok asks.Unlock

-- What a line asks for: it is too long; what is left of it is not let; or it is, and asks for this.
pub data IsLockedAsked (streams : List Shape) (key : Option ℤ) (names : List (List ℕ)) (line : List ℕ) (asked : Result Asks Refusal) : Type 0 where
  too_long : 1024 < length line → asked ≡ Err LineTooLong → IsLockedAsked streams key names line asked
  barred : length line ≤ 1024 → (LetsText key names (kind_of_line (stripped line)) (stripped line) → ⊥) → asked ≡ Err Locked → IsLockedAsked streams key names line asked
  fits : length line ≤ 1024 → LetsText key names (kind_of_line (stripped line)) (stripped line) → asked ≡ let_asked streams (kind_of_line (stripped line)) (stripped line) → IsLockedAsked streams key names line asked

-- what a fault says of a line is so, where the lock was set by the line of a number
abbrev pub IsTrueLocked : List Shape → List (List ℕ) → ℕ → List ℕ → Fault → Type 0
IsTrueLocked streams live number line (faults.Locked by) = by ≡ number
IsTrueLocked streams live number line fault = IsTrueOf streams live line fault

-- What is found for a line of a locked session: what it asks for, or a fault with the word by which the session refuses it; and what the
-- fault says is so.
pub record IsLockedDiagnosis (streams : List Shape) (live : List (List ℕ)) (number : ℕ) (key : Option ℤ) (names : List (List ℕ)) (line : List ℕ) (result : Result Asks Fault) : Type 0 where
  pub asked : IsLockedAsked streams key names line (result_map_both (λ asks. asks) refusal_of result)
  pub facts : IfErr result (IsTrueLocked streams live number line)

-- what is found for a row line that is let
pub record IsRowDiagnosis (streams : List Shape) (text : List ℕ) (result : Result Asks Fault) : Type 0 where
  pub asked : result_map_both (λ asks. asks) refusal_of result ≡ row_asked (row_of streams text)
  pub facts : IfErr result (IsOfRow streams text)
