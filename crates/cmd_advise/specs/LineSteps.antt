-- What taking a line does to the state and to the text that is held.
use Rattle.std.specs.Prelude.{◌≡◌, ℕ, Bool, true, false, List, [], ◌++◌}
use Rattle.sem_query.specs.Query.{QueryValue}
use Rattle.adv_diagnosis.specs.declared.fault.Asks.{Asks}
use Rattle.adv_diagnosis.specs.declared.fault.Asks.TheVariants as asks
use Rattle.adv_diagnosis.specs.declared.fault.Fault.{Fault}
use Rattle.adv_diagnosis.specs.declared.fault.Fault.TheVariants.{LineTooLong}
use Rattle.adv_mends.specs.declared.advising.QueryAdvice.{QueryAdvice}
use Rattle.adv_mends.specs.Advised.{IsAdvice}
use Rattle.cmd_advise.specs.State.{State, one_line_more, one_fault_more, one_stream_more, one_query_less, one_query_more, one_lock_more, one_lock_less}
use Rattle.cmd_advise.specs.Queries.{query_text}
use Rattle.cmd_advise.specs.Finding.{Finding, IsFinding, advised, after, is_row_fault, told_text, finding_text}

-- A line comes to a finding: the state is the one behind it, and what is said of it was put behind what was held.
pub record TookLine (line : List ℕ) (s t : State) (held now : List ℕ) : Type 0 where
  pub finding : Finding
  pub is : IsFinding s line finding
  pub state : t ≡ after s line finding
  pub text : now ≡ held ++ finding_text s line finding

-- a line that is at fault, of which so much is shown
pub record TookFault (shown : List ℕ) (fault : Fault) (s t : State) (held now : List ℕ) : Type 0 where
  pub state : t ≡ one_fault_more s (is_row_fault shown fault)
  pub text : now ≡ held ++ told_text s shown fault

-- a query that is asked for: it was advised on
pub record TookQuery (name : List ℕ) (q : QueryValue) (shared : Bool) (s t : State) (held now : List ℕ) : Type 0 where
  pub advice : QueryAdvice
  pub right : IsAdvice shared q advice
  pub state : t ≡ one_query_more s name advice.judgement
  pub text : now ≡ held ++ query_text s.streams (advised s name q advice)

-- nothing is said, and this is the state
pub record TookSilently (wanted t : State) (held now : List ℕ) : Type 0 where
  pub state : t ≡ wanted
  pub text : now ≡ held

-- a line that asks for this
abbrev pub TookAsks : Asks → State → State → List ℕ → List ℕ → Type 0
TookAsks asks.Nothing s t held now = TookSilently (one_line_more s) t held now
TookAsks asks.Row s t held now = TookSilently (one_line_more s) t held now
TookAsks (asks.Stream name columns) s t held now = TookSilently (one_stream_more s (record { name = name; columns = columns.items })) t held now
TookAsks (asks.Query name q shared) s t held now = TookQuery name q shared s t held now
TookAsks asks.Explain s t held now = TookSilently (one_line_more s) t held now
TookAsks (asks.Drop name) s t held now = TookSilently (one_query_less s name) t held now
TookAsks asks.Other s t held now = TookSilently (one_line_more s) t held now
TookAsks (asks.Lock key streams) s t held now = TookSilently (one_lock_more s key streams) t held now
TookAsks asks.Unlock s t held now = TookSilently (one_lock_less s) t held now

-- a line, of which nothing is shown where it is too long
abbrev pub TookGiven : Bool → List ℕ → State → State → List ℕ → List ℕ → Type 0
TookGiven true line s t held now = TookFault [] LineTooLong s t held now
TookGiven false line s t held now = TookLine line s t held now
