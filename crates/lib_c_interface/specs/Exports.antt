-- What the exports answer, by the session that the handle had and the one that it has then. 0 is success.
use Rattle.std.specs.Prelude.{◌≡◌, ℕ, suc, zero, List, ◌++◌, ◌<◌, ◌^◌, ◌⊎◌, false, length, drop, []}
use Rattle.std.specs.Option.{is_none}
use Rattle.std.specs.declared.option.Option.{Option}
use Rattle.std.specs.declared.option.Option.TheVariants.{None, Some}
use Rattle.cmd_session.specs.State.{State}
use Rattle.cmd_session.specs.Session.{StandsFor}
use Rattle.cmd_session.specs.Announced.{announced_by}
use Rattle.lib_session.specs.declared.outcome.FeedOutcome.{FeedOutcome}
use Rattle.lib_session.specs.declared.outcome.FeedOutcome.TheVariants as outcome
use Rattle.lib_session.specs.Embedded.{EmbeddedValue, IsOpened, TextFed}

-- how many bytes of replies wait
abbrev pub waiting : Option EmbeddedValue → ℕ
waiting None = 0
waiting (Some e) = length e.replies

-- the pages of a session that is opened with such a number: 0 asks for as many as may be
abbrev pub pages_for : ℕ → ℕ
pages_for zero = 16384
pages_for (suc n) = suc n

-- the handle has a session that was just opened
abbrev pub HasOpened : ℕ → ℕ → ℕ → Option EmbeddedValue → Type 0
HasOpened rows pages most None = ⊥
HasOpened rows pages most (Some e) = IsOpened rows (pages_for pages) most e

-- no session of so many rows and pages is opened: the handle has one, or a number is none that may be
abbrev pub IsWronglyOpened : ℕ → ℕ → Option EmbeddedValue → Type 0
IsWronglyOpened rows pages before = (is_none before ≡ false) ⊎ (rows ≡ 0) ⊎ (2 ^ 40 < rows) ⊎ (16384 < pages)

-- A handle of no session has one that was just opened; or nothing is changed, with 2 where none may be opened.
abbrev pub Opens : ℕ → ℕ → ℕ → ℕ → Option EmbeddedValue → Option EmbeddedValue → Type 0
Opens zero rows pages most before now = (before ≡ None) × HasOpened rows pages most now
Opens (suc zero) rows pages most before now = ⊥
Opens (suc (suc zero)) rows pages most before now = (now ≡ before) × IsWronglyOpened rows pages before
Opens (suc (suc (suc n))) rows pages most before now = now ≡ before

-- the number that tells how feeding went
abbrev pub number_of : FeedOutcome → ℕ
number_of outcome.Done = 0
number_of outcome.Cut = 3
number_of outcome.Stopped = 5
number_of outcome.Memory = 6
number_of outcome.Ended = 7
number_of outcome.Full = 8
number_of outcome.NoRoom = 9

-- a session was fed a text, and the number tells how that went
pub record FedSo (number : ℕ) (text : List ℕ) (taken : ℕ) (old new : EmbeddedValue) : Type 0 where
  pub outcome : FeedOutcome
  pub told : number ≡ number_of outcome
  pub fed : (s : State) → StandsFor old.session s → TextFed outcome s text taken old new

-- the session of the handle was fed this text; or there is none
abbrev pub Feeds : ℕ → List ℕ → ℕ → Option EmbeddedValue → Option EmbeddedValue → Type 0
Feeds number text taken None now = (number ≡ 2) × (taken ≡ 0) × (now ≡ None)
Feeds number text taken (Some old) None = ⊥
Feeds number text taken (Some old) (Some new) = FedSo number text taken old new

-- the replies of the session lie at the front of the room; or they are longer than the room, or there is no session, and nothing is changed
abbrev pub Gives : ℕ → Option EmbeddedValue → List ℕ → List ℕ → Type 0
Gives number None out out' = (number ≡ 2) × (out' ≡ out)
Gives zero (Some e) out out' = out' ≡ e.replies ++ drop (length e.replies) out
Gives (suc n) (Some e) out out' = (n ≡ 0) × (length out < length e.replies) × (out' ≡ out)

-- the session has no reply any more; or there is none
abbrev pub Clears : ℕ → Option EmbeddedValue → Option EmbeddedValue → Type 0
Clears number None now = (number ≡ 2) × (now ≡ None)
Clears number (Some e) now = (number ≡ 0) × (now ≡ Some (record e { replies = [] }))

-- these are the sums that the live queries of the session announce; or there is none
abbrev pub Announces : ℕ → Option EmbeddedValue → ℕ → ℕ → Type 0
Announces number None cells answers = (number ≡ 2) × (cells ≡ 0) × (answers ≡ 0)
Announces number (Some e) cells answers = (number ≡ 0) × ((s : State) → StandsFor e.session s → record { cells = cells; answers = answers } ≡ announced_by s.queries)
