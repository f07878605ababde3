-- What an embedded session keeps, and what feeding it a text comes to.
use Rattle.std.specs.Prelude.{◌≡◌, ℕ, ◌+◌, ◌^◌, ◌≤◌, ◌⊎◌, Bool, true, false, List, [], length}
use Rattle.cmd_session.specs.State.{State, initial}
use Rattle.cmd_session.specs.Session.{SessionValue, StandsFor}
use Rattle.cmd_session.specs.Run.{HasState}
use Rattle.lib_session.specs.declared.outcome.FeedOutcome.{FeedOutcome}
use Rattle.lib_session.specs.declared.outcome.FeedOutcome.TheVariants as outcome
use Rattle.lib_session.specs.Fed.{AreWholeLines, Feeds}

-- the session, the replies that were not cleared, how many bytes of them may be held before a line, how many bytes of text were taken,
-- and whether the session stopped
pub record EmbeddedValue : Type 0 where
  pub session : SessionValue
  pub replies : List ℕ
  pub most : ℕ
  pub fed : ℕ
  pub stopped : Bool

-- what holds of each embedded session: it stands for some state, and has no more lines than bytes were taken
pub record IsKept (session : SessionValue) (fed : ℕ) : Type 0 where
  pub known : HasState session
  pub lines : session.lines ≤ fed

-- a session that was just opened, for so many rows and with so many pages
pub record IsOpened (rows pages most : ℕ) (e : EmbeddedValue) : Type 0 where
  pub stands : StandsFor e.session (initial rows pages)
  pub replies : e.replies ≡ []
  pub bound : e.most ≡ most
  pub fed : e.fed ≡ 0
  pub stopped : e.stopped ≡ false

-- So many bytes of text were taken. The session had not stopped, and this says whether it did.
pub record Takes (taken : ℕ) (stopped : Bool) (old new : EmbeddedValue) : Type 0 where
  pub unstopped : old.stopped ≡ false
  pub stops : new.stopped ≡ stopped
  pub fed : new.fed ≡ old.fed + taken
  pub most : new.most ≡ old.most

-- nothing was done
pub record Rejects (taken : ℕ) (old new : EmbeddedValue) : Type 0 where
  pub none : taken ≡ 0
  pub same : new ≡ old

-- whether a session has stopped that was fed so
abbrev pub stops : FeedOutcome → Bool
stops outcome.Done = false
stops outcome.Full = false
stops outcome.NoRoom = false
stops outcome.Memory = false
stops outcome.Stopped = true
stops outcome.Cut = false
stops outcome.Ended = false

-- what feeding a text to a session comes to that takes it
abbrev pub FedText : FeedOutcome → State → List ℕ → ℕ → EmbeddedValue → EmbeddedValue → Type 0
FedText how s text taken old new = Takes taken (stops how) old new × Feeds how s text taken old.most old.replies new.replies new.session

-- What feeding a text comes to, for a state that the session stands for. Cut: the text ends inside a line. Ended: the session had
-- stopped, or so many bytes cannot be counted.
abbrev pub TextFed : FeedOutcome → State → List ℕ → ℕ → EmbeddedValue → EmbeddedValue → Type 0
TextFed outcome.Done s text taken old new = FedText outcome.Done s text taken old new
TextFed outcome.Full s text taken old new = FedText outcome.Full s text taken old new
TextFed outcome.NoRoom s text taken old new = FedText outcome.NoRoom s text taken old new
TextFed outcome.Memory s text taken old new = FedText outcome.Memory s text taken old new
TextFed outcome.Stopped s text taken old new = FedText outcome.Stopped s text taken old new
TextFed outcome.Cut s text taken old new = Rejects taken old new × (AreWholeLines text → ⊥)
TextFed outcome.Ended s text taken old new = Rejects taken old new × ((old.stopped ≡ true) ⊎ (2 ^ 64 ≤ old.fed + length text))
