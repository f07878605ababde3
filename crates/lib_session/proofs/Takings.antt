-- What feeding a text comes to for an embedded session.
use Rattle.std.proofs.Common.{ℕ, List}
use Rattle.cmd_session.specs.State.{State}
use Rattle.lib_session.specs.declared.outcome.FeedOutcome.{FeedOutcome}
use Rattle.lib_session.specs.declared.outcome.FeedOutcome.TheVariants.{Done, Full, NoRoom, Memory, Stopped, Cut, Ended}
use Rattle.lib_session.specs.Fed.{Feeds}
use Rattle.lib_session.specs.Embedded.{EmbeddedValue, TextFed, Takes, stops}

pub text_fed : (how : FeedOutcome) (s : State) (text : List ℕ) (taken : ℕ) (old new : EmbeddedValue) → Takes taken (stops how) old new → Feeds how s text taken old.most old.replies new.replies new.session
    → TextFed how s text taken old new
text_fed Done s text taken old new t f = (t, f)
text_fed Full s text taken old new t f = (t, f)
text_fed NoRoom s text taken old new t f = (t, f)
text_fed Memory s text taken old new t f = (t, f)
text_fed Stopped s text taken old new t f = (t, f)
text_fed Cut s text taken old new t f = absurd f
text_fed Ended s text taken old new t f = absurd f
