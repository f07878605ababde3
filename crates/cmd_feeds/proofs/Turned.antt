-- How a turn goes in a session that takes one more line, or no more.
use Rattle.std.proofs.Common.{◌≡◌, ℕ, inl, inr, Bool, true, false, List, refl}
use Rattle.io_streams.specs.Source.{SourceState}
use Rattle.io_streams.specs.Sink.{SinkState}
use Rattle.io_line_reader.specs.Reading.{Reading}
use Rattle.cmd_session.specs.State.{State}
use Rattle.cmd_session.specs.Session.{SessionValue}
use Rattle.cmd_session.specs.declared.one_turn.Turn.{Turn}
use Rattle.cmd_session.specs.declared.one_turn.Turn.TheVariants as turn
use Rattle.cmd_session.specs.Turned.{Turned, ahead}
use Rattle.cmd_feeds.specs.Lanes.{Looked, TurnedWith, bytes, lines}

-- a line was taken where the session takes one more
pub turned-more : (how : Turn) (more : Bool) (s : State) (old new : Reading) (source now : SourceState) (session session' : SessionValue) (below after : SinkState) (held kept : List ℕ) → more ≡ true
    → Turned how s old new source now session session' below after held kept → TurnedWith how more s old new source now session session' below after held kept
turned-more turn.Answered more s old new source now session session' below after held kept one t = (t, one)
turned-more turn.Ended more s old new source now session session' below after held kept one t = t
turned-more turn.Failed more s old new source now session session' below after held kept one t = t
turned-more turn.Full more s old new source now session session' below after held kept one t = bytes t.0
turned-more turn.Stopped more s old new source now session session' below after held kept one t = t
turned-more turn.Memory more s old new source now session session' below after held kept one t = t

-- the source was asked where the session takes no more
pub turned-looked : (how : Turn) (more : Bool) (s : State) (old new : Reading) (source now : SourceState) (session : SessionValue) (below after : SinkState) (held kept : List ℕ) → more ≡ false
    → Looked how old new source now below after held kept → TurnedWith how more s old new source now session session below after held kept
turned-looked turn.Answered more s old new source now session below after held kept none t = absurd t
turned-looked turn.Ended more s old new source now session below after held kept none t = (t, refl)
turned-looked turn.Failed more s old new source now session below after held kept none t = (t, refl)
turned-looked turn.Full more s old new source now session below after held kept none (inl t) = bytes t
turned-looked turn.Full more s old new source now session below after held kept none (inr t) = lines none t.0 t.1
turned-looked turn.Stopped more s old new source now session below after held kept none t = ahead t refl
turned-looked turn.Memory more s old new source now session below after held kept none t = absurd t

-- no line is taken then
pub looked-none : (how : Turn) (old new : Reading) (source now : SourceState) (below after : SinkState) (held kept : List ℕ) → Looked how old new source now below after held kept → how ≡ turn.Answered → ⊥
looked-none turn.Answered old new source now below after held kept t e = t
looked-none turn.Ended old new source now below after held kept t e = cc
looked-none turn.Failed old new source now below after held kept t e = cc
looked-none turn.Full old new source now below after held kept t e = cc
looked-none turn.Stopped old new source now below after held kept t e = cc
looked-none turn.Memory old new source now below after held kept t e = cc
