-- An answer leaves the reference to the sink as it was.
use Rattle.std.proofs.Common.{◌≡◌, ℕ, List}
use Rattle.io_streams.specs.Gathered.{gathered_seen}
use Rattle.io_streams.specs.Sink.{SinkState}
use Rattle.cmd_session.specs.declared.outcome.LineOutcome.{LineOutcome}
use Rattle.cmd_session.specs.declared.outcome.LineOutcome.TheVariants as outcome
use Rattle.cmd_session.specs.Session.{Answered, SessionValue}
use Rattle.cmd_session.specs.State.{State}

-- an answer leaves the reference to the sink as it was
pub same_name : (how : LineOutcome) (s : State) (line : List ℕ) (new : SessionValue) (below after : SinkState) (name name' : ℕ) (held kept : List ℕ) → Answered how s line new (gathered_seen below name held) (gathered_seen after name' kept) → name' ≡ name
same_name outcome.Done s line new below after name name' held kept h = h.does.reply.later.below
same_name outcome.WriteFault s line new below after name name' held kept h = h.does.reply.wrote.later.below
same_name outcome.Memory s line new below after name name' held kept h = h.does.2.later.below
