-- What a line does whose reply is written in a form.
use Rattle.std.specs.Prelude.{ℕ, Bool, List, [], IsTrue}
use Rattle.io_streams.specs.Source.{SourceState}
use Rattle.io_streams.specs.Sink.{SinkState, Wrote, BrokeOff}
use Rattle.io_streams.specs.Gathered.{gathered_seen}
use Rattle.io_line_reader.specs.Reading.{Reading, IsBegun}
use Rattle.cmd_session.specs.Fetched.{Came}
use Rattle.cmd_session.specs.Request.{Request}
use Rattle.cmd_session.specs.Requests.{IsRequest}
use Rattle.cmd_session.specs.State.{State, one_line_more}
use Rattle.cmd_session.specs.Session.{SessionValue, StandsFor, Gives, creates}
use Rattle.cmd_session.specs.declared.outcome.LineOutcome.{LineOutcome}
use Rattle.cmd_session.specs.declared.outcome.LineOutcome.TheVariants.{Done, WriteFault, Memory}

-- What a line does that asks for this, by its outcome, as in a session, but that its reply is written in this form.
abbrev pub FormedDoes : (List ℕ → List ℕ) → LineOutcome → State → Request → SessionValue → SinkState → SinkState → Type 0
FormedDoes form Done s request new before after = Gives s request new (λ reply. Wrote before after (form reply))
FormedDoes form WriteFault s request new before after = Gives s request new (λ reply. BrokeOff before after (form reply))
FormedDoes form Memory s request new before after = IsTrue (creates request) × StandsFor new (one_line_more s) × Wrote before after []

-- What a line does: it asks for something, and does what such a line does.
pub record FormedAnswered (form : List ℕ → List ℕ) (outcome : LineOutcome) (s : State) (line : List ℕ) (new : SessionValue) (before after : SinkState) : Type 0 where
  pub request : Request
  pub asks : IsRequest s line request
  pub does : FormedDoes form outcome s request new before after

-- A line came, and then the session answered it with this outcome. Of a line that is too long, this holds of whatever it is.
pub record FormedLine (form : List ℕ → List ℕ) (how : LineOutcome) (s : State) (old new : Reading) (source now : SourceState) (session : SessionValue) (below after : SinkState) (held kept : List ℕ) : Type 0 where
  pub long : Bool
  -- the sink and what was held when the line was there, and which reference to the sink was held before and after its answer
  pub between : SinkState
  pub left : List ℕ
  pub came : Came long old new source now below between held left
  pub name : ℕ
  pub name' : ℕ
  pub answers : (text : List ℕ) → IsBegun long new.line text → FormedAnswered form how s text session (gathered_seen between name left) (gathered_seen after name' kept)

-- No memory was found for a line that came, and this holds of the flush that followed.
pub record FormedLacks (form : List ℕ → List ℕ) (s : State) (old new : Reading) (source now : SourceState) (session : SessionValue) (below : SinkState) (held : List ℕ) (P : SinkState → List ℕ → Type 0) : Type 0 where
  pub sink : SinkState
  pub full : List ℕ
  pub lacks : FormedLine form Memory s old new source now session below sink held full
  pub flushes : P sink full
