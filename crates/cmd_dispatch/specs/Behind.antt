-- How a session over a file and then the input ends: their lines are one text.
use Rattle.std.specs.Prelude.{◌≡◌, ℕ, ◌-◌, ◌^◌, ◌<◌, ◌≤◌, ◌⊎◌, Bool, true, false, List, [], ◌∷◌, ◌++◌, length, IfSome, IsTrue, if◌then◌else◌}
use Rattle.std.specs.Io.KnownBytes.{Appends}
use Rattle.io_streams.specs.Counts.{Rose}
use Rattle.io_streams.specs.Source.{SourceState}
use Rattle.io_streams.specs.Sink.{SinkState}
use Rattle.sql_text.specs.Lines.{lines}
use Rattle.io_line_reader.specs.Reading.{TakesAll}
use Rattle.io_line_reader.specs.Texts.{ended_part, IsNear}
use Rattle.cmd_session.specs.Request.{Request}
use Rattle.cmd_session.specs.Requests.{IsRequest}
use Rattle.cmd_session.specs.Answer.{Answer}
use Rattle.cmd_session.specs.State.{State, after}
use Rattle.cmd_session.specs.Answers.{IsAnswer}
use Rattle.cmd_session.specs.Replies.{reply_to, replies, AreAnswers}
use Rattle.cmd_session.specs.Run.{AreWhole, Took, TookAll, Streams}
use Rattle.cmd_session.specs.Session.{creates}
use Rattle.cmd_session.specs.declared.run.Ending.{Ending}
use Rattle.cmd_session.specs.declared.run.Ending.TheVariants.{Done, ReadFault, WriteFault, Memory, ByteLimit}
use Rattle.cmd_each.specs.Each.{formed}
use Rattle.cmd_each.specs.OneLine.{ends_in_feed, joined}
use Rattle.cmd_each.specs.Run.{FormedStreams}

-- a text with an LF at its end, unless it is empty
abbrev pub whole : List ℕ → List ℕ
whole [] = []
whole (b ∷ rest) = if ends_in_feed (b ∷ rest) then b ∷ rest else (b ∷ rest) ++ 10 ∷ []

-- what is written for a reply: it as it is, or as one line
abbrev pub reply_as : Bool → List ℕ → List ℕ
reply_as false reply = reply
reply_as true reply = joined reply

-- what is written for the replies to lines that come to these
abbrev pub replies_as : Bool → State → List Answer → List ℕ
replies_as false s answers = replies s answers
replies_as true s answers = formed joined s answers

-- how a run from a state on ends over one source, each reply written so
abbrev pub StreamsAs : Bool → Ending → State → SourceState → SourceState → SinkState → SinkState → Type 0
StreamsAs false ending s source source' sink sink' = Streams ending s source source' sink sink'
StreamsAs true ending s source source' sink sink' = FormedStreams joined ending s source source' sink sink'

-- The replies to all lines of a text were written.
pub record WroteAs (each : Bool) (s : State) (text : List ℕ) (before now : SinkState) : Type 0 where
  pub answers : List Answer
  pub are : AreAnswers s (lines text) answers
  pub written : Appends before.written now.written (replies_as each s answers)

-- One line of the text that was taken, behind the lines of another text, and what all lines before it came to. The line is whole, and so near to
-- the end of what was taken as without the text ahead.
pub record AtLineBehind (s : State) (ahead : List ℕ) (source now : SourceState) (text : List ℕ) : Type 0 where
  pub answered : List (List ℕ)
  pub line : List ℕ
  pub others : List (List ℕ)
  pub is_cut : lines text ≡ answered ++ line ∷ others
  pub ended : AreWhole source now text (answered ++ line ∷ [])
  pub near : IsNear text (answered ++ line ∷ []) now.last
  pub answers : List Answer
  pub are : AreAnswers s (lines ahead ++ answered) answers

-- The replies to the lines before one line were written, and a front of the reply to that line.
pub record StopsInReply (each : Bool) (s : State) (ahead : List ℕ) (source source' : SourceState) (text : List ℕ) (before now : SinkState) : Type 0 where
  pub at_line : AtLineBehind s ahead source source' text
  pub answer : Answer
  pub comes : IsAnswer (after s at_line.answers) at_line.line answer
  pub front : List ℕ
  pub rest : List ℕ
  pub part : reply_as each (reply_to (after s at_line.answers) answer) ≡ front ++ rest
  pub written : Appends before.written now.written (replies_as each s at_line.answers ++ front)

-- The replies to the lines before one line were written, and nothing else. That line asks for a stream or a query, and no word
-- refuses it; no memory was found for it.
pub record StopsBeforeCreate (each : Bool) (s : State) (ahead : List ℕ) (source source' : SourceState) (text : List ℕ) (before now : SinkState) : Type 0 where
  pub at_line : AtLineBehind s ahead source source' text
  pub request : Request
  pub asks : IsRequest (after s at_line.answers) at_line.line request
  pub creates : IsTrue (creates request)
  pub written : Appends before.written now.written (replies_as each s at_line.answers)

-- The replies to the lines before one line were written, and nothing else: as many lines were read as can be counted.
pub record StopsUncounted (each : Bool) (s : State) (ahead : List ℕ) (source source' : SourceState) (text : List ℕ) (before now : SinkState) : Type 0 where
  pub at_line : AtLineBehind s ahead source source' text
  pub counted : 2 ^ 64 - 2 ≤ (after s at_line.answers).lines
  pub written : Appends before.written now.written (replies_as each s at_line.answers)

-- How a run ends over a source behind a text, by the bytes that were taken of the source and all that was written.
abbrev pub StreamsBehind : Bool → List ℕ → Ending → State → SourceState → SourceState → SinkState → SinkState → Type 0
StreamsBehind each ahead Done s source source' sink sink' = TookAll source source' (λ text. WroteAs each s (ahead ++ text) sink sink')
StreamsBehind each ahead ReadFault s source source' sink sink' = Rose source.faults source'.faults × Took source source' (λ text. WroteAs each s (ahead ++ ended_part text) sink sink')
StreamsBehind each ahead WriteFault s source source' sink sink' = Rose sink.faults sink'.faults × Took source source' (λ text. IfSome sink.written (λ _. StopsInReply each s ahead source source' text sink sink'))
StreamsBehind each ahead Memory s source source' sink sink' = Took source source' (λ text. StopsBeforeCreate each s ahead source source' text sink sink')
StreamsBehind each ahead ByteLimit s source source' sink sink' =
    Took source source' (λ text. ((length text ≡ 2 ^ 64 - 1) × WroteAs each s (ahead ++ ended_part text) sink sink') ⊎ StopsUncounted each s ahead source source' text sink sink')

-- A run ended in the file: the input was not read.
abbrev pub EndsInFile : Bool → Ending → State → SourceState → SourceState → SourceState → SourceState → SinkState → SinkState → Type 0
EndsInFile each ending s file file' input input' sink sink' = StreamsAs each ending s file file' sink sink' × (input' ≡ input)

-- A run read the file to its end, and ended so over the input behind the file's text.
pub record EndsBehindFile (each : Bool) (ending : Ending) (s : State) (file file' input input' : SourceState) (sink sink' : SinkState) : Type 0 where
  pub text : List ℕ
  pub all : TakesAll file file' text
  pub few : length text < 2 ^ 64 - 1
  pub ends : StreamsBehind each (whole text) ending s input input' sink sink'
