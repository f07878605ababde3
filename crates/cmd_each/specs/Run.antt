-- What a run over the lines of a source comes to in which each reply is written in some form, as in one line.
use Rattle.std.specs.Prelude.{◌≡◌, ℕ, ◌-◌, ◌^◌, ◌≤◌, ◌⊎◌, List, ◌++◌, length, IfSome, IsTrue}
use Rattle.std.specs.Io.KnownBytes.{Appends}
use Rattle.io_streams.specs.Counts.{Rose}
use Rattle.io_streams.specs.Source.{SourceState}
use Rattle.io_streams.specs.Sink.{SinkState}
use Rattle.sql_text.specs.Lines.{lines}
use Rattle.io_line_reader.specs.Texts.{ended_part}
use Rattle.cmd_session.specs.Request.{Request}
use Rattle.cmd_session.specs.Requests.{IsRequest}
use Rattle.cmd_session.specs.Answer.{Answer}
use Rattle.cmd_session.specs.State.{State, after}
use Rattle.cmd_session.specs.Answers.{IsAnswer}
use Rattle.cmd_session.specs.Replies.{reply_to, AreAnswers}
use Rattle.cmd_session.specs.Run.{AtLine, Took, TookAll}
use Rattle.cmd_session.specs.Session.{SessionValue, StandsFor, creates}
use Rattle.cmd_session.specs.declared.run.Ending.{Ending}
use Rattle.cmd_session.specs.declared.run.Ending.TheVariants.{Done, ReadFault, WriteFault, Memory, ByteLimit}
use Rattle.cmd_each.specs.Each.{formed}

-- The replies to all lines of a text were written, each in this form.
pub record WroteFormed (form : List ℕ → List ℕ) (s : State) (text : List ℕ) (before now : SinkState) : Type 0 where
  pub answers : List Answer
  pub are : AreAnswers s (lines text) answers
  pub written : Appends before.written now.written (formed form s answers)

-- The replies to the lines before one line were written, and a front of the reply to that line in its form.
pub record FormedStopsAtLine (form : List ℕ → List ℕ) (s : State) (source source' : SourceState) (text : List ℕ) (before now : SinkState) : Type 0 where
  pub at_line : AtLine s source source' text
  pub answer : Answer
  pub comes : IsAnswer (after s at_line.answers) at_line.line answer
  pub front : List ℕ
  pub rest : List ℕ
  pub part : form (reply_to (after s at_line.answers) answer) ≡ front ++ rest
  pub written : Appends before.written now.written (formed form s at_line.answers ++ front)

-- The replies to the lines before one line were written, and nothing else. That line asks for a stream or a query, and no word
-- refuses it; no memory was found for it.
pub record FormedStopsAtCreate (form : List ℕ → List ℕ) (s : State) (source source' : SourceState) (text : List ℕ) (before now : SinkState) : Type 0 where
  pub at_line : AtLine s source source' text
  pub request : Request
  pub asks : IsRequest (after s at_line.answers) at_line.line request
  pub creates : IsTrue (creates request)
  pub written : Appends before.written now.written (formed form s at_line.answers)

-- The replies to the lines before one line were written, and nothing else: as many lines were read as can be counted.
pub record FormedStopsAtCount (form : List ℕ → List ℕ) (s : State) (source source' : SourceState) (text : List ℕ) (before now : SinkState) : Type 0 where
  pub at_line : AtLine s source source' text
  pub counted : 2 ^ 64 - 2 ≤ (after s at_line.answers).lines
  pub written : Appends before.written now.written (formed form s at_line.answers)

-- How a run from a state on ends, by the bytes that were taken and those that were written.
abbrev pub FormedStreams : (List ℕ → List ℕ) → Ending → State → SourceState → SourceState → SinkState → SinkState → Type 0
FormedStreams form Done s source source' sink sink' = TookAll source source' (λ text. WroteFormed form s text sink sink')
FormedStreams form ReadFault s source source' sink sink' = Rose source.faults source'.faults × Took source source' (λ text. WroteFormed form s (ended_part text) sink sink')
FormedStreams form WriteFault s source source' sink sink' = Rose sink.faults sink'.faults × Took source source' (λ text. IfSome sink.written (λ _. FormedStopsAtLine form s source source' text sink sink'))
FormedStreams form Memory s source source' sink sink' = Took source source' (λ text. FormedStopsAtCreate form s source source' text sink sink')
FormedStreams form ByteLimit s source source' sink sink' = Took source source' (λ text. ((length text ≡ 2 ^ 64 - 1) × WroteFormed form s (ended_part text) sink sink') ⊎ FormedStopsAtCount form s source source' text sink sink')

-- a run ends so, and the counts of faults did not fall
pub record FormedRan (form : List ℕ → List ℕ) (ending : Ending) (s : State) (source source' : SourceState) (sink sink' : SinkState) : Type 0 where
  pub ends : FormedStreams form ending s source source' sink sink'
  pub input_later : source.faults ≤ source'.faults
  pub output_later : sink.faults ≤ sink'.faults

-- The replies to all lines of a text were written, each in this form, and the session stands for the state after them.
pub record AnsweredFormed (form : List ℕ → List ℕ) (s : State) (text : List ℕ) (before now : SinkState) (new : SessionValue) : Type 0 where
  pub answers : List Answer
  pub are : AreAnswers s (lines text) answers
  pub written : Appends before.written now.written (formed form s answers)
  pub stands : StandsFor new (after s answers)
