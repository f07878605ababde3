-- What a run over the lines of a source comes to.
use Rattle.std.specs.Prelude.{◌≡◌, ℕ, ◌-◌, ◌^◌, ◌<◌, ◌≤◌, ◌⊎◌, ⊤, List, [], ◌∷◌, ◌++◌, length, IfSome, IsTrue}
use Rattle.std.specs.Io.KnownBytes.{Consumes, Appends}
use Rattle.io_streams.specs.Counts.{Rose}
use Rattle.io_streams.specs.declared.status.Status.{Status}
use Rattle.io_streams.specs.declared.status.Status.TheVariants as status
use Rattle.io_streams.specs.Source.{SourceState}
use Rattle.io_streams.specs.Sink.{SinkState}
use Rattle.io_line_reader.specs.Reading.{TakesAll}
use Rattle.sql_text.specs.Lines.{lines}
use Rattle.cmd_session.specs.Request.{Request}
use Rattle.cmd_session.specs.Requests.{IsRequest}
use Rattle.cmd_session.specs.Answer.{Answer}
use Rattle.cmd_session.specs.State.{State, after}
use Rattle.cmd_session.specs.Answers.{IsAnswer}
use Rattle.cmd_session.specs.Replies.{reply_to, replies, AreAnswers, AreReplies}
use Rattle.cmd_session.specs.Session.{SessionValue, StandsFor, creates}
use Rattle.cmd_session.specs.declared.run.Ending.{Ending}
use Rattle.cmd_session.specs.declared.run.Ending.TheVariants.{Done, ReadFault, WriteFault, Memory, ByteLimit}
use Rattle.io_line_reader.specs.Texts.{text_of, ended_part, IsNear}

-- the session stands for some state
pub record HasState (kept : SessionValue) : Type 0 where
  pub state : State
  pub stands : StandsFor kept state

-- The bytes of a text were taken from the source, and this holds of the text.
pub record Took (source now : SourceState) (P : List ℕ → Type 0) : Type 0 where
  pub text : List ℕ
  pub taken : Consumes source.left now.left text
  pub holds : P text

-- The source was read to its end, and this holds of all its bytes, which are fewer than can be counted.
pub record TookAll (source now : SourceState) (P : List ℕ → Type 0) : Type 0 where
  pub text : List ℕ
  pub all : TakesAll source now text
  pub few : length text < 2 ^ 64 - 1
  pub holds : P text

-- The replies to all lines of a text were written. From the empty state on, they are its session text.
pub record WroteText (s : State) (text : List ℕ) (before now : SinkState) : Type 0 where
  pub replied : List ℕ
  pub is_text : AreReplies s text replied
  pub written : Appends before.written now.written replied

-- The replies to all lines of a text were written, and the session stands for the state after them.
pub record AnsweredText (s : State) (text : List ℕ) (before now : SinkState) (new : SessionValue) : Type 0 where
  pub answers : List Answer
  pub are : AreAnswers s (lines text) answers
  pub written : Appends before.written now.written (replies s answers)
  pub stands : StandsFor new (after s answers)

-- These lines are whole: each with its LF, they begin the text that was taken, or that is all there is.
abbrev pub AreWhole : SourceState → SourceState → List ℕ → List (List ℕ) → Type 0
AreWhole source now text front = ((rest : List ℕ) × (text ≡ text_of front ++ rest)) ⊎ TakesAll source now text

-- One line of the text that was taken, which is whole, and what the lines before it came to. At most 4,096 bytes of the text lie
-- beyond it, and fewer than the last read of the source gave: so each line that ended before that read comes before this line.
pub record AtLine (s : State) (source now : SourceState) (text : List ℕ) : Type 0 where
  pub answered : List (List ℕ)
  pub line : List ℕ
  pub others : List (List ℕ)
  pub whole : lines text ≡ answered ++ line ∷ others
  pub ended : AreWhole source now text (answered ++ line ∷ [])
  pub near : IsNear text (answered ++ line ∷ []) now.last
  pub answers : List Answer
  pub are : AreAnswers s answered answers

-- The replies to the lines before one line were written, and a front of the reply to that line.
pub record StopsAtLine (s : State) (source source' : SourceState) (text : List ℕ) (before now : SinkState) : Type 0 where
  pub at_line : AtLine s source source' text
  pub answer : Answer
  pub comes : IsAnswer (after s at_line.answers) at_line.line answer
  pub front : List ℕ
  pub rest : List ℕ
  pub part : reply_to (after s at_line.answers) answer ≡ front ++ rest
  pub written : Appends before.written now.written (replies s at_line.answers ++ front)

-- The replies to the lines before one line were written, and nothing else. That line asks for a stream or a query, and no word
-- refuses it; no memory was found for it.
pub record StopsAtCreate (s : State) (source source' : SourceState) (text : List ℕ) (before now : SinkState) : Type 0 where
  pub at_line : AtLine s source source' text
  pub request : Request
  pub asks : IsRequest (after s at_line.answers) at_line.line request
  pub creates : IsTrue (creates request)
  pub written : Appends before.written now.written (replies s at_line.answers)

-- The replies to the lines before one line were written, and nothing else: as many lines were read as can be counted.
pub record StopsAtCount (s : State) (source source' : SourceState) (text : List ℕ) (before now : SinkState) : Type 0 where
  pub at_line : AtLine s source source' text
  pub counted : 2 ^ 64 - 2 ≤ (after s at_line.answers).lines
  pub written : Appends before.written now.written (replies s at_line.answers)

-- How a run from a state on ends, by the bytes that were taken and those that were written. A sink that does not tell its
-- bytes does not show at which line it failed.
abbrev pub Streams : Ending → State → SourceState → SourceState → SinkState → SinkState → Type 0
Streams Done s source source' sink sink' = TookAll source source' (λ text. WroteText s text sink sink')
Streams ReadFault s source source' sink sink' = Rose source.faults source'.faults × Took source source' (λ text. WroteText s (ended_part text) sink sink')
Streams WriteFault s source source' sink sink' = Rose sink.faults sink'.faults × Took source source' (λ text. IfSome sink.written (λ _. StopsAtLine s source source' text sink sink'))
Streams Memory s source source' sink sink' = Took source source' (λ text. StopsAtCreate s source source' text sink sink')
Streams ByteLimit s source source' sink sink' = Took source source' (λ text. ((length text ≡ 2 ^ 64 - 1) × WroteText s (ended_part text) sink sink') ⊎ StopsAtCount s source source' text sink sink')

-- a run ends so, and the counts of faults did not fall
pub record Ran (ending : Ending) (s : State) (source source' : SourceState) (sink sink' : SinkState) : Type 0 where
  pub ends : Streams ending s source source' sink sink'
  pub input_later : source.faults ≤ source'.faults
  pub output_later : sink.faults ≤ sink'.faults

-- the status is one that comes without a fault of the source or the sink
abbrev pub IsNoFault : Status → Type 0
IsNoFault status.Done = ⊤
IsNoFault status.Invalid = ⊤
IsNoFault status.Usage = ⊤
IsNoFault status.ReadFault = ⊥
IsNoFault status.WriteFault = ⊥
IsNoFault status.Memory = ⊤
IsNoFault status.ByteLimit = ⊤
