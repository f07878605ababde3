-- What feeding a text to a session comes to.
use Rattle.std.specs.Prelude.{◌≡◌, ℕ, ◌+◌, ◌<◌, ◌≤◌, ◌⊎◌, ⊤, List, [], ◌∷◌, ◌++◌, length, take, drop, IsTrue}
use Rattle.sql_text.specs.Lines.{lines}
use Rattle.io_row_reader.specs.Ahead.{IsEnded}
use Rattle.io_streams.specs.Sink.{SinkState}
use Rattle.io_line_reader.specs.Reading.{IsFirstFeed}
use Rattle.cmd_session.specs.declared.outcome.LineOutcome.{LineOutcome}
use Rattle.cmd_session.specs.Counted.{AreCounted}
use Rattle.cmd_session.specs.Request.{Request}
use Rattle.cmd_session.specs.Requests.{IsRequest}
use Rattle.cmd_session.specs.Answer.{Answer}
use Rattle.cmd_session.specs.State.{State, one_line_more, next_of, after}
use Rattle.cmd_session.specs.Answers.{IsAnswer}
use Rattle.cmd_session.specs.Replies.{reply_to, replies, AreAnswers}
use Rattle.cmd_session.specs.Session.{SessionValue, StandsFor, Answered, creates}
use Rattle.lib_session.specs.declared.outcome.FeedOutcome.{FeedOutcome}
use Rattle.lib_session.specs.declared.outcome.FeedOutcome.TheVariants as outcome

-- no line of a text lacks its LF: it is empty, or its last byte is LF
abbrev pub AreWholeLines : List ℕ → Type 0
AreWholeLines text = (text ≡ []) ⊎ IsEnded text

-- Rows at the front of a text were only counted, and the line behind them was answered. So many bytes stand before the LF of that line.
pub record AnswersFront (text : List ℕ) (old : SessionValue) (len : ℕ) (how : LineOutcome) (new : SessionValue) (before after : SinkState) : Type 0 where
  pub count : ℕ
  pub begin : ℕ
  pub end : ℕ
  pub left : SessionValue
  pub rows : AreCounted text old count begin end left
  pub first : ℕ
  pub feed : IsFirstFeed (drop end text) first
  pub size : len ≡ end + first
  pub reply : (s : State) → StandsFor left s → Answered how s (take first (drop end text)) new before after

-- The lines of a text up to a place were answered: their replies were added to those that were held, and the session stands for the
-- state after them.
pub record FedTo (s : State) (text : List ℕ) (taken : ℕ) (held now : List ℕ) (new : SessionValue) : Type 0 where
  pub answered : List (List ℕ)
  pub whole : lines text ≡ answered ++ lines (drop taken text)
  pub answers : List Answer
  pub are : AreAnswers s answered answers
  pub written : now ≡ held ++ replies s answers
  pub stands : StandsFor new (after s answers)

-- so were all lines
abbrev pub FedAll : State → List ℕ → List ℕ → List ℕ → SessionValue → Type 0
FedAll s text held now new = FedTo s text (length text) held now new

-- so many bytes are held, and fewer than `most` before each of these answers
abbrev pub AreBounded : ℕ → State → ℕ → List Answer → Type 0
AreBounded most s held [] = ⊤
AreBounded most s held (answer ∷ answers) = (held < most) × AreBounded most (next_of s answer) (held + length (reply_to s answer)) answers

-- The lines of a text before one of them come to these answers, and what was not taken begins behind that line.
pub record UpToLine (s : State) (text : List ℕ) (taken most held : ℕ) : Type 0 where
  pub answered : List (List ℕ)
  pub line : List ℕ
  pub whole : lines text ≡ answered ++ line ∷ lines (drop taken text)
  pub answers : List Answer
  pub are : AreAnswers s answered answers
  pub bounded : AreBounded most s held answers

-- The lines before one line were answered. That line asks for a stream or a query, and no word refuses it; no memory was found for
-- it. It is counted, and nothing else.
pub record FedToCreate (s : State) (text : List ℕ) (taken most : ℕ) (held now : List ℕ) (new : SessionValue) : Type 0 where
  pub up : UpToLine s text taken most (length held)
  pub request : Request
  pub asks : IsRequest (after s up.answers) up.line request
  pub creates : IsTrue (creates request)
  pub written : now ≡ held ++ replies s up.answers
  pub stands : StandsFor new (one_line_more (after s up.answers))

-- The lines before one line were answered. That line was taken, and a front of its reply was added; for the rest no memory was found.
pub record FedToReply (s : State) (text : List ℕ) (taken most : ℕ) (held now : List ℕ) (new : SessionValue) : Type 0 where
  pub up : UpToLine s text taken most (length held)
  pub answer : Answer
  pub comes : IsAnswer (after s up.answers) up.line answer
  pub front : List ℕ
  pub rest : List ℕ
  pub part : reply_to (after s up.answers) answer ≡ front ++ rest
  pub written : now ≡ held ++ (replies s up.answers ++ front)
  pub stands : StandsFor new (next_of (after s up.answers) answer)

-- The lines of a text up to a place were answered, and before each of them fewer than `most` bytes were held.
pub record FedWithin (s : State) (text : List ℕ) (taken most : ℕ) (held now : List ℕ) (new : SessionValue) : Type 0 where
  pub fed : FedTo s text taken held now new
  pub bounded : AreBounded most s (length held) fed.answers

-- what answering the lines of a text comes to, by how it went
abbrev pub Feeds : FeedOutcome → State → List ℕ → ℕ → ℕ → List ℕ → List ℕ → SessionValue → Type 0
Feeds outcome.Done s text taken most held now new = FedWithin s text taken most held now new × (taken ≡ length text)
Feeds outcome.Full s text taken most held now new = FedWithin s text taken most held now new × (taken < length text) × (most ≤ length now)
Feeds outcome.NoRoom s text taken most held now new = FedWithin s text taken most held now new × (taken < length text)
Feeds outcome.Memory s text taken most held now new = FedToCreate s text taken most held now new
Feeds outcome.Stopped s text taken most held now new = FedToReply s text taken most held now new
Feeds outcome.Cut s text taken most held now new = ⊥
Feeds outcome.Ended s text taken most held now new = ⊥
