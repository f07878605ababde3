-- What the parts of a load do.
use Rattle.std.specs.Prelude.{◌≡◌, ℕ, List}
use Rattle.cmd_session.specs.Answer.{Answer}
use Rattle.cmd_session.specs.Answers.{IsAnswer}
use Rattle.cmd_session.specs.State.{State, next_of, after}
use Rattle.cmd_session.specs.Session.{SessionValue, StandsFor}
use Rattle.cmd_session.specs.Replies.{reply_to, replies, AreAnswers}
use Rattle.cmd_dispatch.specs.Load.{line_count, start}

-- a line comes to an answer, the session stands for the next state, and this many LF are in the reply
pub record Counted (s : State) (line : List ℕ) (new : SessionValue) (n : ℕ) : Type 0 where
  pub answer : Answer
  pub comes : IsAnswer s line answer
  pub stands : StandsFor new (next_of s answer)
  pub count : n ≡ line_count (reply_to s answer)

-- The lines come to answers from the first state on, the session stands for the state behind them, and this many LF are in all replies.
pub record AnsweredScript (texts : List (List ℕ)) (new : SessionValue) (n : ℕ) : Type 0 where
  pub answers : List Answer
  pub are : AreAnswers start texts answers
  pub stands : StandsFor new (after start answers)
  pub count : n ≡ line_count (replies start answers)
