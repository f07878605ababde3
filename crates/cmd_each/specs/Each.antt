-- Replies in a form.
use Rattle.std.specs.Prelude.{ℕ, List, [], ◌∷◌, ◌++◌}
use Rattle.cmd_session.specs.Answer.{Answer}
use Rattle.cmd_session.specs.State.{State, next_of}
use Rattle.cmd_session.specs.Replies.{reply_to}

-- the replies to lines that come to these, each in this form, and each asked of the state after those before it
unfoldable pub formed : (List ℕ → List ℕ) → State → List Answer → List ℕ
formed form s [] = []
formed form s (answer ∷ others) = form (reply_to s answer) ++ formed form (next_of s answer) others
