-- The cells that lines may take, one after another.
use Rattle.std.specs.Prelude.{◌≡◌, ◌⊎◌, ℕ, ◌+◌, ◌≤◌, List, [], ◌∷◌, ◌++◌}
use Rattle.io_line_reader.specs.Texts.{ended_part}
use Rattle.exec_pool.specs.Counted.{StepsValue}
use Rattle.sql_text.specs.Lines.{lines}
use Rattle.cmd_session.specs.Answer.{Answer}
use Rattle.cmd_session.specs.Replies.{AreAnswers}
use Rattle.cmd_session.specs.Session.{most_announced_reads, most_announced_writes}
use Rattle.cmd_session.specs.State.{State, after, next_of}

-- the most cells that are read over lines that come to these: for each line as many as the queries announce that are live before it
unfoldable pub reads_over : State → List Answer → ℕ
reads_over s [] = 0
reads_over s (answer ∷ others) = most_announced_reads s.queries + reads_over (next_of s answer) others

-- and the most that are written
unfoldable pub writes_over : State → List Answer → ℕ
writes_over s [] = 0
writes_over s (answer ∷ others) = most_announced_writes s.queries + writes_over (next_of s answer) others

-- The first lines of a text, or of its part that has ended, were answered, and at most one line more was begun. No line took more cells than the queries
-- announce that were live before it.
pub record SpentOver (s : State) (text : List ℕ) (old new : StepsValue) : Type 0 where
  pub answered : List (List ℕ)
  pub others : List (List ℕ)
  pub whole : (lines text ≡ answered ++ others) ⊎ (lines (ended_part text) ≡ answered ++ others)
  pub answers : List Answer
  pub are : AreAnswers s answered answers
  pub reads : new.reads ≤ old.reads + (reads_over s answers + most_announced_reads (after s answers).queries)
  pub writes : new.writes ≤ old.writes + (writes_over s answers + most_announced_writes (after s answers).queries)
