-- The checkpoint of every state that a session reaches.
use Rattle.std.specs.Prelude.{◌≡◌, ℕ, ◌+◌, ◌≤◌, ◌^◌, List, ◌++◌, length, All, None}
use Rattle.sql_text.specs.Lines.{lines}
use Rattle.io_streams.specs.Sink.{SinkState}
use Rattle.sql_catalog.specs.Streams.{IsCatalog}
use Rattle.cmd_session.specs.Announced.{announced_by}
use Rattle.cmd_session.specs.Answer.{Answer}
use Rattle.cmd_session.specs.Checkpoint.{checkpoint_lines}
use Rattle.cmd_session.specs.Replies.{reply_by, AreAnswers}
use Rattle.cmd_session.specs.declared.outcome.LineOutcome.{LineOutcome}
use Rattle.cmd_session.specs.Request.{saved}
use Rattle.cmd_session.specs.Session.{SessionValue, StandsFor, Answered}
use Rattle.cmd_session.specs.State.{State, initial, after}
use Rattle.law_resume.specs.Sound.{IsSoundState}
use Rattle.law_resume.specs.Continuing.{NoneResumesBeforeRows, unnumbered_replies, GoOnAlike}
use Rattle.law_resume.specs.Restores.{IsRestorable, FitTogether, Restores}

-- lines lead to the state from the first one, whatever the number of pages is
pub record IsReached (limit : ℕ) (s : State) : Type 0 where
  pub pages : ℕ
  pub lines : List (List ℕ)
  pub answers : List Answer
  pub answered : AreAnswers (initial limit pages) lines answers
  pub is : after (initial limit pages) answers ≡ s

-- after each line, a session that stood for such a state stands for such a state again
abbrev pub SessionsStandForReached : Type 0
SessionsStandForReached =
    (limit : ℕ) (s : State) (line : List ℕ) (outcome : LineOutcome) (new : SessionValue) (written now : SinkState) → IsReached limit s → Answered outcome s line new written now
    → (t : State) × IsReached limit t × StandsFor new t

-- such a state is sound, its streams are those of a catalog, and its live queries can be restored, each and together
abbrev pub ReachedStatesAreRestorable : Type 0
ReachedStatesAreRestorable =
    (limit : ℕ) → limit ≤ 2 ^ 40 → (s : State) → IsReached limit s
    → IsSoundState s × IsCatalog s.streams × All (IsRestorable s.streams s.taken) s.queries × FitTogether s.pages s.queries

-- so, where no lock stands, the lines of its checkpoint lead from the first state to one that keeps the same, which goes on as it does, and
-- it as that one
abbrev pub CheckpointOfReached : Type 0
CheckpointOfReached =
    (limit : ℕ) → limit ≤ 2 ^ 40 → (s : State) → IsReached limit s → s.lock ≡ None → (r : Restores s) × GoOnAlike s r.state × GoOnAlike r.state s

-- each of these lines has at most 1,024 bytes
abbrev pub ReachedCheckpointsAreShort : Type 0
ReachedCheckpointsAreShort = (limit : ℕ) → limit ≤ 2 ^ 40 → (s : State) → IsReached limit s → All (λ line. length line ≤ 1024) (checkpoint_lines s)

-- and they are at most the cells and answers that the live queries announce, and 200
abbrev pub ReachedCheckpointsHaveFewLines : Type 0
ReachedCheckpointsHaveFewLines =
    (limit : ℕ) → limit ≤ 2 ^ 40 → (s : State) → IsReached limit s → length (checkpoint_lines s) ≤ (announced_by s.queries).cells + (announced_by s.queries).answers + 200

-- A session that reads the reply to CHECKPOINT in such a state, in which no lock stands, and then the rest of a text comes to the same answers to the rest, with the
-- same replies but for the numbers of refused lines: RESUME lines of the rest before its first taken row aside.
abbrev pub CheckpointContinuesTexts : Type 0
CheckpointContinuesTexts =
    (limit : ℕ) → limit ≤ 2 ^ 40 → (s : State) → IsReached limit s → s.lock ≡ None → (rest : List ℕ) (answers : List Answer)
    → AreAnswers s (lines rest) answers → NoneResumesBeforeRows (lines rest) answers
    → (told : List Answer) × AreAnswers (initial s.limit s.pages) (lines (reply_by s saved ++ rest)) (told ++ answers)
    × (unnumbered_replies (initial s.limit s.pages) (told ++ answers) ≡ unnumbered_replies (initial s.limit s.pages) told ++ unnumbered_replies s answers)
