-- States that keep the same.
use Rattle.std.specs.Prelude.{◌≡◌, ◌≤◌, ◌+◌, List, [], ◌∷◌, length, ⊤, All}
use Rattle.exec_registry.specs.Live.{LiveQuery, base_in}
use Rattle.exec_registry.specs.Sound.{IsSoundLive}
use Rattle.cmd_session.specs.Announced.{announced_by}
use Rattle.cmd_session.specs.Checkpoint.{checkpoint_lines}
use Rattle.cmd_session.specs.State.{State}
use Rattle.cmd_session.specs.Session.{SessionValue, StandsFor}

-- two live queries are alike: they have the same name, query and plan, share their cells or not, and the same is kept of them
pub record IsAlike (q r : LiveQuery) : Type 0 where
  pub name : q.name ≡ r.name
  pub query : q.query ≡ r.query
  pub shared : q.shared ≡ r.shared
  pub plan : q.plan ≡ r.plan
  pub kept : base_in q ≡ base_in r

-- live queries that are alike, one by one
abbrev pub AreAllAlike : List LiveQuery → List LiveQuery → Type 0
AreAllAlike [] [] = ⊤
AreAllAlike [] (r ∷ others) = ⊥
AreAllAlike (q ∷ queries) [] = ⊥
AreAllAlike (q ∷ queries) (r ∷ others) = IsAlike q r × AreAllAlike queries others

-- two states are alike: they differ at most in the number of lines, in whether a row line was taken, and in how what is kept of a live
-- query came from a base and the rows since
pub record AreAlike (s t : State) : Type 0 where
  pub limit : s.limit ≡ t.limit
  pub pages : s.pages ≡ t.pages
  pub streams : s.streams ≡ t.streams
  pub taken : s.taken ≡ t.taken
  pub queries : AreAllAlike s.queries t.queries
  pub lock : s.lock ≡ t.lock

-- states that are alike have one checkpoint
abbrev pub AlikeStatesHaveOneCheckpoint : Type 0
AlikeStatesHaveOneCheckpoint = (s t : State) → AreAlike s t → checkpoint_lines s ≡ checkpoint_lines t

-- a session that stands for a state stands for each state that is alike, with the number of lines of its own and its own mark whether a row
-- line was taken, where the live queries of that state are such as a registry stands for
abbrev pub StandsAlike : Type 0
StandsAlike =
    (k : SessionValue) (s t : State) → StandsFor k s → AreAlike s t → All IsSoundLive t.queries → StandsFor k (record t { lines = s.lines; began = s.began })

-- the lines of a checkpoint are at most the cells and answers that the live queries announce, and 200, where there are no more streams and
-- live queries than there may be, and the live queries are such as a registry stands for
abbrev pub CheckpointsHaveFewLines : Type 0
CheckpointsHaveFewLines =
    (s : State) → length s.streams ≤ 16 → length s.queries ≤ 64 → All IsSoundLive s.queries
    → length (checkpoint_lines s) ≤ (announced_by s.queries).cells + (announced_by s.queries).answers + 200
