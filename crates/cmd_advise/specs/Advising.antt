-- What `advise` comes to over the lines of a script.
use Rattle.std.specs.Prelude.{◌≡◌, ℕ, None, List, [], ◌∷◌, ◌++◌}
use Rattle.sql_script.specs.Commands.{Outcome}
use Rattle.cmd_advise.specs.State.{State, empty, status_for}
use Rattle.cmd_advise.specs.Summary.{summary_text}
use Rattle.cmd_advise.specs.Finding.{Finding, IsFinding, after, finding_text}

-- What is said of lines, one after another, and the state behind them.
pub data ComeTo : List (List ℕ) → List ℕ → State → Type 0 where
  none : ComeTo [] [] empty
  one_more : {lines : List (List ℕ)} {text : List ℕ} {s : State} → ComeTo lines text s → (line : List ℕ) → (finding : Finding) → IsFinding s line finding
      → ComeTo (lines ++ line ∷ []) (text ++ finding_text s line finding) (after s line finding)

-- what is said of all lines, and then what they came to
abbrev pub outcome_of : List ℕ → State → Outcome
outcome_of text s = record { status = status_for s; text = text ++ summary_text s; needs = None }

-- What it comes to: each line is looked at behind those before it, and all are read.
pub record Advises (lines : List (List ℕ)) (o : Outcome) : Type 0 where
  pub text : List ℕ
  pub state : State
  pub come : ComeTo lines text state
  pub is : o ≡ outcome_of text state
