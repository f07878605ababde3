-- Words by what they begin with.
use Rattle.std.specs.Prelude.{◌≡◌, ℕ, List, ◌∷◌}
use Rattle.cmd_session.specs.Words.{IsRowLimit}

-- the first word is a number of rows that a session may take
pub record StartsWithLimit (texts : List (List ℕ)) (n : ℕ) : Type 0 where
  pub number : List ℕ
  pub others : List (List ℕ)
  pub words : texts ≡ number ∷ others
  pub is : IsRowLimit number n
