-- What holds of all replies that are joined.
use Rattle.std.specs.Prelude.{◌≡◌, ◌≢◌, ℕ, List, [], ◌∷◌, ◌++◌, All}
use Rattle.cmd_each.specs.OneLine.{joined}

-- a reply without `;` is joined to one line: one LF stands in it, at its end
abbrev pub IsOneLine : Type 0
IsOneLine = (reply : List ℕ) → All (λ b. b ≢ 59) reply → (line : List ℕ) × (joined reply ≡ line ++ 10 ∷ []) × All (λ b. b ≢ 10) line
