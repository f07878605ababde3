-- The words that say how many rows a session may take.
use Rattle.std.specs.Prelude.{◌≡◌, ℕ, ◌<◌, ◌≤◌, ◌^◌, List, decimal}

-- a number of rows that a session may take, in its shortest form
pub record IsRowLimit (text : List ℕ) (limit : ℕ) : Type 0 where
  pub digits : text ≡ decimal limit
  pub some : 0 < limit
  pub few : limit ≤ 2 ^ 40
