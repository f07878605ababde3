-- What contracts see of a counter of steps. Reads and writes of cells are counted apart, so that a bound on the one says nothing of
-- the other: a row that finds much to read may still write once.
use Rattle.std.specs.Prelude.{ℕ}

-- how many cells were read, and how many were written
pub record StepsValue : Type 0 where
  pub reads : ℕ
  pub writes : ℕ
