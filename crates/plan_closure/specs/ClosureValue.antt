-- What contracts see of a closure.
use Rattle.std.specs.Prelude.{ℕ, List, Option}
use Rattle.plan_closure.specs.declared.entry.Entry.{Entry}

-- how many attributes there are, how many constraints were added, the way from each node to each, with 13 to a row, and the
-- numbers of the constraints that close a cycle with a negative sum, where there is one
pub record ClosureValue : Type 0 where
  pub attrs : ℕ
  pub count : ℕ
  pub entries : List (Option Entry)
  pub cycle : Option (List ℕ)
