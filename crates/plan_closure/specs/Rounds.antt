-- The numbers of a cycle: the first, and the rest of them.
use Rattle.std.specs.Prelude.{ℕ, List, [], ◌∷◌}
use Rattle.plan_closure.specs.declared.closure.Cycle.TheInside.{Inside}

abbrev pub numbers_of : Inside → List ℕ
numbers_of y = y.first ∷ y.rest

-- a list with none is that of no cycle
abbrev pub cycle_of : List ℕ → Inside
cycle_of [] = record { first = 0; rest = [] }
cycle_of (x ∷ xs) = record { first = x; rest = xs }
