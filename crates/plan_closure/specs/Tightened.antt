-- A table of bounds, with one bound added.
use Rattle.std.specs.Prelude.{◌≡◌, ℕ, ℤ, pos, ◌+ℤ◌, ◌≤ℤ◌, int_lt, cond, Option, Some, None}
use Rattle.plan_constraints.specs.Table.{Table}

-- the sum of the three, where all are there
abbrev pub through : Option ℤ → ℤ → Option ℤ → Option ℤ
through (Some p) c (Some q) = Some (p +ℤ c +ℤ q)
through (Some p) c None = None
through None c y = None

-- the lesser of the two, where they are there
abbrev pub lesser : Option ℤ → Option ℤ → Option ℤ
lesser None y = y
lesser (Some d) None = Some d
lesser (Some d) (Some s) = cond (int_lt s d) (Some s) (Some d)

-- the table with the bound c of a - b
abbrev pub tightened : Table → ℕ → ℕ → ℤ → Table
tightened t a b c i j = lesser (t i j) (through (t i a) c (t b j))

-- the bound c of a - b closes no negative cycle
pub record Agrees (t : Table) (a b : ℕ) (c : ℤ) : Type 0 where
  pub agrees : (r : ℤ) → t b a ≡ Some r → pos 0 ≤ℤ (r +ℤ c)
