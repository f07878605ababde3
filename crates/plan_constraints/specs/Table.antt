-- Tables of bounds of the differences of nodes, and when they are closed.
use Rattle.std.specs.Prelude.{◌≡◌, ℕ, ◌<◌, ℤ, pos, ◌+ℤ◌, ◌≤ℤ◌, List, Option, Some, Contains}
use Rattle.plan_constraints.specs.declared.constraint.Constraint.{Constraint}

-- a bound of the difference of two nodes, where there is one
abbrev pub Table : Type 0
Table = ℕ → ℕ → Option ℤ

-- some bound at i and j is at most u
pub record AtMost (t : Table) (i j : ℕ) (u : ℤ) : Type 0 where
  pub bound : ℤ
  pub is : t i j ≡ Some bound
  pub small : bound ≤ℤ u

-- each node is 0 above itself, and no two bounds sum to less than the bound of their ends
pub record IsClosed (n : ℕ) (t : Table) : Type 0 where
  pub self : (i : ℕ) → i < n → t i i ≡ Some (pos 0)
  pub closed : (i j k : ℕ) → i < n → j < n → k < n → (p q : ℤ) → t i j ≡ Some p → t j k ≡ Some q → AtMost t i k (p +ℤ q)

-- the table is as tight as each constraint
pub record Covers (n : ℕ) (t : Table) (cs : List Constraint) : Type 0 where
  pub left : (c : Constraint) → Contains cs c → c.left < n
  pub right : (c : Constraint) → Contains cs c → c.right < n
  pub tight : (c : Constraint) → Contains cs c → AtMost t c.left c.right c.bound
