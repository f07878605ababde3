-- What a table of bounds keeps: it is closed, and each bound is the sum of a chain of constraints.
use Rattle.std.specs.Prelude.{◌≡◌, ◌≢◌, ℕ, suc, ◌+◌, ◌*◌, ◌<◌, ◌≤◌, ℤ, pos, neg_ℤ, ◌+ℤ◌, ◌≤ℤ◌, ◌<ℤ◌, List, [], ◌∷◌, length, Option, Some, None, Contains, slice_get, slice_index_or}
use Rattle.plan_constraints.specs.declared.constraint.Constraint.{Constraint}
use Rattle.plan_closure.specs.declared.entry.Entry.{Entry}
use Rattle.plan_closure.specs.ClosureValue.{ClosureValue}
use Rattle.plan_constraints.specs.Table.{Table, IsClosed, Covers}
use Rattle.plan_closure.specs.Entries.{entry_bound}

-- the constraints with the numbers es, from 1, lead from i to j over the nodes xs, both ends among them, with the sum s
pub data Chain (cs : List Constraint) : List ℕ → ℕ → ℕ → List ℕ → ℤ → Type 0 where
  stop : {i : ℕ} → Chain cs [] i i (i ∷ []) (pos 0)
  step : {e i k j : ℕ} {es xs : List ℕ} {b s : ℤ} → (c : Constraint) → slice_get cs e ≡ Some c → c.left ≡ i → c.right ≡ k → c.bound ≡ b → Chain cs es k j xs s → Chain cs (suc e ∷ es) i j (i ∷ xs) (b +ℤ s)

-- each bound lies within w either way
pub record Modest (cs : List Constraint) (w : ℤ) : Type 0 where
  pub low : (c : Constraint) → Contains cs c → neg_ℤ w ≤ℤ c.bound
  pub high : (c : Constraint) → Contains cs c → c.bound ≤ℤ w

-- the way between two nodes, in a table with 13 to a row
abbrev pub entry_at : List (Option Entry) → ℕ → ℕ → Option Entry
entry_at ws i j = slice_index_or ws (13 * i + j) None

-- the bounds of the ways
abbrev pub bound_at : List (Option Entry) → Table
bound_at ws i j = entry_bound (entry_at ws i j)

-- the way begins with a constraint from i, and goes on as the way of the next node
pub record Next (cs : List Constraint) (ws : List (Option Entry)) (i j : ℕ) (w : Entry) : Type 0 where
  pub index : ℕ
  pub number : w.number ≡ suc index
  pub edge : Constraint
  pub at : slice_get cs index ≡ Some edge
  pub left : edge.left ≡ i
  pub right : edge.right ≡ w.next
  pub rest : Entry
  pub rest_is : entry_at ws w.next j ≡ Some rest
  pub sum : w.bound ≡ edge.bound +ℤ rest.bound
  pub long : w.length ≡ suc rest.length

-- the ways among the first n nodes are the closure of the constraints
pub record AreTight (n : ℕ) (cs : List Constraint) (ws : List (Option Entry)) : Type 0 where
  pub closed : IsClosed n (bound_at ws)
  pub covers : Covers n (bound_at ws) cs
  pub still : (i : ℕ) → i < n → (w : Entry) → entry_at ws i i ≡ Some w → w.length ≡ 0
  pub next : (i j : ℕ) → i < n → j < n → i ≢ j → (w : Entry) → entry_at ws i j ≡ Some w → Next cs ws i j w

-- the numbers close a chain with a negative sum
pub record IsNegative (cs : List Constraint) (es : List ℕ) : Type 0 where
  pub node : ℕ
  pub nodes : List ℕ
  pub sum : ℤ
  pub chain : Chain cs es node node nodes sum
  pub negative : sum <ℤ pos 0

-- a closed table, or a cycle that shows that there is none
abbrev pub IsSettled : ℕ → List Constraint → List (Option Entry) → Option (List ℕ) → Type 0
IsSettled n cs ws None = AreTight n cs ws
IsSettled n cs ws (Some es) = IsNegative cs es

-- the closure of these constraints between n attributes
pub record IsClosureOf (k : ClosureValue) (n : ℕ) (cs : List Constraint) : Type 0 where
  pub attrs : k.attrs ≡ n
  pub few : n < 13
  pub count : k.count ≡ length cs
  pub left : (c : Constraint) → Contains cs c → c.left < suc n
  pub right : (c : Constraint) → Contains cs c → c.right < suc n
  pub modest : Modest cs (pos 1000000000000000)
  pub settled : IsSettled (suc n) cs k.entries k.cycle

-- the closure of some constraints, to which so many more may be added
pub record HasRoom (k : ClosureValue) (more : ℕ) : Type 0 where
  pub constraints : List Constraint
  pub closure : IsClosureOf k k.attrs constraints
  pub room : length constraints + more ≤ 300
