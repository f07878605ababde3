-- What difference constraints say of the integers at the nodes. Node 0 is the number 0.
use Rattle.std.specs.Prelude.{◌≡◌, ℕ, ◌-◌, ◌≤◌, ◌<◌, ℤ, pos, neg_ℤ, ◌+ℤ◌, ◌-ℤ◌, ◌≤ℤ◌, ◌<ℤ◌, List, [], ◌∷◌, ◌++◌, Option, Some, None, slice_get, Contains}
use Rattle.plan_constraints.specs.declared.constraint.Constraint.{Constraint}

-- both nodes exist, and the bound lies within 10^15 either way
pub record IsWithin (attrs : ℕ) (c : Constraint) : Type 0 where
  pub left : c.left ≤ attrs
  pub right : c.right ≤ attrs
  pub low : neg_ℤ (pos 1000000000000000) ≤ℤ c.bound
  pub high : c.bound ≤ℤ pos 1000000000000000

-- integers for the nodes, node 0 being 0, that meet all constraints
pub record Solves (x : ℕ → ℤ) (cs : List Constraint) : Type 0 where
  pub origin : x 0 ≡ pos 0
  pub each : (c : Constraint) → Contains cs c → x c.left ≤ℤ (c.bound +ℤ x c.right)

-- some integers meet all constraints
pub record IsSatisfiable (cs : List Constraint) : Type 0 where
  pub at : ℕ → ℤ
  pub solves : Solves at cs

-- some integers meet the constraint beside the others
abbrev pub Allows : List Constraint → Constraint → Type 0
Allows cs c = IsSatisfiable (cs ++ c ∷ [])

-- all integers that meet the others meet the constraint
pub record Implies (cs : List Constraint) (c : Constraint) : Type 0 where
  pub met : (x : ℕ → ℤ) → Solves x cs → x c.left ≤ℤ (c.bound +ℤ x c.right)

-- u is the least bound of i - j: no solution passes it, and one reaches it
pub record IsUpper (cs : List Constraint) (i j : ℕ) (u : ℤ) : Type 0 where
  pub bound : (x : ℕ → ℤ) → Solves x cs → x i ≤ℤ (u +ℤ x j)
  pub at : ℕ → ℤ
  pub solves : Solves at cs
  pub reached : at i ≡ u +ℤ at j

-- i - j has no bound: some solution passes each
pub record HasNoUpper (cs : List Constraint) (i j : ℕ) : Type 0 where
  pub passed : (u : ℤ) → (x : ℕ → ℤ) × Solves x cs × ((u +ℤ x j) <ℤ x i)

-- the least bound of i - j, or none where there is none
abbrev pub IsUpperAnswer : List Constraint → ℕ → ℕ → Option ℤ → Type 0
IsUpperAnswer cs i j None = HasNoUpper cs i j
IsUpperAnswer cs i j (Some u) = IsUpper cs i j u

-- the least value of node i over all solutions
pub record IsLeast (cs : List Constraint) (i : ℕ) (low : ℤ) : Type 0 where
  pub above : (x : ℕ → ℤ) → Solves x cs → low ≤ℤ x i
  pub at : ℕ → ℤ
  pub solves : Solves at cs
  pub reached : at i ≡ low

-- some solution goes below each value at node i
pub record HasNoLeast (cs : List Constraint) (i : ℕ) : Type 0 where
  pub passed : (low : ℤ) → (x : ℕ → ℤ) × Solves x cs × (x i <ℤ low)

-- the least value of node i, or none where there is none
abbrev pub IsLowAnswer : List Constraint → ℕ → Option ℤ → Type 0
IsLowAnswer cs i None = HasNoLeast cs i
IsLowAnswer cs i (Some low) = IsLeast cs i low

-- the greatest value of node i over all solutions
pub record IsGreatest (cs : List Constraint) (i : ℕ) (high : ℤ) : Type 0 where
  pub below : (x : ℕ → ℤ) → Solves x cs → x i ≤ℤ high
  pub at : ℕ → ℤ
  pub solves : Solves at cs
  pub reached : at i ≡ high

-- some solution goes above each value at node i
pub record HasNoGreatest (cs : List Constraint) (i : ℕ) : Type 0 where
  pub passed : (high : ℤ) → (x : ℕ → ℤ) × Solves x cs × (high <ℤ x i)

-- the greatest value of node i, or none where there is none
abbrev pub IsHighAnswer : List Constraint → ℕ → Option ℤ → Type 0
IsHighAnswer cs i None = HasNoGreatest cs i
IsHighAnswer cs i (Some high) = IsGreatest cs i high

-- the constraints with the numbers es, from 1, lead from i to j, and their bounds have the sum s
abbrev pub IsChain : List Constraint → List ℕ → ℕ → ℕ → ℤ → Type 0
IsChain cs [] i j s = (i ≡ j) × (s ≡ pos 0)
IsChain cs (e ∷ es) i j s = (c : Constraint) × (0 < e) × (slice_get cs (e - 1) ≡ Some c) × (c.left ≡ i) × IsChain cs es c.right j (s -ℤ c.bound)

-- the numbers close a chain with a negative sum
pub record IsNegativeCycle (cs : List Constraint) (es : List ℕ) : Type 0 where
  pub node : ℕ
  pub sum : ℤ
  pub chain : IsChain cs es node node sum
  pub negative : sum <ℤ pos 0
