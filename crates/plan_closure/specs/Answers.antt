-- What the questions about difference bounds are answered.
use Rattle.std.specs.Prelude.{◌≡◌, ℕ, zero, suc, ℤ, pos, neg_ℤ, ◌+ℤ◌, ◌≤ℤ◌, ◌<ℤ◌, List, [], ◌∷◌, length, Option, Some, None, nat_abs, All}
use Rattle.arrayvec.specs.ArrayVec.{ArrayVec as Items}
use Rattle.plan_constraints.specs.declared.constraint.Constraint.{Constraint}
use Rattle.plan_constraints.specs.Solutions.{Solves, IsSatisfiable, IsUpper, HasNoUpper, IsLeast, IsGreatest, IsChain, IsNegativeCycle}

-- within 10^17 either way
abbrev pub IsSmall : Option ℤ → Type 0
IsSmall None = Unit {0}
IsSmall (Some u) = (neg_ℤ (pos 100000000000000000) ≤ℤ u) × (u ≤ℤ pos 100000000000000000)

-- the list of an answer
abbrev pub list_of : {A : Type 0} → Option (Items A) → Option (List A)
list_of None = None
list_of (Some es) = Some es.items

-- a chain from i to j whose sum is the least bound of i - j, or none where there is none
abbrev pub IsPathAnswer : List Constraint → ℕ → ℕ → Option (List ℕ) → Type 0
IsPathAnswer cs i j None = HasNoUpper cs i j
IsPathAnswer cs i j (Some es) = (u : ℤ) × IsUpper cs i j u × IsChain cs es i j u

-- a chain that closes with a negative sum, or none where the constraints are satisfiable
abbrev pub IsCycleAnswer : List Constraint → Option (List ℕ) → Type 0
IsCycleAnswer cs None = IsSatisfiable cs
IsCycleAnswer cs (Some es) = IsNegativeCycle cs es × (¬ IsSatisfiable cs)

-- 0 at node 0, and the integers of the list at the nodes after it
abbrev pub at_nodes : List ℤ → ℕ → ℤ
at_nodes xs zero = pos 0
at_nodes [] (suc n) = pos 0
at_nodes (x ∷ xs) (suc zero) = x
at_nodes (x ∷ xs) (suc (suc n)) = at_nodes xs (suc n)

-- within 10^17 and the size of the value, either way
pub record IsNear (value x : ℤ) : Type 0 where
  pub low : neg_ℤ (pos 100000000000000000 +ℤ pos (nat_abs value)) ≤ℤ x
  pub high : x ≤ℤ (pos 100000000000000000 +ℤ pos (nat_abs value))

-- an integer for each attribute, which together meet all constraints and have the value at node i
pub record IsSolvedAt (attrs : ℕ) (cs : List Constraint) (i : ℕ) (value : ℤ) (xs : List ℤ) : Type 0 where
  pub long : length xs ≡ attrs
  pub solves : Solves (at_nodes xs) cs
  pub here : at_nodes xs i ≡ value
  pub near : All (IsNear value) xs

-- the value is below the least
abbrev pub IsBelow : ℤ → Option ℤ → Type 0
IsBelow value None = ⊥
IsBelow value (Some low) = value <ℤ low

-- the value is above the greatest
abbrev pub IsAbove : ℤ → Option ℤ → Type 0
IsAbove value None = ⊥
IsAbove value (Some high) = high <ℤ value

-- the value is below the least or above the greatest of node i
pub data IsOutside (cs : List Constraint) (i : ℕ) (value : ℤ) : Type 0 where
  below : (low : ℤ) → IsLeast cs i low → value <ℤ low → IsOutside cs i value
  above : (high : ℤ) → IsGreatest cs i high → high <ℤ value → IsOutside cs i value

-- a solution with the value at node i, or none where the value is outside
abbrev pub IsSolveAnswer : ℕ → List Constraint → ℕ → ℤ → Option (List ℤ) → Type 0
IsSolveAnswer attrs cs i value None = IsOutside cs i value
IsSolveAnswer attrs cs i value (Some xs) = IsSolvedAt attrs cs i value xs
