-- What is read off the numbers of constraints: chains.
use Rattle.std.specs.Prelude.{◌≡◌, ℕ, ◌-◌, ◌<◌, ℤ, pos, ◌<ℤ◌, cond, nat_eq, Option, Some, None, List, length, slice_get}
use Rattle.plan_constraints.specs.declared.constraint.Constraint.{Constraint}
use Rattle.plan_constraints.specs.Solutions.{IsChain}
use Rattle.cert_checker.specs.declared.chain.ChainSum.{ChainSum}

-- the constraint with a number, from 1
abbrev pub numbered : List Constraint → ℕ → Option Constraint
numbered cs e = cond (nat_eq e 0) None (slice_get cs (e - 1))

-- the chain of some numbers that begins at a node, or that there is none
abbrev pub IsChainFrom : List Constraint → List ℕ → ℕ → Option ChainSum → Type 0
IsChainFrom cs es i (Some c) = (c.from ≡ i) × IsChain cs es i c.to c.sum
IsChainFrom cs es i None = (j : ℕ) (s : ℤ) → ¬ IsChain cs es i j s

-- the chain of one number or more, or that there is none
abbrev pub IsChainOf : List Constraint → List ℕ → Option ChainSum → Type 0
IsChainOf cs es (Some c) = (0 < length es) × IsChain cs es c.from c.to c.sum
IsChainOf cs es None = (i j : ℕ) (s : ℤ) → 0 < length es → ¬ IsChain cs es i j s

-- a chain ends where it begins, and has a negative sum
abbrev pub Closes : ChainSum → Type 0
Closes c = (c.from ≡ c.to) × (c.sum <ℤ pos 0)
