-- When a constraint closes a cycle with a negative sum.
use Rattle.std.specs.Prelude.{◌≡◌, ℕ, ℤ, pos, ◌+ℤ◌, ◌≤ℤ◌, ◌<ℤ◌, List, ◌∷◌, Option, Some, None}
use Rattle.plan_closure.specs.declared.entry.Entry.{Entry}

-- the cycle over a way back and the new constraint, where its sum is negative
pub data IsClosingOver (back : Entry) (bound : ℤ) (number : ℕ) (walk : ℕ → List ℕ) (result : Option (List ℕ)) : Type 0 where
  closes : result ≡ Some (number ∷ walk back.length) → (back.bound +ℤ bound) <ℤ pos 0 → IsClosingOver back bound number walk result
  agrees : result ≡ None → pos 0 ≤ℤ (back.bound +ℤ bound) → IsClosingOver back bound number walk result

-- the same, where there may be no way back
abbrev pub IsClosing : Option Entry → ℤ → ℕ → (ℕ → List ℕ) → Option (List ℕ) → Type 0
IsClosing None bound number walk result = result ≡ None
IsClosing (Some back) bound number walk result = IsClosingOver back bound number walk result

-- a bound at most u is there
abbrev pub IsImplied : Option Entry → ℤ → Type 0
IsImplied None u = ⊥
IsImplied (Some w) u = w.bound ≤ℤ u
