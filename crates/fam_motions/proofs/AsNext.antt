-- Mixtures that fail as the next number does, up to a number.
use Rattle.std.proofs.Common.{◌≡◌, ℕ, ◌+◌, ◌<◌, ◌⊎◌, inl, inr, sym, subst, arith, List, length, ℤ}
use Rattle.arrayvec.specs.ArrayVec.{ArrayVec as Items}
use Rattle.sem_query.specs.Query.{QueryValue}
use Rattle.fam_motions.specs.Apart.{FailsAsNext, assigned}

-- of these numbers at the place
abbrev pub FailHere : QueryValue → List (Items ℤ) → ℕ → ℕ → ℕ → Type 0
FailHere q all place i n = (j : ℕ) → j < n → FailsAsNext q place (assigned q all) i j

-- and of these elsewhere
abbrev pub FailElsewhere : QueryValue → List (Items ℤ) → ℕ → ℕ → Type 0
FailElsewhere q all place n = (i j : ℕ) → i < n → j < length all → FailsAsNext q place (assigned q all) i j

last-or : (j n : ℕ) → j < n + 1 → (j < n) ⊎ (j ≡ n)
last-or j n l = grind (arith, l)

module _ (q : QueryValue) (all : List (Items ℤ)) (place : ℕ) where
  pub more-here : (i n : ℕ) → FailHere q all place i n → FailsAsNext q place (assigned q all) i n → FailHere q all place i (n + 1)
  more-here i n before here j l = elim (last-or j n l) [
    | inl m ↦ before j m
    | inr e ↦ subst (λ (k : ℕ). FailsAsNext q place (assigned q all) i k) (sym e) here
  ]

  pub more-elsewhere : (n : ℕ) → FailElsewhere q all place n → FailHere q all place n (length all) → FailElsewhere q all place (n + 1)
  more-elsewhere n before here i j l m = elim (last-or i n l) [
    | inl o ↦ before i j o m
    | inr e ↦ subst (λ (k : ℕ). FailsAsNext q place (assigned q all) k j) (sym e) (here j m)
  ]
