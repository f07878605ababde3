-- What the cell that a row falls into holds with the row.
use Rattle.std.proofs.Common.{◌≡◌, ℕ, zero, suc, ◌⊎◌, inl, inr, List, [], ◌∷◌, cond, Bool, true, false, refl, ap, ◌∙◌, arith, ℤ, int_lt, replicate}
use Rattle.std.proofs.lemmas.Int.{ints}
use Rattle.sem_query.specs.declared.cell.Cell.{Cell}
use Rattle.sem_query.specs.declared.plan.Kind.{Kind}
use Rattle.sem_query.specs.Meaning.{by_column}
use Rattle.sem_query.specs.Cells.{content, FitsKind}
use Rattle.sem_query.specs.Merge.{merged}
use Rattle.sem_query.proofs.Has.{Has, first}

-- a cell that does not count rows
abbrev pub CountsNone : Kind → Type 0
CountsNone kind = kind ≡ Kind.Count → ⊥

lesser_of : (x z : ℤ) → (cond (int_lt x z) x z ≡ z) ⊎ (cond (int_lt x z) x z ≡ x)
lesser_of x z = by (int_lt x z)
  where
    by : (b : Bool) → (cond b x z ≡ z) ⊎ (cond b x z ≡ x)
    by true = inr refl
    by false = inl refl

-- the cell stays as it is, or holds what it would hold of the row alone
pub stays-or-turns : (k : Kind) → CountsNone k → (c : Cell) (row : List ℤ)
    → (merged k c (content k (row ∷ [])) ≡ c) ⊎ (merged k c (content k (row ∷ [])) ≡ content k (row ∷ []))
stays-or-turns Kind.Count n c row = absurd (n refl)
stays-or-turns Kind.Present n Cell.Empty row = inr refl
stays-or-turns Kind.Present n (Cell.Count m) row = inl refl
stays-or-turns Kind.Present n Cell.Present row = inl refl
stays-or-turns Kind.Present n (Cell.Extreme z) row = inl refl
stays-or-turns (Kind.Least a) n Cell.Empty row = inr refl
stays-or-turns (Kind.Least a) n (Cell.Count m) row = inl refl
stays-or-turns (Kind.Least a) n Cell.Present row = inl refl
stays-or-turns (Kind.Least a) n (Cell.Extreme z) row = elim (lesser_of (by_column row a.column) z) [
  | inl e ↦ inl (ap (λ (x : ℤ). Cell.Extreme x) e)
  | inr e ↦ inr (ap (λ (x : ℤ). Cell.Extreme x) e)
]
stays-or-turns (Kind.Greatest a) n Cell.Empty row = inr refl
stays-or-turns (Kind.Greatest a) n (Cell.Count m) row = inl refl
stays-or-turns (Kind.Greatest a) n Cell.Present row = inl refl
stays-or-turns (Kind.Greatest a) n (Cell.Extreme z) row = elim (greater_of (by_column row a.column) z) [
  | inl e ↦ inl (ap (λ (x : ℤ). Cell.Extreme x) e)
  | inr e ↦ inr (ap (λ (x : ℤ). Cell.Extreme x) e)
]
  where
    greater_of : (x z : ℤ) → (cond (int_lt z x) x z ≡ z) ⊎ (cond (int_lt z x) x z ≡ x)
    greater_of x z = by (int_lt z x)
      where
        by : (b : Bool) → (cond b x z ≡ z) ⊎ (cond b x z ≡ x)
        by true = inr refl
        by false = inl refl

-- a cell that a row leaves as it is holds what some rows with this one among them leave
pub record OfRows (k : Kind) (c : Cell) (row : List ℤ) : Type 0 where
  pub rows : List (List ℤ)
  pub among : Has rows row
  pub is : content k rows ≡ c

-- a row with this value at a column
value_at : (n : ℕ) (z : ℤ) → by_column (replicate (suc n) z) n ≡ z
value_at zero z = refl
value_at (suc n) z = value_at n z

same_extreme : (x y : ℤ) → Cell.Extreme x ≡ Cell.Extreme y → x ≡ y
same_extreme x y e = cc

pub of-rows : (k : Kind) → CountsNone k → (c : Cell) (row : List ℤ) → FitsKind k c → merged k c (content k (row ∷ [])) ≡ c → OfRows k c row
of-rows Kind.Count n c row f s = absurd (n refl)
of-rows Kind.Present n Cell.Empty row f s = absurd (let e : Cell.Present ≡ Cell.Empty = s in cc)
of-rows Kind.Present n (Cell.Count m) row f s = absurd f
of-rows Kind.Present n Cell.Present row f s = record { rows = row ∷ []; among = first; is = refl }
of-rows Kind.Present n (Cell.Extreme z) row f s = absurd f
of-rows (Kind.Least a) n Cell.Empty row f s = absurd (let e : Cell.Extreme (by_column row a.column) ≡ Cell.Empty = s in cc)
of-rows (Kind.Least a) n (Cell.Count m) row f s = absurd f
of-rows (Kind.Least a) n Cell.Present row f s = absurd f
of-rows (Kind.Least a) n (Cell.Extreme z) row f s = record {
  rows = row ∷ replicate (suc a.column) z ∷ [];
  among = first;
  is =
      ap (λ (x : ℤ). Cell.Extreme (cond (int_lt x (by_column row a.column)) x (by_column row a.column))) (value_at a.column z)
      ∙ ap (λ (x : ℤ). Cell.Extreme x) (turned (by_column row a.column) z (same_extreme _ _ s));
}
  where
    turned : (x z : ℤ) → cond (int_lt x z) x z ≡ z → cond (int_lt z x) z x ≡ z
    turned x z e = grind (arith, ints, e)
of-rows (Kind.Greatest a) n Cell.Empty row f s = absurd (let e : Cell.Extreme (by_column row a.column) ≡ Cell.Empty = s in cc)
of-rows (Kind.Greatest a) n (Cell.Count m) row f s = absurd f
of-rows (Kind.Greatest a) n Cell.Present row f s = absurd f
of-rows (Kind.Greatest a) n (Cell.Extreme z) row f s = record {
  rows = row ∷ replicate (suc a.column) z ∷ [];
  among = first;
  is =
      ap (λ (x : ℤ). Cell.Extreme (cond (int_lt (by_column row a.column) x) x (by_column row a.column))) (value_at a.column z)
      ∙ ap (λ (x : ℤ). Cell.Extreme x) (turned (by_column row a.column) z (same_extreme _ _ s));
}
  where
    turned : (x z : ℤ) → cond (int_lt z x) x z ≡ z → cond (int_lt x z) z x ≡ z
    turned x z e = grind (arith, ints, e)
