-- The value of a column by the place of its dim.
use Rattle.std.proofs.Common.{◌≡◌, ℕ, suc, ◌+◌, ◌≤◌, Bool, true, false, cond, List, [], ◌∷◌, length, get_or, refl, sym, ap, ◌∙◌, arith, ℤ, if◌then◌else◌}
use Rattle.std.specs.Prelude.{Some, position}
use Rattle.std.specs.List.{position_from}
use Rattle.std.proofs.lemmas.List.{get_or_past}
use Rattle.std.proofs.lemmas.Iterator.Adapters.{position_from-zero}
use Rattle.sem_query.specs.declared.atom.Attr.{Attr}
use Rattle.sem_query.specs.declared.part.Pair.{Pair}
use Rattle.sem_query.specs.declared.plan.Dim.{Dim}
use Rattle.sem_query.specs.declared.plan.PartPlan.{PartPlan}
use Rattle.exec_synopsis.specs.Classes.{are_tied}
use Rattle.exec_ranges.specs.Values.{valued, value_or}

module _ (ps : List Pair) (part : PartPlan) (z : ℤ) (a : Attr) where
  abbrev is_own : Dim → Bool
  is_own d = are_tied ps part d.attr a

  -- past the end no value is found
  none-past : (dims : List Dim) (xs : List ℤ) (i : ℕ) → length xs ≤ i → value_or xs z (position_from is_own i dims) ≡ z
  none-past [] xs i l = refl
  none-past (d ∷ dims) xs i l = by (is_own d) (none-past dims xs (i + 1) (omega (arith, l)))
    where
      by : (t : Bool) → value_or xs z (position_from is_own (i + 1) dims) ≡ z → value_or xs z (cond t (Some i) (position_from is_own (i + 1) dims)) ≡ z
      by true e = get_or_past xs i z l
      by false e = e

  shifted : (dims : List Dim) (x : ℤ) (xs : List ℤ) (i : ℕ) → value_or (x ∷ xs) z (position_from is_own (i + 1) dims) ≡ value_or xs z (position_from is_own i dims)
  shifted [] x xs i = refl
  shifted (d ∷ dims) x xs i = by (is_own d) (shifted dims x xs (i + 1))
    where
      next : get_or (x ∷ xs) (i + 1) z ≡ get_or xs i z
      next = let e : i + 1 ≡ suc i = omega arith in ap (λ n. get_or (x ∷ xs) n z) e

      by : (t : Bool) → value_or (x ∷ xs) z (position_from is_own (i + 1 + 1) dims) ≡ value_or xs z (position_from is_own (i + 1) dims)
          → value_or (x ∷ xs) z (cond t (Some (i + 1)) (position_from is_own (i + 1 + 1) dims)) ≡ value_or xs z (cond t (Some i) (position_from is_own (i + 1) dims))
      by true e = next
      by false e = e

  from-start : (dims : List Dim) (xs : List ℤ) → valued ps part dims xs z a ≡ value_or xs z (position_from is_own 0 dims)
  from-start [] xs = refl
  from-start (d ∷ dims) [] = sym (none-past (d ∷ dims) [] 0 (omega arith))
  from-start (d ∷ dims) (x ∷ xs) = by (is_own d) (from-start dims xs ∙ sym (shifted dims x xs 0))
    where
      by : (t : Bool) → valued ps part dims xs z a ≡ value_or (x ∷ xs) z (position_from is_own 1 dims)
          → (if t then x else valued ps part dims xs z a) ≡ value_or (x ∷ xs) z (cond t (Some 0) (position_from is_own 1 dims))
      by true e = refl
      by false e = e

  pub valued_at : (dims : List Dim) (xs : List ℤ) → valued ps part dims xs z a ≡ value_or xs z (position (λ d. are_tied ps part d.attr a) dims)
  valued_at dims xs = from-start dims xs ∙ ap (value_or xs z) (sym (position_from-zero is_own dims))
