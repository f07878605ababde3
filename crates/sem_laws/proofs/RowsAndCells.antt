-- An admitted row and the cell that it lies in agree.
use Rattle.std.proofs.Common.{◌≡◌, ℕ, zero, suc, ◌<◌, ◌⊎◌, inl, inr, List, [], ◌∷◌, map, length, true, ◌&&◌, refl, sym, ap, ◌∙◌, subst, arith, ℤ, Contains}
use Rattle.std.specs.List.{list_all}
use Rattle.std.proofs.lemmas.List.Elements.{All-contains}
use Rattle.sem_query.proofs.Has.{Has, Has-from_contains, Contains-from_has}
use Rattle.sem_laws.proofs.Sums.{sums, sums_append, sum_to}
use Rattle.sem_laws.proofs.Weights.{View}
use Rattle.sem_laws.proofs.Tests.{and-left, and-right}
use Rattle.sem_laws.proofs.Places.{digits-place}
use Rattle.sem_laws.proofs.Classes.{to_tied, from_tied, tied-equal, class-tied, looked-row, IsFound}
use Rattle.sem_query.specs.declared.atom.Attr.{Attr}
use Rattle.sem_query.specs.Query.{QueryValue}
use Rattle.sem_query.specs.Parts.{pairs, IsPart}
use Rattle.sem_query.specs.Order.{IsBounded}
use Rattle.sem_query.specs.declared.plan.Dim.{Dim}
use Rattle.sem_query.specs.declared.plan.PartPlan.{PartPlan}
use Rattle.sem_query.specs.Plan.{IsPartPlan, IsDim, IsWanted, AreOneClass, stream_at}
use Rattle.sem_query.specs.Combinations.{looked_up, row_of_cell, is_tied}
use Rattle.sem_query.specs.Admission.{alone, admits, keeps_signs, keeps_local, in_range}
use Rattle.sem_query.specs.Cells.{row_place, upto}

-- two rows or cells agree on the columns that the part's answers read
abbrev pub Agree : QueryValue → PartPlan → ℕ → View → View → Type 0
Agree q part place v w = (a : Attr) → a.stream ≡ place → IsWanted q part.signs.items a → v a.column ≡ w a.column

pub sums_upto : (g : ℕ → ℕ) (n : ℕ) → sums g (upto (λ i. i) n) ≡ sum_to g n
unfolding sums sum_to
sums_upto g zero = refl
sums_upto g (suc n) = omega (arith, sums_append g (upto (λ i. i) n) (n ∷ []), sums_upto g n)

module _ (q : QueryValue) (part : PartPlan) (plan : IsPartPlan q part) (some : IsPart q part.signs.items) (place : ℕ) (at : place < length q.from) where
  abbrev dims : List Dim
  dims = (stream_at part place).dims.items

  -- what is looked up for a column in the cell of an admitted row
  looked_in_cell : (v : View) (z : ℤ) → admits q part place v ≡ true → (column : ℕ)
      → row_of_cell q part place (row_place dims v) z column ≡ looked_up (is_tied q part) dims (map (λ d. v d.attr.column) dims) z record { stream = place; column = column }
  looked_in_cell v z h column =
      let within : list_all (in_range v) dims ≡ true = and-right (keeps_signs place (alone v) (pairs q) part.signs.items && keeps_local place (alone v) part.local) _ h in
      ap (λ xs. looked_up (is_tied q part) dims xs z record { stream = place; column = column }) (digits-place dims v within)

  tie_in_cell : (v : View) → admits q part place v ≡ true → (b : Attr) → b.stream ≡ place → (d : Dim) → Has dims d
      → is_tied q part d.attr b ≡ true → v d.attr.column ≡ v b.column
  tie_in_cell v h b e d k t =
      tied-equal q part.signs.items v place d.attr b ((All-contains (IsDim q part.signs.items place) dims d (plan.streams place at).dims.each (Contains-from_has dims d k)).here) e (to_tied q part plan d.attr b t)
      (and-left _ (keeps_local place (alone v) part.local) (and-left _ (list_all (in_range v) dims) h))

  -- a column of an admitted row has the value of its cell where it is bounded or its value is the extreme
  pub column-agrees : (v : View) (z : ℤ) → admits q part place v ≡ true → (a : Attr) → a.stream ≡ place
      → IsWanted q part.signs.items a
      → IsBounded q part.signs.items a ⊎ (z ≡ v a.column) → v a.column ≡ row_of_cell q part place (row_place dims v) z a.column
  column-agrees v z h a e wanted found =
      let b : Attr = record { stream = place; column = a.column } in
      let same : a ≡ b = (λ i. record { stream = e i; column = a.column }) in
      let where_found : IsFound (is_tied q part) dims v z b = elim found [
        | inl bounded ↦ (
            let o : (d : Dim) × Contains dims d × AreOneClass q part.signs.items d.attr a
            = (plan.streams place at).dims.all a e wanted bounded in
            inl (o.0, Has-from_contains dims o.0 o.1, subst (λ x. is_tied q part o.0.attr x ≡ true) same (from_tied q part o.0.attr a (class-tied q part.signs.items some o.0.attr a o.2))))
        | inr f ↦ inr f
      ] in
      sym (looked_in_cell v z h a.column ∙ looked-row (is_tied q part) dims v z b (tie_in_cell v h b refl) where_found)

  -- columns of one class are equal in an admitted row
  pub class-equal : (v : View) → admits q part place v ≡ true → (a b : Attr) → a.stream ≡ place → b.stream ≡ place
      → AreOneClass q part.signs.items a b → v a.column ≡ v b.column
  class-equal v h a b e f c =
      tied-equal q part.signs.items v place a b e f (class-tied q part.signs.items some a b c) (and-left _ (keeps_local place (alone v) part.local) (and-left _ (list_all (in_range v) dims) h))

  -- an admitted row agrees with the cell that it lies in, where every column is bounded or is the extreme
  pub cell-agrees : (v : View) (z : ℤ) → admits q part place v ≡ true
      → ((a : Attr) → a.stream ≡ place → IsWanted q part.signs.items a → IsBounded q part.signs.items a ⊎ (z ≡ v a.column))
      → Agree q part place v (row_of_cell q part place (row_place dims v) z)
  cell-agrees v z h found a e wanted = column-agrees v z h a e wanted (found a e wanted)
