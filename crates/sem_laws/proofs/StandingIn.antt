-- Parts whose columns are kept as far as they are wanted, and the row of a cell that a choice stands for.
use Rattle.std.proofs.Common.{◌≡◌, ℕ, ◌<◌, ◌⊎◌, inl, inr, List, [], ◌∷◌, length, true, sym, ap, ◌∙◌, ℤ, pos, Contains}
use Rattle.sem_query.proofs.Has.{Has, first, later}
use Rattle.sem_laws.proofs.Weights.{View}
use Rattle.sem_laws.proofs.RowsAndCells.{Agree, cell-agrees, class-equal}
use Rattle.sem_laws.proofs.Extremes.{least-is, greatest-is}
use Rattle.sem_laws.proofs.OnePartFits.{has_cases}
use Rattle.sem_query.specs.declared.atom.Attr.{Attr}
use Rattle.sem_query.specs.declared.part.Sign.{Sign}
use Rattle.sem_query.specs.Query.{QueryValue}
use Rattle.sem_query.specs.Parts.{IsPart}
use Rattle.sem_query.specs.Order.{IsBounded}
use Rattle.sem_query.specs.Links.{IsEquality, IsInequality}
use Rattle.sem_query.specs.declared.plan.Kind.{Kind}
use Rattle.sem_query.specs.Meaning.{by_column}
use Rattle.sem_query.specs.declared.plan.PartPlan.{PartPlan}
use Rattle.sem_query.specs.Plan.{IsPartPlan, IsWanted, left_equal, right_equal, left_less, right_less, selected, AreOneClass, stream_at}
use Rattle.sem_query.specs.Combinations.{Choice, choice, row_of_cell, cell_choice}
use Rattle.sem_query.specs.Admission.{admits}
use Rattle.sem_query.specs.Cells.{content, row_place, least, greatest}

-- what a part without violation knows of a column that stands in an inequality: bounded, or of the extreme class on its side
abbrev pub IsSafeAt : QueryValue → List Sign → ℕ → Kind → Type 0
IsSafeAt q s place (Kind.Least m) = (m.stream ≡ place)
    × ((a b : Attr) → a.stream ≡ place → IsInequality q s a b → IsBounded q s a ⊎ AreOneClass q s m a)
    × ((a b : Attr) → a.stream ≡ place → IsInequality q s b a → IsBounded q s a)
IsSafeAt q s place (Kind.Greatest m) = (m.stream ≡ place)
    × ((a b : Attr) → a.stream ≡ place → IsInequality q s a b → IsBounded q s a)
    × ((a b : Attr) → a.stream ≡ place → IsInequality q s b a → IsBounded q s a ⊎ AreOneClass q s m a)
IsSafeAt q s place _ =
    ((a b : Attr) → a.stream ≡ place → IsInequality q s a b → IsBounded q s a)
    × ((a b : Attr) → a.stream ≡ place → IsInequality q s b a → IsBounded q s a)

pub record IsSafe (q : QueryValue) (part : PartPlan) : Type 0 where
  pub chosen : (a : Attr) → Contains q.select a → IsBounded q part.signs.items a
  pub left : (a b : Attr) → IsEquality q part.signs.items a b → IsBounded q part.signs.items a
  pub right : (a b : Attr) → IsEquality q part.signs.items b a → IsBounded q part.signs.items a
  pub less : (place : ℕ) → place < length q.from → IsSafeAt q part.signs.items place (stream_at part place).kind

module _ (q : QueryValue) (part : PartPlan) (plan : IsPartPlan q part) (some : IsPart q part.signs.items) (safe : IsSafe q part) (place : ℕ) (at : place < length q.from) where
  abbrev cell : ℕ → ℤ → View
  cell i z = row_of_cell q part place i z

  abbrev s : List Sign
  s = part.signs.items

  -- where all columns are bounded the cell agrees with each of its rows
  all_bounded : (v : View) (z : ℤ) → admits q part place v ≡ true
      → ((a b : Attr) → a.stream ≡ place → IsInequality q s a b → IsBounded q s a)
      → ((a b : Attr) → a.stream ≡ place → IsInequality q s b a → IsBounded q s a)
      → Agree q part place v (cell (row_place (stream_at part place).dims.items v) z)
  all_bounded v z t f g = cell-agrees q part plan some place at v z t (λ a e w. inl (bounded a e w))
    where
      bounded : (a : Attr) → a.stream ≡ place → IsWanted q s a → IsBounded q s a
      bounded a e (selected h) = safe.chosen a h
      bounded a e (left_equal b h) = safe.left a b h
      bounded a e (right_equal b h) = safe.right a b h
      bounded a e (left_less b h) = f a b e h
      bounded a e (right_less b h) = g a b e h

  -- the row that attains the extreme agrees with the cell
  attains : (v : View) (z : ℤ) (m : Attr) → admits q part place v ≡ true → m.stream ≡ place → z ≡ v m.column
      → ((a b : Attr) → a.stream ≡ place → IsInequality q s a b → IsBounded q s a ⊎ AreOneClass q s m a)
      → ((a b : Attr) → a.stream ≡ place → IsInequality q s b a → IsBounded q s a ⊎ AreOneClass q s m a)
      → Agree q part place v (cell (row_place (stream_at part place).dims.items v) z)
  attains v z m t here e f g = cell-agrees q part plan some place at v z t found
    where
      of_class : (a : Attr) → a.stream ≡ place → IsBounded q s a ⊎ AreOneClass q s m a → IsBounded q s a ⊎ (z ≡ v a.column)
      of_class a i (inl b) = inl b
      of_class a i (inr c) = inr (e ∙ class-equal q part plan some place at v t m a here i c)

      found : (a : Attr) → a.stream ≡ place → IsWanted q s a → IsBounded q s a ⊎ (z ≡ v a.column)
      found a i (selected h) = inl (safe.chosen a h)
      found a i (left_equal b h) = inl (safe.left a b h)
      found a i (right_equal b h) = inl (safe.right a b h)
      found a i (left_less b h) = of_class a i (f a b i h)
      found a i (right_less b h) = of_class a i (g a b i h)

  one_choice : (v : View) (n : ℕ) (d : Choice) → Has (choice v n) d → v ≡ d.values
  one_choice v n d h = elim (has_cases _ d [] h) [ inl e ↦ ap (λ c. c.values) e | inr k ↦ elim k [ ] ]

  -- a row of the cell that a choice comes from
  abbrev Row : List (List ℤ) → Choice → Type 0
  Row ys d = (x : List ℤ) × Has ys x × Agree q part place d.values (by_column x)

  turned : (x : List ℤ) (i : ℕ) (z : ℤ) (n : ℕ) (d : Choice) → Has (choice (cell i z) n) d
      → row_place (stream_at part place).dims.items (by_column x) ≡ i
      → Agree q part place (by_column x) (cell (row_place (stream_at part place).dims.items (by_column x)) z)
      → Agree q part place d.values (by_column x)
  turned x i z n d h e g a f w =
      let o : cell i z ≡ d.values = one_choice (cell i z) n d h in
      sym (g a f w ∙ ap (λ j. cell j z a.column) e ∙ ap (λ v. v a.column) o)

  pub down : (k : Kind) → IsSafeAt q s place k → (i : ℕ) (ys : List (List ℤ))
      → ((x : List ℤ) → Has ys x → (admits q part place (by_column x) ≡ true) × (row_place (stream_at part place).dims.items (by_column x) ≡ i))
      → (d : Choice) → Has (cell_choice q part place i (content k ys)) d → Row ys d
  down k f i [] r d h = elim h [ ]
  down Kind.Count f i (y ∷ ys) r d h =
      (y, first, turned y i (pos 0) _ d h (r y first).1 (all_bounded (by_column y) (pos 0) (r y first).0 f.0 f.1))
  down Kind.Present f i (y ∷ ys) r d h =
      (y, first, turned y i (pos 0) _ d h (r y first).1 (all_bounded (by_column y) (pos 0) (r y first).0 f.0 f.1))
  down (Kind.Least m) f i (y ∷ ys) r d h =
      let z : ℤ = least m (by_column y m.column) ys in
      let by : (x : List ℤ) → Has (y ∷ ys) x → z ≡ by_column x m.column → Row (y ∷ ys) d
      = λ x k e. (x, k, turned x i z _ d h (r x k).1 (attains (by_column x) z m (r x k).0 f.0 e f.1 (λ a b c j. inl (f.2 a b c j)))) in
      elim (least-is m (by_column y m.column) ys) [
        | inl e ↦ by y first e
        | inr o ↦ by o.0 (later o.1) o.2
      ]
  down (Kind.Greatest m) f i (y ∷ ys) r d h =
      let z : ℤ = greatest m (by_column y m.column) ys in
      let by : (x : List ℤ) → Has (y ∷ ys) x → z ≡ by_column x m.column → Row (y ∷ ys) d
      = λ x k e. (x, k, turned x i z _ d h (r x k).1 (attains (by_column x) z m (r x k).0 f.0 e (λ a b c j. inl (f.1 a b c j)) f.2)) in
      elim (greatest-is m (by_column y m.column) ys) [
        | inl e ↦ by y first e
        | inr o ↦ by o.0 (later o.1) o.2
      ]
