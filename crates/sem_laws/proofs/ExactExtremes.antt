-- The extreme of a cell is the least or the greatest value of its rows.
use Rattle.std.proofs.Common.{◌≡◌, List, [], ◌∷◌, ◌⊎◌, inl, inr, sym, ◌∙◌, subst, ℤ, ◌≤ℤ◌, All, slice_index_or}
use Rattle.std.proofs.lemmas.List.Elements.{Contains-get_or}
use Rattle.sem_query.specs.declared.atom.Attr.{Attr}
use Rattle.sem_query.specs.declared.cell.Cell.{Cell}
use Rattle.sem_query.specs.declared.plan.Kind.{Kind}
use Rattle.sem_query.specs.Meaning.{by_column}
use Rattle.sem_query.specs.Cells.{least, greatest, content}
use Rattle.sem_query.proofs.Has.{Has, first, later, Has-from_contains, Contains-from_has}
use Rattle.sem_laws.specs.Sufficiency.{IsLeastOf, IsGreatestOf, ExtremesAreExact}
use Rattle.sem_laws.proofs.OnePartFits.{has_cases}
use Rattle.sem_laws.proofs.Extremes.{least-is, least-low, least-below, greatest-is, greatest-high, greatest-above}

all-from : (P : List ℤ → Type 0) (rows : List (List ℤ)) → ((row : List ℤ) → Has rows row → P row) → All P rows
all-from P rows f k d l =
    f (slice_index_or rows k d) (Has-from_contains rows (slice_index_or rows k d) (Contains-get_or rows k d l))

extreme-same : (x y : ℤ) → Cell.Extreme x ≡ Cell.Extreme y → x ≡ y
extreme-same x y e = cc

least-exact : (a : Attr) (row : List ℤ) (others : List (List ℤ)) (z : ℤ) → least a (by_column row a.column) others ≡ z
    → IsLeastOf a.column (row ∷ others) z
least-exact a row others z e = by (least-is a (by_column row a.column) others)
  where
    above : All (λ other. z ≤ℤ by_column other a.column) (row ∷ others)
    above =
        all-from (λ other. z ≤ℤ by_column other a.column) (row ∷ others) (λ x h. subst (λ y. y ≤ℤ by_column x a.column) e (elim (has_cases row x others h) [
          | inl f ↦ subst (λ (y : List ℤ). least a (by_column row a.column) others ≤ℤ by_column y a.column) f (least-low a (by_column row a.column) others)
          | inr k ↦ least-below a (by_column row a.column) others x k
        ]))

    by : (least a (by_column row a.column) others ≡ by_column row a.column) ⊎ ((x : List ℤ) × Has others x × (least a (by_column row a.column) others ≡ by_column x a.column))
        → IsLeastOf a.column (row ∷ others) z
    by (inl f) = record { row = row; among = Contains-from_has (row ∷ others) row first; reached = sym f ∙ e; above = above }
    by (inr f) =
        record { row = f.0; among = Contains-from_has (row ∷ others) f.0 (later f.1); reached = sym f.2 ∙ e; above = above }

greatest-exact : (a : Attr) (row : List ℤ) (others : List (List ℤ)) (z : ℤ) → greatest a (by_column row a.column) others ≡ z
    → IsGreatestOf a.column (row ∷ others) z
greatest-exact a row others z e = by (greatest-is a (by_column row a.column) others)
  where
    below : All (λ other. by_column other a.column ≤ℤ z) (row ∷ others)
    below =
        all-from (λ other. by_column other a.column ≤ℤ z) (row ∷ others) (λ x h. subst (λ y. by_column x a.column ≤ℤ y) e (elim (has_cases row x others h) [
          | inl f ↦ subst (λ (y : List ℤ). by_column y a.column ≤ℤ greatest a (by_column row a.column) others) f (greatest-high a (by_column row a.column) others)
          | inr k ↦ greatest-above a (by_column row a.column) others x k
        ]))

    by : (greatest a (by_column row a.column) others ≡ by_column row a.column) ⊎ ((x : List ℤ) × Has others x × (greatest a (by_column row a.column) others ≡ by_column x a.column))
        → IsGreatestOf a.column (row ∷ others) z
    by (inl f) = record { row = row; among = Contains-from_has (row ∷ others) row first; reached = sym f ∙ e; below = below }
    by (inr f) =
        record { row = f.0; among = Contains-from_has (row ∷ others) f.0 (later f.1); reached = sym f.2 ∙ e; below = below }

least-of : (a : Attr) (rows : List (List ℤ)) (z : ℤ) → content (Kind.Least a) rows ≡ Cell.Extreme z → IsLeastOf a.column rows z
least-of a [] z e = absurd cc
least-of a (row ∷ others) z e = least-exact a row others z (extreme-same _ z e)

greatest-of : (a : Attr) (rows : List (List ℤ)) (z : ℤ) → content (Kind.Greatest a) rows ≡ Cell.Extreme z
    → IsGreatestOf a.column rows z
greatest-of a [] z e = absurd cc
greatest-of a (row ∷ others) z e = greatest-exact a row others z (extreme-same _ z e)

pub extremes-are-exact : ExtremesAreExact
extremes-are-exact a rows z = (least-of a rows z, greatest-of a rows z)
