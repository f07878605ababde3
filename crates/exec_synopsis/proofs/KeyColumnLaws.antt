-- Dims that columns of the arriving row fix, listed one after the other.
use Rattle.std.proofs.Common.{◌≡◌, ℕ, zero, suc, ◌+◌, ◌<◌, List, [], ◌∷◌, ◌++◌, length, take, get_or, map, All, sym, ap, ◌∙◌, subst, arith, length-append, ◌≤◌}
use Rattle.std.proofs.lemmas.List.{take_more, take_all, map-append}
use Rattle.std.proofs.lemmas.List.Elements.{All-append}
use Rattle.sem_query.specs.declared.plan.Dim.{Dim}
use Rattle.sem_query.specs.declared.plan.PartPlan.{PartPlan}
use Rattle.sem_query.specs.Plan.{dims_at}
use Rattle.exec_synopsis.specs.declared.key_columns.KeyColumn.{KeyColumn}
use Rattle.exec_synopsis.specs.Pinning.{IsKeyColumn, AreKeyColumns}

-- the pins of the first dims
pub record SoPinned (part : PartPlan) (arriving place : ℕ) (whole : List Dim) (key_columns : List KeyColumn) (i : ℕ) : Type 0 where
  pub count : length key_columns ≡ i
  pub so_far : AreKeyColumns part arriving place (take i whole) key_columns

pub pinned-next : (part : PartPlan) (arriving place : ℕ) (whole : List Dim) (key_columns : List KeyColumn) (i : ℕ) → SoPinned part arriving place whole key_columns i → (o : Dim) → i < length whole
    → (key_column : KeyColumn) → key_column.dim ≡ get_or whole i o → IsKeyColumn part arriving place key_column → (more : List KeyColumn) → more ≡ key_columns ++ key_column ∷ [] → SoPinned part arriving place whole more (i + 1)
pinned-next part arriving place whole key_columns i s o l key_column is here more e = record {
  count = (let a = ap length e in let b = length-append key_columns (key_column ∷ []) in omega (arith, a, b, s.count));
  so_far = record {
    dims = ap (map (λ (p : KeyColumn). p.dim)) e ∙ map-append (λ (p : KeyColumn). p.dim) key_columns (key_column ∷ []) ∙ (λ k. s.so_far.dims k ++ is k ∷ []) ∙ sym (take_more whole i o l);
    each = subst (All (IsKeyColumn part arriving place)) (sym e) (All-append (IsKeyColumn part arriving place) key_columns (key_column ∷ []) s.so_far.each (one (IsKeyColumn part arriving place) key_column here));
  };
}
  where
    one : {X : Type 0} (P : X → Type 0) (x : X) → P x → All P (x ∷ [])
    one P x h zero d l = h
    one P x h (suc k) d l = absurd (omega (arith, l))

pub pinned-end : (part : PartPlan) (arriving place : ℕ) (whole : List Dim) (key_columns : List KeyColumn) (i : ℕ) → SoPinned part arriving place whole key_columns i → length whole ≤ i → (n : ℕ) → whole ≡ dims_at part n → n ≡ place
    → AreKeyColumns part arriving place (dims_at part place) key_columns
pinned-end part arriving place whole key_columns i s l n e f = subst (λ ds. AreKeyColumns part arriving place ds key_columns) (take_all i whole l ∙ e ∙ ap (dims_at part) f) s.so_far
