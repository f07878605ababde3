-- Columns that are the same, and what a list has at a place.
use Rattle.std.proofs.Common.{◌≡◌, ℕ, zero, suc, ◌<◌, true, false, List, [], ◌∷◌, length, slice_index_or, refl, ◌∙◌, subst, arith}
use Rattle.sem_query.specs.declared.atom.Attr.{Attr}
use Rattle.sem_query.specs.Query.{attr_eq}
use Rattle.sem_laws.proofs.Tests.{not_both, attr_eq-is, attr_eq-itself}

pub not_same : (a b : Attr) → attr_eq a b ≡ false → ¬ (a ≡ b)
not_same a b h e = not_both (attr_eq a b) (subst (λ z. attr_eq a z ≡ true) e (attr_eq-itself a)) h

-- what a list has at a place does not depend on the default
any_default : {X : Type 0} (xs : List X) (i : ℕ) (d e : X) → i < length xs → slice_index_or xs i d ≡ slice_index_or xs i e
any_default [] i d e l = absurd (omega arith)
any_default (x ∷ xs) zero d e l = refl
any_default (x ∷ xs) (suc i) d e l = any_default xs i d e (omega arith)

pub found_at : (xs : List Attr) (i : ℕ) (d e a : Attr) → i < length xs → attr_eq (slice_index_or xs i d) a ≡ true → slice_index_or xs i e ≡ a
found_at xs i d e a l h = any_default xs i e d l ∙ attr_eq-is (slice_index_or xs i d) a h
