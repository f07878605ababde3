-- The elements of a list that have a property, in their order.
use Rattle.std.specs.Prelude.{List, [], ◌∷◌}

-- the second list has those of the first that have the property, in their order
pub data Sifts {X : Type 0} (P : X → Type 0) : List X → List X → Type 0 where
  done : Sifts P [] []
  kept : {x : X} {xs ys : List X} → P x → Sifts P xs ys → Sifts P (x ∷ xs) (x ∷ ys)
  dropped : {x : X} {xs ys : List X} → ¬ P x → Sifts P xs ys → Sifts P (x ∷ xs) ys
