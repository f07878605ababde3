-- Sublists: what is left of a list where some elements are taken out.
use Rattle.std.specs.Prelude.{List, [], ◌∷◌}

-- the elements of the one list stand in the other, in the same order
pub data IsSublist {A : Type 0} : List A → List A → Type 0 where
  none : IsSublist [] []
  kept : {x : A} {xs ys : List A} → IsSublist xs ys → IsSublist (x ∷ xs) (x ∷ ys)
  left : {y : A} {xs ys : List A} → IsSublist xs ys → IsSublist xs (y ∷ ys)
