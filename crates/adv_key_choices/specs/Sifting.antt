-- One pass over some choices, which leaves out each that one before it is at most.
use Rattle.std.specs.Prelude.{◌≡◌, List, [], ◌∷◌, ◌++◌, Contains}
use Rattle.std.specs.List.{Any}
use Rattle.adv_key_choices.specs.declared.choice.Choice.{Choice}
use Rattle.adv_key_choices.specs.declared.choice.KeyedQuery.{KeyedQuery}
use Rattle.adv_key_choices.specs.Choices.{IsAtMost}

-- the elements of the one list stand in the other, in the same order
pub data IsSublist {A : Type 0} : List A → List A → Type 0 where
  none : IsSublist [] []
  kept : {x : A} {xs ys : List A} → IsSublist xs ys → IsSublist (x ∷ xs) (x ∷ ys)
  left : {y : A} {xs ys : List A} → IsSublist xs ys → IsSublist xs (y ∷ ys)

-- R holds of each element and each later one
pub data InOrder {A : Type 0} (R : A → A → Type 0) : List A → Type 0 where
  alone : InOrder R []
  before : {x : A} {xs : List A} → ((y : A) → Contains xs y → R x y) → InOrder R xs → InOrder R (x ∷ xs)

-- the choice is put behind the others, or one of them is at most it
pub data AddsUncovered (queries : List KeyedQuery) (choice : Choice) (old new : List Choice) : Type 0 where
  put : ¬ Any (λ c. IsAtMost queries c choice) old → new ≡ old ++ choice ∷ [] → AddsUncovered queries choice old new
  covered : Any (λ c. IsAtMost queries c choice) old → new ≡ old → AddsUncovered queries choice old new

-- of some choices those are kept of which no one that was kept before is at most them
pub record IsPassed (queries : List KeyedQuery) (choices kept : List Choice) : Type 0 where
  pub sublist : IsSublist kept choices
  pub covers : (d : Choice) → Contains choices d → Any (λ c. IsAtMost queries c d) kept
  pub forward : InOrder (λ c d. ¬ IsAtMost queries c d) kept
