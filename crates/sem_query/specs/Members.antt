-- Membership as a data type, beside `Contains`, which goes by index: its arguments can be inferred.
use Rattle.std.specs.Prelude.{◌≡◌, List, [], ◌∷◌, Bool, true}

-- x is in the list
pub data Has {A : Type 0} : List A → A → Type 0 where
  first : {x : A} {xs : List A} → Has (x ∷ xs) x
  later : {x y : A} {xs : List A} → Has xs x → Has (y ∷ xs) x

-- the first is below each of the rest, and the rest ascend
pub data Ascends {A : Type 0} (lt : A → A → Bool) : List A → Type 0 where
  none : Ascends lt []
  more : {x : A} {xs : List A} → ((y : A) → Has xs y → lt x y ≡ true) → Ascends lt xs → Ascends lt (x ∷ xs)
