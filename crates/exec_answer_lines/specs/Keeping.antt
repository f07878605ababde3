-- The text of a tuple at the front of a room.
use Rattle.std.specs.Prelude.{◌≡◌, ◌≤◌, ℕ, ℤ, List, [], ◌∷◌, ◌++◌, take}
use Rattle.sql_text.specs.Tuple.{tuple_text}

-- the first bytes of the room, so many, are the text of the tuple, and LF
pub record IsTextOf (tuple : List ℤ) (len : ℕ) (room : List ℕ) : Type 0 where
  pub text : take len room ≡ tuple_text tuple ++ 10 ∷ []
  pub inside : len ≤ 192
