-- A text at the end of a room, and copies of it.
use Rattle.std.specs.Prelude.{◌≡◌, ◌<◌, ℕ, List, Option, Some, None, drop, length, replicate}
use Rattle.std.specs.List.{flat_map}

-- the text that starts there ends the room so many times, where its copies were put there, and else the room is as before
abbrev pub PutsCopies : Option ℕ → ℕ → ℕ → List ℕ → List ℕ → Type 0
PutsCopies (Some first) times start before after =
    (first < length after) × (drop first after ≡ flat_map (λ text. text) (replicate times (drop start before)))
PutsCopies None times start before after = after ≡ before
