-- A reply as one line, in which `;` stands for its end.
use Rattle.std.specs.Prelude.{◌≡◌, ◌≢◌, ℕ, ◌≤◌, ◌<◌, ⊤, All, length, map, take, slice_index, Bool, false, List, [], ◌∷◌, ◌++◌, ◌==◌, if◌then◌else◌}
use Rattle.std.specs.Str.{bytes_eq}
use Rattle.std.specs.declared.option.Option.{Option}
use Rattle.std.specs.declared.option.Option.TheVariants.{None, Some}
use Rattle.io_streams.specs.Sink.{SinkState}
use Rattle.cmd_each.specs.Exchange.{exchanged, names}
use Rattle.cmd_each.specs.declared.one_line.Last.{Last}
use Rattle.cmd_each.specs.declared.one_line.Last.TheVariants.{Nothing, Passed, Held}

-- a text without the LF at its end, where it has one
abbrev pub without_feed : List ℕ → List ℕ
without_feed [] = []
without_feed (b ∷ []) = if b == 10 then [] else b ∷ []
without_feed (b ∷ c ∷ rest) = b ∷ without_feed (c ∷ rest)

-- whether the last byte of a text is LF
abbrev pub ends_in_feed : List ℕ → Bool
ends_in_feed [] = false
ends_in_feed (b ∷ []) = b == 10
ends_in_feed (b ∷ c ∷ rest) = ends_in_feed (c ∷ rest)

-- a reply with a `;` at its end, in place of the LF where it has one
abbrev pub closed : List ℕ → List ℕ
closed reply = without_feed reply ++ 59 ∷ []

-- A reply as one line: each LF but the one at its end is made `;`. The line of a reply of no bytes is empty.
abbrev pub joined : List ℕ → List ℕ
joined reply = map exchanged (without_feed reply) ++ 10 ∷ []

-- whether bytes are told, and are these
abbrev pub is_told : Option (List ℕ) → List ℕ → Bool
is_told None bytes = false
is_told (Some told) bytes = bytes_eq told bytes

-- whether bytes are told, and begin these
abbrev pub begins : Option (List ℕ) → List ℕ → Bool
begins None bytes = false
begins (Some told) bytes = bytes_eq (take (length told) bytes) told

-- The bytes of a sink that closes a reply, by those that stood below when it was made, what became of the last byte, and those that stand
-- below: nothing is told where these do not fit.
abbrev pub told_by : Option (List ℕ) → Last → Option (List ℕ) → Option (List ℕ)
told_by base last None = None
told_by base Nothing (Some below) = if is_told base below then Some below else None
told_by base Passed (Some below) = if begins base below then (if ends_in_feed below then None else Some below) else None
told_by base (Held byte) (Some below) = if begins base below then Some (below ++ byte ∷ []) else None

-- What a clause sees of it, by the bytes that stood below when it was made, and the reference by which the sink below passed its bytes on then.
abbrev pub one_line_seen : Option (List ℕ) → ℕ → Last → SinkState → ℕ → SinkState
one_line_seen base low last below name = record {
  written = told_by base last below.written;
  faults = below.faults;
  below = names name below.below low;
  passed = below.passed;
}

-- what is still to be written at the end of a reply
abbrev pub end_of : Last → List ℕ
end_of Nothing = 59 ∷ []
end_of Passed = 59 ∷ []
end_of (Held byte) = if byte == 10 then 59 ∷ [] else byte ∷ 59 ∷ []

-- no byte is held back
abbrev pub HoldsNone : Last → Type 0
HoldsNone Nothing = ⊤
HoldsNone Passed = ⊤
HoldsNone (Held byte) = ⊥

-- so many bytes stand before the first LF of a text, or it has none
pub record IsUpToFeed (text : List ℕ) (count : ℕ) : Type 0 where
  pub within : count ≤ length text
  pub plain : All (λ b. b ≢ 10) (take count text)
  pub feed : count < length text → slice_index text count ≡ 10
