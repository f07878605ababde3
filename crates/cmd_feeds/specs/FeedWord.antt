-- A word that names a feed behind a script: a file, or names of streams, `@` and a file.
use Rattle.std.specs.Prelude.{ℕ, Bool, true, false, not, ◌&&◌, ◌||◌, ◌==◌, List, [], ◌∷◌, Option, Some, None, length, nat_lt, if◌then◌else◌}
use Rattle.std.specs.List.{position_or_len, list_any, list_all, before_first, after_first, slice_split}
use Rattle.sql_text.specs.Name.{is_name}

abbrev pub is_at : ℕ → Bool
is_at b = b == 64

abbrev pub is_slash : ℕ → Bool
is_slash b = b == 47

-- whether a text has a `/`
abbrev pub has_slash : List ℕ → Bool
has_slash text = list_any is_slash text

-- whether a word says streams: it has an `@` with no `/` before it
abbrev pub says_streams : List ℕ → Bool
says_streams word = nat_lt (position_or_len is_at word) (length word) && not (has_slash (before_first is_at word))

-- a text that is cut at its commas
abbrev pub pieces : List ℕ → List (List ℕ)
pieces text = slice_split (λ b. b == 44) text

-- the names before the first `@`, with commas between
abbrev pub names_in : List ℕ → List (List ℕ)
names_in word = pieces (before_first is_at word)

-- the names of the streams that a word says, where it says any
abbrev pub streams_in : List ℕ → Option (List (List ℕ))
streams_in word = if says_streams word then Some (names_in word) else None

-- the name of the file
abbrev pub file_in : List ℕ → List ℕ
file_in word = if says_streams word then after_first is_at word else word

abbrev pub is_some_text : List ℕ → Bool
is_some_text [] = false
is_some_text (b ∷ text) = true

-- whether a word names a feed: where it says streams, each of its names is one, and a file stands behind them
abbrev pub is_feed_word : List ℕ → Bool
is_feed_word word = not (says_streams word) || (list_all is_name (names_in word) && is_some_text (after_first is_at word))
