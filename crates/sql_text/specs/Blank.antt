-- Blanks: spaces and tabs.
use Rattle.std.specs.Prelude.{ℕ, ◌-◌, Bool, ◌||◌, ◌==◌, List, length, take, drop}
use Rattle.std.specs.List.{prefix_len, suffix_len}

-- a space or a tab
abbrev pub is_blank : ℕ → Bool
is_blank b = b == 32 || b == 9

-- the text without the blanks at its front
abbrev pub without_blanks_before : List ℕ → List ℕ
without_blanks_before text = drop (prefix_len is_blank text) text

-- the text without the blanks at its end
abbrev pub without_blanks_behind : List ℕ → List ℕ
without_blanks_behind text = take (length text - suffix_len is_blank text) text

-- the text without the blanks at both ends
unfoldable pub trimmed : List ℕ → List ℕ
trimmed text = without_blanks_behind (without_blanks_before text)
