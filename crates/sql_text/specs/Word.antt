-- Words: a letter or `_`, and letters, digits and `_` behind it, all ASCII.
use Rattle.std.specs.Prelude.{ℕ, Bool, false, ◌||◌, ◌&&◌, ◌==◌, List, [], ◌∷◌, take, drop}
use Rattle.std.specs.Int.{is_in_range}
use Rattle.std.specs.List.{list_all, prefix_len}

abbrev pub is_letter : ℕ → Bool
is_letter b = is_in_range 65 90 b || is_in_range 97 122 b || b == 95

abbrev pub is_digit : ℕ → Bool
is_digit b = is_in_range 48 57 b

abbrev pub is_word_byte : ℕ → Bool
is_word_byte b = is_letter b || is_digit b

abbrev pub is_word : List ℕ → Bool
is_word [] = false
is_word (b ∷ bs) = is_letter b && list_all is_word_byte bs

-- whether a word begins here
abbrev pub begins_word : List ℕ → Bool
begins_word [] = false
begins_word (b ∷ bs) = is_letter b

-- the word at the front of a text that a word begins: its longest front of bytes that a word may go on with
abbrev pub word_of : List ℕ → List ℕ
word_of text = take (prefix_len is_word_byte text) text

-- what stands behind that word
abbrev pub behind_word : List ℕ → List ℕ
behind_word text = drop (prefix_len is_word_byte text) text
