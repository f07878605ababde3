use Rattle.std.proofs.Common.{◌≡◌, ℕ, ◌<◌, ◌&&◌, List, [], ◌∷◌, length, get_or, drop, refl, arith}
use Rattle.std.specs.List.{list_all}
use Rattle.sql_text.specs.Word.{is_word, is_word_byte, is_letter}

pub is_word_first : (s : List ℕ) → 0 < length s → is_word s ≡ (is_letter (get_or s 0 0) && list_all is_word_byte (drop 1 s))
is_word_first [] h = absurd (omega arith)
is_word_first (b ∷ bs) h = refl
