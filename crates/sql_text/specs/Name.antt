-- Names.
use Rattle.std.specs.Prelude.{ℕ, Bool, not, ◌&&◌, List, length, nat_le, is_some}
use Rattle.sql_text.specs.Word.{is_word}
use Rattle.sql_text.specs.Key.{key_of}

-- a word that is not reserved, of at most 24 bytes
unfoldable pub is_name : List ℕ → Bool
is_name w = is_word w && not (is_some (key_of w)) && nat_le (length w) 24
