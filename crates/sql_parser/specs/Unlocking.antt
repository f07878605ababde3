-- Whether a text may be a statement that unlocks, by its first word.
use Rattle.std.specs.Prelude.{ℕ, Bool, List}
use Rattle.sql_text.specs.Blank.{without_blanks_before}
use Rattle.sql_text.specs.Word.{word_of}
use Rattle.sql_parser.specs.Grammar.{is_unlock}

-- the word behind the blanks at the front
abbrev pub first_word : List ℕ → List ℕ
first_word text = word_of (without_blanks_before text)

-- whether that is UNLOCK, in any case of letters
abbrev pub may_unlock : List ℕ → Bool
may_unlock text = is_unlock (first_word text)
