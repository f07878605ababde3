-- The printed form of a statement.
use Rattle.std.specs.Prelude.{ℕ, pos, Bool, true, false, not, ◌&&◌, ◌||◌, nat_le, List, [], ◌∷◌, ◌++◌, length, codes, if◌then◌else◌}
use Rattle.std.specs.Fmt.{signed_decimal}
use Rattle.sql_text.specs.declared.key.Key.{Key}
use Rattle.sql_text.specs.declared.key.Key.TheVariants.{CreateKey, StreamKey, QueryKey, AsKey, SelectKey, DistinctKey, FromKey, WhereKey, AndKey, ExplainKey, DropKey, InKey, SharedKey, CheckpointKey, ResumeKey}
use Rattle.sql_parser.specs.declared.tree.Statement.{Statement}
use Rattle.sql_parser.specs.Grammar.{Lexeme, word, number, key, comma, point, opening, closing, less, equal, greater, less_equal, greater_equal, unequal, semicolon, statement_tokens}

-- reserved words are printed in capitals
abbrev pub key_text : Key → List ℕ
key_text CreateKey = codes "CREATE"
key_text StreamKey = codes "STREAM"
key_text QueryKey = codes "QUERY"
key_text AsKey = codes "AS"
key_text SelectKey = codes "SELECT"
key_text DistinctKey = codes "DISTINCT"
key_text FromKey = codes "FROM"
key_text WhereKey = codes "WHERE"
key_text AndKey = codes "AND"
key_text ExplainKey = codes "EXPLAIN"
key_text DropKey = codes "DROP"
key_text InKey = codes "IN"
key_text SharedKey = codes "SHARED"
key_text CheckpointKey = codes "CHECKPOINT"
key_text ResumeKey = codes "RESUME"

-- the text of a token: an integer in its shortest decimal form
abbrev pub text_for : Lexeme → List ℕ
text_for (word w) = w
text_for (number z) = signed_decimal z
text_for (key k) = key_text k
text_for comma = 44 ∷ []
text_for point = 46 ∷ []
text_for opening = 40 ∷ []
text_for closing = 41 ∷ []
text_for less = 60 ∷ []
text_for equal = 61 ∷ []
text_for greater = 62 ∷ []
text_for less_equal = 60 ∷ 61 ∷ []
text_for greater_equal = 62 ∷ 61 ∷ []
text_for unequal = 60 ∷ 62 ∷ []
text_for semicolon = 59 ∷ []

-- no space stands behind a point or an opening bracket
abbrev pub joins_next : Lexeme → Bool
joins_next point = true
joins_next opening = true
joins_next _ = false

-- nor before a comma, a point or a closing bracket
abbrev pub joins_last : Lexeme → Bool
joins_last comma = true
joins_last point = true
joins_last closing = true
joins_last _ = false

-- whether no space stands between two tokens
abbrev pub joins : Lexeme → Lexeme → Bool
joins l m = joins_next l || joins_last m

-- one space between two tokens, or none
abbrev pub gap_by : (Lexeme → Lexeme → Bool) → Lexeme → Lexeme → List ℕ
gap_by close l m = if close l m then [] else 32 ∷ []

-- the tokens, and a space between two of them unless they stand close
abbrev pub spaced_by : (Lexeme → Lexeme → Bool) → List Lexeme → List ℕ
spaced_by close [] = []
spaced_by close (l ∷ []) = text_for l
spaced_by close (l ∷ m ∷ ls) = text_for l ++ (gap_by close l m ++ spaced_by close (m ∷ ls))

-- the tokens as they are printed
abbrev pub printed : List Lexeme → List ℕ
printed ls = spaced_by joins ls

-- the printed form of a statement: its tokens, without a semicolon
abbrev pub printed_form : Statement → List ℕ
printed_form s = printed (statement_tokens s)

-- whether a token is a word: a name or a reserved word
abbrev pub is_any_word : Lexeme → Bool
is_any_word (word w) = true
is_any_word (key k) = true
is_any_word _ = false

-- whether a word would go on with the text of a token behind it: that of a word, or of an integer that begins with a digit
abbrev pub goes_on : Lexeme → Bool
goes_on (word w) = true
goes_on (key k) = true
goes_on (number (pos n)) = true
goes_on _ = false

-- in the short form a space stands only between a word and what it would go on with
abbrev pub joins_short : Lexeme → Lexeme → Bool
joins_short l m = not (is_any_word l && goes_on m)

-- the short form of a statement
abbrev pub short_form : Statement → List ℕ
short_form s = spaced_by joins_short (statement_tokens s)

-- the line that creates a query again: its printed form where that has at most 1,024 bytes, else its short form
abbrev pub create_line : Statement → List ℕ
create_line s = if nat_le (length (printed_form s)) 1024 then printed_form s else short_form s
