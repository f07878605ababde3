-- The first limit that a draft passes, found by its tokens and its lists.
use Rattle.std.specs.Prelude.{ℕ, ◌+◌, ℤ, Bool, true, false, ◌&&◌, nat_lt, if◌then◌else◌, List, [], ◌∷◌, length, slice_range, Option, Some, None, is_none}
use Rattle.std.specs.List.{list_any}
use Rattle.std.specs.Ordering.{int_eq}
use Rattle.sql_text.specs.Value.{value_of}
use Rattle.sql_lexer.specs.declared.token.TokenKind.{TokenKind}
use Rattle.sql_lexer.specs.declared.token.TokenKind.TheVariants as kinds
use Rattle.sql_lexer.specs.declared.token.Token.{Token}
use Rattle.sql_catalog.specs.declared.column.ColumnDef.{ColumnDef}
use Rattle.sql_parser.specs.declared.parsing.What.{What}
use Rattle.sql_parser.specs.declared.parsing.What.TheVariants as limits
use Rattle.sql_parser.specs.declared.tree.AtomAst.{AtomAst}
use Rattle.sql_parser.specs.declared.draft.Draft.{Draft}
use Rattle.sql_parser.specs.declared.draft.Form.{Form}
use Rattle.sql_parser.specs.declared.draft.Form.TheVariants as forms
use Rattle.sql_parser.specs.Limits.{soft_in, columns_in, integers_in, same_column, number_of_different, is_far, is_reversed}

-- whether a token is a word
abbrev pub is_word_kind : TokenKind → Bool
is_word_kind kinds.Word = true
is_word_kind _ = false

-- a word of more bytes than a name may have
abbrev pub is_long_token : Token → Bool
is_long_token t = is_word_kind t.kind && nat_lt (t.from + 24) t.to

-- whether a token is an integer
abbrev pub is_integer_kind : TokenKind → Bool
is_integer_kind kinds.Integer = true
is_integer_kind _ = false

-- an integer of more than 64 bits
abbrev pub is_wide_token : List ℕ → Token → Bool
is_wide_token line t = is_integer_kind t.kind && is_none (value_of (slice_range line t.from t.to))

-- the first limit that the atoms pass, where there are not too many
abbrev pub limit_in_atoms : List AtomAst → Option What
limit_in_atoms atoms =
    if nat_lt 8 (length (soft_in atoms)) then Some limits.Soft else
    (if nat_lt 12 (number_of_different same_column (columns_in atoms)) then Some limits.Attrs else
    (if list_any is_far (integers_in atoms) then Some limits.Value else
    (if nat_lt 6 (number_of_different int_eq (integers_in atoms)) then Some limits.Consts else None)))

-- the ends of a domain
abbrev pub ends_in : Option (ℤ × ℤ) → List ℤ
ends_in None = []
ends_in (Some ends) = ends.0 ∷ ends.1 ∷ []

-- the first limit that the columns of a stream pass, where there are not too many
abbrev pub limit_in_columns : List ColumnDef → Option What
limit_in_columns columns =
    if list_any (λ c. list_any is_far (ends_in c.domain)) columns then Some limits.Value else
    (if list_any (λ c. is_reversed c.domain) columns then Some limits.Domain else None)

-- the first limit that the integers of a line of a checkpoint pass, of which one has more than 64 bits or none, and which are too many or not
abbrev pub limit_in_values : Bool → Bool → Option What
limit_in_values wide over = if wide then Some limits.Value else (if over then Some limits.Tuple else None)

-- the same for the integer of a lock, and its streams
abbrev pub limit_in_lock : Bool → Bool → Option What
limit_in_lock wide over = if wide then Some limits.Value else (if over then Some limits.Streams else None)

-- the first limit that the lists of a draft pass, by its form and by whether an integer of its line has more than 64 bits
abbrev pub limit_by : Bool → Form → Draft → Option What
limit_by wide forms.Stream d = if d.columns.over then Some limits.Columns else limit_in_columns d.columns.list.items
limit_by wide forms.Query d =
    if d.select.over then Some limits.Select else
    (if d.from.over then Some limits.From else
    (if d.atoms.over then Some limits.Atoms else limit_in_atoms d.atoms.list.items))
limit_by wide forms.Explain d = None
limit_by wide forms.Drop d = None
limit_by wide forms.Checkpoint d = None
limit_by wide forms.Rows d = limit_in_values wide false
limit_by wide forms.Given d = limit_in_values wide false
limit_by wide forms.Cell d = limit_in_values wide false
limit_by wide forms.Tuple d = limit_in_values wide d.values.over
limit_by wide forms.Lock d = limit_in_lock wide d.lock_streams.over
limit_by wide forms.Unlock d = limit_in_values wide false

-- the first limit that is passed, by whether a word is too long for a name and whether an integer has more than 64 bits
abbrev pub limit_with : Bool → Bool → Draft → Option What
limit_with long wide d = if long then Some limits.Name else limit_by wide d.form d

-- the same by the tokens of a line
abbrev pub limit_in : List ℕ → List Token → Draft → Option What
limit_in line ts d = limit_with (list_any is_long_token ts) (list_any (is_wide_token line) ts) d
