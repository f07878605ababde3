-- The place of a fault in its text, below which a mark stands.
use Rattle.std.specs.Prelude.{ℕ, zero, suc, ◌+◌, ◌-◌, ◌==◌, ℤ, Bool, true, false, not, ◌&&◌, List, [], ◌∷◌, length, nat_lt, slice_range, if◌then◌else◌, Option, Some, None, Result, Ok, Err}
use Rattle.std.specs.List.{find}
use Rattle.std.specs.Option.{option_map}
use Rattle.std.specs.Str.{bytes_eq}
use Rattle.sql_text.specs.Blank.{without_blanks_before}
use Rattle.sql_text.specs.Value.{value_of}
use Rattle.sql_text.specs.declared.key.Key.TheVariants as keys
use Rattle.sql_lexer.specs.declared.token.TokenKind.{TokenKind}
use Rattle.sql_lexer.specs.declared.token.TokenKind.TheVariants as kinds
use Rattle.sql_lexer.specs.declared.token.Token.{Token}
use Rattle.sql_lexer.specs.Tokens.{tokens}
use Rattle.sql_parser.specs.declared.tree.ColumnAst.{ColumnAst}
use Rattle.sql_parser.specs.declared.parsing.What.{What}
use Rattle.sql_parser.specs.declared.parsing.What.TheVariants as limits
use Rattle.sql_parser.specs.DraftLimits.{is_long_token, is_word_kind, is_integer_kind}
use Rattle.sql_parser.specs.Limits.{is_far}
use Rattle.adv_diagnosis.specs.declared.fault.Fault.{Fault}
use Rattle.adv_diagnosis.specs.declared.fault.Fault.TheVariants as faults
use Rattle.adv_diagnosis.specs.declared.marks.Anchor.{Anchor}
use Rattle.adv_diagnosis.specs.declared.marks.Anchor.TheVariants as anchors

-- whether a token is these bytes
abbrev pub is_piece : List ℕ → Token → List ℕ → Bool
is_piece line t name = bytes_eq (slice_range line t.from t.to) name

-- the first of these tokens that is a name
abbrev pub named : List ℕ → List ℕ → List Token → Option Token
named line name ts = find (λ t. is_piece line t name) ts

-- the tokens behind the first that is a name
abbrev pub behind_named : List ℕ → List ℕ → List Token → List Token
behind_named line name [] = []
behind_named line name (t ∷ ts) = if is_piece line t name then ts else behind_named line name ts

-- whether a token is FROM
abbrev pub is_from : TokenKind → Bool
is_from (kinds.Reserved keys.FromKey) = true
is_from _ = false

-- whether a token is QUERY
abbrev pub is_query : TokenKind → Bool
is_query (kinds.Reserved keys.QueryKey) = true
is_query _ = false

-- whether a token is an opening parenthesis
abbrev pub is_opening : TokenKind → Bool
is_opening kinds.Open = true
is_opening _ = false

-- whether a token is WHERE
abbrev pub is_where : TokenKind → Bool
is_where (kinds.Reserved keys.WhereKey) = true
is_where _ = false

-- whether a token is a point
abbrev pub is_point : TokenKind → Bool
is_point kinds.Point = true
is_point _ = false

-- whether names are looked for behind a token
abbrev pub is_anchor : Anchor → TokenKind → Bool
is_anchor anchors.From kind = is_from kind
is_anchor anchors.Query kind = is_query kind
is_anchor anchors.Opening kind = is_opening kind
is_anchor anchors.Where kind = is_where kind
is_anchor anchors.Word kind = is_word_kind kind

-- the tokens behind the first one of a kind
abbrev pub behind_anchor : Anchor → List Token → List Token
behind_anchor anchor [] = []
behind_anchor anchor (t ∷ ts) = if is_anchor anchor t.kind then ts else behind_anchor anchor ts

-- the second of these tokens that is a name
abbrev pub named_again : List ℕ → List ℕ → List Token → Option Token
named_again line name ts = named line name (behind_named line name ts)

-- whether a column stands here: its stream, a point and its name
abbrev pub is_column : List ℕ → ColumnAst → List Token → Bool
is_column line c (t ∷ p ∷ u ∷ ts) = is_piece line t c.stream && is_point p.kind && is_piece line u c.column
is_column line c _ = false

-- the first of these tokens with which a column begins
abbrev pub column_named : List ℕ → ColumnAst → List Token → Option Token
column_named line c [] = None
column_named line c (t ∷ ts) = if is_column line c (t ∷ ts) then Some t else column_named line c ts

-- whether an integer is one that a statement may not have: one of more than 64 bits, and where it may not have all of those one that is far
abbrev pub is_beyond : Bool → Option ℤ → Bool
is_beyond wide (Some z) = not wide && is_far z
is_beyond wide None = true

-- whether a token is such an integer
abbrev pub is_beyond_at : List ℕ → Bool → Token → Bool
is_beyond_at line wide t = is_integer_kind t.kind && is_beyond wide (value_of (slice_range line t.from t.to))

-- whether a statement whose integers may have all of 64 bits begins with a token: RESUME, or a word that is not reserved
abbrev pub begins_wide : TokenKind → Bool
begins_wide (kinds.Reserved keys.ResumeKey) = true
begins_wide kinds.Word = true
begins_wide _ = false

-- whether these are the tokens of a line of a checkpoint or of a lock
abbrev pub has_wide : List Token → Bool
has_wide [] = false
has_wide (t ∷ ts) = begins_wide t.kind

-- the tokens behind TO, which is the second word of a lock
abbrev pub behind_to : List Token → List Token
behind_to ts = behind_anchor anchors.Word (behind_anchor anchors.Word ts)

-- the token that passes a limit: the first name that is too long, or the first integer that is too far
abbrev pub token_beyond : List ℕ → What → List Token → Option Token
token_beyond line limits.Name ts = find is_long_token ts
token_beyond line limits.Value ts = find (is_beyond_at line (has_wide ts)) ts
token_beyond line _ ts = None

-- the token of a fault of a statement, where its sentence is of one name
abbrev pub token_of : List ℕ → Fault → List Token → Option Token
token_of line (faults.Limit what found) ts = token_beyond line what ts
token_of line (faults.DuplicateStream name) ts = named line name ts
token_of line (faults.DuplicateColumn name) ts = named_again line name (behind_anchor anchors.Opening ts)
token_of line (faults.DuplicateQuery name) ts = named line name (behind_anchor anchors.Query ts)
token_of line (faults.NoStream name) ts = named line name (behind_anchor anchors.From ts)
token_of line (faults.NotInFrom column) ts = column_named line column ts
token_of line (faults.NoColumn column) ts = column_named line column ts
token_of line (faults.SelfJoin name) ts = named_again line name (behind_anchor anchors.From ts)
token_of line (faults.NoQuery name) ts = named line name ts
token_of line (faults.LockTwice name) ts = named_again line name (behind_to ts)
token_of line (faults.LockNoStream name) ts = named line name (behind_to ts)
token_of line _ ts = None

-- the place of that token in a text that is cut into these tokens
abbrev pub place_by : List ℕ → Fault → Result (List Token) ℕ → Option ℕ
place_by line fault (Ok ts) = option_map (λ t. t.from) (token_of line fault ts)
place_by line fault (Err at) = None

-- what stands behind so many commas
abbrev pub behind_commas : ℕ → List ℕ → List ℕ
behind_commas zero text = text
behind_commas (suc n) [] = []
behind_commas (suc n) (b ∷ bs) = if b == 44 then behind_commas n bs else behind_commas (suc n) bs

-- where a field of a row line begins, by its number from 0
abbrev pub field_place : List ℕ → ℕ → ℕ
field_place line field = length line - length (without_blanks_before (behind_commas (field + 1) line))

-- the place of a fault in a text of at most 1,024 bytes
abbrev pub short_place : List ℕ → Fault → Option ℕ
short_place text (faults.Syntax at next) = Some at
short_place text faults.RowKey = Some 0
short_place text (faults.RowName bytes) = Some 0
short_place text faults.RowStream = Some 0
short_place text (faults.Locked line) = Some 0
short_place text faults.NoLock = Some 0
short_place text (faults.Arity stream wanted found) = Some (length text)
short_place text (faults.Value field) = Some (field_place text field)
short_place text (faults.Domain stream field) = Some (field_place text field)
short_place text fault = place_by text fault (tokens text)

-- the place of a fault in a text, where there is one
abbrev pub place_of : List ℕ → Fault → Option ℕ
place_of text fault = if nat_lt 1024 (length text) then None else short_place text fault
