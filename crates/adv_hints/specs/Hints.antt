-- What a statement most likely meant where it leaves the grammar, and what stands there.
use Rattle.std.specs.Prelude.{ℕ, ◌-◌, Bool, true, false, not, ◌&&◌, ◌||◌, ◌==◌, List, [], ◌∷◌, length, drop, if◌then◌else◌, is_some, codes, Option, Some, None}
use Rattle.std.specs.Bool.{then_some}
use Rattle.std.specs.Option.{option_or}
use Rattle.std.specs.Str.{str_eq_ignore_ascii_case}
use Rattle.sql_text.specs.Blank.{trimmed}
use Rattle.sql_text.specs.Word.{is_letter, word_of}
use Rattle.sql_text.specs.Key.{key_of}
use Rattle.sql_catalog.specs.Streams.{Shape, stream_number}
use Rattle.adv_hints.specs.declared.candidates.Candidate.{Candidate}
use Rattle.adv_hints.specs.declared.candidates.Group.TheVariants as groups
use Rattle.adv_hints.specs.Groups.{wants}
use Rattle.adv_hints.specs.declared.hints.Hint.{Hint}
use Rattle.adv_hints.specs.declared.hints.Hint.TheVariants.{ByteOrderMark, Quoted, Unequal, Star, AtMost, AtLeast, Equal, Decimal, Or, BareColumn, ReservedName, BareRow, Comment, Interval, Arithmetic, Hyphen, CommaAtEnd, Function, Parenthesis, Negation, Between, Pattern, Null, Order, Join, Clause, Choice, BareQuery, Alias, Typed, Chained, Streamless, Exponent, DropStream, ExplainQuery, Replace, Show, Continued}
use Rattle.adv_hints.specs.declared.hints.Standing.{Standing}
use Rattle.adv_hints.specs.declared.hints.Standing.TheVariants as standing
use Rattle.adv_hints.specs.Bytes.{byte_at, last_byte, is_digit, is_quote, is_sign, begins_integer}

-- whether nothing stands there
abbrev pub is_empty : {X : Type 0} → List X → Bool
is_empty [] = true
is_empty (x ∷ xs) = false

-- the sign of two bytes that is written in the other order or once, by its second byte
abbrev pub sign_behind_equal : ℕ → Option Hint
sign_behind_equal b = if b == 60 then Some AtMost else (if b == 62 then Some AtLeast else (if b == 61 then Some Equal else None))

-- a comment by its first two bytes: `#`, `//`, `/*` or `--`
abbrev pub begins_comment : ℕ → ℕ → Bool
begins_comment first second = first == 35 || ((first == 47 && (second == 47 || second == 42)) || (first == 45 && second == 45))

-- the sign of a sum, difference, product, quotient or remainder
abbrev pub is_operator : ℕ → Bool
is_operator b = b == 43 || b == 45 || b == 42 || b == 47 || b == 37

-- whether a name or an integer ends with a byte, and the sign behind it can be no hyphen
abbrev pub ends_operand : ℕ → ℕ → Bool
ends_operand before first = not (first == 45) && (is_letter before || is_digit before)

-- whether arithmetic stands there: such a sign behind or before a side of a comparison, and where the statement goes wrong before it, behind a name or an integer
abbrev pub is_arithmetic : ℕ → ℕ → List Candidate → Bool
is_arithmetic before first next =
    if is_empty next then is_operator first && ends_operand before first else is_operator first && (wants groups.BehindOperand next || wants groups.Operand next)

-- whether the sign of a comparison begins so
abbrev pub is_relation : ℕ → Bool
is_relation b = b == 60 || b == 61 || b == 62

-- whether a comparison has ended: what follows may stand there, and neither a sign nor a comma
abbrev pub ends_comparison : List Candidate → Bool
ends_comparison next = if wants groups.Comparison next || wants groups.Comma next then false else wants groups.BehindOperand next

-- whether a comparison goes on with a third side
abbrev pub is_chained : ℕ → List Candidate → Bool
is_chained first next = is_relation first && ends_comparison next

-- what is meant by `*`: a function where it stands behind a parenthesis, a column without its stream where it stands behind one, and else all columns
abbrev pub star_hint : ℕ → List Candidate → Hint
star_hint before next = if before == 40 then Function else (if wants groups.Column next then BareColumn else Star)

-- what is meant by an opening parenthesis
abbrev pub opening_hint : List Candidate → Option Hint
opening_hint next =
    if wants groups.Column next then Some Function else
    (if not (wants groups.Operand next) then None else (if wants groups.Name next then Some Parenthesis else Some Interval))

-- what is meant by a sign that a name or an integer may have around it
abbrev pub mark_hint : ℕ → ℕ → ℕ → List Candidate → Option Hint
mark_hint before first second next =
    if first == 42 then Some (star_hint before next) else
    (if (first == 45) && not (is_digit second) then Some Hyphen else
    (if ((first == 46) && is_digit before) && is_digit second then Some Decimal else
    (if (before == 44) && (first == 41) then Some CommaAtEnd else
    (if first == 40 then opening_hint next else
    (if before == 61 then sign_behind_equal first else None)))))

-- what is meant by the byte before the place, the first and second there, and what may stand there
abbrev pub sign_hint : ℕ → ℕ → ℕ → List Candidate → Option Hint
sign_hint before first second next =
    if (first == 239) && (second == 187) then Some ByteOrderMark else
    (if first == 33 then Some Unequal else
    (if is_quote first then Some Quoted else
    (if begins_comment first second then Some Comment else
    (if wants groups.Interval next then Some Interval else
    (if is_arithmetic before first next then Some Arithmetic else
    (if is_chained first next then Some Chained else mark_hint before first second next))))))

-- whether a word is this one, in any case of letters
abbrev pub is_word : List ℕ → List ℕ → Bool
is_word w text = str_eq_ignore_ascii_case w text

-- a word by which streams are joined elsewhere
unfoldable pub is_join : List ℕ → Bool
is_join w = is_word w (codes "JOIN") || is_word w (codes "INNER") || is_word w (codes "LEFT") || is_word w (codes "ON")

-- a word that begins a clause of queries elsewhere
unfoldable pub is_clause : List ℕ → Bool
is_clause w = is_word w (codes "ORDER") || is_word w (codes "GROUP") || is_word w (codes "HAVING") || is_word w (codes "LIMIT") || is_word w (codes "WINDOW")

-- what is meant by a word alone
unfoldable pub spelled_hint : List ℕ → Option Hint
spelled_hint w =
    if is_word w (codes "BETWEEN") then Some Between else
    (if is_word w (codes "LIKE") then Some Pattern else
    (if is_word w (codes "IS") then Some Null else
    (if is_word w (codes "SHARED") then Some Order else
    (if is_join w then Some Join else
    (if is_clause w then Some Clause else None)))))

-- whether a list ends there: FROM or WHERE
unfoldable pub ends_list : List ℕ → Bool
ends_list w = is_word w (codes "FROM") || is_word w (codes "WHERE")

-- what is meant by a reserved word, the byte before it, and what may stand there
unfoldable pub reserved_hint : List ℕ → ℕ → List Candidate → Option Hint
reserved_hint w before next =
    if is_word w (codes "IN") && wants groups.Comparison next then Some Choice else
    (if is_word w (codes "SELECT") && wants groups.Create next then Some BareQuery else
    (if is_word w (codes "AS") && wants groups.Comma next then Some Alias else
    (if (before == 44) && ends_list w then Some CommaAtEnd else then_some (wants groups.Name next) ReservedName)))

-- what is meant by a word that is not reserved, and what may stand there
abbrev pub other_hint : List Candidate → Option Hint
other_hint next = if wants groups.Domain next then Some Typed else then_some (wants groups.Where next) Alias

-- what is meant by a word that stands there, and what may stand there; nothing where no word does
abbrev pub placed_hint : List ℕ → ℕ → List Candidate → Option Hint
placed_hint w before next = if is_empty w then None else (if is_some (key_of w) then reserved_hint w before next else other_hint next)

-- whether a text ends with the word NOT behind a space
unfoldable pub ends_with_not : List ℕ → Bool
ends_with_not text = is_word (drop (length text - 4) text) (codes " NOT")

-- whether a column is missed behind NOT
abbrev pub is_negated : List ℕ → List Candidate → Bool
is_negated front next = wants groups.Column next && ends_with_not (trimmed front)

-- what is meant by OR behind a comparison, by NOT behind a side of one, and by any word where the stream of a column is missed
unfoldable pub logical_hint : List ℕ → List Candidate → Option Hint
logical_hint word next =
    if is_word word (codes "OR") && wants groups.BehindOperand next then Some Or else
    (if is_word word (codes "NOT") && wants groups.Comparison next then Some Negation else then_some (wants groups.Column next) BareColumn)

-- whether a word is the name of a stream, or INSERT
unfoldable pub begins_row : List ℕ → List Shape → Bool
begins_row word streams = is_word word (codes "INSERT") || is_some (stream_number streams word)

-- whether a row begins with its integers
abbrev pub begins_integers : ℕ → ℕ → Bool
begins_integers first second = first == 44 || begins_integer first second

-- what is meant where a line begins so, by its first two bytes and its word
abbrev pub row_begun : ℕ → ℕ → List ℕ → List Shape → Option Hint
row_begun first second word streams = if begins_row word streams then Some BareRow else (if begins_integers first second then Some Streamless else None)

-- what is meant where a line begins as a row does
abbrev pub row_hint : List ℕ → List ℕ → List Shape → Option Hint
row_hint front rest streams = if is_empty front then row_begun (byte_at rest 0) (byte_at rest 1) (word_of rest) streams else None

-- whether an integer has an exponent: a digit stands right before the place, and an E and a digit there
abbrev pub is_exponent : ℕ → ℕ → ℕ → Bool
is_exponent before first second = is_digit before && ((first == 101 || first == 69) && is_digit second)

-- a word with which a statement goes on: FROM, WHERE or AND
unfoldable pub goes_on_with : List ℕ → Bool
goes_on_with w = is_word w (codes "FROM") || is_word w (codes "WHERE") || is_word w (codes "AND")

-- what is meant by the first word of a line, or by the second behind the first
unfoldable pub begun_hint : List ℕ → List ℕ → Option Hint
begun_hint front w =
    if is_empty front && is_word w (codes "SHOW") then Some Show else
    (if is_empty front && goes_on_with w then Some Continued else
    (if is_word front (codes "DROP") && is_word w (codes "STREAM") then Some DropStream else
    (if is_word front (codes "EXPLAIN") && is_word w (codes "SELECT") then Some ExplainQuery else
    (if is_word front (codes "CREATE") && is_word w (codes "OR") then Some Replace else None))))

-- what is meant: by signs, by the streams, by the first two words of a line, and by the word there and what may stand there
abbrev pub placed_by : List ℕ → List ℕ → List Candidate → List Shape → Option Hint
placed_by front rest next streams =
    option_or (option_or (option_or (option_or (option_or (sign_hint (last_byte (trimmed front)) (byte_at rest 0) (byte_at rest 1) next)
    (row_hint front rest streams))
    (begun_hint (trimmed front) (word_of rest)))
    (logical_hint (word_of rest) next))
    (spelled_hint (word_of rest)))
    (placed_hint (word_of rest) (last_byte (trimmed front)) next)

-- what is meant, by what stands before the place and from there on, and by what may stand there
abbrev pub hint_of : List ℕ → List ℕ → List Candidate → List Shape → Option Hint
hint_of front rest next streams =
    if is_exponent (last_byte front) (byte_at rest 0) (byte_at rest 1) then Some Exponent else
    (if is_negated front next then Some Negation else placed_by front rest next streams)

-- what stands at the front of a text that is not empty, by its first two bytes and its word
abbrev pub standing_by : ℕ → ℕ → List ℕ → Standing
standing_by first second word =
    if is_letter first then (if is_some (key_of word) then standing.Reserved else standing.Word) else
    (if begins_integer first second then standing.Integer else
    (if is_sign first then standing.Sign else standing.Strange))

-- what stands at the front of a text
abbrev pub standing_of : List ℕ → Standing
standing_of rest = if is_empty rest then standing.End else standing_by (byte_at rest 0) (byte_at rest 1) (word_of rest)
