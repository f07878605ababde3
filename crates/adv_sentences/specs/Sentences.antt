-- The sentence of each fault.
use Rattle.std.specs.Prelude.{ℕ, ◌+◌, ◌==◌, ◌||◌, ℤ, List, [], ◌∷◌, ◌++◌, map, take, drop, if◌then◌else◌, decimal, codes, unwrap_or, Option, Some, None}
use Rattle.std.specs.List.{find, list_any, slice_index_or}
use Rattle.std.specs.Str.{str_eq_ignore_ascii_case}
use Rattle.std.specs.Fmt.{signed_decimal}
use Rattle.sql_text.specs.Blank.{trimmed}
use Rattle.sql_text.specs.Word.{is_letter, word_of}
use Rattle.sql_catalog.specs.Streams.{Shape, column_names, column_at, shape_at, stream_number, domain_at}
use Rattle.sql_catalog.specs.Rows.{fields_of}
use Rattle.sql_parser.specs.declared.parsing.What.{What}
use Rattle.sql_parser.specs.declared.parsing.What.TheVariants as limits
use Rattle.sql_parser.specs.declared.tree.ColumnAst.{ColumnAst}
use Rattle.adv_templates.specs.Template.{filled}
use Rattle.adv_sentences.specs.declared.texts.TheConstants as texts
use Rattle.adv_hints.specs.declared.candidates.Candidate.{Candidate}
use Rattle.adv_hints.specs.declared.hints.Hint.{Hint}
use Rattle.adv_hints.specs.declared.hints.Hint.TheVariants as hints
use Rattle.adv_hints.specs.declared.hints.Standing.{Standing}
use Rattle.adv_hints.specs.declared.hints.Standing.TheVariants as standing
use Rattle.adv_diagnosis.specs.declared.fault.Fault.{Fault}
use Rattle.adv_diagnosis.specs.declared.fault.Fault.TheVariants as faults
use Rattle.adv_hints.specs.Bytes.{is_quote}
use Rattle.adv_hints.specs.Candidates.{told_as}
use Rattle.adv_hints.specs.Hints.{is_empty, hint_of, standing_of}

-- a limit that is passed
abbrev pub limit_template : What → List ℕ
limit_template limits.Name = codes "a name has at most 24 bytes, and this has "
limit_template limits.Columns = codes "a stream has at most 8 columns, and this has "
limit_template limits.Select = codes "a query selects at most 8 columns, and this selects "
limit_template limits.From = codes "FROM names at most 4 streams, and here it names "
limit_template limits.Atoms = codes "a query has at most 16 comparisons, and this has "
limit_template limits.Soft = codes "a query has at most 8 comparisons with <=, >= or <>, and this has _: write a < 6 for a <= 5, and a > 4 for a >= 5"
limit_template limits.Attrs = codes "the comparisons name at most 12 different columns, and here they name "
limit_template limits.Value = codes "an integer has at most 15 digits, and one of a line of a checkpoint or a lock at most 64 bits; one here has more"
limit_template limits.Consts = codes "the comparisons name at most 6 different integers, and here they name "
limit_template limits.Domain = codes "the first integer of a domain is at most the second, and here one is greater: exchange the two"
limit_template limits.Tuple = codes "a tuple has at most 8 integers, and this has "
limit_template limits.Streams = codes "a lock names at most 16 streams, and this names "

-- a number, where there is one
abbrev pub number_text : Option ℕ → List ℕ
number_text None = []
number_text (Some n) = decimal n

-- a limit that is passed, with the number that is found
abbrev pub limit_text : What → Option ℕ → List ℕ
limit_text what found = filled (limit_template what) (number_text found ∷ [])

-- what is meant
abbrev pub hint_text : Hint → List ℕ
hint_text hints.ByteOrderMark = codes "a byte order mark stands here, which many editors do not show: save the file without one"
hint_text hints.Quoted = codes "nothing is quoted: a name and an integer stand as they are; docs/DATA.md has a filter, tools/filters/names, that makes integers of texts"
hint_text hints.Unequal = codes "unequal is written <>"
hint_text hints.Star = codes "* stands for no columns: name each that is selected"
hint_text hints.AtMost = codes "at most is written <="
hint_text hints.AtLeast = codes "at least is written >="
hint_text hints.Equal = codes "equal is written = once"
hint_text hints.Decimal = codes "an integer has no point: count in smaller units, as 125 tenths for 12.5"
hint_text hints.Or = codes "comparisons are joined by AND alone: create a query for each side of OR"
hint_text hints.BareColumn = codes "a column is written with its stream, as "
hint_text hints.ReservedName = codes "this word is reserved, and no name: take another, as one with _ behind it"
hint_text hints.BareRow = codes "a row has commas between its stream and its integers, as Stream,1,2"
hint_text hints.Comment = codes "a comment stands on a line of its own, which begins with --"
hint_text hints.Interval = codes "a domain has two points between its first and its last integer, as IN 1..39"
hint_text hints.Arithmetic = codes "there is no arithmetic: a comparison has a column or an integer on each side"
hint_text hints.Hyphen = codes "a name has letters, digits and _ alone"
hint_text hints.CommaAtEnd = codes "a comma stands before this, and nothing between them: leave the comma out"
hint_text hints.Function = codes "there are no functions as COUNT, SUM or MAX: a query answers with columns of its rows"
hint_text hints.Parenthesis = codes "comparisons stand without parentheses, and with AND between them"
hint_text hints.Negation = codes "there is no NOT: turn the comparison around, as >= for what is not <"
hint_text hints.Between = codes "BETWEEN is written as two comparisons with AND between them, one for each end"
hint_text hints.Pattern = codes "there is no LIKE: each value is an integer; docs/DATA.md has a filter, tools/filters/names, that makes integers of texts"
hint_text hints.Null = codes "there is no NULL: a row has an integer for each column"
hint_text hints.Order = codes "SHARED stands behind CREATE, and before COMPACT and QUERY"
hint_text hints.Join = codes "streams are joined by FROM with a comma between them, and by comparisons behind WHERE"
hint_text hints.Clause = codes "a query ends with its comparisons: answers have no order, no groups, no windows and no bound on their number"
hint_text hints.Choice = codes "IN gives a column of a stream its domain: create a query for each value"
hint_text hints.BareQuery = codes "a query has a name: write CREATE QUERY, its name and AS before SELECT"
hint_text hints.Alias = codes "streams and columns have one name each: leave the other name out"
hint_text hints.Typed = codes "a column has no type, since each value is an integer: write its name alone, or a domain as IN 1..39 behind it"
hint_text hints.Chained = codes "a comparison has two sides: write 0 < S.a AND S.a < 9 for 0 < S.a < 9"
hint_text hints.Streamless = codes "a row begins with the name of its stream, as Stream,1,2"
hint_text hints.Exponent = codes "an integer has no exponent: write all digits, as 1000 for 1e3; docs/DATA.md tells of numbers"
hint_text hints.DropStream = codes "a stream is not dropped: write DROP QUERY for each of its queries, and create a stream with another name; docs/QUERIES.md tells what may be said"
hint_text hints.ExplainQuery = codes "EXPLAIN stands before the name of a live query: create the query, and then write EXPLAIN and its name; docs/QUERIES.md tells of EXPLAIN"
hint_text hints.Replace = codes "nothing is replaced: write DROP QUERY and CREATE QUERY, on a line each; docs/QUERIES.md tells what may be said"
hint_text hints.Show = codes "there is no SHOW: EXPLAIN shows one live query, and CHECKPOINT all streams and queries; docs/OPERATING.md tells of CHECKPOINT"
hint_text hints.Continued = codes "a statement stands on one line: put this behind the line before; docs/QUERIES.md tells what may be said"

-- a text, or another where it is empty
abbrev pub or_text : List ℕ → List ℕ → List ℕ
or_text text other = if is_empty text then other else text

-- an example of a column: the first of the first stream, where there is one
abbrev pub example_text : List Shape → List ℕ
example_text streams = filled (codes "_._") (or_text (shape_at streams 0).name (codes "Stream") ∷ or_text (column_at (shape_at streams 0).columns 0) (codes "column") ∷ [])

-- the example, where one stands behind a hint
abbrev pub example_for : Hint → List Shape → List ℕ
example_for hints.BareColumn streams = example_text streams
example_for _ streams = []

-- what is meant, with an example where one stands behind it
abbrev pub hint_sentence : Hint → List Shape → List ℕ
hint_sentence hint streams = hint_text hint ++ example_for hint streams

-- what stands at a place
abbrev pub standing_text : Standing → List ℕ
standing_text standing.End = codes "a statement stands on one line, and the line ends here"
standing_text standing.Word = codes "a word stands here"
standing_text standing.Reserved = codes "a reserved word stands here"
standing_text standing.Integer = codes "an integer stands here"
standing_text standing.Sign = codes "a sign stands here"
standing_text standing.Strange = codes "a byte stands here that begins no word, integer or sign"

-- texts, the first behind another text and each other behind a comma and a space
abbrev pub listed : {X : Type 0} → (X → List ℕ) → List ℕ → List X → List ℕ
listed f lead [] = []
listed f lead (x ∷ xs) = lead ++ (f x ++ listed f (codes ", ") xs)

-- a name is told by its bytes
abbrev pub name_text : List ℕ → List ℕ
name_text name = name

-- names that are there
abbrev pub there_are : List (List ℕ) → List ℕ
there_are names = if is_empty names then (codes "there is none") else listed name_text (codes "there are: ") names

-- a name that is the word but for the case of letters
abbrev pub alike : List ℕ → List (List ℕ) → Option (List ℕ)
alike word names = find (λ n. str_eq_ignore_ascii_case n word) names

-- that name, where there is one
abbrev pub alike_text : Option (List ℕ) → List ℕ
alike_text None = []
alike_text (Some name) = filled (codes "; the case of letters counts: write _") (name ∷ [])

-- names that are there, and the one that a word may mean
abbrev pub there_are_like : List ℕ → List (List ℕ) → List ℕ
there_are_like word names = there_are names ++ alike_text (alike word names)

-- the names of streams
abbrev pub stream_names : List Shape → List (List ℕ)
stream_names streams = map (λ s. s.name) streams

-- what is said where no candidate may stand: a byte that begins nothing may stand behind the place where the statement goes wrong
abbrev pub nothing_text : Standing → List ℕ
nothing_text standing.Strange = (codes ", where nothing may stand: the statement has ended, or goes wrong before")
nothing_text _ = (codes ", where the statement has ended")

-- what may stand at a place, or else that nothing may
abbrev pub next_text : List ℕ → List Candidate → List ℕ
next_text nothing next = if is_empty next then nothing else listed told_as (codes ", here may stand: ") next

-- what is meant, or else what stands at the place and what may stand there
abbrev pub meant_or : Option Hint → List ℕ → List Candidate → List Shape → List ℕ
meant_or (Some hint) rest next streams = hint_sentence hint streams
meant_or None rest next streams = standing_text (standing_of rest) ++ next_text (nothing_text (standing_of rest)) next

-- where the grammar is left
abbrev pub syntax_text : List ℕ → ℕ → List Candidate → List Shape → List ℕ
syntax_text text at next streams = meant_or (hint_of (take at text) (drop at text) next streams) (drop at text) next streams

-- why a field is no integer
abbrev pub field_text : List ℕ → List ℕ
field_text [] = (codes " is empty: a row has an integer for each column")
field_text (b ∷ bs) =
    if is_quote b then (codes " is quoted: an integer stands without quotation marks") else
    (if is_letter b then (codes " is a word: a row has integers alone, and a line of headings is none") else
    (if list_any (λ c. c == 46) (b ∷ bs) then (codes " has a point: count in smaller units, as 125 tenths for 12.5") else
    (if list_any (λ c. c == 101) (b ∷ bs) || list_any (λ c. c == 69) (b ∷ bs) then (codes " has an exponent: write all digits, as 1000 for 1e3") else (codes " is no integer of 64 bits, from -9223372036854775808 to 9223372036854775807"))))

-- the field of a row line at a place, without the blanks at its ends
abbrev pub field_at : List ℕ → ℕ → List ℕ
field_at line place = trimmed (slice_index_or (fields_of line) place [])

-- a field that is no integer
abbrev pub value_text : List ℕ → ℕ → List ℕ
value_text line field = filled (codes "field __") (decimal (field + 1) ∷ field_text (field_at line field) ∷ [])

-- a row of a stream with the wrong number of fields
abbrev pub arity_text : ℕ → ℕ → ℕ → List Shape → List ℕ
arity_text stream wanted found streams = filled texts.ROW_COUNTS.now ((shape_at streams stream).name ∷ decimal wanted ∷ decimal found ∷ []) ++ listed name_text [] (column_names (shape_at streams stream).columns)

-- the ends of a domain, where there is one
abbrev pub ends_text : Option (ℤ × ℤ) → List ℕ
ends_text None = []
ends_text (Some ends) = filled (codes "_.._") (signed_decimal ends.0 ∷ signed_decimal ends.1 ∷ [])

-- a value outside the domain of its column
abbrev pub domain_text : ℕ → ℕ → List Shape → List ℕ
domain_text stream field streams =
    filled texts.FIELD_OUTSIDE.now (decimal (field + 1) ∷ (shape_at streams stream).name ∷ column_at (shape_at streams stream).columns field ∷ []) ++ ends_text (domain_at streams stream field)

-- a column that is none of its stream
abbrev pub column_fault : List Shape → ColumnAst → List ℕ
column_fault streams c = filled texts.NO_COLUMN.now (c.stream ∷ c.column ∷ []) ++ there_are_like c.column (column_names (shape_at streams (unwrap_or (stream_number streams c.stream) 255)).columns)

-- the sentence of a fault, over what is left of its line, the streams, and the names of the live queries
unfoldable pub sentence_text : List ℕ → Fault → List Shape → List (List ℕ) → List ℕ
sentence_text text faults.LineTooLong streams live = texts.LONG_LINE.now
sentence_text text (faults.Syntax at next) streams live = syntax_text text at next.items streams
sentence_text text (faults.Limit what found) streams live = limit_text what found
sentence_text text (faults.DuplicateStream name) streams live = filled texts.STREAM_THERE.now (name ∷ [])
sentence_text text (faults.DuplicateColumn name) streams live = filled texts.COLUMN_TWICE.now (name ∷ [])
sentence_text text (faults.DuplicateQuery name) streams live = filled texts.QUERY_LIVE.now (name ∷ [])
sentence_text text faults.TooManyStreams streams live = texts.MANY_STREAMS.now
sentence_text text faults.TooManyQueries streams live = texts.MANY_QUERIES.now
sentence_text text (faults.NoStream name) streams live = filled texts.NO_STREAM.now (name ∷ []) ++ there_are_like name (stream_names streams)
sentence_text text (faults.NotInFrom column) streams live = filled texts.NOT_IN_FROM.now (column.stream ∷ column.column ∷ [])
sentence_text text (faults.NoColumn column) streams live = column_fault streams column
sentence_text text (faults.SelfJoin name) streams live = filled texts.TWICE_IN_FROM.now (name ∷ [])
sentence_text text (faults.NoQuery name) streams live = filled texts.NO_QUERY.now (name ∷ []) ++ there_are_like name live
sentence_text text (faults.Locked line) streams live = filled texts.LOCKED.now (decimal line ∷ [])
sentence_text text (faults.LockTwice name) streams live = filled (codes "TO names _ twice: leave it out once") (name ∷ [])
sentence_text text (faults.LockNoStream name) streams live = filled texts.LOCK_NO_STREAM.now (name ∷ []) ++ there_are_like name (stream_names streams)
sentence_text text faults.NoLock streams live = (codes "no lock stands here")
sentence_text text faults.RowKey streams live = texts.ROW_KEY.now
sentence_text text (faults.RowName bytes) streams live = filled texts.ROW_NAME.now (decimal bytes ∷ [])
sentence_text text faults.RowStream streams live = filled texts.ROW_STREAM.now [] ++ there_are_like (word_of text) (stream_names streams)
sentence_text text (faults.Arity stream wanted found) streams live = arity_text stream wanted found streams
sentence_text text (faults.Value field) streams live = value_text text field
sentence_text text (faults.Domain stream field) streams live = domain_text stream field streams
