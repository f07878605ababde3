-- The laws of statements and their texts.
use Rattle.std.specs.Prelude.{Bool, true, false, not, ◌≡◌, ◌≤◌, ℕ, List, [], ◌∷◌, length, None, IsTrue, All, Result, Ok, Err}
use Rattle.sql_text.specs.Name.{is_name}
use Rattle.sql_lexer.specs.declared.token.Token.{Token}
use Rattle.sql_lexer.specs.declared.token.TokenKind.{TokenKind}
use Rattle.sql_lexer.specs.declared.token.TokenKind.TheVariants.{Reserved}
use Rattle.sql_lexer.specs.Tokens.{tokens}
use Rattle.sql_parser.specs.declared.tree.SelectAst.{SelectAst}
use Rattle.sql_parser.specs.declared.tree.Statement.{Statement}
use Rattle.sql_parser.specs.declared.tree.Statement.TheVariants.{CreateQuery, Lock, Unlock}
use Rattle.sql_parser.specs.Grammar.{IsWhole}
use Rattle.sql_parser.specs.Syntax.{IsStatement, IsFault}
use Rattle.sql_parser.specs.Limits.{names_of, limit_of}
use Rattle.sql_printer.specs.Printed.{printed_form, short_form, create_line}

-- a line is spelled as one statement at most
abbrev pub OneReading : Type 0
OneReading = (line : List ℕ) → (s : Statement) → (t : Statement) → IsStatement line s → IsStatement line t → s ≡ t

-- a line that leaves the grammar somewhere is no statement
abbrev pub FaultsAreNone : Type 0
FaultsAreNone = (line : List ℕ) → (at : ℕ) → (s : Statement) → IsFault line at → IsStatement line s → ⊥

-- The printed form of a statement within the limits says this statement, where its names are names, no list but that of the
-- atoms is empty, and no atom has two integers.
abbrev pub PrintsBack : Type 0
PrintsBack = (s : Statement) → IsWhole s → All (λ n. IsTrue (is_name n)) (names_of s) → limit_of s ≡ None → IsStatement (printed_form s) s

-- the short form of a statement within the limits is no longer than any line that is spelled as the statement
abbrev pub ShortIsShortest : Type 0
ShortIsShortest = (line : List ℕ) → (s : Statement) → IsStatement line s → limit_of s ≡ None → length (short_form s) ≤ length line

-- The short form of a query within the limits says this query, where its names are names, no list but that of the atoms is empty, and no
-- atom has two integers.
abbrev pub ShortReadsBack : Type 0
ShortReadsBack =
    (name : List ℕ) → (select : SelectAst) → (shared : Bool) → IsWhole (CreateQuery name select shared)
    → All (λ n. IsTrue (is_name n)) (names_of (CreateQuery name select shared)) → limit_of (CreateQuery name select shared) ≡ None
    → IsStatement (short_form (CreateQuery name select shared)) (CreateQuery name select shared)

-- the line that creates a query again says this query, under the same conditions
abbrev pub CreatesAgain : Type 0
CreatesAgain =
    (name : List ℕ) → (select : SelectAst) → (shared : Bool) → IsWhole (CreateQuery name select shared)
    → All (λ n. IsTrue (is_name n)) (names_of (CreateQuery name select shared)) → limit_of (CreateQuery name select shared) ≡ None
    → IsStatement (create_line (CreateQuery name select shared)) (CreateQuery name select shared)

-- a statement within the limits that some line of at most 1,024 bytes spells has such a line to create it again
abbrev pub CreateLinesFit : Type 0
CreateLinesFit = (line : List ℕ) → (s : Statement) → IsStatement line s → limit_of s ≡ None → length line ≤ 1024 → length (create_line s) ≤ 1024

-- whether a token is a reserved word
abbrev pub is_reserved : TokenKind → Bool
is_reserved (Reserved k) = true
is_reserved _ = false

-- whether the first of the tokens of a line is one
abbrev pub begin_reserved : Result (List Token) ℕ → Bool
begin_reserved (Ok []) = false
begin_reserved (Ok (t ∷ ts)) = is_reserved t.kind
begin_reserved (Err at) = false

-- whether a statement locks or unlocks
abbrev pub is_of_lock : Statement → Bool
is_of_lock (Lock k streams) = true
is_of_lock (Unlock k) = true
is_of_lock _ = false

-- a statement that locks or unlocks begins with no reserved word, and each other one with one: no text is read as both
abbrev pub OldFormsStay : Type 0
OldFormsStay = (line : List ℕ) → (s : Statement) → IsStatement line s → begin_reserved (tokens line) ≡ not (is_of_lock s)
