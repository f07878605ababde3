-- The limits of a statement, in their order.
use Rattle.std.specs.Prelude.{ℕ, ◌+◌, ℤ, pos, neg_ℤ, int_lt, Bool, false, not, ◌||◌, ◌&&◌, nat_lt, nat_eq, if◌then◌else◌, List, [], ◌∷◌, ◌++◌, filter, length, Option, Some, None}
use Rattle.std.specs.List.{flat_map, list_any}
use Rattle.std.specs.Ordering.{int_eq}
use Rattle.std.specs.Cmp.Lexicographic.{pointwise}
use Rattle.sql_text.specs.Value.{fits_i64}
use Rattle.sem_query.specs.Query.{is_soft}
use Rattle.sql_catalog.specs.declared.column.ColumnDef.{ColumnDef}
use Rattle.sql_parser.specs.declared.parsing.What.{What}
use Rattle.sql_parser.specs.declared.parsing.What.TheVariants as limits
use Rattle.sql_parser.specs.declared.tree.ColumnAst.{ColumnAst}
use Rattle.sql_parser.specs.declared.tree.OperandAst.{OperandAst}
use Rattle.sql_parser.specs.declared.tree.OperandAst.TheVariants.{Column, Integer}
use Rattle.sql_parser.specs.declared.tree.AtomAst.{AtomAst}
use Rattle.sql_parser.specs.declared.tree.Statement.{Statement}
use Rattle.sql_parser.specs.declared.tree.Statement.TheVariants.{CreateStream, CreateQuery, ResumeRows, ResumeGiven, ResumeCell, ResumeTuple, Lock, Unlock}
use Rattle.sql_parser.specs.Grammar.{Lexeme, word, number, no_words, tokens_with, statement_tokens}

-- the word that a token is
abbrev pub word_in : Lexeme → List (List ℕ)
word_in (word w) = w ∷ []
word_in _ = []

-- the names of a statement: the words among its tokens without COMPACT, LOCK, UNLOCK and TO
abbrev pub names_of : Statement → List (List ℕ)
names_of s = flat_map word_in (tokens_with no_words s)

-- the integer that a token is
abbrev pub number_in : Lexeme → List ℤ
number_in (number z) = z ∷ []
number_in _ = []

-- the integers of a statement: those that its atoms name, the ends of the domains, those of a line of a checkpoint, and the key of a lock
abbrev pub integers_of : Statement → List ℤ
integers_of s = flat_map number_in (statement_tokens s)

-- the columns of a stream that is created
abbrev pub columns_of : Statement → List ColumnDef
columns_of (CreateStream name columns) = columns.items
columns_of _ = []

-- the selected columns
abbrev pub selected_by : Statement → List ColumnAst
selected_by (CreateQuery name select shared) = select.select.items
selected_by _ = []

-- the streams that FROM names
abbrev pub streams_of : Statement → List (List ℕ)
streams_of (CreateQuery name select shared) = select.from.items
streams_of _ = []

-- the atoms behind WHERE
abbrev pub atoms_of : Statement → List AtomAst
atoms_of (CreateQuery name select shared) = select.atoms.items
atoms_of _ = []

-- the integers of a tuple
abbrev pub values_of : Statement → List ℤ
values_of (ResumeTuple name values) = values.items
values_of _ = []

-- the streams whose rows a lock lets
abbrev pub opened_by : Statement → List (List ℕ)
opened_by (Lock k streams) = streams.items
opened_by _ = []

-- the soft ones among atoms: those with `<=`, `>=` or `<>`
abbrev pub soft_in : List AtomAst → List AtomAst
soft_in atoms = filter (λ a. is_soft a.op) atoms

-- the column that a side of an atom is
abbrev pub column_in : OperandAst → List ColumnAst
column_in (Column c) = c ∷ []
column_in (Integer z) = []

-- the columns that atoms name
abbrev pub columns_in : List AtomAst → List ColumnAst
columns_in atoms = flat_map (λ a. column_in a.left ++ column_in a.right) atoms

-- the integer that a side of an atom is
abbrev pub integer_in : OperandAst → List ℤ
integer_in (Column c) = []
integer_in (Integer z) = z ∷ []

-- the integers that atoms name
abbrev pub integers_in : List AtomAst → List ℤ
integers_in atoms = flat_map (λ a. integer_in a.left ++ integer_in a.right) atoms

-- columns are compared by their two names, byte by byte
abbrev pub same_column : ColumnAst → ColumnAst → Bool
same_column a b = pointwise nat_eq a.stream b.stream && pointwise nat_eq a.column b.column

-- how many different items a list has: each counts where it stands last
abbrev pub number_of_different : {X : Type 0} → (X → X → Bool) → List X → ℕ
number_of_different same [] = 0
number_of_different same (x ∷ xs) = if list_any (same x) xs then number_of_different same xs else number_of_different same xs + 1

-- a name of more than 24 bytes
abbrev pub is_long : List ℕ → Bool
is_long name = nat_lt 24 (length name)

-- an integer outside the range of those that may be written
abbrev pub is_far : ℤ → Bool
is_far z = int_lt z (neg_ℤ (pos 999999999999999)) || int_lt (pos 999999999999999) z

-- an integer of more than 64 bits
abbrev pub is_wide : ℤ → Bool
is_wide z = not (fits_i64 z)

-- an integer that the statement may not have: one of more than 64 bits in a line of a checkpoint or a lock, and one that is far elsewhere
abbrev pub is_beyond : Statement → ℤ → Bool
is_beyond (ResumeRows rows) = is_wide
is_beyond (ResumeGiven name rows) = is_wide
is_beyond (ResumeCell name index content) = is_wide
is_beyond (ResumeTuple name values) = is_wide
is_beyond (Lock k streams) = is_wide
is_beyond (Unlock k) = is_wide
is_beyond _ = is_far

-- a domain whose first integer is greater than its second
abbrev pub is_reversed : Option (ℤ × ℤ) → Bool
is_reversed None = false
is_reversed (Some ends) = int_lt ends.1 ends.0

-- the first limit that a statement passes, in the order of What
abbrev pub limit_of : Statement → Option What
limit_of s =
    if list_any is_long (names_of s) then Some limits.Name else
    (if nat_lt 8 (length (columns_of s)) then Some limits.Columns else
    (if nat_lt 8 (length (selected_by s)) then Some limits.Select else
    (if nat_lt 4 (length (streams_of s)) then Some limits.From else
    (if nat_lt 16 (length (atoms_of s)) then Some limits.Atoms else
    (if nat_lt 8 (length (soft_in (atoms_of s))) then Some limits.Soft else
    (if nat_lt 12 (number_of_different same_column (columns_in (atoms_of s))) then Some limits.Attrs else
    (if list_any (is_beyond s) (integers_of s) then Some limits.Value else
    (if nat_lt 6 (number_of_different int_eq (integers_in (atoms_of s))) then Some limits.Consts else
    (if list_any (λ c. is_reversed c.domain) (columns_of s) then Some limits.Domain else
    (if nat_lt 8 (length (values_of s)) then Some limits.Tuple else
    (if nat_lt 16 (length (opened_by s)) then Some limits.Streams else None)))))))))))
