-- The printed form of a statement is its parts.
use Rattle.std.proofs.Common.{◌≡◌, ℕ, Bool, true, false, cond, ◌||◌, List, [], ◌∷◌, ◌++◌, map, Option, Some, None, ℤ, flat_map, codes, refl, ap, sym, ◌∙◌, append_assoc, append-nil}
use Rattle.std.specs.Fmt.{signed_decimal}
use Rattle.sql_text.specs.declared.key.Key.TheVariants.{AsKey, SelectKey, DistinctKey, FromKey, WhereKey, AndKey}
use Rattle.sem_query.specs.declared.atom.Op.{Op}
use Rattle.sem_query.specs.declared.atom.Op.TheVariants.{Lt, Eq, Gt, Le, Ge, Ne}
use Rattle.sql_catalog.specs.declared.column.ColumnDef.{ColumnDef}
use Rattle.sql_parser.specs.declared.tree.ColumnAst.{ColumnAst}
use Rattle.sql_parser.specs.declared.tree.OperandAst.{OperandAst}
use Rattle.sql_parser.specs.declared.tree.OperandAst.TheVariants.{Column, Integer}
use Rattle.sql_parser.specs.declared.tree.AtomAst.{AtomAst}
use Rattle.sql_parser.specs.declared.tree.SelectAst.{SelectAst}
use Rattle.sql_parser.specs.declared.tree.Statement.TheVariants.{CreateStream, CreateQuery, ResumeGiven, ResumeCell, ResumeTuple, Lock}
use Rattle.sql_parser.specs.Grammar.{Lexeme, word, number, key, comma, opening, closing, less, equal, greater, less_equal, greater_equal, unequal, separated, name_tokens, domain_tokens, coldef_tokens, column_tokens, operand_tokens, op_token, atom_tokens, where_tokens, distinct_tokens, select_tokens}
use Rattle.sql_printer.specs.Printed.{text_for, joins_next, joins_last, joins, gap_by, printed, printed_form}
use Rattle.sql_printer.specs.PrintedParts.{each_behind, listed, name_text, operand_text, op_text, atom_text, names_text, columns_text, atoms_text, distinct_text, sources_text, selection_text, select_text, query_head_text, query_text, domain_text, coldef_text, coldefs_text, given_text, content_text, cell_text, values_text, tuple_text, lock_head_text, lock_text, stream_text}
use Rattle.sql_parser.specs.Naming.{column_text}
use Rattle.sql_parser.proofs.Compact.{create_tokens}
use Rattle.sql_parser.proofs.Said.{select_grouped}

-- what is printed behind a token
abbrev pub behind : Lexeme → List Lexeme → List ℕ
behind l [] = []
behind l (m ∷ ls) = gap_by joins l m ++ printed (m ∷ ls)

printed_first : (l : Lexeme) (ls : List Lexeme) → printed (l ∷ ls) ≡ text_for l ++ behind l ls
printed_first l [] = sym (append-nil (text_for l))
printed_first l (m ∷ ls) = refl

-- what is printed behind a name or an integer
abbrev pub behind_name : List Lexeme → List ℕ
behind_name ls = behind (word []) ls

word_behind : (w : List ℕ) (ls : List Lexeme) → printed (word w ∷ ls) ≡ w ++ behind_name ls
word_behind w [] = sym (append-nil w)
word_behind w (m ∷ ls) = refl

number_behind : (l : Lexeme) (ls : List Lexeme) → joins_next l ≡ false → behind l ls ≡ behind_name ls
number_behind l [] h = refl
number_behind l (m ∷ ls) h = ap (λ t. cond (t || joins_last m) [] (32 ∷ []) ++ printed (m ∷ ls)) h

-- the tokens of a list, by its first item
pub separated_first : {X : Type 0} (sep : Lexeme) (f : X → List Lexeme) (x : X) (xs : List X) → separated sep f (x ∷ xs) ≡ f x ++ flat_map (λ y. sep ∷ f y) xs
separated_first sep f x [] = sym (append-nil (f x))
separated_first sep f x (y ∷ ys) = ap (λ ls. f x ++ sep ∷ ls) (separated_first sep f y ys)

more_behind : {X : Type 0} (sep : Lexeme) (f : X → List Lexeme) (sep_text : List ℕ) (text : X → List ℕ) → ((x : X) (rest : List Lexeme) → behind_name (sep ∷ (f x ++ rest)) ≡ sep_text ++ (text x ++ behind_name rest)) → (xs : List X) (rest : List Lexeme) → behind_name (flat_map (λ y. sep ∷ f y) xs ++ rest) ≡ each_behind sep_text text xs ++ behind_name rest
more_behind sep f sep_text text each [] rest = refl
more_behind sep f sep_text text each (x ∷ xs) rest =
    ap (λ ls. behind_name (sep ∷ ls)) (append_assoc (f x) (flat_map (λ y. sep ∷ f y) xs) rest)
    ∙ each x (flat_map (λ y. sep ∷ f y) xs ++ rest)
    ∙ ap (λ bs. sep_text ++ (text x ++ bs)) (more_behind sep f sep_text text each xs rest)
    ∙ ap (λ bs. sep_text ++ bs) (sym (append_assoc (text x) (each_behind sep_text text xs) (behind_name rest)))
    ∙ sym (append_assoc sep_text (text x ++ each_behind sep_text text xs) (behind_name rest))
    ∙ ap (λ bs. bs ++ behind_name rest) (sym (append_assoc sep_text (text x) (each_behind sep_text text xs)))

list_behind : {X : Type 0} (l sep : Lexeme) (f : X → List Lexeme) (lead sep_text : List ℕ) (text : X → List ℕ) → ((x : X) (rest : List Lexeme) → behind l (f x ++ rest) ≡ lead ++ (text x ++ behind_name rest)) → ((x : X) (rest : List Lexeme) → behind_name (sep ∷ (f x ++ rest)) ≡ sep_text ++ (text x ++ behind_name rest)) → (x : X) (xs : List X) (rest : List Lexeme) → behind l (separated sep f (x ∷ xs) ++ rest) ≡ listed lead sep_text text (x ∷ xs) ++ behind_name rest
list_behind l sep f lead sep_text text first each x xs rest =
    ap (λ ls. behind l (ls ++ rest)) (separated_first sep f x xs)
    ∙ ap (behind l) (append_assoc (f x) (flat_map (λ y. sep ∷ f y) xs) rest)
    ∙ first x (flat_map (λ y. sep ∷ f y) xs ++ rest)
    ∙ ap (λ bs. lead ++ (text x ++ bs)) (more_behind sep f sep_text text each xs rest)
    ∙ ap (λ bs. lead ++ bs) (sym (append_assoc (text x) (each_behind sep_text text xs) (behind_name rest)))
    ∙ sym (append_assoc lead (text x ++ each_behind sep_text text xs) (behind_name rest))
    ∙ ap (λ bs. bs ++ behind_name rest) (sym (append_assoc lead (text x) (each_behind sep_text text xs)))

-- names
name_behind_comma : (n : List ℕ) (rest : List Lexeme) → behind_name (comma ∷ (name_tokens n ++ rest)) ≡ codes ", " ++ (name_text n ++ behind_name rest)
name_behind_comma n rest = ap (λ bs. codes ", " ++ bs) (word_behind n rest)

-- columns
column_behind : (c : ColumnAst) (rest : List Lexeme) → printed (column_tokens c ++ rest) ≡ column_text c ++ behind_name rest
column_behind c rest = ap (λ bs. c.stream ++ 46 ∷ bs) (word_behind c.column rest) ∙ sym (append_assoc c.stream (46 ∷ c.column) (behind_name rest))

column_behind_comma : (c : ColumnAst) (rest : List Lexeme) → behind_name (comma ∷ (column_tokens c ++ rest)) ≡ codes ", " ++ (column_text c ++ behind_name rest)
column_behind_comma c rest = ap (λ bs. codes ", " ++ bs) (column_behind c rest)

-- operands and atoms, behind a token that a space follows
operand_printed : (o : OperandAst) (rest : List Lexeme) → printed (operand_tokens o ++ rest) ≡ operand_text o ++ behind_name rest
operand_printed (Column c) rest = column_behind c rest
operand_printed (Integer z) rest = printed_first (number z) rest ∙ ap (λ bs. operand_text (Integer z) ++ bs) (number_behind (number z) rest refl)

space_before : (l : Lexeme) → joins_next l ≡ false → (o : OperandAst) (rest : List Lexeme) → behind l (operand_tokens o ++ rest) ≡ 32 ∷ printed (operand_tokens o ++ rest)
space_before l h (Column c) rest = ap (λ t. cond (t || false) [] (32 ∷ []) ++ printed (operand_tokens (Column c) ++ rest)) h
space_before l h (Integer z) rest = ap (λ t. cond (t || false) [] (32 ∷ []) ++ printed (operand_tokens (Integer z) ++ rest)) h

operand_behind : (l : Lexeme) → joins_next l ≡ false → (o : OperandAst) (rest : List Lexeme) → behind l (operand_tokens o ++ rest) ≡ 32 ∷ (operand_text o ++ behind_name rest)
operand_behind l h o rest = space_before l h o rest ∙ ap (λ bs. 32 ∷ bs) (operand_printed o rest)

op_behind : (op : Op) (o : OperandAst) (rest : List Lexeme) → behind_name (op_token op ∷ (operand_tokens o ++ rest)) ≡ op_text op ++ (operand_text o ++ behind_name rest)
op_behind Lt o rest = ap (λ bs. 32 ∷ bs) (printed_first less (operand_tokens o ++ rest)) ∙ ap (λ bs. 32 ∷ 60 ∷ bs) (operand_behind less refl o rest)
op_behind Eq o rest = ap (λ bs. 32 ∷ bs) (printed_first equal (operand_tokens o ++ rest)) ∙ ap (λ bs. 32 ∷ 61 ∷ bs) (operand_behind equal refl o rest)
op_behind Gt o rest = ap (λ bs. 32 ∷ bs) (printed_first greater (operand_tokens o ++ rest)) ∙ ap (λ bs. 32 ∷ 62 ∷ bs) (operand_behind greater refl o rest)
op_behind Le o rest = ap (λ bs. 32 ∷ bs) (printed_first less_equal (operand_tokens o ++ rest)) ∙ ap (λ bs. 32 ∷ 60 ∷ 61 ∷ bs) (operand_behind less_equal refl o rest)
op_behind Ge o rest = ap (λ bs. 32 ∷ bs) (printed_first greater_equal (operand_tokens o ++ rest)) ∙ ap (λ bs. 32 ∷ 62 ∷ 61 ∷ bs) (operand_behind greater_equal refl o rest)
op_behind Ne o rest = ap (λ bs. 32 ∷ bs) (printed_first unequal (operand_tokens o ++ rest)) ∙ ap (λ bs. 32 ∷ 60 ∷ 62 ∷ bs) (operand_behind unequal refl o rest)

atom_behind : (l : Lexeme) → joins_next l ≡ false → (a : AtomAst) (rest : List Lexeme) → behind l (atom_tokens a ++ rest) ≡ 32 ∷ (atom_text a ++ behind_name rest)
atom_behind l h a rest =
    ap (behind l) (append_assoc (operand_tokens a.left) (op_token a.op ∷ operand_tokens a.right) rest)
    ∙ operand_behind l h a.left (op_token a.op ∷ (operand_tokens a.right ++ rest))
    ∙ ap (λ bs. 32 ∷ (operand_text a.left ++ bs)) (op_behind a.op a.right rest)
    ∙ ap (λ bs. 32 ∷ (operand_text a.left ++ bs)) (sym (append_assoc (op_text a.op) (operand_text a.right) (behind_name rest)))
    ∙ ap (λ bs. 32 ∷ bs) (sym (append_assoc (operand_text a.left) (op_text a.op ++ operand_text a.right) (behind_name rest)))

atom_behind_and : (a : AtomAst) (rest : List Lexeme) → behind_name (key AndKey ∷ (atom_tokens a ++ rest)) ≡ codes " AND " ++ (atom_text a ++ behind_name rest)
atom_behind_and a rest = ap (λ bs. 32 ∷ bs) (printed_first (key AndKey) (atom_tokens a ++ rest)) ∙ ap (λ bs. codes " AND" ++ bs) (atom_behind (key AndKey) refl a rest)

where_key : (l : Lexeme) → joins_next l ≡ false → (ls : List Lexeme) → behind l (key WhereKey ∷ ls) ≡ codes " WHERE" ++ behind (key WhereKey) ls
where_key l h ls = ap (λ t. cond (t || false) [] (32 ∷ []) ++ printed (key WhereKey ∷ ls)) h ∙ ap (λ bs. 32 ∷ bs) (printed_first (key WhereKey) ls)

-- the atoms, which stand last
where_behind : (l : Lexeme) → joins_next l ≡ false → (atoms : List AtomAst) → behind l (where_tokens atoms) ≡ atoms_text atoms
where_behind l h [] = refl
where_behind l h (a ∷ atoms) =
    where_key l h (separated (key AndKey) atom_tokens (a ∷ atoms))
    ∙ ap (λ ls. codes " WHERE" ++ behind (key WhereKey) ls) (sym (append-nil (separated (key AndKey) atom_tokens (a ∷ atoms))))
    ∙ ap (λ bs. codes " WHERE" ++ bs) (list_behind (key WhereKey) (key AndKey) atom_tokens (32 ∷ []) (codes " AND ") atom_text (atom_behind (key WhereKey) refl) atom_behind_and a atoms [])
    ∙ append-nil (codes " WHERE" ++ listed (32 ∷ []) (codes " AND ") atom_text (a ∷ atoms))

streams_behind : (names : List (List ℕ)) (atoms : List AtomAst) → behind (key FromKey) (separated comma name_tokens names ++ where_tokens atoms) ≡ names_text (codes " ") names ++ atoms_text atoms
streams_behind [] atoms = where_behind (key FromKey) refl atoms
streams_behind (n ∷ names) atoms =
    list_behind (key FromKey) comma name_tokens (codes " ") (codes ", ") name_text (λ m rest. ap (λ bs. 32 ∷ bs) (word_behind m rest)) name_behind_comma n names (where_tokens atoms)
    ∙ ap (λ bs. names_text (codes " ") (n ∷ names) ++ bs) (where_behind (word []) refl atoms)

from_behind : (l : Lexeme) → joins_next l ≡ false → (s : SelectAst) → behind l (key FromKey ∷ (separated comma name_tokens s.from.items ++ where_tokens s.atoms.items)) ≡ sources_text s
from_behind l h s =
    let ls = separated comma name_tokens s.from.items ++ where_tokens s.atoms.items in
    ap (λ t. cond (t || false) [] (32 ∷ []) ++ printed (key FromKey ∷ ls)) h
    ∙ ap (λ bs. 32 ∷ bs) (printed_first (key FromKey) ls)
    ∙ ap (λ bs. codes " FROM" ++ bs) (streams_behind s.from.items s.atoms.items)

space_column : (l : Lexeme) → joins_next l ≡ false → (c : ColumnAst) (rest : List Lexeme) → behind l (column_tokens c ++ rest) ≡ codes " " ++ (column_text c ++ behind_name rest)
space_column l h c rest = operand_behind l h (Column c) rest

columns_behind : (l : Lexeme) → joins_next l ≡ false → (columns : List ColumnAst) (s : SelectAst) → behind l (separated comma column_tokens columns ++ (key FromKey ∷ (separated comma name_tokens s.from.items ++ where_tokens s.atoms.items))) ≡ columns_text columns ++ sources_text s
columns_behind l h [] s = from_behind l h s
columns_behind l h (c ∷ columns) s =
    list_behind l comma column_tokens (codes " ") (codes ", ") column_text (space_column l h) column_behind_comma c columns (key FromKey ∷ (separated comma name_tokens s.from.items ++ where_tokens s.atoms.items))
    ∙ ap (λ bs. columns_text (c ∷ columns) ++ bs) (from_behind (word []) refl s)

select_behind : (d : Bool) (s : SelectAst) → printed (key SelectKey ∷ (distinct_tokens d ++ (separated comma column_tokens s.select.items ++ (key FromKey ∷ (separated comma name_tokens s.from.items ++ where_tokens s.atoms.items))))) ≡ (codes "SELECT" ++ distinct_text d) ++ selection_text s
select_behind true s =
    let ls = separated comma column_tokens s.select.items ++ (key FromKey ∷ (separated comma name_tokens s.from.items ++ where_tokens s.atoms.items)) in
    ap (λ bs. codes "SELECT " ++ bs) (printed_first (key DistinctKey) ls)
    ∙ ap (λ bs. codes "SELECT DISTINCT" ++ bs) (columns_behind (key DistinctKey) refl s.select.items s)
select_behind false s =
    let ls = separated comma column_tokens s.select.items ++ (key FromKey ∷ (separated comma name_tokens s.from.items ++ where_tokens s.atoms.items)) in
    printed_first (key SelectKey) ls
    ∙ ap (λ bs. codes "SELECT" ++ bs) (columns_behind (key SelectKey) refl s.select.items s)

pub select_printed : (s : SelectAst) → select_text s ≡ printed (select_tokens s)
select_printed s = sym (ap printed (select_grouped s) ∙ select_behind s.distinct s)

-- the words before the name, the name and what stands from SELECT on
query_behind : (head name : List ℕ) (s : SelectAst) → ((head ++ name) ++ codes " AS ") ++ select_text s ≡ head ++ (name ++ (codes " AS " ++ printed (select_tokens s)))
query_behind head name s =
    append_assoc (head ++ name) (codes " AS ") (select_text s)
    ∙ append_assoc head name (codes " AS " ++ select_text s)
    ∙ ap (λ bs. head ++ (name ++ (codes " AS " ++ bs))) (select_printed s)

created_printed : (name : List ℕ) (s : SelectAst) (shared k : Bool) → query_head_text name shared k ++ select_text s ≡ printed (create_tokens (word (codes "COMPACT") ∷ []) shared k (word name ∷ key AsKey ∷ select_tokens s))
created_printed name s true true = query_behind (codes "CREATE SHARED COMPACT QUERY ") name s
created_printed name s true false = query_behind (codes "CREATE SHARED QUERY ") name s
created_printed name s false true = query_behind (codes "CREATE COMPACT QUERY ") name s
created_printed name s false false = query_behind (codes "CREATE QUERY ") name s

pub query_printed : (name : List ℕ) (s : SelectAst) (shared : Bool) → query_text name s shared ≡ printed_form (CreateQuery name s shared)
query_printed name s shared = created_printed name s shared s.compact

-- lines of a checkpoint
pub given_printed : (name : List ℕ) (rows : ℤ) → given_text name rows ≡ printed_form (ResumeGiven name rows)
given_printed name rows = append_assoc (codes "RESUME ") name (codes " AS " ++ signed_decimal rows)

pub cell_printed : (name : List ℕ) (index content : ℤ) → cell_text name index content ≡ printed_form (ResumeCell name index content)
cell_printed name index content =
    append_assoc (codes "RESUME ") name (content_text index content)
    ∙ ap (λ bs. codes "RESUME " ++ (name ++ bs)) (append_assoc (codes " FROM ") (signed_decimal index) (codes " " ++ signed_decimal content))

values_behind : (l : Lexeme) → joins_next l ≡ false → (values : List ℤ) → behind l (map number values) ≡ each_behind (codes " ") signed_decimal values
values_behind l h [] = refl
values_behind l h (z ∷ values) =
    ap (λ t. cond (t || false) [] (32 ∷ []) ++ printed (number z ∷ map number values)) h
    ∙ ap (λ bs. 32 ∷ bs) (printed_first (number z) (map number values))
    ∙ ap (λ bs. 32 ∷ (signed_decimal z ++ bs)) (values_behind (number z) refl values)

pub tuple_printed : (name : List ℕ) (values : List ℤ) → tuple_text name values ≡ printed_form (ResumeTuple name (record { items = values }))
tuple_printed name values =
    append_assoc (codes "RESUME ") name (values_text values)
    ∙ ap (λ bs. codes "RESUME " ++ (name ++ (codes " SELECT" ++ bs))) (sym (values_behind (key SelectKey) refl values))
    ∙ ap (λ bs. codes "RESUME " ++ (name ++ (32 ∷ bs))) (sym (printed_first (key SelectKey) (map number values)))

-- columns of a stream
domain_behind : (domain : Option (ℤ × ℤ)) (rest : List Lexeme) → behind_name (domain_tokens domain ++ rest) ≡ domain_text domain ++ behind_name rest
domain_behind None rest = refl
domain_behind (Some ends) rest =
    let low = signed_decimal ends.0 in
    let high = signed_decimal ends.1 in
    ap (λ bs. codes " IN " ++ (low ++ (codes ".." ++ bs))) (printed_first (number ends.1) rest ∙ ap (λ bs. high ++ bs) (number_behind (number ends.1) rest refl))
    ∙ sym (grouped (codes " IN ") low (codes "..") high (behind_name rest))
  where
    grouped : (a b c d e : List ℕ) → ((a ++ b) ++ (c ++ d)) ++ e ≡ a ++ (b ++ (c ++ (d ++ e)))
    grouped a b c d e = simp append_assoc

coldef_behind : (c : ColumnDef) (rest : List Lexeme) → printed (coldef_tokens c ++ rest) ≡ coldef_text c ++ behind_name rest
coldef_behind c rest = word_behind c.name (domain_tokens c.domain ++ rest) ∙ ap (λ bs. c.name ++ bs) (domain_behind c.domain rest) ∙ sym (append_assoc c.name (domain_text c.domain) (behind_name rest))

coldef_behind_comma : (c : ColumnDef) (rest : List Lexeme) → behind_name (comma ∷ (coldef_tokens c ++ rest)) ≡ codes ", " ++ (coldef_text c ++ behind_name rest)
coldef_behind_comma c rest = ap (λ bs. codes ", " ++ bs) (coldef_behind c rest)

stream_behind : (columns : List ColumnDef) → behind opening (separated comma coldef_tokens columns ++ closing ∷ []) ≡ coldefs_text columns ++ codes ")"
stream_behind [] = refl
stream_behind (c ∷ columns) = list_behind opening comma coldef_tokens [] (codes ", ") coldef_text coldef_behind coldef_behind_comma c columns (closing ∷ [])

pub stream_printed : (name : List ℕ) (columns : List ColumnDef) → stream_text name columns ≡ printed_form (CreateStream name (record { items = columns }))
stream_printed name columns =
    sym (ap (λ bs. codes "CREATE STREAM " ++ (name ++ (codes " " ++ bs))) (printed_first opening (separated comma coldef_tokens columns ++ closing ∷ []))
    ∙ ap (λ bs. codes "CREATE STREAM " ++ (name ++ (codes " (" ++ bs))) (stream_behind columns)
    ∙ ap (λ bs. codes "CREATE STREAM " ++ bs) (sym (append_assoc name (codes " (") (coldefs_text columns ++ codes ")"))))
