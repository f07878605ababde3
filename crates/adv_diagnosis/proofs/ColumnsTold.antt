-- The columns that the comparisons of a query name are those that its tokens tell.
use Rattle.std.proofs.Common.{◌≡◌, ℕ, inl, inr, Bool, true, false, cond, ◌&&◌, List, [], ◌∷◌, ◌++◌, Some, None, refl, ap, sym, ◌∙◌, append-nil, append_assoc}
use Rattle.std.specs.Prelude.{slice_range}
use Rattle.sql_text.specs.declared.key.Key.TheVariants as keys
use Rattle.sql_lexer.specs.declared.token.TokenKind.{TokenKind}
use Rattle.sql_lexer.specs.declared.token.TokenKind.TheVariants as kinds
use Rattle.sql_lexer.specs.declared.token.Token.{Token}
use Rattle.sem_query.specs.declared.atom.Op.{Op}
use Rattle.sem_query.specs.declared.atom.Op.TheVariants.{Lt, Eq, Gt, Le, Ge, Ne}
use Rattle.sql_parser.specs.declared.tree.ColumnAst.{ColumnAst}
use Rattle.sql_parser.specs.declared.tree.OperandAst.{OperandAst}
use Rattle.sql_parser.specs.declared.tree.OperandAst.TheVariants.{Column, Integer}
use Rattle.sql_parser.specs.declared.tree.AtomAst.{AtomAst}
use Rattle.sql_parser.specs.declared.tree.SelectAst.{SelectAst}
use Rattle.sql_parser.specs.declared.tree.Statement.TheVariants.{CreateQuery}
use Rattle.sql_parser.specs.DraftLimits.{is_word_kind}
use Rattle.sql_parser.specs.Grammar.{Lexeme, word, key, comma, semicolon, separated, name_tokens, column_tokens, operand_tokens, op_token, atom_tokens, where_tokens, distinct_tokens, select_tokens, FreeWords, tokens_with, written, Spells}
use Rattle.sql_parser.specs.Limits.{column_in, columns_in}
use Rattle.sql_parser.specs.Reading.{kind_at, text_of}
use Rattle.sql_parser.specs.Syntax.{lexeme_as, lexeme_of, lexemes}
use Rattle.sql_parser.proofs.Compact.{create_tokens}
use Rattle.adv_diagnosis.specs.declared.passing.ColumnTokens.{ColumnTokens}
use Rattle.adv_diagnosis.specs.declared.marks.Anchor.TheVariants as anchors
use Rattle.adv_diagnosis.specs.Compared.{column_with, column_of, and_column, columns_at, columns_compared}
use Rattle.adv_diagnosis.specs.Marks.{is_point, is_where, behind_anchor}
use Rattle.adv_diagnosis.proofs.Counting.{kind_same}

-- no column, and one by its two names
abbrev no_column : List ColumnAst
no_column = []

abbrev one_column : List ℕ → List ℕ → List ColumnAst
one_column s w = record { stream = s; column = w } ∷ []

-- what stands behind the name of a stream and a point, and behind the name alone
abbrev behind_point : List ℕ → List Lexeme → List ColumnAst
behind_point s [] = []
behind_point s (l ∷ ls) = cond (is_word_kind (kind_at l)) (one_column s (text_of l)) no_column

abbrev behind_name : List ℕ → List Lexeme → List ColumnAst
behind_name s [] = []
behind_name s (l ∷ ls) = cond (is_point (kind_at l)) (behind_point s ls) []

-- the column that begins with what a token says
abbrev said_with : Lexeme → List Lexeme → List ColumnAst
said_with l ls = cond (is_word_kind (kind_at l)) (behind_name (text_of l) ls) []

-- the columns in what tokens say
abbrev said : List Lexeme → List ColumnAst
said [] = []
said (l ∷ ls) = said_with l ls ++ said ls

as_word : {X : Type 0} (k : TokenKind) (w : List ℕ) (f : List ℕ → X) (x : X) → cond (is_word_kind k) (f w) x ≡ cond (is_word_kind (kind_at (lexeme_as k w))) (f (text_of (lexeme_as k w))) x
as_word kinds.Word w f x = refl
as_word (kinds.Reserved r) w f x = refl
as_word kinds.Integer w f x = refl
as_word kinds.Comma w f x = refl
as_word kinds.Point w f x = refl
as_word kinds.Open w f x = refl
as_word kinds.Close w f x = refl
as_word kinds.Less w f x = refl
as_word kinds.Equal w f x = refl
as_word kinds.Greater w f x = refl
as_word kinds.LessEqual w f x = refl
as_word kinds.GreaterEqual w f x = refl
as_word kinds.Unequal w f x = refl
as_word kinds.Semi w f x = refl

no_columns : (a b : Bool) → cond a (cond b no_column no_column) no_column ≡ no_column
no_columns true true = refl
no_columns true false = refl
no_columns false b = refl

all_three : (line : List ℕ) (n : ColumnTokens) (cs : List ColumnAst) (a b c : Bool) → and_column line (cond (a && b && c) (Some n) None) cs ≡ cond a (cond b (cond c (column_of line n ∷ []) no_column) no_column) no_column ++ cs
all_three line n cs true true true = refl
all_three line n cs true true false = refl
all_three line n cs true false c = refl
all_three line n cs false b c = refl

column_told : (line : List ℕ) (t : Token) (ts : List Token) (cs : List ColumnAst) → and_column line (column_with t ts) cs ≡ said_with (lexeme_of line t) (lexemes line ts) ++ cs
column_told line t [] cs = ap (λ xs. xs ++ cs) (sym (no_columns (is_word_kind (kind_at (lexeme_of line t))) false))
column_told line t (p ∷ []) cs = ap (λ xs. xs ++ cs) (sym (no_columns (is_word_kind (kind_at (lexeme_of line t))) (is_point (kind_at (lexeme_of line p)))))
column_told line t (p ∷ c ∷ ts) cs =
    let s = slice_range line t.from t.to in
    let w = slice_range line c.from c.to in
    let named : cond (is_word_kind c.kind) (one_column s w) no_column ≡ behind_point s (lexemes line (c ∷ ts)) = as_word c.kind w (one_column s) no_column in
    let pointed : is_point p.kind ≡ is_point (kind_at (lexeme_of line p)) = ap is_point (sym (kind_same p.kind (slice_range line p.from p.to))) in
    let begun : cond (is_word_kind t.kind) (behind_name s (lexemes line (p ∷ c ∷ ts))) no_column ≡ said_with (lexeme_of line t) (lexemes line (p ∷ c ∷ ts)) = as_word t.kind s (λ x. behind_name x (lexemes line (p ∷ c ∷ ts))) no_column in
    all_three line (record { stream = t; column = c }) cs (is_word_kind t.kind) (is_point p.kind) (is_word_kind c.kind)
    ∙ ap (λ xs. cond (is_word_kind t.kind) (cond (is_point p.kind) xs no_column) no_column ++ cs) named
    ∙ ap (λ b. cond (is_word_kind t.kind) (cond b (behind_point s (lexemes line (c ∷ ts))) no_column) no_column ++ cs) pointed
    ∙ ap (λ xs. xs ++ cs) begun

columns_told : (line : List ℕ) (ts : List Token) → columns_at line ts ≡ said (lexemes line ts)
columns_told line [] = refl
columns_told line (t ∷ ts) = column_told line t ts (columns_at line ts) ∙ ap (λ cs. said_with (lexeme_of line t) (lexemes line ts) ++ cs) (columns_told line ts)

-- what is said behind WHERE
abbrev behind_where : List Lexeme → List Lexeme
behind_where [] = []
behind_where (l ∷ ls) = cond (is_where (kind_at l)) ls (behind_where ls)

either : (line : List ℕ) (b : Bool) (ts us : List Token) (ls : List Lexeme) → lexemes line us ≡ ls → lexemes line (cond b ts us) ≡ cond b (lexemes line ts) ls
either line true ts us ls e = refl
either line false ts us ls e = e

behind_told : (line : List ℕ) (ts : List Token) → lexemes line (behind_anchor anchors.Where ts) ≡ behind_where (lexemes line ts)
behind_told line [] = refl
behind_told line (t ∷ ts) =
    either line (is_where t.kind) ts (behind_anchor anchors.Where ts) (behind_where (lexemes line ts)) (behind_told line ts)
    ∙ ap (λ (k : TokenKind). cond (is_where k) (lexemes line ts) (behind_where (lexemes line ts))) (sym (kind_same t.kind (slice_range line t.from t.to)))

-- the columns of comparisons

op_none : (op : Op) (ls : List Lexeme) → said (op_token op ∷ ls) ≡ said ls
op_none Lt ls = refl
op_none Eq ls = refl
op_none Gt ls = refl
op_none Le ls = refl
op_none Ge ls = refl
op_none Ne ls = refl

op_behind : (op : Op) (s : List ℕ) (ls : List Lexeme) → behind_name s (op_token op ∷ ls) ≡ []
op_behind Lt s ls = refl
op_behind Eq s ls = refl
op_behind Gt s ls = refl
op_behind Le s ls = refl
op_behind Ge s ls = refl
op_behind Ne s ls = refl

operand_said : (o : OperandAst) (ls : List Lexeme) → ((s : List ℕ) → behind_name s ls ≡ []) → said (operand_tokens o ++ ls) ≡ column_in o ++ said ls
operand_said (Column c) ls none = ap (λ cs. c ∷ (cs ++ said ls)) (none c.column)
operand_said (Integer z) ls none = refl

atom_said : (a : AtomAst) (ls : List Lexeme) → ((s : List ℕ) → behind_name s ls ≡ []) → said (atom_tokens a ++ ls) ≡ (column_in a.left ++ column_in a.right) ++ said ls
atom_said a ls none =
    ap said (append_assoc (operand_tokens a.left) (op_token a.op ∷ operand_tokens a.right) ls)
    ∙ operand_said a.left (op_token a.op ∷ (operand_tokens a.right ++ ls)) (λ s. op_behind a.op s (operand_tokens a.right ++ ls))
    ∙ ap (λ cs. column_in a.left ++ cs) (op_none a.op (operand_tokens a.right ++ ls) ∙ operand_said a.right ls none)
    ∙ sym (append_assoc (column_in a.left) (column_in a.right) (said ls))

atoms_said : (a : AtomAst) (atoms : List AtomAst) (ls : List Lexeme) → ((s : List ℕ) → behind_name s ls ≡ []) → said ls ≡ [] → said (separated (key keys.AndKey) atom_tokens (a ∷ atoms) ++ ls) ≡ columns_in (a ∷ atoms)
atoms_said a [] ls none e = atom_said a ls none ∙ ap (λ cs. (column_in a.left ++ column_in a.right) ++ cs) e
atoms_said a (b ∷ atoms) ls none e =
    let more = separated (key keys.AndKey) atom_tokens (b ∷ atoms) in
    ap said (append_assoc (atom_tokens a) (key keys.AndKey ∷ more) ls)
    ∙ atom_said a (key keys.AndKey ∷ (more ++ ls)) (λ s. refl)
    ∙ ap (λ cs. (column_in a.left ++ column_in a.right) ++ cs) (atoms_said b atoms ls none e)

-- the end of a statement, with a semicolon or without one
abbrev ended : Bool → List Lexeme
ended true = semicolon ∷ []
ended false = []

ended_name : (b : Bool) (s : List ℕ) → behind_name s (ended b) ≡ []
ended_name true s = refl
ended_name false s = refl

ended_said : (b : Bool) → said (ended b) ≡ []
ended_said true = refl
ended_said false = refl

ended_behind : (b : Bool) → behind_where (ended b) ≡ []
ended_behind true = refl
ended_behind false = refl

where_said : (atoms : List AtomAst) (b : Bool) → said (behind_where (where_tokens atoms ++ ended b)) ≡ columns_in atoms
where_said [] b = ap said (ended_behind b)
where_said (a ∷ atoms) b = atoms_said a atoms (ended b) (ended_name b) (ended_said b)

-- before WHERE

columns_behind : (cs : List ColumnAst) (ls : List Lexeme) → behind_where (separated comma column_tokens cs ++ ls) ≡ behind_where ls
columns_behind [] ls = refl
columns_behind (c ∷ []) ls = refl
columns_behind (c ∷ d ∷ cs) ls = columns_behind (d ∷ cs) ls

names_behind : (ns : List (List ℕ)) (ls : List Lexeme) → behind_where (separated comma name_tokens ns ++ ls) ≡ behind_where ls
names_behind [] ls = refl
names_behind (n ∷ []) ls = refl
names_behind (n ∷ m ∷ ns) ls = names_behind (m ∷ ns) ls

distinct_behind : (b : Bool) (ls : List Lexeme) → behind_where (distinct_tokens b ++ ls) ≡ behind_where ls
distinct_behind true ls = refl
distinct_behind false ls = refl

select_behind : (s : SelectAst) (ls : List Lexeme) → behind_where (select_tokens s ++ ls) ≡ behind_where (where_tokens s.atoms.items ++ ls)
select_behind s ls =
    let columns = separated comma column_tokens s.select.items in
    let names = separated comma name_tokens s.from.items in
    let atoms = where_tokens s.atoms.items in
    let grouped : select_tokens s ++ ls ≡ key keys.SelectKey ∷ (distinct_tokens s.distinct ++ (columns ++ (key keys.FromKey ∷ (names ++ (atoms ++ ls))))) = simp append_assoc in
    ap behind_where grouped
    ∙ distinct_behind s.distinct (columns ++ (key keys.FromKey ∷ (names ++ (atoms ++ ls))))
    ∙ columns_behind s.select.items (key keys.FromKey ∷ (names ++ (atoms ++ ls)))
    ∙ names_behind s.from.items (atoms ++ ls)

create_behind : (w : List ℕ) (shared k : Bool) (more : List Lexeme) → behind_where (create_tokens (word w ∷ []) shared k more) ≡ behind_where more
create_behind w true true more = refl
create_behind w true false more = refl
create_behind w false true more = refl
create_behind w false false more = refl

create_ended : (w : List ℕ) (shared k : Bool) (more ls : List Lexeme) → create_tokens (word w ∷ []) shared k more ++ ls ≡ create_tokens (word w ∷ []) shared k (more ++ ls)
create_ended w true true more ls = refl
create_ended w true false more ls = refl
create_ended w false true more ls = refl
create_ended w false false more ls = refl

query_said : (w : FreeWords (List ℕ)) (name : List ℕ) (s : SelectAst) (shared b : Bool) → said (behind_where (tokens_with (written w) (CreateQuery name s shared) ++ ended b)) ≡ columns_in s.atoms.items
query_said w name s shared b =
    ap (λ ls. said (behind_where ls)) (create_ended w.compact shared s.compact (word name ∷ key keys.AsKey ∷ select_tokens s) (ended b))
    ∙ ap said (create_behind w.compact shared s.compact (word name ∷ key keys.AsKey ∷ (select_tokens s ++ ended b)) ∙ select_behind s (ended b))
    ∙ where_said s.atoms.items b

spelled_said : (ls : List Lexeme) (name : List ℕ) (s : SelectAst) (shared : Bool) → Spells ls (CreateQuery name s shared) → said (behind_where ls) ≡ columns_in s.atoms.items
spelled_said ls name s shared (whole, w, is, inl e) =
    ap (λ r. said (behind_where r)) (e ∙ sym (append-nil (tokens_with (written w) (CreateQuery name s shared)))) ∙ query_said w name s shared false
spelled_said ls name s shared (whole, w, is, inr e) = ap (λ r. said (behind_where r)) e ∙ query_said w name s shared true

-- the comparisons of a query name the columns that stand behind WHERE
pub columns_of_query : (line : List ℕ) (ts : List Token) (name : List ℕ) (s : SelectAst) (shared : Bool) → Spells (lexemes line ts) (CreateQuery name s shared) → columns_compared line ts ≡ columns_in s.atoms.items
columns_of_query line ts name s shared h = columns_told line (behind_anchor anchors.Where ts) ∙ ap said (behind_told line ts) ∙ spelled_said (lexemes line ts) name s shared h
