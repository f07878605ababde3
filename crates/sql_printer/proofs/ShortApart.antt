-- In the short form of a query each token can be told from the one behind it.
use Rattle.std.proofs.Common.{◌≡◌, ℕ, ◌==◌, ◌<◌, Bool, true, false, cond, not, pos, negsuc, suc, List, [], ◌∷◌, ◌++◌, length, codes, Some, None, refl, ap, ap₂, sym, ◌∙◌, append_assoc, append-nil, subst, arith}
use Rattle.std.specs.Fmt.{decimal}
use Rattle.std.specs.List.{list_all, AllByRecursion}
use Rattle.std.proofs.lemmas.Bool.{false≢true}
use Rattle.std.proofs.lemmas.Bool.Decides.{nat_tests}
use Rattle.std.proofs.lemmas.Fmt.{decimal_nonempty, digits_decimal}
use Rattle.sql_text.proofs.ParsedValue.{own}
use Rattle.sql_text.specs.Word.{is_letter, is_digit, is_word_byte}
use Rattle.sql_text.specs.declared.key.Key.TheVariants.{CreateKey, StreamKey, QueryKey, AsKey, SelectKey, DistinctKey, FromKey, WhereKey, AndKey, ExplainKey, DropKey, InKey, SharedKey, CheckpointKey, ResumeKey}
use Rattle.sql_lexer.specs.declared.token.TokenKind.TheVariants as kinds
use Rattle.sql_lexer.specs.Tokens.{symbol_pair, front_pair}
use Rattle.sem_query.specs.declared.atom.Op.{Op}
use Rattle.sem_query.specs.declared.atom.Op.TheVariants.{Lt, Eq, Gt, Le, Ge, Ne}
use Rattle.sql_parser.specs.declared.tree.OperandAst.{OperandAst}
use Rattle.sql_parser.specs.declared.tree.OperandAst.TheVariants.{Column, Integer}
use Rattle.sql_parser.specs.declared.tree.AtomAst.{AtomAst}
use Rattle.sql_parser.specs.declared.tree.SelectAst.{SelectAst}
use Rattle.sql_parser.specs.declared.tree.Statement.TheVariants.{CreateQuery}
use Rattle.sql_parser.specs.Grammar.{Lexeme, word, number, key, comma, point, opening, closing, less, equal, greater, less_equal, greater_equal, unequal, semicolon, separated, name_tokens, column_tokens, operand_tokens, op_token, atom_tokens, where_tokens, distinct_tokens, select_tokens, statement_tokens}
use Rattle.sql_printer.specs.Printed.{text_for, goes_on, joins_short, gap_by, spaced_by}
use Rattle.sql_parser.proofs.Compact.{create_tokens}
use Rattle.sql_parser.proofs.Names.{name_facts}
use Rattle.sql_parser.proofs.Said.{select_grouped}
use Rattle.sql_printer.proofs.Spaced.{StopsFor, IsSound, MayFollow, and_left, pos_small}
use Rattle.sql_printer.proofs.ReadBack.{IsApart}

-- what stands behind the first token
abbrev pub short_behind : Lexeme → List Lexeme → List ℕ
short_behind l [] = []
short_behind l (m ∷ ls) = gap_by joins_short l m ++ spaced_by joins_short (m ∷ ls)

pub short_first : (l : Lexeme) (ls : List Lexeme) → spaced_by joins_short (l ∷ ls) ≡ text_for l ++ short_behind l ls
short_first l [] = sym (append-nil (text_for l))
short_first l (m ∷ ls) = refl

abbrev is_number : Lexeme → Bool
is_number (number z) = true
is_number _ = false

abbrev is_operand : Lexeme → Bool
is_operand (word w) = true
is_operand (number z) = true
is_operand _ = false

-- whether a token can be told from the one behind it: an integer from another, and `<` or `>` from what makes a longer comparison with it
abbrev meets : Lexeme → Lexeme → Bool
meets (number z) m = not (is_number m)
meets less m = is_operand m
meets greater m = is_operand m
meets _ m = true

abbrev AllMeet : List Lexeme → Type 0
AllMeet [] = Unit {0}
AllMeet (l ∷ []) = Unit {0}
AllMeet (l ∷ m ∷ ls) = (meets l m ≡ true) × AllMeet (m ∷ ls)

-- behind a word
word_stops : (m : Lexeme) (rest : List ℕ) → StopsFor is_word_byte (cond (not (goes_on m)) [] (32 ∷ []) ++ (text_for m ++ rest))
word_stops (word w) rest = refl
word_stops (key k) rest = refl
word_stops (number (pos n)) rest = refl
word_stops (number (negsuc n)) rest = refl
word_stops comma rest = refl
word_stops point rest = refl
word_stops opening rest = refl
word_stops closing rest = refl
word_stops less rest = refl
word_stops equal rest = refl
word_stops greater rest = refl
word_stops less_equal rest = refl
word_stops greater_equal rest = refl
word_stops unequal rest = refl
word_stops semicolon rest = refl

letter_no_digit : (b : ℕ) → is_letter b ≡ true → is_digit b ≡ false
letter_no_digit b h = grind (arith, nat_tests)

word_begins : (b : ℕ) (t : List ℕ) → IsSound (word (b ∷ t)) → is_letter b ≡ true
word_begins b t h = and_left (is_letter b) (list_all is_word_byte t) (name_facts (b ∷ t) h).word

-- behind an integer
digit_stops : (m : Lexeme) (rest : List ℕ) → IsSound m → not (is_number m) ≡ true → StopsFor is_digit (text_for m ++ rest)
digit_stops (word []) rest h e = absurd (false≢true (name_facts [] h).word)
digit_stops (word (b ∷ t)) rest h e = letter_no_digit b (word_begins b t h)
digit_stops (number z) rest h e = absurd (false≢true e)
digit_stops (key CreateKey) rest h e = refl
digit_stops (key StreamKey) rest h e = refl
digit_stops (key QueryKey) rest h e = refl
digit_stops (key AsKey) rest h e = refl
digit_stops (key SelectKey) rest h e = refl
digit_stops (key DistinctKey) rest h e = refl
digit_stops (key FromKey) rest h e = refl
digit_stops (key WhereKey) rest h e = refl
digit_stops (key AndKey) rest h e = refl
digit_stops (key ExplainKey) rest h e = refl
digit_stops (key DropKey) rest h e = refl
digit_stops (key InKey) rest h e = refl
digit_stops (key SharedKey) rest h e = refl
digit_stops (key CheckpointKey) rest h e = refl
digit_stops (key ResumeKey) rest h e = refl
digit_stops comma rest h e = refl
digit_stops point rest h e = refl
digit_stops opening rest h e = refl
digit_stops closing rest h e = refl
digit_stops less rest h e = refl
digit_stops equal rest h e = refl
digit_stops greater rest h e = refl
digit_stops less_equal rest h e = refl
digit_stops greater_equal rest h e = refl
digit_stops unequal rest h e = refl
digit_stops semicolon rest h e = refl

-- a text whose first byte makes no longer comparison
record Begins (text : List ℕ) : Type 0 where
  first : ℕ
  others : List ℕ
  whole : text ≡ first ∷ others
  no_equal : (first == 61) ≡ false
  no_greater : (first == 62) ≡ false

letter_other : (b : ℕ) → is_letter b ≡ true → ((b == 61) ≡ false) × ((b == 62) ≡ false)
letter_other b h = (grind (arith, nat_tests), grind (arith, nat_tests))

digit_other : (b : ℕ) → is_digit b ≡ true → ((b == 61) ≡ false) × ((b == 62) ≡ false)
digit_other b h = (grind (arith, nat_tests), grind (arith, nat_tests))

digits_begin : (ds : List ℕ) → 0 < length ds → list_all is_digit ds ≡ true → Begins ds
digits_begin [] h all = absurd (omega arith)
digits_begin (b ∷ ds) h all = let o = digit_other b (and_left (is_digit b) (list_all is_digit ds) all) in record { first = b; others = ds; whole = refl; no_equal = o.0; no_greater = o.1 }

operand_begins : (m : Lexeme) → IsSound m → is_operand m ≡ true → Begins (text_for m)
operand_begins (word []) h e = absurd (false≢true (name_facts [] h).word)
operand_begins (word (b ∷ t)) h e = let o = letter_other b (word_begins b t h) in record { first = b; others = t; whole = refl; no_equal = o.0; no_greater = o.1 }
operand_begins (number (pos n)) h e = digits_begin (decimal n) (decimal_nonempty n (pos_small n h)) (digits_decimal own n (pos_small n h))
operand_begins (number (negsuc n)) h e = record { first = 45; others = decimal (suc n); whole = refl; no_equal = refl; no_greater = refl }
operand_begins _ h e = absurd (false≢true e)

less_pair : (b : ℕ) → (b == 61) ≡ false → (b == 62) ≡ false → symbol_pair 60 b ≡ None
less_pair b e g = ap₂ (λ x y. cond x (Some kinds.LessEqual) (cond y (Some kinds.Unequal) None)) e g

greater_pair : (b : ℕ) → (b == 61) ≡ false → symbol_pair 62 b ≡ None
greater_pair b e = ap (λ x. cond x (Some kinds.GreaterEqual) None) e

less_stops : (m : Lexeme) (rest : List ℕ) → IsSound m → is_operand m ≡ true → front_pair (60 ∷ (text_for m ++ rest)) ≡ None
less_stops m rest h e = let b = operand_begins m h e in ap (λ bs. front_pair (60 ∷ (bs ++ rest))) b.whole ∙ less_pair b.first b.no_equal b.no_greater

greater_stops : (m : Lexeme) (rest : List ℕ) → IsSound m → is_operand m ≡ true → front_pair (62 ∷ (text_for m ++ rest)) ≡ None
greater_stops m rest h e = let b = operand_begins m h e in ap (λ bs. front_pair (62 ∷ (bs ++ rest))) b.whole ∙ greater_pair b.first b.no_equal

-- what stands behind a token may follow it
follows : (l m : Lexeme) (rest : List ℕ) → IsSound m → meets l m ≡ true → MayFollow l (gap_by joins_short l m ++ (text_for m ++ rest))
follows (word w) m rest h e = word_stops m rest
follows (key k) m rest h e = word_stops m rest
follows (number z) m rest h e = digit_stops m rest h e
follows less m rest h e = less_stops m rest h e
follows greater m rest h e = greater_stops m rest h e
follows _ m rest h e = tt

apart_short : (ls : List Lexeme) → AllByRecursion IsSound ls → AllMeet ls → IsApart joins_short ls
apart_short [] h a = tt
apart_short (l ∷ []) h a = tt
apart_short (l ∷ m ∷ ls) h a =
    let P : List ℕ → Type 0 = λ bs. MayFollow l (gap_by joins_short l m ++ bs) in
    (subst P (sym (short_first m ls)) (follows l m (short_behind m ls) h.1.0 a.0), apart_short (m ∷ ls) h.1 a.1)

-- tokens that can be told from whatever stands behind them
abbrev is_plain : Lexeme → Bool
is_plain (number z) = false
is_plain less = false
is_plain greater = false
is_plain _ = true

abbrev IsPlain : Lexeme → Type 0
IsPlain l = is_plain l ≡ true

plain_meets : (l m : Lexeme) → IsPlain l → meets l m ≡ true
plain_meets (number z) m h = absurd (false≢true h)
plain_meets less m h = absurd (false≢true h)
plain_meets greater m h = absurd (false≢true h)
plain_meets _ m h = refl

meet_front : (xs ys : List Lexeme) → AllByRecursion IsPlain xs → AllMeet ys → AllMeet (xs ++ ys)
meet_front [] ys h a = a
meet_front (x ∷ []) [] h a = tt
meet_front (x ∷ []) (y ∷ ys) h a = (plain_meets x y h.0, a)
meet_front (x ∷ z ∷ xs) ys h a = (plain_meets x z h.0, meet_front (z ∷ xs) ys h.1 a)

-- no integer stands first
abbrev Behind : List Lexeme → Type 0
Behind [] = Unit {0}
Behind (y ∷ ys) = is_number y ≡ false

meet_operand : (o : OperandAst) (rest : List Lexeme) → Behind rest → AllMeet rest → AllMeet (operand_tokens o ++ rest)
meet_operand (Column c) rest b a = meet_front (column_tokens c) rest (refl, (refl, (refl, tt))) a
meet_operand (Integer z) [] b a = tt
meet_operand (Integer z) (y ∷ ys) b a = (ap not b, a)

op_meets : (op : Op) (o : OperandAst) (rest : List Lexeme) → AllMeet (operand_tokens o ++ rest) → AllMeet (op_token op ∷ (operand_tokens o ++ rest))
op_meets Lt (Column c) rest a = (refl, a)
op_meets Lt (Integer z) rest a = (refl, a)
op_meets Eq (Column c) rest a = (refl, a)
op_meets Eq (Integer z) rest a = (refl, a)
op_meets Gt (Column c) rest a = (refl, a)
op_meets Gt (Integer z) rest a = (refl, a)
op_meets Le (Column c) rest a = (refl, a)
op_meets Le (Integer z) rest a = (refl, a)
op_meets Ge (Column c) rest a = (refl, a)
op_meets Ge (Integer z) rest a = (refl, a)
op_meets Ne (Column c) rest a = (refl, a)
op_meets Ne (Integer z) rest a = (refl, a)

op_no_number : (op : Op) → is_number (op_token op) ≡ false
op_no_number Lt = refl
op_no_number Eq = refl
op_no_number Gt = refl
op_no_number Le = refl
op_no_number Ge = refl
op_no_number Ne = refl

meet_atom : (a : AtomAst) (rest : List Lexeme) → Behind rest → AllMeet rest → AllMeet (atom_tokens a ++ rest)
meet_atom a rest b h =
    let behind = op_token a.op ∷ (operand_tokens a.right ++ rest) in
    subst AllMeet (sym (append_assoc (operand_tokens a.left) (op_token a.op ∷ operand_tokens a.right) rest))
    (meet_operand a.left behind (op_no_number a.op) (op_meets a.op a.right rest (meet_operand a.right rest b h)))

meet_one : (l : Lexeme) (rest : List Lexeme) → IsPlain l → AllMeet rest → AllMeet (l ∷ rest)
meet_one l rest h a = meet_front (l ∷ []) rest (h, tt) a

meet_atoms : (a : AtomAst) (atoms : List AtomAst) → AllMeet (separated (key AndKey) atom_tokens (a ∷ atoms))
meet_atoms a [] = subst AllMeet (append-nil (atom_tokens a)) (meet_atom a [] tt tt)
meet_atoms a (b ∷ atoms) =
    let others = separated (key AndKey) atom_tokens (b ∷ atoms) in
    meet_atom a (key AndKey ∷ others) refl (meet_one (key AndKey) others refl (meet_atoms b atoms))

meet_where : (atoms : List AtomAst) → AllMeet (where_tokens atoms)
meet_where [] = tt
meet_where (a ∷ atoms) = meet_one (key WhereKey) (separated (key AndKey) atom_tokens (a ∷ atoms)) refl (meet_atoms a atoms)

plain_join : (xs ys : List Lexeme) → AllByRecursion IsPlain xs → AllByRecursion IsPlain ys → AllByRecursion IsPlain (xs ++ ys)
plain_join [] ys h k = k
plain_join (x ∷ xs) ys h k = (h.0, plain_join xs ys h.1 k)

plain_separated : {X : Type 0} (sep : Lexeme) (f : X → List Lexeme) → IsPlain sep → ((x : X) → AllByRecursion IsPlain (f x)) → (xs : List X) → AllByRecursion IsPlain (separated sep f xs)
plain_separated sep f h each [] = tt
plain_separated sep f h each (x ∷ []) = each x
plain_separated sep f h each (x ∷ y ∷ xs) = plain_join (f x) (sep ∷ separated sep f (y ∷ xs)) (each x) (h, plain_separated sep f h each (y ∷ xs))

plain_distinct : (d : Bool) → AllByRecursion IsPlain (distinct_tokens d)
plain_distinct true = (refl, tt)
plain_distinct false = tt

meet_select : (s : SelectAst) → AllMeet (select_tokens s)
meet_select s =
    let columns = separated comma column_tokens s.select.items in
    let names = separated comma name_tokens s.from.items in
    let atoms = where_tokens s.atoms.items in
    let behind = meet_front names atoms (plain_separated comma name_tokens refl (λ n. (refl, tt)) s.from.items) (meet_where s.atoms.items) in
    let from = meet_one (key FromKey) (names ++ atoms) refl behind in
    let selected = meet_front columns (key FromKey ∷ (names ++ atoms)) (plain_separated comma column_tokens refl (λ c. (refl, (refl, (refl, tt)))) s.select.items) from in
    let all = meet_front (distinct_tokens s.distinct) (columns ++ (key FromKey ∷ (names ++ atoms))) (plain_distinct s.distinct) selected in
    subst AllMeet (sym (select_grouped s)) (meet_one (key SelectKey) (distinct_tokens s.distinct ++ (columns ++ (key FromKey ∷ (names ++ atoms)))) refl all)

meet_behind : (s : SelectAst) (name : List ℕ) (shared k : Bool) → AllMeet (create_tokens (word (codes "COMPACT") ∷ []) shared k (word name ∷ key AsKey ∷ select_tokens s))
meet_behind s name true true = meet_front (key CreateKey ∷ key SharedKey ∷ word (codes "COMPACT") ∷ key QueryKey ∷ word name ∷ key AsKey ∷ []) (select_tokens s) (refl, (refl, (refl, (refl, (refl, (refl, tt)))))) (meet_select s)
meet_behind s name true false = meet_front (key CreateKey ∷ key SharedKey ∷ key QueryKey ∷ word name ∷ key AsKey ∷ []) (select_tokens s) (refl, (refl, (refl, (refl, (refl, tt))))) (meet_select s)
meet_behind s name false true = meet_front (key CreateKey ∷ word (codes "COMPACT") ∷ key QueryKey ∷ word name ∷ key AsKey ∷ []) (select_tokens s) (refl, (refl, (refl, (refl, (refl, tt))))) (meet_select s)
meet_behind s name false false = meet_front (key CreateKey ∷ key QueryKey ∷ word name ∷ key AsKey ∷ []) (select_tokens s) (refl, (refl, (refl, (refl, tt)))) (meet_select s)

meet_query : (name : List ℕ) (s : SelectAst) (shared : Bool) → AllMeet (statement_tokens (CreateQuery name s shared))
meet_query name s shared = meet_behind s name shared s.compact

-- the tokens of a query stand apart
pub query_apart : (name : List ℕ) (s : SelectAst) (shared : Bool) → AllByRecursion IsSound (statement_tokens (CreateQuery name s shared)) → IsApart joins_short (statement_tokens (CreateQuery name s shared))
query_apart name s shared h = apart_short (statement_tokens (CreateQuery name s shared)) h (meet_query name s shared)
