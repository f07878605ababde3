-- What the tokens of a statement say of its names and integers.
use Rattle.std.proofs.Common.{◌≡◌, ℕ, ◌+◌, ◌-◌, ◌<◌, ◌≤◌, Bool, true, false, cond, not, ◌&&◌, ◌||◌, ℤ, nat_lt, List, [], ◌∷◌, ◌++◌, length, map, drop, get_or, is_none, zero, suc, codes, Option, Some, None, refl, ap, sym, ◌∙◌, arith, append-nil, append_assoc, length-drop, flat_map}
use Rattle.std.specs.Prelude.{slice_range}
use Rattle.std.specs.List.{list_any, AllByRecursion}
use Rattle.std.proofs.lemmas.Bool.Decides.{nat_tests}
use Rattle.std.proofs.lemmas.List.{length-take-le}
use Rattle.std.proofs.lemmas.List.Concat.{flat_map-append}
use Rattle.std.proofs.lemmas.List.Folds.{list_any-append}
use Rattle.sql_lexer.specs.declared.token.TokenKind.{TokenKind}
use Rattle.sql_lexer.specs.declared.token.TokenKind.TheVariants as kinds
use Rattle.sql_lexer.specs.declared.token.Token.{Token}
use Rattle.sql_lexer.specs.Tokens.{kind_of}
use Rattle.sql_lexer.specs.Standing.{StandFrom}
use Rattle.sql_lexer.proofs.TextKinds.{word_text, integer_text}
use Rattle.sql_text.specs.Value.{value_of, fits_i64, integer, is_integer}
use Rattle.sql_text.specs.Name.{is_name}
use Rattle.sql_text.specs.declared.key.Key.TheVariants.{AsKey, SelectKey, AndKey, FromKey}
use Rattle.sem_query.specs.declared.atom.Op.{Op}
use Rattle.sem_query.specs.declared.atom.Op.TheVariants.{Lt, Eq, Gt, Le, Ge, Ne}
use Rattle.sql_catalog.specs.declared.column.ColumnDef.{ColumnDef}
use Rattle.sql_parser.specs.declared.tree.ColumnAst.{ColumnAst}
use Rattle.sql_parser.specs.declared.tree.OperandAst.{OperandAst}
use Rattle.sql_parser.specs.declared.tree.OperandAst.TheVariants.{Column, Integer}
use Rattle.sql_parser.specs.declared.tree.AtomAst.{AtomAst}
use Rattle.sql_parser.specs.declared.tree.SelectAst.{SelectAst}
use Rattle.sql_parser.specs.Grammar.{Lexeme, word, number, key, comma, semicolon, separated, name_tokens, domain_tokens, coldef_tokens, column_tokens, operand_tokens, op_token, atom_tokens, where_tokens, distinct_tokens, select_tokens, FreeWords, tokens_with, written}
use Rattle.sql_parser.specs.Syntax.{lexeme_as, lexeme_of, lexemes}
use Rattle.sql_parser.specs.declared.tree.Statement.TheVariants.{CreateQuery}
use Rattle.sql_parser.specs.Limits.{word_in, number_in, integers_of, integer_in, integers_in, is_long, is_wide}
use Rattle.sql_parser.specs.DraftLimits.{is_word_kind, is_long_token, is_integer_kind, is_wide_token, ends_in}
use Rattle.sql_parser.specs.Keeping.{IsCut}
use Rattle.sql_parser.proofs.Compact.{create_tokens}
use Rattle.sql_parser.proofs.Names.{name_by}

-- what holds of each holds at each place
all_at_on : {X : Type 0} (P : X → Type 0) (x : X) (xs : List X) → AllByRecursion P (x ∷ xs) → (k : ℕ) (d : X) → ((j : ℕ) → j < length xs → P (get_or xs j d)) → k < length (x ∷ xs) → P (get_or (x ∷ xs) k d)
all_at_on P x xs h zero d ih lt = h.0
all_at_on P x xs h (suc k) d ih lt = ih k (omega arith)

pub all_at : {X : Type 0} (P : X → Type 0) (xs : List X) → AllByRecursion P xs → (k : ℕ) (d : X) → k < length xs → P (get_or xs k d)
all_at P [] h = λ k d lt. absurd (omega arith)
all_at P (x ∷ xs) h = λ k d lt. all_at_on P x xs h k d (λ j m. all_at P xs h.1 j d m) lt

-- each token is cut out of the line
pub cut_at : (line : List ℕ) (place : ℕ) (ts : List Token) → StandFrom line place ts → AllByRecursion (IsCut line) ts
cut_at line place [] s = tt
cut_at line place (t ∷ ts) s =
    let n = s.0 in
    let lt : t.from < t.to = n.has_bytes in
    (record { order = omega (arith, lt); inside = n.inside; kind = n.kind }, cut_at line t.to ts s.1)

slice_long : (from to n : ℕ) → from ≤ to → n ≡ to - from → nat_lt (from + 24) to ≡ nat_lt 24 n
slice_long from to n le e = grind (arith, nat_tests)

or_none : (b : Bool) → b ≡ (b || false)
or_none true = refl
or_none false = refl

long_as : (k : TokenKind) (w : List ℕ) (from to : ℕ) → from ≤ to → length w ≡ to - from → (is_word_kind k && nat_lt (from + 24) to) ≡ list_any is_long (word_in (lexeme_as k w))
long_as kinds.Word w from to le e = slice_long from to (length w) le e ∙ or_none (nat_lt 24 (length w))
long_as (kinds.Reserved k) w from to le e = refl
long_as kinds.Integer w from to le e = refl
long_as kinds.Comma w from to le e = refl
long_as kinds.Point w from to le e = refl
long_as kinds.Open w from to le e = refl
long_as kinds.Close w from to le e = refl
long_as kinds.Less w from to le e = refl
long_as kinds.Equal w from to le e = refl
long_as kinds.Greater w from to le e = refl
long_as kinds.LessEqual w from to le e = refl
long_as kinds.GreaterEqual w from to le e = refl
long_as kinds.Unequal w from to le e = refl
long_as kinds.Semi w from to le e = refl

cut_length : (line : List ℕ) (t : Token) → IsCut line t → length (slice_range line t.from t.to) ≡ t.to - t.from
cut_length line t c = length-take-le (t.to - t.from) (drop t.from line) (omega (arith, c.inside, c.order, length-drop t.from line))

-- a token that is too long is a name that is too long
pub long_names : (line : List ℕ) (ts : List Token) → AllByRecursion (IsCut line) ts → list_any is_long_token ts ≡ list_any is_long (flat_map word_in (lexemes line ts))
long_names line [] c = refl
long_names line (t ∷ ts) c =
    ap (λ b. b || list_any is_long_token ts) (long_as t.kind (slice_range line t.from t.to) t.from t.to c.0.order (cut_length line t c.0))
    ∙ ap (λ b. list_any is_long (word_in (lexeme_of line t)) || b) (long_names line ts c.1)
    ∙ sym (list_any-append is_long (word_in (lexeme_of line t)) (flat_map word_in (lexemes line ts)))

none_as : (b : Bool) (z : ℤ) → is_none (cond b (Some z) None) ≡ (not b || false)
none_as true z = refl
none_as false z = refl

wide_integer : (w : List ℕ) → is_integer w ≡ true → is_none (value_of w) ≡ list_any is_wide (integer w ∷ [])
unfolding value_of
wide_integer w h = ap (λ t. is_none (cond (t && fits_i64 (integer w)) (Some (integer w)) None)) h ∙ none_as (fits_i64 (integer w)) (integer w)

wide_as : (k : TokenKind) (w : List ℕ) → kind_of w ≡ Some k → (is_integer_kind k && is_none (value_of w)) ≡ list_any is_wide (number_in (lexeme_as k w))
wide_as kinds.Integer w h = wide_integer w (integer_text w h)
wide_as kinds.Word w h = refl
wide_as (kinds.Reserved k) w h = refl
wide_as kinds.Comma w h = refl
wide_as kinds.Point w h = refl
wide_as kinds.Open w h = refl
wide_as kinds.Close w h = refl
wide_as kinds.Less w h = refl
wide_as kinds.Equal w h = refl
wide_as kinds.Greater w h = refl
wide_as kinds.LessEqual w h = refl
wide_as kinds.GreaterEqual w h = refl
wide_as kinds.Unequal w h = refl
wide_as kinds.Semi w h = refl

-- a token that is an integer of more than 64 bits says one
pub wide_numbers : (line : List ℕ) (ts : List Token) → AllByRecursion (IsCut line) ts → list_any (is_wide_token line) ts ≡ list_any is_wide (flat_map number_in (lexemes line ts))
wide_numbers line [] c = refl
wide_numbers line (t ∷ ts) c =
    ap (λ b. b || list_any (is_wide_token line) ts) (wide_as t.kind (slice_range line t.from t.to) c.0.kind)
    ∙ ap (λ b. list_any is_wide (number_in (lexeme_of line t)) || b) (wide_numbers line ts c.1)
    ∙ sym (list_any-append is_wide (number_in (lexeme_of line t)) (flat_map number_in (lexemes line ts)))

-- a word that can be kept
abbrev pub IsNamed : Lexeme → Type 0
IsNamed (word w) = is_name w ≡ true
IsNamed _ = Unit {0}

or_left : (a b : Bool) → (a || b) ≡ false → a ≡ false
or_left true b h = cc
or_left false b h = refl

pub or_right : (a b : Bool) → (a || b) ≡ false → b ≡ false
or_right true b h = cc
or_right false b h = h

short_from : (n : ℕ) → nat_lt 24 n ≡ false → n ≤ 24
short_from n h = grind (arith, nat_tests)

named_word : (w : List ℕ) → kind_of w ≡ Some kinds.Word → list_any is_long (w ∷ []) ≡ false → is_name w ≡ true
named_word w k h = let t = word_text w k in name_by w (record { word = t.0; free = t.1; short = short_from (length w) (or_left (is_long w) false h) })

named_as : (k : TokenKind) (w : List ℕ) → kind_of w ≡ Some k → list_any is_long (word_in (lexeme_as k w)) ≡ false → IsNamed (lexeme_as k w)
named_as kinds.Word w k h = named_word w k h
named_as (kinds.Reserved r) w k h = tt
named_as kinds.Integer w k h = tt
named_as kinds.Comma w k h = tt
named_as kinds.Point w k h = tt
named_as kinds.Open w k h = tt
named_as kinds.Close w k h = tt
named_as kinds.Less w k h = tt
named_as kinds.Equal w k h = tt
named_as kinds.Greater w k h = tt
named_as kinds.LessEqual w k h = tt
named_as kinds.GreaterEqual w k h = tt
named_as kinds.Unequal w k h = tt
named_as kinds.Semi w k h = tt

-- where no name is too long, each word is a name
pub all_named : (line : List ℕ) (ts : List Token) → AllByRecursion (IsCut line) ts → list_any is_long (flat_map word_in (lexemes line ts)) ≡ false → AllByRecursion IsNamed (lexemes line ts)
all_named line [] c h = tt
all_named line (t ∷ ts) c h =
    let both = sym (list_any-append is_long (word_in (lexeme_of line t)) (flat_map word_in (lexemes line ts))) ∙ h in (
      named_as t.kind (slice_range line t.from t.to) c.0.kind (or_left (list_any is_long (word_in (lexeme_of line t))) _ both),
      all_named line ts c.1 (or_right (list_any is_long (word_in (lexeme_of line t))) _ both),
    )

-- a semicolon says nothing of names
pub without_semicolon : (ls : List Lexeme) → flat_map word_in (ls ++ semicolon ∷ []) ≡ flat_map word_in ls
without_semicolon ls = flat_map-append word_in ls (semicolon ∷ []) ∙ append-nil (flat_map word_in ls)

pub integers_but_semicolon : (ls : List Lexeme) → flat_map number_in (ls ++ semicolon ∷ []) ≡ flat_map number_in ls
integers_but_semicolon ls = flat_map-append number_in ls (semicolon ∷ []) ∙ append-nil (flat_map number_in ls)

-- the integers of a tuple
pub numbers_tuple : (values : List ℤ) → flat_map number_in (map number values) ≡ values
numbers_tuple [] = refl
numbers_tuple (z ∷ values) = ap (λ zs. z ∷ zs) (numbers_tuple values)

pub all_left : {X : Type 0} (P : X → Type 0) (xs ys : List X) → AllByRecursion P (xs ++ ys) → AllByRecursion P xs
all_left P [] ys h = tt
all_left P (x ∷ xs) ys h = (h.0, all_left P xs ys h.1)

pub all_right : {X : Type 0} (P : X → Type 0) (xs ys : List X) → AllByRecursion P (xs ++ ys) → AllByRecursion P ys
all_right P [] ys h = h
all_right P (x ∷ xs) ys h = all_right P xs ys h.1

-- what holds of the tokens of a list holds of those of each item
pub all_separated : {X : Type 0} (P : Lexeme → Type 0) (sep : Lexeme) (f : X → List Lexeme) (xs : List X) → AllByRecursion P (separated sep f xs) → AllByRecursion (λ x. AllByRecursion P (f x)) xs
all_separated P sep f [] h = tt
all_separated P sep f (x ∷ []) h = (h, tt)
all_separated P sep f (x ∷ y ∷ xs) h = (all_left P (f x) (sep ∷ separated sep f (y ∷ xs)) h, all_separated P sep f (y ∷ xs) (all_right P (f x) (sep ∷ separated sep f (y ∷ xs)) h).1)

pub all_where : (P : Lexeme → Type 0) (atoms : List AtomAst) → AllByRecursion P (where_tokens atoms) → AllByRecursion (λ a. AllByRecursion P (atom_tokens a)) atoms
all_where P [] h = tt
all_where P (a ∷ atoms) h = all_separated P (key AndKey) atom_tokens (a ∷ atoms) h.1

-- the integers among the tokens of each item are those of the list
pub numbers_separated : {X : Type 0} (sep : Lexeme) (f : X → List Lexeme) (g : X → List ℤ) → number_in sep ≡ [] → ((x : X) → flat_map number_in (f x) ≡ g x) → (xs : List X) → flat_map number_in (separated sep f xs) ≡ flat_map g xs
numbers_separated sep f g none each [] = refl
numbers_separated sep f g none each (x ∷ []) = each x ∙ sym (append-nil (g x))
numbers_separated sep f g none each (x ∷ y ∷ xs) =
    flat_map-append number_in (f x) (sep ∷ separated sep f (y ∷ xs))
    ∙ ap (λ zs. flat_map number_in (f x) ++ (zs ++ flat_map number_in (separated sep f (y ∷ xs)))) none
    ∙ ap (λ zs. zs ++ flat_map number_in (separated sep f (y ∷ xs))) (each x)
    ∙ ap (λ zs. g x ++ zs) (numbers_separated sep f g none each (y ∷ xs))

abbrev no_integers : {X : Type 0} → X → List ℤ
no_integers x = []

none_at_all : {X : Type 0} (xs : List X) → flat_map no_integers xs ≡ []
none_at_all [] = refl
none_at_all (x ∷ xs) = none_at_all xs

numbers_names : (names : List (List ℕ)) → flat_map number_in (separated comma name_tokens names) ≡ []
numbers_names names = numbers_separated comma name_tokens no_integers refl (λ n. refl) names ∙ none_at_all names

numbers_domain : (domain : Option (ℤ × ℤ)) → flat_map number_in (domain_tokens domain) ≡ ends_in domain
numbers_domain None = refl
numbers_domain (Some ends) = refl

-- the integers of the columns of a stream are the ends of their domains
pub numbers_coldefs : (columns : List ColumnDef) → flat_map number_in (separated comma coldef_tokens columns) ≡ flat_map (λ c. ends_in c.domain) columns
numbers_coldefs columns = numbers_separated comma coldef_tokens (λ c. ends_in c.domain) refl (λ c. numbers_domain c.domain) columns

numbers_columns : (columns : List ColumnAst) → flat_map number_in (separated comma column_tokens columns) ≡ []
numbers_columns columns = numbers_separated comma column_tokens no_integers refl (λ c. refl) columns ∙ none_at_all columns

number_op : (op : Op) → number_in (op_token op) ≡ []
number_op Lt = refl
number_op Eq = refl
number_op Gt = refl
number_op Le = refl
number_op Ge = refl
number_op Ne = refl

numbers_operand : (o : OperandAst) → flat_map number_in (operand_tokens o) ≡ integer_in o
numbers_operand (Column c) = refl
numbers_operand (Integer z) = refl

numbers_atom : (a : AtomAst) → flat_map number_in (atom_tokens a) ≡ integer_in a.left ++ integer_in a.right
numbers_atom a =
    flat_map-append number_in (operand_tokens a.left) (op_token a.op ∷ operand_tokens a.right)
    ∙ ap (λ zs. flat_map number_in (operand_tokens a.left) ++ (zs ++ flat_map number_in (operand_tokens a.right))) (number_op a.op)
    ∙ ap (λ zs. zs ++ flat_map number_in (operand_tokens a.right)) (numbers_operand a.left)
    ∙ ap (λ zs. integer_in a.left ++ zs) (numbers_operand a.right)

numbers_where : (atoms : List AtomAst) → flat_map number_in (where_tokens atoms) ≡ integers_in atoms
numbers_where [] = refl
numbers_where (a ∷ atoms) = numbers_separated (key AndKey) atom_tokens (λ a. integer_in a.left ++ integer_in a.right) refl numbers_atom (a ∷ atoms)

numbers_distinct : (d : Bool) → flat_map number_in (distinct_tokens d) ≡ []
numbers_distinct true = refl
numbers_distinct false = refl

pub select_grouped : (s : SelectAst) → select_tokens s ≡ key SelectKey ∷ (distinct_tokens s.distinct ++ (separated comma column_tokens s.select.items ++ (key FromKey ∷ (separated comma name_tokens s.from.items ++ where_tokens s.atoms.items))))
select_grouped s = simp append_assoc

-- the integers from SELECT on are those of the atoms
numbers_select : (s : SelectAst) → flat_map number_in (select_tokens s) ≡ integers_in s.atoms.items
numbers_select s =
    let behind = separated comma name_tokens s.from.items ++ where_tokens s.atoms.items in
    let columns = separated comma column_tokens s.select.items in
    ap (flat_map number_in) (select_grouped s)
    ∙ flat_map-append number_in (distinct_tokens s.distinct) (columns ++ key FromKey ∷ behind)
    ∙ ap (λ zs. zs ++ flat_map number_in (columns ++ key FromKey ∷ behind)) (numbers_distinct s.distinct)
    ∙ flat_map-append number_in columns (key FromKey ∷ behind)
    ∙ ap (λ zs. zs ++ flat_map number_in behind) (numbers_columns s.select.items)
    ∙ flat_map-append number_in (separated comma name_tokens s.from.items) (where_tokens s.atoms.items)
    ∙ ap (λ zs. zs ++ flat_map number_in (where_tokens s.atoms.items)) (numbers_names s.from.items)
    ∙ numbers_where s.atoms.items

numbers_behind : (name : List ℕ) (s : SelectAst) (shared k : Bool) → flat_map number_in (create_tokens (word (codes "COMPACT") ∷ []) shared k (word name ∷ key AsKey ∷ select_tokens s)) ≡ integers_in s.atoms.items
numbers_behind name s true true = numbers_select s
numbers_behind name s true false = numbers_select s
numbers_behind name s false true = numbers_select s
numbers_behind name s false false = numbers_select s

-- the integers of a query are those of its atoms
pub numbers_query : (name : List ℕ) (s : SelectAst) (shared : Bool) → integers_of (CreateQuery name s shared) ≡ integers_in s.atoms.items
numbers_query name s shared = numbers_behind name s shared s.compact

all_behind : (P : Lexeme → Type 0) (w : List ℕ) (shared k : Bool) (more : List Lexeme) → AllByRecursion P (create_tokens (word w ∷ []) shared k more) → AllByRecursion P more
all_behind P w true true more h = h.1.1.1.1
all_behind P w true false more h = h.1.1.1
all_behind P w false true more h = h.1.1.1
all_behind P w false false more h = h.1.1

-- what holds of each token of a query holds of its name, and of those from SELECT on
pub all_query : (P : Lexeme → Type 0) (w : FreeWords (List ℕ)) (name : List ℕ) (s : SelectAst) (shared : Bool) → AllByRecursion P (tokens_with (written w) (CreateQuery name s shared)) → P (word name) × AllByRecursion P (select_tokens s)
all_query P w name s shared h = let behind = all_behind P w.compact shared s.compact (word name ∷ key AsKey ∷ select_tokens s) h in (behind.0, behind.1.1)
