-- How many tokens of a kind a statement has, by its grammar.
use Rattle.std.proofs.Common.{◌≡◌, ℕ, ◌+◌, ◌*◌, ◌≤◌, ◌<◌, Bool, true, false, cond, List, [], ◌∷◌, ◌++◌, length, filter, map, Some, None, refl, ap, sym, ◌∙◌, arith}
use Rattle.std.specs.Prelude.{slice_range, ℤ, Option}
use Rattle.std.proofs.lemmas.List.Sums.{length-filter, count_by-le-length}
use Rattle.sql_text.specs.declared.key.Key.{Key}
use Rattle.sql_text.specs.declared.key.Key.TheVariants as keys
use Rattle.sql_lexer.specs.declared.token.TokenKind.{TokenKind}
use Rattle.sql_lexer.specs.declared.token.TokenKind.TheVariants as kinds
use Rattle.sql_lexer.specs.declared.token.Token.{Token}
use Rattle.sem_query.specs.declared.atom.Op.{Op}
use Rattle.sem_query.specs.declared.atom.Op.TheVariants.{Lt, Eq, Gt, Le, Ge, Ne}
use Rattle.sem_query.specs.Query.{is_soft}
use Rattle.sql_catalog.specs.declared.column.ColumnDef.{ColumnDef}
use Rattle.sql_parser.specs.declared.tree.OperandAst.{OperandAst}
use Rattle.sql_parser.specs.declared.tree.OperandAst.TheVariants.{Column, Integer}
use Rattle.sql_parser.specs.declared.tree.AtomAst.{AtomAst}
use Rattle.sql_parser.specs.declared.tree.SelectAst.{SelectAst}
use Rattle.sql_parser.specs.declared.tree.Statement.TheVariants.{CreateQuery}
use Rattle.sql_parser.specs.Grammar.{Lexeme, word, number, key, comma, opening, closing, semicolon, separated, name_tokens, domain_tokens, coldef_tokens, column_tokens, operand_tokens, op_token, atom_tokens, where_tokens, distinct_tokens, select_tokens, tokens_with, FreeWords, written, key_tokens, to_tokens}
use Rattle.sql_parser.specs.Reading.{kind_at}
use Rattle.sql_parser.specs.Syntax.{lexeme_as, lexemes}
use Rattle.sql_parser.specs.Limits.{soft_in}
use Rattle.sql_parser.proofs.Compact.{create_tokens}
use Rattle.sql_parser.proofs.Said.{select_grouped}
use Rattle.adv_diagnosis.specs.Counted.{count_of, is_comma, is_integer, is_soft_sign, is_comparison}
use Rattle.adv_diagnosis.specs.Marks.{is_point}

-- tokens of a kind are no more than all
pub few : (p : TokenKind → Bool) (ts : List Token) → length ts ≤ 1024 → length (filter (λ t. p t.kind) ts) ≤ 1024
few p ts h = omega (arith, h, length-filter (λ t. p t.kind) ts, count_by-le-length (λ t. p t.kind) ts)

abbrev pub one : Bool → ℕ
one true = 1
one false = 0

-- how many of these are of such a kind
abbrev pub count : (TokenKind → Bool) → List Lexeme → ℕ
count p [] = 0
count p (l ∷ ls) = one (p (kind_at l)) + count p ls

pub kind_same : (k : TokenKind) (w : List ℕ) → kind_at (lexeme_as k w) ≡ k
kind_same kinds.Word w = refl
kind_same (kinds.Reserved k) w = refl
kind_same kinds.Integer w = refl
kind_same kinds.Comma w = refl
kind_same kinds.Point w = refl
kind_same kinds.Open w = refl
kind_same kinds.Close w = refl
kind_same kinds.Less w = refl
kind_same kinds.Equal w = refl
kind_same kinds.Greater w = refl
kind_same kinds.LessEqual w = refl
kind_same kinds.GreaterEqual w = refl
kind_same kinds.Unequal w = refl
kind_same kinds.Semi w = refl

one_more : {X : Type 0} (b : Bool) (x : X) (xs : List X) (n : ℕ) → length xs ≡ n → length (cond b (x ∷ xs) xs) ≡ one b + n
one_more true x xs n e = omega (arith, e)
one_more false x xs n e = omega (arith, e)

-- tokens are counted by what they say
pub counted : (p : TokenKind → Bool) (line : List ℕ) (ts : List Token) → count_of p ts ≡ count p (lexemes line ts)
counted p line [] = refl
counted p line (t ∷ ts) =
    one_more (p t.kind) t (filter (λ t. p t.kind) ts) (count p (lexemes line ts)) (counted p line ts)
    ∙ ap (λ (k : TokenKind). one (p k) + count p (lexemes line ts)) (sym (kind_same t.kind (slice_range line t.from t.to)))

pub count_append : (p : TokenKind → Bool) (xs ys : List Lexeme) → count p (xs ++ ys) ≡ count p xs + count p ys
count_append p [] ys = omega arith
count_append p (x ∷ xs) ys = let e = count_append p xs ys in omega (arith, e)

-- a sum over a list
abbrev pub total : {X : Type 0} → (X → ℕ) → List X → ℕ
total f [] = 0
total f (x ∷ xs) = f x + total f xs

-- the tokens between two items are told with the item before them
separated_count : {X : Type 0} (p : TokenKind → Bool) (sep : Lexeme) (f : X → List Lexeme) (c : ℕ) (x : X) (xs : List X) → one (p (kind_at sep)) ≡ c
    → count p (separated sep f (x ∷ xs)) + c ≡ total (λ x. count p (f x) + c) (x ∷ xs)
separated_count p sep f c x [] e = omega arith
separated_count p sep f c x (y ∷ xs) e =
    let a : count p (f x ++ sep ∷ separated sep f (y ∷ xs)) ≡ count p (f x) + (one (p (kind_at sep)) + count p (separated sep f (y ∷ xs))) = count_append p (f x) (sep ∷ separated sep f (y ∷ xs)) in
    let r : count p (separated sep f (y ∷ xs)) + c ≡ total (λ x. count p (f x) + c) (y ∷ xs) = separated_count p sep f c y xs e in
    omega (arith, a, r, e)

total_each : {X : Type 0} (f : X → ℕ) (n : ℕ) (xs : List X) → ((x : X) → f x ≡ n) → total f xs ≡ length xs * n
total_each f n [] h = omega arith
total_each f n (x ∷ xs) h = let a = h x in let b = total_each f n xs h in omega (arith, a, b)

-- with a separator that counts and items that do not there is one less than items
between : {X : Type 0} (p : TokenKind → Bool) (sep : Lexeme) (f : X → List Lexeme) (xs : List X) → one (p (kind_at sep)) ≡ 1 → ((x : X) → count p (f x) ≡ 0) → 0 < length xs → count p (separated sep f xs) + 1 ≡ length xs
between p sep f [] e h some = absurd (omega (arith, some))
between p sep f (x ∷ xs) e h some =
    let a : count p (separated sep f (x ∷ xs)) + 1 ≡ total (λ x. count p (f x) + 1) (x ∷ xs) = separated_count p sep f 1 x xs e in
    let b : total (λ x. count p (f x) + 1) (x ∷ xs) ≡ length (x ∷ xs) * 1 = total_each (λ x. count p (f x) + 1) 1 (x ∷ xs) (λ x. let z = h x in omega (arith, z)) in
    omega (arith, a, b)

-- with a separator that does not count there are those of the items
within : {X : Type 0} (p : TokenKind → Bool) (sep : Lexeme) (f : X → List Lexeme) (xs : List X) → one (p (kind_at sep)) ≡ 0 → count p (separated sep f xs) ≡ total (λ x. count p (f x) + 0) xs
within p sep f [] e = refl
within p sep f (x ∷ xs) e = let a = separated_count p sep f 0 x xs e in omega (arith, a)

-- as many in each item
each : {X : Type 0} (p : TokenKind → Bool) (sep : Lexeme) (f : X → List Lexeme) (n : ℕ) (xs : List X) → one (p (kind_at sep)) ≡ 0 → ((x : X) → count p (f x) ≡ n) → count p (separated sep f xs) ≡ length xs * n
each p sep f n xs e h =
    let a = within p sep f xs e in
    let b = total_each (λ x. count p (f x) + 0) n xs (λ x. let z = h x in omega (arith, z)) in
    omega (arith, a, b)

-- a kind of sign: no word, and no semicolon
pub record IsSign (p : TokenKind → Bool) : Type 0 where
  pub word : one (p kinds.Word) ≡ 0
  pub keys : (k : Key) → one (p (kinds.Reserved k)) ≡ 0
  pub semi : one (p kinds.Semi) ≡ 0

abbrev pub comma_sign : IsSign is_comma
comma_sign = record { word = refl; keys = λ k. refl; semi = refl }

abbrev pub point_sign : IsSign is_point
point_sign = record { word = refl; keys = λ k. refl; semi = refl }

abbrev pub integer_sign : IsSign is_integer
integer_sign = record { word = refl; keys = λ k. refl; semi = refl }

abbrev pub soft_sign : IsSign is_soft_sign
soft_sign = record { word = refl; keys = λ k. refl; semi = refl }

abbrev pub comparison_sign : IsSign is_comparison
comparison_sign = record { word = refl; keys = λ k. refl; semi = refl }

-- a semicolon counts for none
pub but_semicolon : (p : TokenKind → Bool) (ls : List Lexeme) → IsSign p → count p (ls ++ semicolon ∷ []) ≡ count p ls
but_semicolon p ls h = let a = count_append p ls (semicolon ∷ []) in let s = h.semi in omega (arith, a, s)

behind : (p : TokenKind → Bool) (w : List ℕ) (shared k : Bool) (more : List Lexeme) → IsSign p → count p (create_tokens (word w ∷ []) shared k more) ≡ count p more
behind p w true true more h = let w = h.word in let a = h.keys keys.CreateKey in let b = h.keys keys.SharedKey in let c = h.keys keys.QueryKey in omega (arith, w, a, b, c)
behind p w true false more h = let a = h.keys keys.CreateKey in let b = h.keys keys.SharedKey in let c = h.keys keys.QueryKey in omega (arith, a, b, c)
behind p w false true more h = let w = h.word in let a = h.keys keys.CreateKey in let c = h.keys keys.QueryKey in omega (arith, w, a, c)
behind p w false false more h = let a = h.keys keys.CreateKey in let c = h.keys keys.QueryKey in omega (arith, a, c)

distinct_none : (p : TokenKind → Bool) (d : Bool) → IsSign p → count p (distinct_tokens d) ≡ 0
distinct_none p true h = let a = h.keys keys.DistinctKey in omega (arith, a)
distinct_none p false h = refl

-- signs of a query: those of the selected columns, of FROM and of WHERE
pub query_count : (p : TokenKind → Bool) (w : FreeWords (List ℕ)) (name : List ℕ) (s : SelectAst) (shared : Bool) → IsSign p
    → count p (tokens_with (written w) (CreateQuery name s shared)) ≡ count p (separated comma column_tokens s.select.items) + (count p (separated comma name_tokens s.from.items) + count p (where_tokens s.atoms.items))
query_count p w name s shared h =
    let columns = separated comma column_tokens s.select.items in
    let names = separated comma name_tokens s.from.items in
    let atoms = where_tokens s.atoms.items in
    let a : count p (tokens_with (written w) (CreateQuery name s shared)) ≡ one (p kinds.Word) + (one (p (kinds.Reserved keys.AsKey)) + count p (select_tokens s)) = behind p w.compact shared s.compact (word name ∷ key keys.AsKey ∷ select_tokens s) h in
    let b : count p (select_tokens s) ≡ one (p (kinds.Reserved keys.SelectKey)) + count p (distinct_tokens s.distinct ++ (columns ++ (key keys.FromKey ∷ (names ++ atoms)))) = ap (count p) (select_grouped s) in
    let c = count_append p (distinct_tokens s.distinct) (columns ++ (key keys.FromKey ∷ (names ++ atoms))) in
    let d : count p (columns ++ (key keys.FromKey ∷ (names ++ atoms))) ≡ count p columns + (one (p (kinds.Reserved keys.FromKey)) + count p (names ++ atoms)) = count_append p columns (key keys.FromKey ∷ (names ++ atoms)) in
    let e = count_append p names atoms in
    let f = distinct_none p s.distinct h in
    let word = h.word in let named = h.keys keys.AsKey in let select = h.keys keys.SelectKey in let from = h.keys keys.FromKey in
    omega (arith, a, b, c, d, e, f, word, named, select, from)

-- signs of comparisons, one by one
where_count : (p : TokenKind → Bool) (atoms : List AtomAst) → IsSign p → count p (where_tokens atoms) ≡ total (λ a. count p (atom_tokens a) + 0) atoms
where_count p [] h = refl
where_count p (a ∷ atoms) h = let c = within p (key keys.AndKey) atom_tokens (a ∷ atoms) (h.keys keys.AndKey) in let w = h.keys keys.WhereKey in omega (arith, c, w)

atom_count : (p : TokenKind → Bool) (a : AtomAst) → count p (atom_tokens a) ≡ count p (operand_tokens a.left) + (one (p (kind_at (op_token a.op))) + count p (operand_tokens a.right))
atom_count p a = count_append p (operand_tokens a.left) (op_token a.op ∷ operand_tokens a.right)

comparison_op : (op : Op) → one (is_comparison (kind_at (op_token op))) ≡ 1
comparison_op Lt = refl
comparison_op Eq = refl
comparison_op Gt = refl
comparison_op Le = refl
comparison_op Ge = refl
comparison_op Ne = refl

soft_op : (op : Op) → one (is_soft_sign (kind_at (op_token op))) ≡ one (is_soft op)
soft_op Lt = refl
soft_op Eq = refl
soft_op Gt = refl
soft_op Le = refl
soft_op Ge = refl
soft_op Ne = refl

side_op : (op : Op) → one (is_point (kind_at (op_token op))) + one (is_integer (kind_at (op_token op))) ≡ 0
side_op Lt = refl
side_op Eq = refl
side_op Gt = refl
side_op Le = refl
side_op Ge = refl
side_op Ne = refl

comma_op : (op : Op) → one (is_comma (kind_at (op_token op))) ≡ 0
comma_op Lt = refl
comma_op Eq = refl
comma_op Gt = refl
comma_op Le = refl
comma_op Ge = refl
comma_op Ne = refl

none_side : (p : TokenKind → Bool) (o : OperandAst) → IsSign p → one (p kinds.Point) ≡ 0 → one (p kinds.Integer) ≡ 0 → count p (operand_tokens o) ≡ 0
none_side p (Column c) h a b = let w = h.word in omega (arith, w, a)
none_side p (Integer z) h a b = omega (arith, b)

-- a side has one point or is one integer
one_side : (o : OperandAst) → count is_point (operand_tokens o) + count is_integer (operand_tokens o) ≡ 1
one_side (Column c) = refl
one_side (Integer z) = refl

comparison_atom : (a : AtomAst) → count is_comparison (atom_tokens a) ≡ 1
comparison_atom a =
    let e = atom_count is_comparison a in let o = comparison_op a.op in
    let l = none_side is_comparison a.left comparison_sign refl refl in let r = none_side is_comparison a.right comparison_sign refl refl in omega (arith, e, o, l, r)

comma_atom : (a : AtomAst) → count is_comma (atom_tokens a) ≡ 0
comma_atom a =
    let e = atom_count is_comma a in let o = comma_op a.op in
    let l = none_side is_comma a.left comma_sign refl refl in let r = none_side is_comma a.right comma_sign refl refl in omega (arith, e, o, l, r)

soft_atom : (a : AtomAst) → count is_soft_sign (atom_tokens a) ≡ one (is_soft a.op)
soft_atom a =
    let e = atom_count is_soft_sign a in let o = soft_op a.op in
    let l = none_side is_soft_sign a.left soft_sign refl refl in let r = none_side is_soft_sign a.right soft_sign refl refl in omega (arith, e, o, l, r)

two_sides : (a : AtomAst) → count is_point (atom_tokens a) + count is_integer (atom_tokens a) ≡ 2
two_sides a =
    let p = atom_count is_point a in let i = atom_count is_integer a in let o = side_op a.op in
    let l = one_side a.left in let r = one_side a.right in omega (arith, p, i, o, l, r)

both_total : {X : Type 0} (f g : X → ℕ) (n : ℕ) (xs : List X) → ((x : X) → f x + g x ≡ n) → total f xs + total g xs ≡ length xs * n
both_total f g n [] h = omega arith
both_total f g n (x ∷ xs) h = let a = h x in let b = both_total f g n xs h in omega (arith, a, b)

-- each comparison has one sign
comparisons_where : (atoms : List AtomAst) → count is_comparison (where_tokens atoms) ≡ length atoms
comparisons_where atoms =
    let a = where_count is_comparison atoms comparison_sign in
    let b = total_each (λ a. count is_comparison (atom_tokens a) + 0) 1 atoms (λ a. let z = comparison_atom a in omega (arith, z)) in
    omega (arith, a, b)

commas_where : (atoms : List AtomAst) → count is_comma (where_tokens atoms) ≡ 0
commas_where atoms =
    let a = where_count is_comma atoms comma_sign in
    let b = total_each (λ a. count is_comma (atom_tokens a) + 0) 0 atoms (λ a. let z = comma_atom a in omega (arith, z)) in
    omega (arith, a, b)

-- each comparison has two sides
sides_where : (atoms : List AtomAst) → count is_point (where_tokens atoms) + count is_integer (where_tokens atoms) ≡ length atoms * 2
sides_where atoms =
    let p = where_count is_point atoms point_sign in let i = where_count is_integer atoms integer_sign in
    let b = both_total (λ a. count is_point (atom_tokens a) + 0) (λ a. count is_integer (atom_tokens a) + 0) 2 atoms (λ a. let z = two_sides a in omega (arith, z)) in
    omega (arith, p, i, b)

soft_total : (atoms : List AtomAst) → total (λ a. count is_soft_sign (atom_tokens a) + 0) atoms ≡ length (soft_in atoms)
soft_total [] = refl
soft_total (a ∷ atoms) =
    let e = one_more (is_soft a.op) a (soft_in atoms) (length (soft_in atoms)) refl in
    let z = soft_atom a in let r = soft_total atoms in omega (arith, e, z, r)

soft_where : (atoms : List AtomAst) → count is_soft_sign (where_tokens atoms) ≡ length (soft_in atoms)
soft_where atoms = where_count is_soft_sign atoms soft_sign ∙ soft_total atoms

-- the numbers of the signs of a query
pub record QueryCounts (w : FreeWords (List ℕ)) (name : List ℕ) (s : SelectAst) (shared : Bool) (ls : List Lexeme) : Type 0 where
  pub comparisons : count is_comparison ls ≡ length s.atoms.items
  pub soft : count is_soft_sign ls ≡ length (soft_in s.atoms.items)
  pub sides : count is_point ls + count is_integer ls ≡ length s.select.items + length s.atoms.items * 2
  pub commas : count is_comma ls + 2 ≡ length s.select.items + length s.from.items

pub query_counts : (w : FreeWords (List ℕ)) (name : List ℕ) (s : SelectAst) (shared : Bool) → 0 < length s.select.items → 0 < length s.from.items → QueryCounts w name s shared (tokens_with (written w) (CreateQuery name s shared))
query_counts w name s shared columns streams = record {
  comparisons =
      let q = query_count is_comparison w name s shared comparison_sign in
      let a = each is_comparison comma column_tokens 0 s.select.items refl (λ c. refl) in let b = each is_comparison comma name_tokens 0 s.from.items refl (λ c. refl) in
      let c = comparisons_where s.atoms.items in omega (arith, q, a, b, c);
  soft =
      let q = query_count is_soft_sign w name s shared soft_sign in
      let a = each is_soft_sign comma column_tokens 0 s.select.items refl (λ c. refl) in let b = each is_soft_sign comma name_tokens 0 s.from.items refl (λ c. refl) in
      let c = soft_where s.atoms.items in omega (arith, q, a, b, c);
  sides =
      let p = query_count is_point w name s shared point_sign in let i = query_count is_integer w name s shared integer_sign in
      let a = each is_point comma column_tokens 1 s.select.items refl (λ c. refl) in let b = each is_point comma name_tokens 0 s.from.items refl (λ c. refl) in
      let d = each is_integer comma column_tokens 0 s.select.items refl (λ c. refl) in let e = each is_integer comma name_tokens 0 s.from.items refl (λ c. refl) in
      let c = sides_where s.atoms.items in omega (arith, p, i, a, b, d, e, c);
  commas =
      let q = query_count is_comma w name s shared comma_sign in
      let a = between is_comma comma column_tokens s.select.items refl (λ c. refl) columns in let b = between is_comma comma name_tokens s.from.items refl (λ c. refl) streams in
      let c = commas_where s.atoms.items in omega (arith, q, a, b, c);
}

no_commas : (d : Option (ℤ × ℤ)) → count is_comma (domain_tokens d) ≡ 0
no_commas None = refl
no_commas (Some ends) = refl

-- commas stand between the columns of a stream alone
pub stream_commas : (name : List ℕ) (columns : List ColumnDef) → 0 < length columns
    → count is_comma (key keys.CreateKey ∷ key keys.StreamKey ∷ word name ∷ opening ∷ separated comma coldef_tokens columns ++ closing ∷ []) + 1 ≡ length columns
stream_commas name columns some =
    let a = count_append is_comma (separated comma coldef_tokens columns) (closing ∷ []) in
    let b = between is_comma comma coldef_tokens columns refl (λ c. let z = no_commas c.domain in omega (arith, z)) some in
    omega (arith, a, b)

-- the integers of a tuple
pub tuple_integers : (values : List ℤ) → count is_integer (map number values) ≡ length values
tuple_integers [] = refl
tuple_integers (z ∷ values) = let e = tuple_integers values in omega (arith, e)

-- commas stand between the streams of a lock alone
lock_key_none : (k : Option ℤ) → count is_comma (key_tokens k) ≡ 0
lock_key_none None = refl
lock_key_none (Some z) = refl

to_commas : (w : List ℕ) (names : List (List ℕ)) → 0 < length names → count is_comma (to_tokens (word w ∷ []) names) + 1 ≡ length names
to_commas w [] some = absurd (omega arith)
to_commas w (n ∷ ns) some = let e = between is_comma comma name_tokens (n ∷ ns) refl (λ c. refl) some in omega (arith, e)

pub lock_commas : (w : FreeWords (List ℕ)) (k : Option ℤ) (names : List (List ℕ)) → 0 < length names → count is_comma (word w.lock ∷ key_tokens k ++ to_tokens (word w.to ∷ []) names) + 1 ≡ length names
lock_commas w k names some =
    let a = count_append is_comma (key_tokens k) (to_tokens (word w.to ∷ []) names) in
    let b = lock_key_none k in
    let c = to_commas w.to names some in
    omega (arith, a, b, c)
