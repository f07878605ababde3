-- How many a statement has of what a limit is on is what its tokens tell.
use Rattle.std.proofs.Common.{◌≡◌, ℕ, ◌+◌, ◌-◌, ◌≤◌, ◌<◌, inl, inr, Bool, true, false, cond, not, ◌||◌, ◌&&◌, nat_lt, List, [], ◌∷◌, ◌++◌, length, Option, Some, None, Ok, refl, ap, sym, ◌∙◌, arith, subst, length-drop, drop}
use Rattle.std.specs.Prelude.{slice_range, ℤ, pos, unwrap_or}
use Rattle.std.specs.List.{find, flat_map, list_any, AllByRecursion}
use Rattle.std.specs.Option.{option_map}
use Rattle.std.specs.Ordering.{int_eq}
use Rattle.std.proofs.lemmas.Bool.Decides.{nat_tests}
use Rattle.std.proofs.lemmas.List.{length-take-le}
use Rattle.sql_text.specs.Value.{value_of, is_integer as is_integer_text, integer, fits_i64}
use Rattle.sql_text.specs.declared.key.Key.TheVariants as keys
use Rattle.sql_lexer.specs.declared.token.TokenKind.{TokenKind}
use Rattle.sql_lexer.specs.declared.token.TokenKind.TheVariants as kinds
use Rattle.sql_lexer.specs.declared.token.Token.{Token}
use Rattle.sql_lexer.specs.Tokens.{tokens, kind_of}
use Rattle.sql_lexer.specs.Standing.{StandFrom}
use Rattle.sql_lexer.proofs.TextKinds.{integer_text}
use Rattle.sql_parser.specs.declared.parsing.What.{What}
use Rattle.sql_parser.specs.declared.parsing.What.TheVariants as limits
use Rattle.sql_parser.specs.declared.tree.SelectAst.{SelectAst}
use Rattle.sql_parser.specs.declared.tree.Statement.{Statement}
use Rattle.sql_parser.specs.declared.tree.Statement.TheVariants.{CreateStream, CreateQuery, Explain, DropQuery, Checkpoint, ResumeRows, ResumeGiven, ResumeCell, ResumeTuple, Lock, Unlock}
use Rattle.sql_parser.specs.DraftLimits.{is_word_kind, is_long_token}
use Rattle.sql_parser.specs.Grammar.{Lexeme, word, key, FreeWords, to_tokens, no_words, tokens_with, written, IsSpelling, select_tokens, Spells}
use Rattle.sql_parser.specs.Syntax.{lexeme_as, lexeme_of, lexemes, IsStatement}
use Rattle.sql_parser.specs.Keeping.{IsCut}
use Rattle.sql_parser.specs.Limits.{word_in, number_in, names_of, integers_of, columns_of, selected_by, streams_of, atoms_of, values_of, opened_by, soft_in, columns_in, integers_in, same_column, number_of_different, is_long, is_far, is_wide, is_beyond, is_reversed, limit_of}
use Rattle.sql_parser.proofs.Compact.{create_tokens, lock_tokens, spelling_length, lock_length, unlock_length, to_length}
use Rattle.sql_parser.proofs.Said.{cut_at, without_semicolon, numbers_query}
use Rattle.sql_parser.proofs.Taken.{or_left, or_right}
use Rattle.sql_parser.proofs.Within.{integers_spelled, near_fits}
use Rattle.adv_diagnosis.specs.Counted.{count_of, is_comma, is_integer, is_soft_sign, is_comparison, selected_number, from_number, integers_at, long_bytes, found_by}
use Rattle.adv_diagnosis.specs.Compared.{columns_compared}
use Rattle.adv_diagnosis.specs.Marks.{is_point}
use Rattle.adv_diagnosis.specs.Passed.{long_length, found_in}
use Rattle.adv_diagnosis.proofs.ColumnsTold.{columns_of_query}
use Rattle.adv_diagnosis.proofs.Counting.{count, counted, but_semicolon, IsSign, comma_sign, point_sign, integer_sign, soft_sign, comparison_sign, query_counts, stream_commas, tuple_integers, lock_commas}

-- whether a statement passes a limit
abbrev passes : What → Statement → Bool
passes limits.Name s = list_any is_long (names_of s)
passes limits.Columns s = nat_lt 8 (length (columns_of s))
passes limits.Select s = nat_lt 8 (length (selected_by s))
passes limits.From s = nat_lt 4 (length (streams_of s))
passes limits.Atoms s = nat_lt 16 (length (atoms_of s))
passes limits.Soft s = nat_lt 8 (length (soft_in (atoms_of s)))
passes limits.Attrs s = nat_lt 12 (number_of_different same_column (columns_in (atoms_of s)))
passes limits.Value s = list_any (is_beyond s) (integers_of s)
passes limits.Consts s = nat_lt 6 (number_of_different int_eq (integers_in (atoms_of s)))
passes limits.Domain s = list_any (λ c. is_reversed c.domain) (columns_of s)
passes limits.Tuple s = nat_lt 8 (length (values_of s))
passes limits.Streams s = nat_lt 16 (length (opened_by s))

-- the first of these limits that is passed
abbrev first_passed : Statement → List What → Option What
first_passed s [] = None
first_passed s (w ∷ ws) = cond (passes w s) (Some w) (first_passed s ws)

some_first : (s : Statement) (w what : What) (ws : List What) (b : Bool) → passes w s ≡ b → cond b (Some w) (first_passed s ws) ≡ Some what → (first_passed s ws ≡ Some what → passes what s ≡ true) → passes what s ≡ true
some_first s w what ws true p e on = let i : w ≡ what = cc in subst (λ x. passes x s ≡ true) i p
some_first s w what ws false p e on = on e

is_passed : (s : Statement) (what : What) (ws : List What) → first_passed s ws ≡ Some what → passes what s ≡ true
is_passed s what [] e = let f : None ≡ Some what = e in cc
is_passed s what (w ∷ ws) e = some_first s w what ws (passes w s) refl e (is_passed s what ws)

-- the limit that is answered is passed
passed : (s : Statement) (what : What) → limit_of s ≡ Some what → passes what s ≡ true
passed s what e = is_passed s what (limits.Name ∷ limits.Columns ∷ limits.Select ∷ limits.From ∷ limits.Atoms ∷ limits.Soft ∷ limits.Attrs ∷ limits.Value ∷ limits.Consts ∷ limits.Domain ∷ limits.Tuple ∷ limits.Streams ∷ []) e

skip : (b : Bool) (w what : What) (rest : Option What) → (w ≡ what → ⊥) → cond b (Some w) rest ≡ Some what → (b ≡ false) × (rest ≡ Some what)
skip true w what rest other e = absurd (other cc)
skip false w what rest other e = (refl, e)

-- no integer is too far where there are too many different ones
near_integers : (s : Statement) → limit_of s ≡ Some limits.Consts → list_any (is_beyond s) (integers_of s) ≡ false
near_integers s e =
    let a = skip (passes limits.Name s) limits.Name limits.Consts _ (λ x. cc) e in
    let b = skip (passes limits.Columns s) limits.Columns limits.Consts _ (λ x. cc) a.1 in
    let c = skip (passes limits.Select s) limits.Select limits.Consts _ (λ x. cc) b.1 in
    let d = skip (passes limits.From s) limits.From limits.Consts _ (λ x. cc) c.1 in
    let f = skip (passes limits.Atoms s) limits.Atoms limits.Consts _ (λ x. cc) d.1 in
    let g = skip (passes limits.Soft s) limits.Soft limits.Consts _ (λ x. cc) f.1 in
    let h = skip (passes limits.Attrs s) limits.Attrs limits.Consts _ (λ x. cc) g.1 in
    (skip (passes limits.Value s) limits.Value limits.Consts _ (λ x. cc) h.1).0

none_wide : (zs : List ℤ) → list_any is_far zs ≡ false → list_any is_wide zs ≡ false
none_wide [] h = refl
none_wide (z ∷ zs) h = ap (λ b. b || list_any is_wide zs) (ap not (near_fits z (or_left (is_far z) (list_any is_far zs) h))) ∙ none_wide zs (or_right (is_far z) (list_any is_far zs) h)

-- the bytes of the first name that is too long

or_long : (from to n : ℕ) (r names : Option ℕ) → from ≤ to → n ≡ to - from → r ≡ names → cond (nat_lt (from + 24) to) (Some (to - from)) r ≡ cond (nat_lt 24 n) (Some n) names
or_long from to n r names le e h =
    let same : nat_lt (from + 24) to ≡ nat_lt 24 n = grind (arith, nat_tests) in
    ap (λ b. cond b (Some (to - from)) r) same ∙ ap (λ m. cond (nat_lt 24 n) (Some m) r) (sym e) ∙ ap (λ m. cond (nat_lt 24 n) (Some n) m) h

long_as : (k : TokenKind) (w : List ℕ) (from to : ℕ) (r : Option ℕ) (names : List (List ℕ)) → from ≤ to → length w ≡ to - from → r ≡ long_length names
    → cond (is_word_kind k && nat_lt (from + 24) to) (Some (to - from)) r ≡ long_length (word_in (lexeme_as k w) ++ names)
long_as kinds.Word w from to r names le e h = or_long from to (length w) r (long_length names) le e h
long_as (kinds.Reserved k) w from to r names le e h = h
long_as kinds.Integer w from to r names le e h = h
long_as kinds.Comma w from to r names le e h = h
long_as kinds.Point w from to r names le e h = h
long_as kinds.Open w from to r names le e h = h
long_as kinds.Close w from to r names le e h = h
long_as kinds.Less w from to r names le e h = h
long_as kinds.Equal w from to r names le e h = h
long_as kinds.Greater w from to r names le e h = h
long_as kinds.LessEqual w from to r names le e h = h
long_as kinds.GreaterEqual w from to r names le e h = h
long_as kinds.Unequal w from to r names le e h = h
long_as kinds.Semi w from to r names le e h = h

cut_length : (line : List ℕ) (t : Token) → IsCut line t → length (slice_range line t.from t.to) ≡ t.to - t.from
cut_length line t c = length-take-le (t.to - t.from) (drop t.from line) (omega (arith, c.inside, c.order, length-drop t.from line))

long_here : (b : Bool) (t : Token) (o : Option Token) → option_map (λ (x : Token). x.to - x.from) (cond b (Some t) o) ≡ cond b (Some (t.to - t.from)) (option_map (λ (x : Token). x.to - x.from) o)
long_here true t o = refl
long_here false t o = refl

long_words : (line : List ℕ) (ts : List Token) → AllByRecursion (IsCut line) ts → long_bytes ts ≡ long_length (flat_map word_in (lexemes line ts))
long_words line [] c = refl
long_words line (t ∷ ts) c =
    long_here (is_long_token t) t (find is_long_token ts)
    ∙ long_as t.kind (slice_range line t.from t.to) t.from t.to (long_bytes ts) (flat_map word_in (lexemes line ts)) c.0.order (cut_length line t c.0) (long_words line ts c.1)

not_long : (w : List ℕ) (names : List (List ℕ)) → length w ≤ 7 → long_length (w ∷ names) ≡ long_length names
not_long w names e = let short : is_long w ≡ false = grind (arith, nat_tests) in ap (λ b. cond b (Some (length w)) (long_length names)) short

long_query : (w : List ℕ) (shared k : Bool) (more : List Lexeme) → length w ≤ 7 → long_length (flat_map word_in (create_tokens (word w ∷ []) shared k more)) ≡ long_length (flat_map word_in (create_tokens [] shared k more))
long_query w true true more h = not_long w (flat_map word_in more) h
long_query w false true more h = not_long w (flat_map word_in more) h
long_query w true false more h = refl
long_query w false false more h = refl

long_to : (w : FreeWords (List ℕ)) (names : List (List ℕ)) → IsSpelling w → long_length (flat_map word_in (to_tokens (word w.to ∷ []) names)) ≡ long_length (flat_map word_in (to_tokens [] names))
long_to w [] h = refl
long_to w (n ∷ ns) h = not_long w.to (flat_map word_in (to_tokens [] (n ∷ ns))) (omega (arith, to_length w.to h.to))

long_lock : (w : FreeWords (List ℕ)) (k : Option ℤ) (names : List (List ℕ)) → IsSpelling w → long_length (flat_map word_in (lock_tokens (written w) k names)) ≡ long_length (flat_map word_in (lock_tokens no_words k names))
long_lock w None names h = not_long w.lock (flat_map word_in (to_tokens (word w.to ∷ []) names)) (omega (arith, lock_length w.lock h.lock)) ∙ long_to w names h
long_lock w (Some z) names h = not_long w.lock (flat_map word_in (to_tokens (word w.to ∷ []) names)) (omega (arith, lock_length w.lock h.lock)) ∙ long_to w names h

long_with : (w : FreeWords (List ℕ)) (s : Statement) → IsSpelling w → long_length (flat_map word_in (tokens_with (written w) s)) ≡ long_length (names_of s)
long_with w (CreateQuery name select shared) h = long_query w.compact shared select.compact (word name ∷ key keys.AsKey ∷ select_tokens select) (omega (arith, spelling_length w.compact h.compact))
long_with w (Lock k streams) h = long_lock w k streams.items h
long_with w (Unlock k) h = not_long w.unlock [] (omega (arith, unlock_length w.unlock h.unlock))
long_with w (CreateStream name columns) h = refl
long_with w (Explain name) h = refl
long_with w (DropQuery name) h = refl
long_with w Checkpoint h = refl
long_with w (ResumeRows rows) h = refl
long_with w (ResumeGiven name rows) h = refl
long_with w (ResumeCell name index content) h = refl
long_with w (ResumeTuple name values) h = refl

long_spelled : (ls : List Lexeme) (s : Statement) → Spells ls s → long_length (flat_map word_in ls) ≡ long_length (names_of s)
long_spelled ls s (whole, w, is, inl e) = ap (λ r. long_length (flat_map word_in r)) e ∙ long_with w s is
long_spelled ls s (whole, w, is, inr e) = ap (λ r. long_length (flat_map word_in r)) e ∙ ap long_length (without_semicolon (tokens_with (written w) s)) ∙ long_with w s is

-- the integers among tokens, where none has more than 64 bits

the_value : (w : List ℕ) → is_integer_text w ≡ true → fits_i64 (integer w) ≡ true → unwrap_or (value_of w) (pos 0) ≡ integer w
unfolding value_of
the_value w h f = ap (λ t. unwrap_or (cond (t && fits_i64 (integer w)) (Some (integer w)) None) (pos 0)) h ∙ ap (λ t. unwrap_or (cond t (Some (integer w)) None) (pos 0)) f

not_false : (b : Bool) → not b ≡ false → b ≡ true
not_false true h = refl
not_false false h = let e : true ≡ false = h in cc

value_as : (k : TokenKind) (w : List ℕ) (zs ns : List ℤ) → kind_of w ≡ Some k → list_any is_wide (number_in (lexeme_as k w) ++ ns) ≡ false → zs ≡ ns
    → cond (is_integer k) (unwrap_or (value_of w) (pos 0) ∷ []) [] ++ zs ≡ number_in (lexeme_as k w) ++ ns
value_as kinds.Integer w zs ns k h e =
    let fits = not_false (fits_i64 (integer w)) (or_left (is_wide (integer w)) (list_any is_wide ns) h) in
    ap (λ z. z ∷ zs) (the_value w (integer_text w k) fits) ∙ ap (λ r. integer w ∷ r) e
value_as kinds.Word w zs ns k h e = e
value_as (kinds.Reserved c) w zs ns k h e = e
value_as kinds.Comma w zs ns k h e = e
value_as kinds.Point w zs ns k h e = e
value_as kinds.Open w zs ns k h e = e
value_as kinds.Close w zs ns k h e = e
value_as kinds.Less w zs ns k h e = e
value_as kinds.Equal w zs ns k h e = e
value_as kinds.Greater w zs ns k h e = e
value_as kinds.LessEqual w zs ns k h e = e
value_as kinds.GreaterEqual w zs ns k h e = e
value_as kinds.Unequal w zs ns k h e = e
value_as kinds.Semi w zs ns k h e = e

none_later : (xs ys : List ℤ) → list_any is_wide (xs ++ ys) ≡ false → list_any is_wide ys ≡ false
none_later [] ys h = h
none_later (x ∷ xs) ys h = none_later xs ys (or_right (is_wide x) (list_any is_wide (xs ++ ys)) h)

values_told : (line : List ℕ) (ts : List Token) → AllByRecursion (IsCut line) ts → list_any is_wide (flat_map number_in (lexemes line ts)) ≡ false → integers_at line ts ≡ flat_map number_in (lexemes line ts)
values_told line [] c h = refl
values_told line (t ∷ ts) c h =
    value_as t.kind (slice_range line t.from t.to) (integers_at line ts) (flat_map number_in (lexemes line ts)) c.0.kind h
    (values_told line ts c.1 (none_later (number_in (lexeme_of line t)) (flat_map number_in (lexemes line ts)) h))

-- signs that a spelled statement has
signs_spelled : (p : TokenKind → Bool) (line : List ℕ) (ts : List Token) (s : Statement) → IsSign p → (h : Spells (lexemes line ts) s) → count_of p ts ≡ count p (tokens_with (written h.1) s)
signs_spelled p line ts s sign (whole, w, is, inl e) = counted p line ts ∙ ap (count p) e
signs_spelled p line ts s sign (whole, w, is, inr e) = counted p line ts ∙ ap (count p) e ∙ but_semicolon p (tokens_with (written w) s) sign

more_than : (m n : ℕ) → nat_lt m n ≡ true → m < n
more_than m n h = grind (arith, nat_tests)

-- the numbers of a query
record QueryFound (ts : List Token) (select : SelectAst) : Type 0 where
  atoms : count_of is_comparison ts ≡ length select.atoms.items
  soft : count_of is_soft_sign ts ≡ length (soft_in select.atoms.items)
  columns : selected_number ts ≡ length select.select.items
  streams : from_number ts ≡ length select.from.items

query_found : (line : List ℕ) (ts : List Token) (name : List ℕ) (select : SelectAst) (shared : Bool) → Spells (lexemes line ts) (CreateQuery name select shared) → QueryFound ts select
query_found line ts name select shared h =
    let q = query_counts h.1 name select shared h.0.0 h.0.1 in
    let c = signs_spelled is_comparison line ts (CreateQuery name select shared) comparison_sign h in
    let s = signs_spelled is_soft_sign line ts (CreateQuery name select shared) soft_sign h in
    let p = signs_spelled is_point line ts (CreateQuery name select shared) point_sign h in
    let i = signs_spelled is_integer line ts (CreateQuery name select shared) integer_sign h in
    let m = signs_spelled is_comma line ts (CreateQuery name select shared) comma_sign h in
    let qc = q.comparisons in let qs = q.soft in let qd = q.sides in let qm = q.commas in
    record { atoms = c ∙ qc; soft = s ∙ qs; columns = omega (arith, c, p, i, qc, qd); streams = omega (arith, c, p, i, m, qc, qd, qm) }

columns_found : (s : Statement) (line : List ℕ) (ts : List Token) → passes limits.Columns s ≡ true → Spells (lexemes line ts) s → count_of is_comma ts + 1 ≡ length (columns_of s)
columns_found (CreateStream name columns) line ts p h =
    let c = signs_spelled is_comma line ts (CreateStream name columns) comma_sign h in
    let e = stream_commas name columns.items h.0 in
    omega (arith, c, e)
columns_found _ line ts p h = let f : false ≡ true = p in cc

select_found : (s : Statement) (line : List ℕ) (ts : List Token) → passes limits.Select s ≡ true → Spells (lexemes line ts) s → selected_number ts ≡ length (selected_by s)
select_found (CreateQuery name select shared) line ts p h = (query_found line ts name select shared h).columns
select_found _ line ts p h = let f : false ≡ true = p in cc

from_found : (s : Statement) (line : List ℕ) (ts : List Token) → passes limits.From s ≡ true → Spells (lexemes line ts) s → from_number ts ≡ length (streams_of s)
from_found (CreateQuery name select shared) line ts p h = (query_found line ts name select shared h).streams
from_found _ line ts p h = let f : false ≡ true = p in cc

atoms_found : (s : Statement) (line : List ℕ) (ts : List Token) → passes limits.Atoms s ≡ true → Spells (lexemes line ts) s → count_of is_comparison ts ≡ length (atoms_of s)
atoms_found (CreateQuery name select shared) line ts p h = (query_found line ts name select shared h).atoms
atoms_found _ line ts p h = let f : false ≡ true = p in cc

soft_found : (s : Statement) (line : List ℕ) (ts : List Token) → passes limits.Soft s ≡ true → Spells (lexemes line ts) s → count_of is_soft_sign ts ≡ length (soft_in (atoms_of s))
soft_found (CreateQuery name select shared) line ts p h = (query_found line ts name select shared h).soft
soft_found _ line ts p h = let f : false ≡ true = p in cc

attrs_found : (s : Statement) (line : List ℕ) (ts : List Token) → passes limits.Attrs s ≡ true → Spells (lexemes line ts) s → number_of_different same_column (columns_compared line ts) ≡ number_of_different same_column (columns_in (atoms_of s))
attrs_found (CreateQuery name select shared) line ts p h = ap (number_of_different same_column) (columns_of_query line ts name select shared h)
attrs_found _ line ts p h = let f : false ≡ true = p in cc

tuple_found : (s : Statement) (line : List ℕ) (ts : List Token) → passes limits.Tuple s ≡ true → Spells (lexemes line ts) s → count_of is_integer ts ≡ length (values_of s)
tuple_found (ResumeTuple name values) line ts p h =
    let c = signs_spelled is_integer line ts (ResumeTuple name values) integer_sign h in
    let e = tuple_integers values.items in
    omega (arith, c, e)
tuple_found _ line ts p h = let f : false ≡ true = p in cc

streams_found : (s : Statement) (line : List ℕ) (ts : List Token) → passes limits.Streams s ≡ true → Spells (lexemes line ts) s → count_of is_comma ts + 1 ≡ length (opened_by s)
streams_found (Lock k streams) line ts p h =
    let c = signs_spelled is_comma line ts (Lock k streams) comma_sign h in
    let some = more_than 16 (length streams.items) p in
    let e = lock_commas h.1 k streams.items (omega (arith, some)) in
    omega (arith, c, e)
streams_found _ line ts p h = let f : false ≡ true = p in cc

query_values : (line : List ℕ) (ts : List Token) (name : List ℕ) (select : SelectAst) (shared : Bool) → list_any is_far (integers_of (CreateQuery name select shared)) ≡ false → Spells (lexemes line ts) (CreateQuery name select shared) → StandFrom line 0 ts
    → integers_at line ts ≡ integers_in select.atoms.items
query_values line ts name select shared near h stand =
    let all = integers_spelled (lexemes line ts) (CreateQuery name select shared) h in
    let fit : list_any is_wide (flat_map number_in (lexemes line ts)) ≡ false = ap (list_any is_wide) all ∙ none_wide (integers_of (CreateQuery name select shared)) near in
    values_told line ts (cut_at line 0 ts stand) fit ∙ all ∙ numbers_query name select shared

consts_found : (s : Statement) (line : List ℕ) (ts : List Token) → passes limits.Consts s ≡ true → list_any (is_beyond s) (integers_of s) ≡ false → Spells (lexemes line ts) s → StandFrom line 0 ts
    → number_of_different int_eq (integers_at line ts) ≡ number_of_different int_eq (integers_in (atoms_of s))
consts_found (CreateQuery name select shared) line ts p near h stand = ap (number_of_different int_eq) (query_values line ts name select shared near h stand)
consts_found _ line ts p near h stand = let f : false ≡ true = p in cc

found_for : (what : What) (s : Statement) (line : List ℕ) (ts : List Token) → passes what s ≡ true → limit_of s ≡ Some what → Spells (lexemes line ts) s → StandFrom line 0 ts → found_by what line ts ≡ found_in what s
found_for limits.Name s line ts p e h stand = long_words line ts (cut_at line 0 ts stand) ∙ long_spelled (lexemes line ts) s h
found_for limits.Columns s line ts p e h stand = ap Some (columns_found s line ts p h)
found_for limits.Select s line ts p e h stand = ap Some (select_found s line ts p h)
found_for limits.From s line ts p e h stand = ap Some (from_found s line ts p h)
found_for limits.Atoms s line ts p e h stand = ap Some (atoms_found s line ts p h)
found_for limits.Soft s line ts p e h stand = ap Some (soft_found s line ts p h)
found_for limits.Attrs s line ts p e h stand = ap Some (attrs_found s line ts p h)
found_for limits.Value s line ts p e h stand = refl
found_for limits.Consts s line ts p e h stand = ap Some (consts_found s line ts p (near_integers s e) h stand)
found_for limits.Domain s line ts p e h stand = refl
found_for limits.Tuple s line ts p e h stand = ap Some (tuple_found s line ts p h)
found_for limits.Streams s line ts p e h stand = ap Some (streams_found s line ts p h)

same_tokens : (line : List ℕ) (ts us : List Token) → tokens line ≡ Ok ts → tokens line ≡ Ok us → ts ≡ us
same_tokens line ts us a b = let e : Ok ts ≡ Ok us = sym a ∙ b in cc

-- a statement has as many of what it passes a limit on as its tokens tell
pub found_is : (what : What) (s : Statement) (line : List ℕ) (ts : List Token) (n : Option ℕ) → n ≡ found_by what line ts → tokens line ≡ Ok ts → StandFrom line 0 ts → IsStatement line s → limit_of s ≡ Some what → n ≡ found_in what s
found_is what s line ts n e lexed stand is passes_it =
    let P : List Token → Type 0 = λ us. Spells (lexemes line us) s in
    e ∙ found_for what s line ts (passed s what passes_it) passes_it (subst P (same_tokens line is.its_tokens ts is.lexed lexed) is.spelled) stand
