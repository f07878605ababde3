-- What a text that is read as a statement within the limits says: names are names, columns make a stream, a query can be created again, and
-- values are integers of 64 bits.
use Rattle.std.proofs.Common.{◌≡◌, ℕ, ◌<◌, ◌≤◌, inl, inr, Bool, true, false, cond, not, ◌&&◌, nat_lt, nat_eq, is_some, ℤ, List, [], ◌∷◌, ◌++◌, length, flat_map, Option, Some, None, Ok, Err, option_and_then, option_map, refl, sym, ap, ◌∙◌, subst, arith}
use Rattle.std.specs.List.{list_any, AllByRecursion}
use Rattle.std.specs.Str.{bytes_eq}
use Rattle.std.specs.declared.result.Result.{Result}
use Rattle.std.proofs.lemmas.Bool.Decides.{nat_tests}
use Rattle.std.proofs.lemmas.List.Elements.{All-from_recursion}
use Rattle.sql_text.specs.Blank.{trimmed}
use Rattle.sql_text.specs.Key.{key_of}
use Rattle.sql_text.specs.Value.{fits_i64, integer, is_integer, value_of}
use Rattle.sql_text.specs.Word.{word_of}
use Rattle.sem_query.specs.Query.{QueryValue, IsWithinLimits}
use Rattle.sql_lexer.specs.declared.token.Token.{Token}
use Rattle.sql_lexer.proofs.Exactly as exactly
use Rattle.sem_laws.proofs.Tests.{and-right, or-false}
use Rattle.sql_catalog.specs.declared.column.ColumnDef.{ColumnDef}
use Rattle.sql_catalog.specs.declared.row_error.RowError.TheVariants as row_errors
use Rattle.sql_catalog.specs.declared.stream_error.StreamError.TheVariants as stream_errors
use Rattle.sql_catalog.specs.Rows.{Entry, entry, entry_of, fields_of, row_for, row_of, values_of}
use Rattle.sql_catalog.specs.Streams.{Shape, IsShape, IsCatalog, IsName, added, is_duplicate, all_differ, column_names, lie_within, shape_at, stream_number}
use Rattle.sql_catalog.proofs.Catalogs.{catalog_with_new}
use Rattle.sql_parser.specs.declared.parsing.What.{What}
use Rattle.sql_parser.specs.declared.parsing.What.TheVariants as limits
use Rattle.sql_parser.specs.declared.resolution.ResolveError.{ResolveError}
use Rattle.sql_parser.specs.declared.resolution.ResolveError.TheVariants as resolve_errors
use Rattle.sql_parser.specs.declared.tree.SelectAst.{SelectAst}
use Rattle.sql_parser.specs.declared.tree.Statement.{Statement}
use Rattle.sql_parser.specs.declared.tree.Statement.TheVariants as statements
use Rattle.sql_parser.specs.Grammar.{Lexeme, comma, closing, semicolon, separated, coldef_tokens, tokens_with, written, Spells}
use Rattle.sql_parser.specs.Limits.{names_of, limit_of, word_in, is_long, is_wide}
use Rattle.sql_parser.specs.Resolution.{HasNamed, has_streams, has_columns, query_for, resolved}
use Rattle.sql_parser.specs.Syntax.{IsStatement, lexemes}
use Rattle.sql_parser.proofs.Compact.{long_with}
use Rattle.sql_parser.proofs.NamedAgain.{names_back}
use Rattle.sql_parser.proofs.Placed.{has_named}
use Rattle.sql_parser.proofs.Said.{IsNamed, cut_at, all_named, all_left, all_separated, all_query, without_semicolon}
use Rattle.sql_parser.proofs.Taken.{domains_have_ends, within_limits}
use Rattle.sql_parser.proofs.Within.{all_fit}
use Rattle.sql_printer.proofs.RoundTrip.{create_lines_fit}
use Rattle.cmd_session.specs.Checkpoint.{create_again}
use Rattle.sql_printer.specs.Printed.{create_line}
use Rattle.law_resume.proofs.ReachedRanges.{Fits}

-- a limit that is not passed
not_passed : (b : Bool) (x : What) (r : Option What) → cond b (Some x) r ≡ None → (b ≡ false) × (r ≡ None)
not_passed true x r e = absurd cc
not_passed false x r e = (refl, e)

not_more : (m n : ℕ) → nat_lt n m ≡ false → m ≤ n
not_more m n h = grind (arith, nat_tests)

is_false : (b : Bool) → not b ≡ false → b ≡ true
is_false true h = refl
is_false false h = absurd cc

-- the words of a statement are names
long_spelled : (ls : List Lexeme) (x : Statement) → Spells ls x → list_any is_long (flat_map word_in ls) ≡ list_any is_long (names_of x)
long_spelled ls x (whole, w, is, inl e) = ap (λ r. list_any is_long (flat_map word_in r)) e ∙ long_with w x is
long_spelled ls x (whole, w, is, inr e) = ap (λ r. list_any is_long (flat_map word_in r)) e ∙ ap (list_any is_long) (without_semicolon (tokens_with (written w) x)) ∙ long_with w x is

named_spelled : (ls : List Lexeme) (x : Statement) (t : Spells ls x) → AllByRecursion IsNamed ls → AllByRecursion IsNamed (tokens_with (written t.1) x)
named_spelled ls x (whole, w, is, inl e) h = subst (λ (r : List Lexeme). AllByRecursion IsNamed r) e h
named_spelled ls x (whole, w, is, inr e) h = all_left IsNamed (tokens_with (written w) x) (semicolon ∷ []) (subst (λ (r : List Lexeme). AllByRecursion IsNamed r) e h)

words_named : (text : List ℕ) (x : Statement) (is : IsStatement text x) → limit_of x ≡ None → AllByRecursion IsNamed (tokens_with (written is.spelled.1) x)
words_named text x is within =
    let ts : List Token = is.its_tokens in
    let stand = (exactly.standing_is_found text ts).0 is.lexed in
    let short = (not_passed (list_any is_long (names_of x)) limits.Name _ within).0 in
    named_spelled (lexemes text ts) x is.spelled (all_named text ts (cut_at text 0 ts stand) (long_spelled (lexemes text ts) x is.spelled ∙ short))

-- a stream that can be added
columns_named : (columns : List ColumnDef) → AllByRecursion (λ c. AllByRecursion IsNamed (coldef_tokens c)) columns → AllByRecursion (λ (c : ColumnDef). IsName c.name) columns
columns_named [] h = tt
columns_named (c ∷ columns) h = (h.0.0, columns_named columns h.1)

abbrev shape_of : List ℕ → List ColumnDef → Shape
shape_of name columns = record { name = name; columns = columns }

pub created_catalog : (streams : List Shape) (text name : List ℕ) (columns : List ColumnDef) → IsCatalog streams → IsStatement text (statements.CreateStream name (record { items = columns }))
    → limit_of (statements.CreateStream name (record { items = columns })) ≡ None → (place : ℕ) → added streams (shape_of name columns) ≡ Ok place → IsCatalog (streams ++ shape_of name columns ∷ [])
created_catalog streams text name columns catalog is within place e = by (is_duplicate streams (shape_of name columns)) (nat_lt (length streams) 16) refl refl e
  where
    words : AllByRecursion IsNamed (tokens_with (written is.spelled.1) (statements.CreateStream name (record { items = columns })))
    words = words_named text (statements.CreateStream name (record { items = columns })) is within

    few : length columns ≤ 8
    few =
        let a = not_passed (list_any is_long (names_of (statements.CreateStream name (record { items = columns })))) limits.Name _ within in
        let b = not_passed (nat_lt 8 (length columns)) limits.Columns _ a.1 in
        not_more (length columns) 8 b.0

    shape : all_differ (column_names columns) ≡ true → IsShape (shape_of name columns)
    shape differ = record {
      name = words.1.1.0;
      names = All-from_recursion (λ (c : ColumnDef). IsName c.name) columns
          (columns_named columns (all_separated IsNamed comma coldef_tokens columns (all_left IsNamed (separated comma coldef_tokens columns) (closing ∷ []) words.1.1.1.1)));
      domains = domains_have_ends name columns within;
      some = is.spelled.0;
      few = few;
      differ = differ;
    }

    by : (b c : Bool) → is_duplicate streams (shape_of name columns) ≡ b → nat_lt (length streams) 16 ≡ c
        → cond b (Err stream_errors.Duplicate) (cond c (Ok (length streams)) (Err stream_errors.TooMany)) ≡ Ok place → IsCatalog (streams ++ shape_of name columns ∷ [])
    by true c h k f = absurd cc
    by false false h k f = absurd cc
    by false true h k f =
        let both = or-false (list_any (λ (s : Shape). bytes_eq s.name name) streams) (not (all_differ (column_names columns))) h in
        let room : length streams < 16 = grind (arith, nat_tests, k) in
        catalog_with_new streams (shape_of name columns) catalog (shape (is_false (all_differ (column_names columns)) both.1)) room both.0

-- the query that a statement asks for
pub record IsQueryOf (streams : List Shape) (name : List ℕ) (q : QueryValue) (shared : Bool) : Type 0 where
  pub own : IsName name
  pub limits : IsWithinLimits q
  pub named : HasNamed streams q
  pub line : length (create_again streams name q shared) ≤ 1024

module _ (streams : List Shape) (text name : List ℕ) (select : SelectAst) (shared : Bool) (q : QueryValue) (catalog : IsCatalog streams) (is : IsStatement text (statements.CreateQuery name select shared))
    (within : limit_of (statements.CreateQuery name select shared) ≡ None) (short : length text ≤ 1024) where
  found : resolved streams select ≡ Ok q → (has_streams streams select ≡ true) × (has_columns streams select ≡ true) × (all_differ select.from.items ≡ true) × (query_for streams select ≡ q)
  unfolding resolved
  found e = by (has_streams streams select) (has_columns streams select) (all_differ select.from.items) e
    where
      by : (a b c : Bool) → cond {A = Result QueryValue ResolveError} (not a) (Err resolve_errors.UnknownStream) (cond (not b) (Err resolve_errors.UnknownColumn) (cond (not c) (Err resolve_errors.SelfJoin) (Ok (query_for streams select)))) ≡ Ok q
          → (a ≡ true) × (b ≡ true) × (c ≡ true) × (query_for streams select ≡ q)
      by true true true f = (refl, refl, refl, (let same : query_for streams select ≡ q = cc in same))
      by true true false f = absurd cc
      by true false c f = absurd cc
      by false b c f = absurd cc

  pub query_found : resolved streams select ≡ Ok q → IsQueryOf streams name q shared
  query_found e =
      let f = found e in
      let words = words_named text (statements.CreateQuery name select shared) is within in
      record {
        own = (all_query IsNamed is.spelled.1 name select shared words).0;
        limits = subst IsWithinLimits f.3 (within_limits streams select catalog (record { name = name; shared = shared; whole = is.spelled.0; within = within }) f.0 f.1 f.2);
        named = subst (HasNamed streams) f.3 (has_named streams select f.0 f.1);
        line = subst (λ (s : SelectAst). length (create_line (statements.CreateQuery name s shared)) ≤ 1024) (sym (names_back streams select q e))
            (create_lines_fit text (statements.CreateQuery name select shared) is within short);
      }

-- the content of a told cell
pub content_fits : (name : List ℕ) (index content : ℤ) → limit_of (statements.ResumeCell name index content) ≡ None → Fits content
content_fits name index content within =
    let wide = all_fit (statements.ResumeCell name index content) within in
    let last = (or-false (is_wide index) (list_any is_wide (content ∷ [])) wide).1 in
    is_false (fits_i64 content) (or-false (is_wide content) false last).0

-- the values of a row that is read
field_fits : (field : List ℕ) (v : ℤ) → value_of field ≡ Some v → Fits v
unfolding value_of
field_fits field v e = by (is_integer field && fits_i64 (integer field)) refl e
  where
    by : (b : Bool) → (is_integer field && fits_i64 (integer field)) ≡ b → cond b (Some (integer field)) None ≡ Some v → Fits v
    by true h f = (let same : integer field ≡ v = cc in subst Fits same (and-right (is_integer field) (fits_i64 (integer field)) h))
    by false h f = absurd cc

values_fit : (fields : List (List ℕ)) (vs : List ℤ) → values_of fields ≡ Some vs → AllByRecursion Fits vs
values_fit [] vs e = (let same : [] ≡ vs = cc in subst (λ (zs : List ℤ). AllByRecursion Fits zs) same tt)
values_fit (field ∷ fields) vs e = by (value_of (trimmed field)) (values_of fields) refl (λ zs. values_fit fields zs) e
  where
    by : (o : Option ℤ) (p : Option (List ℤ)) → value_of (trimmed field) ≡ o → ((zs : List ℤ) → p ≡ Some zs → AllByRecursion Fits zs) → option_and_then (λ v. option_map (λ zs. v ∷ zs) p) o ≡ Some vs
        → AllByRecursion Fits vs
    by None p h rest f = absurd cc
    by (Some v) None h rest f = absurd cc
    by (Some v) (Some zs) h rest f = (let same : (v ∷ zs) ≡ vs = cc in subst (λ (us : List ℤ). AllByRecursion Fits us) same (field_fits (trimmed field) v h, rest zs refl))

pub row_fits : (streams : List Shape) (text : List ℕ) (e : Entry) → row_of streams text ≡ Ok e → AllByRecursion Fits e.values
unfolding row_of
row_fits streams text e is = at (is_some (key_of (word_of text))) (nat_lt 24 (length (word_of text))) is
  where
    values : (stream : ℕ) (o : Option (List ℤ)) → values_of (fields_of text) ≡ o → entry_of stream (shape_at streams stream).columns o ≡ Ok e → AllByRecursion Fits e.values
    values stream None t h = absurd cc
    values stream (Some vs) t h = inside (lie_within (shape_at streams stream).columns vs) h
      where
        inside : (b : Bool) → cond b (Ok (entry stream vs)) (Err row_errors.Domain) ≡ Ok e → AllByRecursion Fits e.values
        inside true h = (let same : entry stream vs ≡ e = cc in subst (λ (x : Entry). AllByRecursion Fits x.values) same (values_fit (fields_of text) vs t))
        inside false h = absurd cc

    arity : (b : Bool) (stream : ℕ) → cond b (entry_of stream (shape_at streams stream).columns (values_of (fields_of text))) (Err row_errors.Arity) ≡ Ok e → AllByRecursion Fits e.values
    arity true stream h = values stream (values_of (fields_of text)) refl h
    arity false stream h = absurd cc

    of : (o : Option ℕ) → row_for streams (fields_of text) o ≡ Ok e → AllByRecursion Fits e.values
    of None h = absurd cc
    of (Some stream) h = arity (nat_eq (length (fields_of text)) (length (shape_at streams stream).columns)) stream h

    at : (b c : Bool) → cond b (Err row_errors.Syntax) (cond c (Err row_errors.Limit) (row_for streams (fields_of text) (stream_number streams (word_of text)))) ≡ Ok e → AllByRecursion Fits e.values
    at true c h = absurd cc
    at false true h = absurd cc
    at false false h = of (stream_number streams (word_of text)) h
