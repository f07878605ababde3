-- The lines of the streams of a checkpoint lead to these streams.
use Rattle.std.proofs.Common.{◌≡◌, ℕ, ◌+◌, ◌<◌, ◌≤◌, ◌≤ℤ◌, Bool, true, false, cond, not, ◌||◌, nat_lt, int_lt, ℤ, List, [], ◌∷◌, ◌++◌, map, length, Option, Some, None, Ok, Err, refl, sym, ap, ◌∙◌, subst, arith, append_assoc, append-nil, length-append, IsTrue, All}
use Rattle.std.specs.List.{list_any, AllByRecursion}
use Rattle.std.specs.Str.{bytes_eq}
use Rattle.std.proofs.lemmas.Bool.Decides.{nat_tests}
use Rattle.std.proofs.lemmas.Int.{ints}
use Rattle.std.proofs.lemmas.List.Elements.{All-head, All-tail}
use Rattle.sql_text.specs.Name.{is_name}
use Rattle.sql_text.specs.declared.key.Key.TheVariants.{CreateKey, StreamKey}
use Rattle.sem_laws.proofs.PlanTests.{not-true}
use Rattle.sem_laws.proofs.Tests.{and-left, and-right, or-false}
use Rattle.sql_catalog.specs.declared.column.ColumnDef.{ColumnDef}
use Rattle.sql_catalog.specs.declared.stream_error.StreamError.TheVariants as StreamErrors
use Rattle.sql_catalog.specs.Streams.{Shape, IsShape, HasEnds, all_differ, column_names, added}
use Rattle.sql_parser.specs.declared.parsing.What.TheVariants as limits
use Rattle.sql_parser.specs.declared.tree.Statement.{Statement}
use Rattle.sql_parser.specs.declared.tree.Statement.TheVariants.{CreateStream}
use Rattle.sql_parser.specs.Grammar.{Lexeme, word, key, comma, opening, closing, separated, domain_tokens, coldef_tokens, statement_tokens}
use Rattle.sql_parser.specs.DraftLimits.{ends_in}
use Rattle.sql_parser.specs.Limits.{limit_of, is_far, is_reversed, integers_of}
use Rattle.sql_parser.proofs.Within.{any_far, any_reversed, far_stream, near_fits}
use Rattle.sql_printer.specs.Printed.{joins}
use Rattle.sql_printer.proofs.Spaced.{IsSound}
use Rattle.sql_printer.proofs.ReadBack.{printed_statement}
use Rattle.cmd_session.specs.Request.{Request, created}
use Rattle.cmd_session.specs.Requests.{stream_request, IsRequest}
use Rattle.cmd_session.specs.Answer.{plain}
use Rattle.cmd_session.specs.Checkpoint.{stream_line}
use Rattle.cmd_session.specs.State.{State, initial}
use Rattle.law_resume.specs.Restores.{LeadsTo, StreamsAreRestored}
use Rattle.law_resume.proofs.ShortLines.{AreShort, IsShortLine, short_streams}
use Rattle.cmd_session.proofs.ResumeTexts.{few}
use Rattle.law_resume.proofs.PrintedLines.{line_text}
use Rattle.law_resume.proofs.Creating.{near}
use Rattle.law_resume.proofs.Leading.{line_asks, no_line, one_line, joined, names_short}

in_order : (low high : ℤ) → low ≤ℤ high → int_lt high low ≡ false
in_order low high h = grind (arith, ints)

-- the tokens of columns are such as a line can have
all_sound : (a b : List Lexeme) → AllByRecursion IsSound a → AllByRecursion IsSound b → AllByRecursion IsSound (a ++ b)
all_sound [] b h k = k
all_sound (l ∷ a) b h k = (h.0, all_sound a b h.1 k)

-- a column has a name, and its domain ends
pub record IsColumnDef (c : ColumnDef) : Type 0 where
  pub name : IsTrue (is_name c.name)
  pub ends : HasEnds c.domain

columns_of : (s : Shape) → IsShape s → (cs : List ColumnDef) → All (λ c. IsTrue (is_name c.name)) cs → All (λ c. HasEnds c.domain) cs → AllByRecursion IsColumnDef cs
columns_of s is [] names domains = tt
columns_of s is (c ∷ cs) names domains = (
  record { name = All-head (λ (x : ColumnDef). IsTrue (is_name x.name)) c cs names; ends = All-head (λ (x : ColumnDef). HasEnds x.domain) c cs domains },
  columns_of s is cs (All-tail (λ (x : ColumnDef). IsTrue (is_name x.name)) c cs names) (All-tail (λ (x : ColumnDef). HasEnds x.domain) c cs domains),
)

domain_sound : (d : Option (ℤ × ℤ)) → HasEnds d → AllByRecursion IsSound (domain_tokens d)
domain_sound None h = tt
domain_sound (Some ends) h = (tt, (near_fits ends.0 (near ends.0 h.short_low), (tt, (tt, (near_fits ends.1 (near ends.1 h.short_high), tt)))))

columns_sound : (cs : List ColumnDef) → AllByRecursion IsColumnDef cs → AllByRecursion IsSound (separated comma coldef_tokens cs)
columns_sound [] h = tt
columns_sound (c ∷ []) h = (h.0.name, domain_sound c.domain h.0.ends)
columns_sound (c ∷ d ∷ cs) h =
    all_sound (coldef_tokens c) (comma ∷ separated comma coldef_tokens (d ∷ cs)) (h.0.name, domain_sound c.domain h.0.ends) (tt, columns_sound (d ∷ cs) h.1)

-- no end is far, and none is reversed
domain_near : (d : Option (ℤ × ℤ)) (more : Bool) → HasEnds d → more ≡ false → (list_any is_far (ends_in d) || more) ≡ false
domain_near None more h e = e
domain_near (Some ends) more h e =
    ap (λ b. (b || (is_far ends.1 || false)) || more) (near ends.0 h.short_low) ∙ ap (λ b. (b || false) || more) (near ends.1 h.short_high) ∙ e

columns_near : (cs : List ColumnDef) → AllByRecursion IsColumnDef cs → any_far cs ≡ false
columns_near [] h = refl
columns_near (c ∷ cs) h = domain_near c.domain (any_far cs) h.0.ends (columns_near cs h.1)

domain_forward : (d : Option (ℤ × ℤ)) → HasEnds d → is_reversed d ≡ false
domain_forward None h = refl
domain_forward (Some ends) h = in_order ends.0 ends.1 h.some

columns_forward : (cs : List ColumnDef) → AllByRecursion IsColumnDef cs → any_reversed cs ≡ false
columns_forward [] h = refl
columns_forward (c ∷ cs) h = ap (λ b. b || any_reversed cs) (domain_forward c.domain h.0.ends) ∙ columns_forward cs h.1

abbrev told : Shape → Statement
told s = CreateStream s.name (record { items = s.columns })

tokens_sound : (s : Shape) → IsShape s → AllByRecursion IsSound (statement_tokens (told s))
tokens_sound s is =
    (tt, (tt, (is.name, (tt, all_sound (separated comma coldef_tokens s.columns) (closing ∷ []) (columns_sound s.columns (columns_of s is s.columns is.names is.domains)) (tt, tt)))))

stream_within : (s : Shape) → IsShape s → limit_of (told s) ≡ None
stream_within s is =
    let columns = columns_of s is s.columns is.names is.domains in
    let n : Bool = any_reversed s.columns in
    ap (λ b. cond b (Some limits.Name) (cond (nat_lt 8 (length s.columns)) (Some limits.Columns) (cond (list_any is_far (integers_of (told s))) (Some limits.Value) (cond n (Some limits.Domain) None))))
    (names_short (statement_tokens (told s)) (tokens_sound s is))
    ∙ ap (λ b. cond b (Some limits.Columns) (cond (list_any is_far (integers_of (told s))) (Some limits.Value) (cond n (Some limits.Domain) None))) (few 8 (length s.columns) is.few)
    ∙ ap (λ b. cond b (Some limits.Value) (cond n (Some limits.Domain) None)) (far_stream s.name s.columns ∙ columns_near s.columns columns)
    ∙ ap (λ b. cond b (Some limits.Domain) None) (columns_forward s.columns columns)

-- the state in which there are these streams
abbrev with_streams : ℕ → ℕ → List Shape → State
with_streams limit pages streams = record (initial limit pages) { streams = streams; lines = length streams }

-- a stream is added behind those whose names differ from its own
abbrev names_in : List Shape → List (List ℕ)
names_in streams = map (λ (s : Shape). s.name) streams

no_later : (p : List ℕ → Bool) (done : List Shape) (s : Shape) (rest : List Shape) → list_any p (names_in (done ++ s ∷ rest)) ≡ false → p s.name ≡ false
no_later p [] s rest h = (or-false (p s.name) (list_any p (names_in rest)) h).0
no_later p (d ∷ done) s rest h = no_later p done s rest (or-false (p d.name) (list_any p (names_in (done ++ s ∷ rest))) h).1

not_there : (done : List Shape) (s : Shape) (rest : List Shape) → all_differ (names_in (done ++ s ∷ rest)) ≡ true → list_any (λ (d : Shape). bytes_eq d.name s.name) done ≡ false
not_there [] s rest h = refl
not_there (d ∷ done) s rest h =
    let others : Bool = list_any (bytes_eq d.name) (names_in (done ++ s ∷ rest)) in
    let own : bytes_eq d.name s.name ≡ false = no_later (bytes_eq d.name) done s rest (not-true others (and-left (not others) (all_differ (names_in (done ++ s ∷ rest))) h)) in
    ap (λ b. b || list_any (λ (x : Shape). bytes_eq x.name s.name) done) own ∙ not_there done s rest (and-right (not others) (all_differ (names_in (done ++ s ∷ rest))) h)

below : (n : ℕ) → n < 16 → nat_lt n 16 ≡ true
below n h = grind (arith, nat_tests)

can_be_added : (done : List Shape) (s : Shape) (rest : List Shape) → IsShape s → all_differ (names_in (done ++ s ∷ rest)) ≡ true → length (done ++ s ∷ rest) ≤ 16 → added done s ≡ Ok (length done)
can_be_added done s rest is h most =
    let l : length (done ++ s ∷ rest) ≡ length done + length (s ∷ rest) = length-append done (s ∷ rest) in
    ap (λ b. cond (b || not (all_differ (column_names s.columns))) (Err StreamErrors.Duplicate) (cond (nat_lt (length done) 16) (Ok (length done)) (Err StreamErrors.TooMany))) (not_there done s rest h)
    ∙ ap (λ b. cond (not b) (Err StreamErrors.Duplicate) (cond (nat_lt (length done) 16) (Ok (length done)) (Err StreamErrors.TooMany))) is.differ
    ∙ ap (λ b. cond b (Ok (length done)) (Err StreamErrors.TooMany)) (below (length done) (omega (arith, l, most)))

one_more : (limit pages : ℕ) (done : List Shape) (s : Shape) (rest : List Shape) → IsShape s → all_differ (names_in (done ++ s ∷ rest)) ≡ true → length (done ++ s ∷ rest) ≤ 16 → IsShortLine (stream_line s)
    → LeadsTo (with_streams limit pages done) (stream_line s ∷ []) (with_streams limit pages (done ++ s ∷ []))
one_more limit pages done s rest is h most short =
    let now : State = with_streams limit pages done in
    let sound = tokens_sound s is in
    let text = line_text joins CreateKey (key StreamKey) (word s.name ∷ opening ∷ separated comma coldef_tokens s.columns ++ closing ∷ []) tt refl tt sound in
    let request : Request = stream_request s.name s.columns (added done s) in
    let asks : IsRequest now (stream_line s) request = line_asks now (told s) (stream_line s) refl text (printed_statement (told s) is.some sound) (stream_within s is) short in
    let same : request ≡ created s.name s.columns = ap (stream_request s.name s.columns) (can_be_added done s rest is h most) in
    let n : length done + 1 ≡ length (done ++ s ∷ []) = sym (length-append done (s ∷ [])) in
    one_line now (with_streams limit pages (done ++ s ∷ [])) (stream_line s) (plain (created s.name s.columns)) text.whole refl
    (record { request = created s.name s.columns; asks = subst (IsRequest now (stream_line s)) same asks; settles = refl })
    (λ j. record (initial limit pages) { streams = done ++ s ∷ []; lines = n j })

all_more : (limit pages : ℕ) (done rest : List Shape) → All IsShape rest → all_differ (names_in (done ++ rest)) ≡ true → length (done ++ rest) ≤ 16 → AreShort (map stream_line rest)
    → LeadsTo (with_streams limit pages done) (map stream_line rest) (with_streams limit pages (done ++ rest))
all_more limit pages done [] is h most short = subst (λ d. LeadsTo (with_streams limit pages done) [] (with_streams limit pages d)) (sym (append-nil done)) (no_line (with_streams limit pages done))
all_more limit pages done (s ∷ rest) is h most short =
    let e : (done ++ s ∷ []) ++ rest ≡ done ++ s ∷ rest = append_assoc done (s ∷ []) rest in
    let first = one_more limit pages done s rest (All-head IsShape s rest is) h most short.0 in
    let others : LeadsTo (with_streams limit pages (done ++ s ∷ [])) (map stream_line rest) (with_streams limit pages ((done ++ s ∷ []) ++ rest))
    = all_more limit pages (done ++ s ∷ []) rest (All-tail IsShape s rest is) (subst (λ (x : List Shape). all_differ (names_in x) ≡ true) (sym e) h) (subst (λ (x : List Shape). length x ≤ 16) (sym e) most) short.1 in
    subst (λ x. LeadsTo (with_streams limit pages done) (map stream_line (s ∷ rest)) (with_streams limit pages x)) e
    (joined (with_streams limit pages done) (with_streams limit pages (done ++ s ∷ [])) (with_streams limit pages ((done ++ s ∷ []) ++ rest)) (stream_line s ∷ []) (map stream_line rest) first others)

pub streams_are_restored : StreamsAreRestored
streams_are_restored limit pages streams catalog = all_more limit pages [] streams catalog.shapes catalog.differ catalog.few (short_streams streams catalog.shapes)
