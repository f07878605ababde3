-- How long the lines of a checkpoint are.
use Rattle.std.proofs.Common.{◌≡◌, ℕ, ◌+◌, ◌<◌, ◌≤◌, ◌^◌, ℤ, pos, Bool, true, false, List, [], ◌∷◌, ◌++◌, map, flat_map, length, Option, Some, None, IsTrue, refl, sym, ap, ◌∙◌, subst, arith, nat_lt, slice_index_or, Contains, All}
use Rattle.std.specs.List.{AllByRecursion}
use Rattle.std.proofs.lemmas.Bool.Decides.{nat_tests}
use Rattle.std.proofs.lemmas.List.{length-map, map-append}
use Rattle.std.proofs.lemmas.List.Elements.{All-head, All-tail, All-from_recursion, recursion_from_All}
use Rattle.sql_text.specs.Name.{is_name}
use Rattle.sql_text.specs.Value.{fits_i64}
use Rattle.sem_query.specs.declared.cell.Cell.{Cell}
use Rattle.sem_query.specs.declared.plan.Kind.{Kind}
use Rattle.sem_query.specs.declared.plan.PartPlan.{PartPlan}
use Rattle.sem_query.specs.Query.{QueryValue}
use Rattle.sem_query.specs.Cells.{FitsKind}
use Rattle.sem_query.specs.Numbers.{parts_of}
use Rattle.sem_query.specs.Ranges.{all_tuples}
use Rattle.sem_query.proofs.Has.{Has-from_contains, Has-map_from, Has-flat_map_from}
use Rattle.sql_catalog.specs.declared.column.ColumnDef.{ColumnDef}
use Rattle.sql_catalog.specs.Streams.{Shape, IsShape, HasEnds}
use Rattle.sem_forms.proofs.Forms.{form_plans_serve}
use Rattle.exec_query.proofs.PlanFacts.{cells_of_plan}
use Rattle.sql_printer.specs.Printed.{printed_form}
use Rattle.sql_parser.specs.declared.tree.Statement.TheVariants.{ResumeRows}
use Rattle.sql_parser.proofs.Names.{name_facts}
use Rattle.exec_snapshot.specs.Lines.{content_in, cell_statement, cell_statements, printed_statements}
use Rattle.exec_registry.specs.Live.{LiveQuery, base_in, boxes_of}
use Rattle.exec_registry.specs.Sound.{IsCellOf, IsSoundLive}
use Rattle.cmd_session.specs.Checkpoint.{stream_line, query_line, kept_lines}
use Rattle.law_resume.specs.Small.{FitsContent, HasShortLines, CheckpointLinesAreShort}
use Rattle.law_resume.proofs.Widths.{HasShortEnds, IsShortColumn, stream_within, rows_within, given_within, cell_within, tuple_within}

abbrev pub IsShortLine : List ℕ → Type 0
IsShortLine line = length line ≤ 1024

abbrev pub AreShort : List (List ℕ) → Type 0
AreShort lines = AllByRecursion IsShortLine lines

both_short : (a b : List (List ℕ)) → AreShort a → AreShort b → AreShort (a ++ b)
both_short [] b h k = k
both_short (l ∷ a) b h k = (h.0, both_short a b h.1 k)

-- the lines of streams
short_ends : (d : Option (ℤ × ℤ)) → HasEnds d → HasShortEnds d
short_ends None h = tt
short_ends (Some ends) h = (h.short_low, h.short_high)

short_columns : (cs : List ColumnDef) → All (λ c. IsTrue (is_name c.name)) cs → All (λ c. HasEnds c.domain) cs → AllByRecursion IsShortColumn cs
short_columns [] names domains = tt
short_columns (c ∷ cs) names domains = (
  record { name = (name_facts c.name (All-head (λ (x : ColumnDef). IsTrue (is_name x.name)) c cs names)).short; ends = short_ends c.domain (All-head (λ (x : ColumnDef). HasEnds x.domain) c cs domains) },
  short_columns cs (All-tail (λ (x : ColumnDef). IsTrue (is_name x.name)) c cs names) (All-tail (λ (x : ColumnDef). HasEnds x.domain) c cs domains),
)

pub short_streams : (streams : List Shape) → All IsShape streams → AreShort (map stream_line streams)
short_streams [] h = tt
short_streams (s ∷ streams) h =
    let is : IsShape s = All-head IsShape s streams h in
    (stream_within s.name s.columns (name_facts s.name is.name).short is.few (short_columns s.columns is.names is.domains), short_streams streams (All-tail IsShape s streams h))

-- the lines of live queries
pub short_queries : (streams : List Shape) (qs : List LiveQuery) → All (HasShortLines streams) qs → AreShort (map (query_line streams) qs)
short_queries streams [] h = tt
short_queries streams (q ∷ qs) h = ((All-head (HasShortLines streams) q qs h).created, short_queries streams qs (All-tail (HasShortLines streams) q qs h))

-- the content of a cell
small : (n : ℕ) → n ≤ 2 ^ 40 → nat_lt n (2 ^ 63) ≡ true
small n h = grind (arith, nat_tests)

-- where there is a content it fits
abbrev pub Told : Option ℤ → Type 0
Told None = Unit {0}
Told (Some z) = IsTrue (fits_i64 z)

count_fits : (kind : Kind) (n : ℕ) → FitsKind kind (Cell.Count n) → n ≤ 2 ^ 40
count_fits Kind.Count n h = h.1
count_fits Kind.Present n h = absurd h
count_fits (Kind.Least a) n h = absurd h
count_fits (Kind.Greatest a) n h = absurd h

pub content_fits : (kind : Kind) (c : Cell) → FitsKind kind c → FitsContent c → Told (content_in c)
content_fits kind Cell.Empty h f = tt
content_fits kind (Cell.Count n) h f = small n (count_fits kind n h)
content_fits kind Cell.Present h f = small 1 (omega arith)
content_fits kind (Cell.Extreme z) h f = f

one_cell : (name : List ℕ) (i : ℕ) (o : Option ℤ) → length name ≤ 24 → i < 2 ^ 63 → Told o → AreShort (map printed_form (cell_statement name i o))
one_cell name i None short few told = tt
one_cell name i (Some z) short few told = (cell_within name i z short few told, tt)

cells_short : (name : List ℕ) (i : ℕ) (cells : List Cell) → length name ≤ 24 → i + length cells < 2 ^ 63 → AllByRecursion (λ c. Told (content_in c)) cells
    → AreShort (map printed_form (cell_statements name i cells))
unfolding cell_statements
cells_short name i [] short few told = tt
cells_short name i (c ∷ cells) short few told =
    subst AreShort (sym (map-append printed_form (cell_statement name i (content_in c)) (cell_statements name (i + 1) cells)))
    (both_short (map printed_form (cell_statement name i (content_in c))) (map printed_form (cell_statements name (i + 1) cells))
    (one_cell name i (content_in c) short (omega (arith, few)) told.0)
    (cells_short name (i + 1) cells short (omega (arith, few)) told.1))

-- the printed tuples
tuples_short : (name : List ℕ) (most : ℕ) (table : List (List ℤ)) → length name ≤ 24 → most ≤ 8 → AllByRecursion (λ t. length t ≡ most) table → All (All (λ z. IsTrue (fits_i64 z))) table
    → AreShort (map printed_form (printed_statements name true table))
tuples_short name most [] short few wide fits = tt
tuples_short name most (t ∷ table) short few wide fits =
    let one = wide.0 in (
      tuple_within name t short (omega (arith, one, few)) (recursion_from_All (λ z. IsTrue (fits_i64 z)) t (All-head (All (λ z. IsTrue (fits_i64 z))) t table fits)),
      tuples_short name most table short few wide.1 (All-tail (All (λ z. IsTrue (fits_i64 z))) t table fits),
    )

pub tuple_wide : (q : QueryValue) (plan : List PartPlan) (t : List ℤ) → Contains (all_tuples q plan) t → length t ≡ length q.select
tuple_wide q plan t c =
    let m = Has-flat_map_from _ plan t (Has-from_contains (all_tuples q plan) t c) in
    let o = Has-map_from _ _ t m.2 in
    ap length (sym o.2) ∙ length-map q.select _

pub all_wide : (q : QueryValue) (plan : List PartPlan) (table : List (List ℤ)) → All (Contains (all_tuples q plan)) table → AllByRecursion (λ t. length t ≡ length q.select) table
all_wide q plan [] h = tt
all_wide q plan (t ∷ table) h = (tuple_wide q plan t (All-head (Contains (all_tuples q plan)) t table h), all_wide q plan table (All-tail (Contains (all_tuples q plan)) t table h))

printed_short : (q : LiveQuery) (distinct : Bool) → q.query.distinct ≡ distinct → length q.name ≤ 24 → IsSoundLive q → All (All (λ z. IsTrue (fits_i64 z))) (base_in q).table
    → AreShort (map printed_form (printed_statements q.name distinct (base_in q).table))
printed_short q true d short sound fits =
    tuples_short q.name (length q.query.select) (base_in q).table short sound.limits.selected.1 (all_wide q.query (parts_of q.plan) (base_in q).table (sound.tuples d)) fits
printed_short q false d short sound fits = tt

-- the lines that tell what is kept of a live query
pub kept_short : (streams : List Shape) (q : LiveQuery) → IsSoundLive q → HasShortLines streams q → AreShort (kept_lines q)
kept_short streams q sound has =
    let short : length q.name ≤ 24 = (name_facts q.name has.name).short in
    let size = (cells_of_plan q.shared q.query q.plan (form_plans_serve q.shared q.query q.plan sound.limits sound.accepted.met sound.accepted.plan) sound.accepted.within).1 in
    let whole = sound.whole in
    let told : All (λ c. Told (content_in c)) (base_in q).cells
    = λ i d within. (let is : IsCellOf (boxes_of q) (base_in q).given i (slice_index_or (base_in q).cells i d) = sound.cells i d (omega (arith, within, whole)) in
    content_fits is.kind (slice_index_or (base_in q).cells i d) is.fits (has.cells i d within)) in
    let cells = cells_short q.name 0 (base_in q).cells short (omega (arith, size, whole)) (recursion_from_All (λ c. Told (content_in c)) (base_in q).cells told) in
    let tuples = printed_short q q.query.distinct refl short sound has.values in (
      given_within q.name (base_in q).given short has.given,
      subst AreShort (sym (map-append printed_form (cell_statements q.name 0 (base_in q).cells) (printed_statements q.name q.query.distinct (base_in q).table)))
          (both_short (map printed_form (cell_statements q.name 0 (base_in q).cells)) (map printed_form (printed_statements q.name q.query.distinct (base_in q).table)) cells tuples),
    )

all_kept_short : (streams : List Shape) (qs : List LiveQuery) → All IsSoundLive qs → All (HasShortLines streams) qs → AreShort (flat_map kept_lines qs)
all_kept_short streams [] sound has = tt
all_kept_short streams (q ∷ qs) sound has =
    both_short (kept_lines q) (flat_map kept_lines qs) (kept_short streams q (All-head IsSoundLive q qs sound) (All-head (HasShortLines streams) q qs has))
    (all_kept_short streams qs (All-tail IsSoundLive q qs sound) (All-tail (HasShortLines streams) q qs has))

pub checkpoint_lines_are_short : CheckpointLinesAreShort
checkpoint_lines_are_short s catalog few sound has =
    let a = short_streams s.streams catalog.shapes in
    let b = short_queries s.streams s.queries has in
    let c = all_kept_short s.streams s.queries sound has in
    let rows : List ℕ = printed_form (ResumeRows (pos s.taken)) in
    All-from_recursion IsShortLine _
    (both_short (map stream_line s.streams ++ map (query_line s.streams) s.queries) (rows ∷ flat_map kept_lines s.queries)
    (both_short (map stream_line s.streams) (map (query_line s.streams) s.queries) a b)
    (rows_within s.taken few, c))
