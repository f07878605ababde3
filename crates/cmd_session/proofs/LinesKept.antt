-- The lines that tell what is kept are those of the states that it stands for.
use Rattle.std.proofs.Common.{◌≡◌, ℕ, ◌+◌, ◌<◌, ◌≤◌, take, suc, pos, Bool, true, false, List, [], ◌∷◌, ◌++◌, length, map, flat_map, slice_index_or, refl, sym, ap, ◌∙◌, arith}
use Rattle.std.specs.List.{sum_by}
use Rattle.std.proofs.lemmas.List.Sums.{sum_by_more, sum_by-take-le}
use Rattle.sem_query.specs.declared.cell.Cell.{Cell}
use Rattle.sem_query.specs.declared.plan.Plan.{Plan}
use Rattle.sem_query.specs.Query.{QueryValue}
use Rattle.sem_query.specs.Numbers.{parts_of}
use Rattle.sem_query.specs.Sharing.{kept_boxes, sizes_in}
use Rattle.sem_forms.specs.Forms.{IsFormPlanOf}
use Rattle.sem_query.specs.declared.plan.Plan.TheVariants as plans
use Rattle.sem_query.specs.Bases.{Base, kept}
use Rattle.sql_catalog.specs.Streams.{Shape}
use Rattle.sql_parser.specs.declared.tree.Statement.{Statement}
use Rattle.sql_parser.specs.declared.tree.Statement.TheVariants.{ResumeGiven, ResumeRows}
use Rattle.sql_printer.specs.Printed.{printed_form}
use Rattle.exec_pool.specs.Extents.{PoolValue}
use Rattle.exec_query.specs.Executor.{ExecutorValue, list_in}
use Rattle.exec_query.specs.Bases.{kept_in}
use Rattle.exec_registry.specs.Live.{Live, LiveQuery, base_in, plan_cells}
use Rattle.exec_registry.specs.Registry.{RegistryValue, IsLiveFor, AreLiveFor, most_cells}
use Rattle.exec_snapshot.specs.Lines.{cell_statements, printed_statements, kept_statements, text_of_lines}
use Rattle.exec_snapshot.proofs.KeptCells.{cells_announced, no_cells}
use Rattle.exec_snapshot.proofs.LineTexts.{lines_append, each_line, each_lines, wrote_more, broke_at}
use Rattle.io_streams.specs.Sink.{SinkState, Wrote, BrokeOff}
use Rattle.cmd_session.specs.Checkpoint.{stream_line, create_again, query_line, kept_lines, checkpoint_lines}
use Rattle.cmd_session.specs.State.{State}
use Rattle.cmd_session.specs.Session.{SessionValue, StandsFor}
use Rattle.cmd_session.specs.CheckpointLines.{kept_of, live_line, live_lines, lines_kept}

-- what is kept of a live query is what its base and the rows since come to
pub kept_as : (e : ExecutorValue) (q : LiveQuery) → e.query ≡ q.query → e.shared ≡ q.shared → e.plan ≡ q.plan → kept_in e q.base q.history ≡ base_in q
kept_as e q query shared plan =
    let made : Bool → QueryValue → Plan → Base = λ b x p. kept x (parts_of p) (kept_boxes b x (parts_of p)) q.base q.history in
    ap (λ b. made b e.query e.plan) shared ∙ ap (λ x. made q.shared x e.plan) query ∙ ap (made q.shared q.query) plan

pub kept_same : (pool : PoolValue) (l : Live) (q : LiveQuery) → IsLiveFor pool l q → kept_in l.executor q.base q.history ≡ base_in q
kept_same pool l q is = kept_as l.executor q is.query is.shared is.plan

same_printed : (name : List ℕ) (distinct : Bool) (a b : Base) → (distinct ≡ true → a.table ≡ b.table) → printed_statements name distinct a.table ≡ printed_statements name distinct b.table
same_printed name true a b e = ap (printed_statements name true) (e refl)
same_printed name false a b e = refl

-- bases are told alike that have the same cells, number of rows and with DISTINCT tuples
pub told_alike : (name : List ℕ) (distinct : Bool) (a b : Base) → a.cells ≡ b.cells → a.given ≡ b.given → (distinct ≡ true → a.table ≡ b.table)
    → kept_statements name distinct a ≡ kept_statements name distinct b
told_alike name distinct a b cells given table =
    let made : List Cell → ℕ → List Statement → List Statement = λ cs n tuples. ResumeGiven name (pos n) ∷ (cell_statements name 0 cs ++ tuples) in
    ap (λ cs. made cs a.given (printed_statements name distinct a.table)) cells
    ∙ ap (λ n. made b.cells n (printed_statements name distinct a.table)) given
    ∙ ap (made b.cells b.given) (same_printed name distinct a b table)

-- the lines of one live query
pub one_kept : (pool : PoolValue) (l : Live) (q : LiveQuery) → IsLiveFor pool l q → live_lines pool l ≡ kept_lines q
one_kept pool l q is =
    let same = kept_same pool l q is in
    let told = told_alike l.name l.executor.query.distinct (kept_of pool l) (base_in q)
    (is.stands.cells ∙ ap (λ (b : Base). b.cells) same)
    (is.stands.given ∙ ap (λ (b : Base). b.given) same)
    (λ d. is.stands.tuples d ∙ ap (λ (b : Base). b.table) same) in
    ap (map printed_form) told
    ∙ ap (λ (name : List ℕ). map printed_form (kept_statements name l.executor.query.distinct (base_in q))) is.name
    ∙ ap (λ (query : QueryValue). map printed_form (kept_statements q.name query.distinct (base_in q))) is.query

one_created : (streams : List Shape) (pool : PoolValue) (l : Live) (q : LiveQuery) → IsLiveFor pool l q → live_line streams l ≡ query_line streams q
one_created streams pool l q is =
    ap (λ n. create_again streams n l.executor.query l.executor.shared) is.name
    ∙ ap (λ (x : QueryValue). create_again streams q.name x l.executor.shared) is.query
    ∙ ap (create_again streams q.name q.query) is.shared

-- the first of them, and the others
pub first_of : (pool : PoolValue) (l : Live) (live : List Live) (q : LiveQuery) (queries : List LiveQuery) → AreLiveFor pool (l ∷ live) (q ∷ queries) → IsLiveFor pool l q
first_of pool l live q queries all = all.each 0 l q (omega arith)

pub others_of : (pool : PoolValue) (l : Live) (live : List Live) (q : LiveQuery) (queries : List LiveQuery) → AreLiveFor pool (l ∷ live) (q ∷ queries) → AreLiveFor pool live queries
others_of pool l live q queries all = record { size = omega (arith, all.size); each = λ i c d a. all.each (suc i) c d (omega arith) }

all_created : (streams : List Shape) (pool : PoolValue) (live : List Live) (queries : List LiveQuery) → AreLiveFor pool live queries → map (live_line streams) live ≡ map (query_line streams) queries
all_created streams pool [] [] all = refl
all_created streams pool [] (q ∷ queries) all = absurd (omega (arith, all.size))
all_created streams pool (l ∷ live) [] all = absurd (omega (arith, all.size))
all_created streams pool (l ∷ live) (q ∷ queries) all =
    ap (λ line. line ∷ map (live_line streams) live) (one_created streams pool l q (first_of pool l live q queries all))
    ∙ ap (λ ls. query_line streams q ∷ ls) (all_created streams pool live queries (others_of pool l live q queries all))

all_kept : (pool : PoolValue) (live : List Live) (queries : List LiveQuery) → AreLiveFor pool live queries → flat_map (live_lines pool) live ≡ flat_map kept_lines queries
all_kept pool [] [] all = refl
all_kept pool [] (q ∷ queries) all = absurd (omega (arith, all.size))
all_kept pool (l ∷ live) [] all = absurd (omega (arith, all.size))
all_kept pool (l ∷ live) (q ∷ queries) all =
    ap (λ ls. ls ++ flat_map (live_lines pool) live) (one_kept pool l q (first_of pool l live q queries all))
    ∙ ap (λ ls. kept_lines q ++ ls) (all_kept pool live queries (others_of pool l live q queries all))

-- the lines of all that is kept
pub lines_are : (k : SessionValue) (s : State) → StandsFor k s → lines_kept k.streams k.registry k.taken ≡ checkpoint_lines s
lines_are k s h =
    let live = k.registry.live in
    let pool = k.registry.pool in
    let made : List Shape → List (List ℕ) → ℕ → List (List ℕ) → List (List ℕ) = λ streams queries taken lines. map stream_line streams ++ queries ++ printed_form (ResumeRows (pos taken)) ∷ lines in
    ap (λ lines. made k.streams (map (live_line k.streams) live) k.taken lines) (all_kept pool live s.queries h.queries)
    ∙ ap (λ (created : List (List ℕ)). made k.streams created k.taken (flat_map kept_lines s.queries)) (all_created k.streams pool live s.queries h.queries)
    ∙ ap (λ (streams : List Shape). made streams (map (query_line streams) s.queries) k.taken (flat_map kept_lines s.queries)) h.streams
    ∙ ap (λ taken. made s.streams (map (query_line s.streams) s.queries) taken (flat_map kept_lines s.queries)) h.taken

-- the text of these lines, piece by piece
pub text_is : (a b : List (List ℕ)) (line : List ℕ) (c : List (List ℕ)) → text_of_lines (a ++ b ++ line ∷ c) ≡ (text_of_lines a ++ text_of_lines b) ++ ((line ++ 10 ∷ []) ++ text_of_lines c)
text_is a b line c = lines_append (a ++ b) (line ∷ c) ∙ ap (λ t. t ++ text_of_lines (line ∷ c)) (lines_append a b)

-- a plan announces the cells that are kept
pub announced_are_kept : (shared : Bool) (q : QueryValue) (p : Plan) → IsFormPlanOf shared q p → plan_cells p ≡ sizes_in (kept_boxes shared q (parts_of p))
announced_are_kept shared q plans.Filter is = sym (no_cells shared q)
announced_are_kept shared q (plans.Parts parts numbers) is = cells_announced shared q parts numbers is.2

pub kept_announced : (live : List Live) (place : ℕ) (d : Live) (e : ExecutorValue) (p : Plan) → list_in e ≡ list_in (slice_index_or live place d).executor → p ≡ (slice_index_or live place d).executor.plan
    → IsFormPlanOf (slice_index_or live place d).executor.shared (slice_index_or live place d).executor.query p → sizes_in (list_in e) ≡ plan_cells (slice_index_or live place d).executor.plan
kept_announced live place d e p same its is =
    let x = (slice_index_or live place d).executor in
    ap sizes_in same
    ∙ ap (λ (plan : Plan). sizes_in (kept_boxes x.shared x.query (parts_of plan))) (sym its)
    ∙ sym (announced_are_kept x.shared x.query p is)
    ∙ ap plan_cells its

pub kept_text : (streams : List Shape) (r : RegistryValue) (taken : ℕ) → text_of_lines (lines_kept streams r taken)
    ≡ (flat_map (λ (x : Shape). stream_line x ++ 10 ∷ []) streams ++ flat_map (λ (l : Live). live_line streams l ++ 10 ∷ []) r.live)
    ++ ((printed_form (ResumeRows (pos taken)) ++ 10 ∷ []) ++ flat_map (λ (l : Live). text_of_lines (live_lines r.pool l)) r.live)
kept_text streams r taken =
    let rows : List ℕ = printed_form (ResumeRows (pos taken)) ++ 10 ∷ [] in
    let created : List ℕ = flat_map (λ (x : Shape). stream_line x ++ 10 ∷ []) streams in
    let asked : List ℕ = flat_map (λ (l : Live). live_line streams l ++ 10 ∷ []) r.live in
    text_is (map stream_line streams) (map (live_line streams) r.live) (printed_form (ResumeRows (pos taken))) (flat_map (live_lines r.pool) r.live)
    ∙ ap (λ (t : List ℕ). (t ++ text_of_lines (map (live_line streams) r.live)) ++ (rows ++ text_of_lines (flat_map (live_lines r.pool) r.live))) (each_line stream_line streams)
    ∙ ap (λ (t : List ℕ). (created ++ t) ++ (rows ++ text_of_lines (flat_map (live_lines r.pool) r.live))) (each_line (live_line streams) r.live)
    ∙ ap (λ (t : List ℕ). (created ++ asked) ++ (rows ++ t)) (each_lines (live_lines r.pool) r.live)

-- the text of the item at a place was written, or broke off, whatever stands for a place outside
pub wrote_place : {X : Type 0} (f : X → List ℕ) (xs : List X) (i : ℕ) (a b c : SinkState) → i < length xs → Wrote a b (flat_map f (take i xs)) → ((d : X) → Wrote b c (f (slice_index_or xs i d)))
    → Wrote a c (flat_map f (take (i + 1) xs))
wrote_place f [] i a b c lt p q = absurd (omega (arith, lt))
wrote_place f (x ∷ xs) i a b c lt p q = wrote_more f (x ∷ xs) i x a b c lt p (q x)

pub broke_place : {X : Type 0} (f : X → List ℕ) (xs : List X) (i : ℕ) (a b c : SinkState) → i < length xs → Wrote a b (flat_map f (take i xs)) → ((d : X) → BrokeOff b c (f (slice_index_or xs i d)))
    → BrokeOff a c (flat_map f xs)
broke_place f [] i a b c lt p q = absurd (omega (arith, lt))
broke_place f (x ∷ xs) i a b c lt p q = broke_at f (x ∷ xs) i x a b c lt p (q x)

-- and no more cells were read than are announced
pub read_place : (live : List Live) (i new old : ℕ) (begin : ℕ) → i < length live → old ≤ begin + sum_by (λ (l : Live). plan_cells l.executor.plan) (take i live)
    → ((d : Live) → new ≤ old + plan_cells (slice_index_or live i d).executor.plan) → new ≤ begin + sum_by (λ (l : Live). plan_cells l.executor.plan) (take (i + 1) live)
read_place [] i new old begin lt p q = absurd (omega (arith, lt))
read_place (l ∷ live) i new old begin lt p q = (let e = sum_by_more (λ (x : Live). plan_cells x.executor.plan) (l ∷ live) i l lt in omega (arith, e, p, q l))

pub read_front : (live : List Live) (i new begin : ℕ) → i < length live → new ≤ begin + sum_by (λ (l : Live). plan_cells l.executor.plan) (take (i + 1) live) → new ≤ begin + most_cells live
read_front live i new begin lt p = (let e = sum_by-take-le (λ (x : Live). plan_cells x.executor.plan) live (i + 1) in omega (arith, e, p))
