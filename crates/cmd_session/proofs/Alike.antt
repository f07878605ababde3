-- States that keep the same.
use Rattle.std.proofs.Common.{◌≡◌, ℕ, suc, pos, Bool, List, [], ◌∷◌, ◌++◌, map, flat_map, refl, sym, ap, ◌∙◌, subst, arith, All}
use Rattle.sem_query.specs.declared.plan.Plan.{Plan}
use Rattle.sem_query.specs.Query.{QueryValue}
use Rattle.sem_query.specs.Domains.{RowsKeep}
use Rattle.sem_query.specs.Numbers.{parts_of}
use Rattle.sem_query.specs.Sharing.{kept_boxes, sizes_in}
use Rattle.sem_query.specs.Bases.{Base}
use Rattle.sql_catalog.specs.Streams.{Shape}
use Rattle.sql_parser.specs.declared.tree.Statement.TheVariants.{ResumeRows}
use Rattle.sql_printer.specs.Printed.{printed_form}
use Rattle.exec_pool.specs.Extents.{PoolValue}
use Rattle.exec_query.specs.Executor.{ExecutorValue}
use Rattle.exec_registry.specs.Live.{Live, LiveQuery, base_in}
use Rattle.exec_registry.specs.Registry.{IsLiveFor, AreLiveFor}
use Rattle.exec_registry.specs.Sound.{IsSoundLive}
use Rattle.exec_snapshot.specs.Lines.{kept_statements}
use Rattle.cmd_session.specs.Checkpoint.{stream_line, create_again, query_line, kept_lines}
use Rattle.cmd_session.specs.Restoring.{IsAlike, AreAllAlike, AlikeStatesHaveOneCheckpoint, StandsAlike}
use Rattle.cmd_session.proofs.LinesKept.{kept_as, kept_same, first_of, others_of}
use Rattle.cmd_session.proofs.Loading.{one_more}

-- the lines of live queries that are alike
one_line_alike : (streams : List Shape) (q r : LiveQuery) → IsAlike q r → query_line streams q ≡ query_line streams r
one_line_alike streams q r a =
    ap (λ n. create_again streams n q.query q.shared) a.name
    ∙ ap (λ (x : QueryValue). create_again streams r.name x q.shared) a.query
    ∙ ap (create_again streams r.name r.query) a.shared

kept_lines_alike : (q r : LiveQuery) → IsAlike q r → kept_lines q ≡ kept_lines r
kept_lines_alike q r a =
    ap (λ (n : List ℕ). map printed_form (kept_statements n q.query.distinct (base_in q))) a.name
    ∙ ap (λ (x : QueryValue). map printed_form (kept_statements r.name x.distinct (base_in q))) a.query
    ∙ ap (λ (b : Base). map printed_form (kept_statements r.name r.query.distinct b)) a.kept

all_lines_alike : (streams : List Shape) (queries others : List LiveQuery) → AreAllAlike queries others → map (query_line streams) queries ≡ map (query_line streams) others
all_lines_alike streams [] [] a = refl
all_lines_alike streams [] (r ∷ others) a = absurd a
all_lines_alike streams (q ∷ queries) [] a = absurd a
all_lines_alike streams (q ∷ queries) (r ∷ others) a =
    ap (λ line. line ∷ map (query_line streams) queries) (one_line_alike streams q r a.0) ∙ ap (λ ls. query_line streams r ∷ ls) (all_lines_alike streams queries others a.1)

all_kept_alike : (queries others : List LiveQuery) → AreAllAlike queries others → flat_map kept_lines queries ≡ flat_map kept_lines others
all_kept_alike [] [] a = refl
all_kept_alike [] (r ∷ others) a = absurd a
all_kept_alike (q ∷ queries) [] a = absurd a
all_kept_alike (q ∷ queries) (r ∷ others) a =
    ap (λ ls. ls ++ flat_map kept_lines queries) (kept_lines_alike q r a.0) ∙ ap (λ ls. kept_lines r ++ ls) (all_kept_alike queries others a.1)

pub one_checkpoint : AlikeStatesHaveOneCheckpoint
one_checkpoint s t a =
    let made : List Shape → List (List ℕ) → ℕ → List (List ℕ) → List (List ℕ) = λ streams queries taken lines. map stream_line streams ++ queries ++ printed_form (ResumeRows (pos taken)) ∷ lines in
    ap (λ lines. made s.streams (map (query_line s.streams) s.queries) s.taken lines) (all_kept_alike s.queries t.queries a.queries)
    ∙ ap (λ (created : List (List ℕ)). made s.streams created s.taken (flat_map kept_lines t.queries)) (all_lines_alike s.streams s.queries t.queries a.queries)
    ∙ ap (λ (streams : List Shape). made streams (map (query_line streams) t.queries) s.taken (flat_map kept_lines t.queries)) a.streams
    ∙ ap (λ taken. made t.streams (map (query_line t.streams) t.queries) taken (flat_map kept_lines t.queries)) a.taken

-- what is kept of a live query stands for each one that is alike
one_stands_alike : (pool : PoolValue) (l : Live) (q r : LiveQuery) → IsLiveFor pool l q → IsAlike q r → IsSoundLive r → IsLiveFor pool l r
one_stands_alike pool l q r is a sound =
    let e : ExecutorValue = l.executor in
    let query : e.query ≡ r.query = is.query ∙ a.query in
    let shared : e.shared ≡ r.shared = is.shared ∙ a.shared in
    let plan : e.plan ≡ r.plan = is.plan ∙ a.plan in
    let boxes : Bool → QueryValue → Plan → ℕ = λ b x p. sizes_in (kept_boxes b x (parts_of p)) in
    let size : boxes r.shared r.query r.plan ≡ boxes e.shared e.query e.plan
    = sym (ap (λ b. boxes b e.query e.plan) shared ∙ ap (λ x. boxes r.shared x e.plan) query ∙ ap (boxes r.shared r.query) plan) in
    let kept = kept_same pool l q is ∙ a.kept ∙ sym (kept_as e r query shared plan) in
    record {
      name = is.name ∙ a.name;
      query = query;
      shared = shared;
      plan = plan;
      stands = record {
        live = is.stands.live;
        size = sound.size ∙ size;
        cells = is.stands.cells ∙ ap (λ (b : Base). b.cells) kept;
        rest = is.stands.rest;
        given = is.stands.given ∙ ap (λ (b : Base). b.given) kept;
        rows = subst (λ (x : QueryValue). RowsKeep x r.history) (sym query) sound.rows;
        tuples = λ d. is.stands.tuples d ∙ ap (λ (b : Base). b.table) kept;
      };
    }

all_stand_alike : (pool : PoolValue) (live : List Live) (queries others : List LiveQuery) → AreLiveFor pool live queries → AreAllAlike queries others → All IsSoundLive others → AreLiveFor pool live others
all_stand_alike pool live [] [] all a sound = all
all_stand_alike pool live [] (r ∷ others) all a sound = absurd a
all_stand_alike pool live (q ∷ queries) [] all a sound = absurd a
all_stand_alike pool [] (q ∷ queries) (r ∷ others) all a sound = absurd (omega (arith, all.size))
all_stand_alike pool (l ∷ live) (q ∷ queries) (r ∷ others) all a sound =
    one_more pool l live r others (one_stands_alike pool l q r (first_of pool l live q queries all) a.0 (sound 0 r (omega arith)))
    (all_stand_alike pool live queries others (others_of pool l live q queries all) a.1 (λ i d less. sound (suc i) d (omega (arith, less))))

pub stands_alike : StandsAlike
stands_alike k s t h a sound = record {
  limit = h.limit ∙ a.limit;
  streams = h.streams ∙ a.streams;
  queries = all_stand_alike k.registry.pool k.registry.live s.queries t.queries h.queries a.queries sound;
  quiet = h.quiet;
  taken = h.taken ∙ a.taken;
  lines = h.lines;
  began = h.began;
  lock = h.lock ∙ a.lock;
  pages = h.pages ∙ a.pages;
}
