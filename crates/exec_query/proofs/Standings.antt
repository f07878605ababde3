-- An executor that stands for a history is ready for one row more.
use Rattle.std.proofs.Common.{◌≡◌, ℕ, suc, ◌<◌, ◌≤◌, ◌^◌, ◌==◌, cond, Bool, true, false, ℤ, List, [], ◌∷◌, filter, length, sym, ap, ◌∙◌, subst, arith, slice_index_or, Contains}
use Rattle.std.proofs.lemmas.List.{length-map}
use Rattle.std.proofs.lemmas.List.Elements.{All-contains}
use Rattle.sem_query.specs.declared.plan.Kind.{Kind}
use Rattle.sem_query.specs.declared.plan.PartPlan.{PartPlan}
use Rattle.sem_query.specs.declared.plan.Plan.{Plan}
use Rattle.sem_query.specs.declared.plan.Plan.TheVariants as plan
use Rattle.sem_query.specs.Query.{QueryValue}
use Rattle.sem_query.specs.Meaning.{Arrival, rows}
use Rattle.sem_query.specs.Plan.{stream_at}
use Rattle.sem_query.specs.Serving.{KeepsStreams}
use Rattle.sem_query.specs.Cells.{content, cell_of, rows_of_cell, FitsKind}
use Rattle.sem_query.specs.Combinations.{read_from}
use Rattle.sem_query.specs.Numbers.{parts_of}
use Rattle.sem_query.specs.Sharing.{kept_boxes, synopsis_in}
use Rattle.sem_query.proofs.Has.{Has-from_contains}
use Rattle.sem_laws.proofs.Fitting.{cells-fit}
use Rattle.sem_laws.proofs.BoxReadings.{boxes-are-read}
use Rattle.sem_laws.proofs.PlanBoxes.{plans-have-boxes}
use Rattle.sem_laws.proofs.Walking.{serving-keep}
use Rattle.sem_query.specs.declared.cell.Cell.{Cell}
use Rattle.sem_laws.specs.Sharing.{AreBoxesOf}
use Rattle.sem_laws.specs.Closed.{IsClosed}
use Rattle.sem_laws.proofs.ClosedTables.{tables-stay-closed}
use Rattle.exec_query.proofs.PlanFacts.{serving_in, boxes_of_plan}
use Rattle.exec_query.proofs.Closing.{distinct-plan, known-closed}
use Rattle.exec_pool.specs.Extents.{PoolValue}
use Rattle.sem_forms.specs.Forms.{IsServingForm}
use Rattle.exec_query.specs.Executor.{ExecutorValue, parts_in, list_in, cells_in, tuples_in, IsSound}
use Rattle.exec_query.specs.Standing.{StandsFor, CountsUpto, AreKept}
use Rattle.exec_query.specs.Runs.{StandingIsReady}

fewer : {X : Type 0} (t : X → Bool) (xs : List X) → length (filter t xs) ≤ length xs
fewer t [] = omega arith
fewer t (x ∷ xs) = by (t x) (fewer t xs)
  where
    by : (b : Bool) → length (filter t xs) ≤ length xs → length (cond b (x ∷ filter t xs) (filter t xs)) ≤ suc (length xs)
    by true h = omega (arith, h)
    by false h = omega (arith, h)

content-counts : (kind : Kind) (xs : List (List ℤ)) (n : ℕ) → length xs ≤ n → CountsUpto n (content kind xs)
content-counts Kind.Count [] n l = tt
content-counts Kind.Count (x ∷ xs) n l = l
content-counts Kind.Present [] n l = tt
content-counts Kind.Present (x ∷ xs) n l = tt
content-counts (Kind.Least a) [] n l = tt
content-counts (Kind.Least a) (x ∷ xs) n l = tt
content-counts (Kind.Greatest a) [] n l = tt
content-counts (Kind.Greatest a) (x ∷ xs) n l = tt

-- a cell counts at most the rows of the history
cell-counts : (q : QueryValue) (part : PartPlan) (history : List Arrival) (place i : ℕ) → CountsUpto (length history) (cell_of q history part place i)
cell-counts q part history place i =
    let stream : ℕ = slice_index_or q.from place 0 in
    let some : List Arrival = filter (λ r. r.stream == stream) history in
    let a : length some ≤ length history = fewer (λ r. r.stream == stream) history in
    let b : length (rows history stream) ≡ length some = length-map some (λ r. r.values) in
    let c : length (rows_of_cell q part place i (rows history stream)) ≤ length (rows history stream) = fewer _ (rows history stream) in
    content-counts (stream_at part place).kind (rows_of_cell q part place i (rows history stream)) (length history) (omega (arith, a, b, c))

module _ (e : ExecutorValue) (pool : PoolValue) (history : List Arrival) (sound : IsSound e) (stands : StandsFor e pool history) where
  -- what stands in a box
  cell_is : (part : PartPlan) → Contains (parts_in e) part → (place i : ℕ) → place < length part.streams.items → i < (stream_at part place).size
      → read_from (cells_in e pool) part place i ≡ cell_of e.query history part place i
  cell_is part c place i l s = ap (λ cs. read_from cs part place i) stands.cells ∙ by e.plan (serving_in e sound) c
    where
      by : (p : Plan) → IsServingForm e.shared e.query p → Contains (parts_of p) part
          → read_from (synopsis_in e.query (kept_boxes e.shared e.query (parts_of p)) history) part place i ≡ cell_of e.query history part place i
      by plan.Filter is c = elim (Has-from_contains [] part c) [ ]
      by (plan.Parts list numbers) is c =
          let keeps = serving-keep e.query list is.1.serves in
          let own = All-contains (KeepsStreams e.query) list part keeps c in
          boxes-are-read e.query list keeps (kept_boxes e.shared e.query list) (plans-have-boxes e.shared e.query list is.2) history part c place i (let n = own.count in omega (arith, n, l)) s

  boxes-are : AreBoxesOf e.query (parts_in e) (list_in e)
  boxes-are = boxes_of_plan e.shared e.query e.plan (serving_in e sound)

  kept : length history < 2 ^ 40 → AreKept e pool
  kept few = record {
    live = stands.live;
    fitting =
        λ part c place i l s.
        subst (FitsKind (stream_at part place).kind) (sym (cell_is part c place i l s)) (cells-fit e.query part history place i (omega (arith, few)));
    counts =
        λ part c place i l s.
        subst (CountsUpto e.given) (sym (cell_is part c place i l s))
        (subst (λ (n : ℕ). CountsUpto n (cell_of e.query history part place i)) (sym stands.given) (cell-counts e.query part history place i));
    saturated =
        λ d.
        (let closed = (tables-stay-closed e.query (parts_in e) (distinct-plan e sound d) (list_in e) boxes-are).histories history stands.rows in
        known-closed e.saturation e.query (parts_in e) (read_from (cells_in e pool)) (tuples_in e)
        (subst (λ (cs : List Cell). IsClosed e.query (parts_in e) (read_from cs) (tuples_in e)) (sym stands.cells)
        (subst (λ (ts : List (List ℤ)). IsClosed e.query (parts_in e) (read_from (synopsis_in e.query (list_in e) history)) ts) (sym (stands.tuples d)) closed)));
  }

pub standing-is-ready : StandingIsReady
standing-is-ready e pool history sound stands few = record {
  kept = kept e pool history sound stands few;
  few = (let g = stands.given in omega (arith, g, few));
}
