-- How many lines a checkpoint has.
use Rattle.std.proofs.Common.{◌≡◌, ℕ, suc, ◌+◌, ◌≤◌, Bool, true, false, not, ◌&&◌, List, [], ◌∷◌, ◌++◌, length, length-append, map, flat_map, refl, sym, ◌∙◌, arith, All, Option, Some, None, ℤ, pos}
use Rattle.std.specs.List.{sum_by}
use Rattle.std.proofs.lemmas.List.{length-map}
use Rattle.std.proofs.lemmas.List.Sums.{sum_by-cons}
use Rattle.sem_query.specs.declared.cell.Cell.{Cell}
use Rattle.sem_query.specs.declared.plan.Plan.{Plan}
use Rattle.sem_query.specs.declared.plan.Plan.TheVariants as plans
use Rattle.sem_query.specs.Query.{QueryValue}
use Rattle.sem_forms.specs.Forms.{IsFormPlanOf}
use Rattle.sql_parser.specs.declared.tree.Statement.TheVariants.{ResumeRows, ResumeTuple}
use Rattle.sql_printer.specs.Printed.{printed_form}
use Rattle.exec_query.specs.Executor.{most_answers}
use Rattle.exec_registry.specs.Live.{LiveQuery, base_in, plan_cells}
use Rattle.exec_registry.specs.Sound.{IsSoundLive}
use Rattle.exec_snapshot.specs.Lines.{content_in, cell_statement, cell_statements, tuple_statements, printed_statements, kept_statements}
use Rattle.cmd_session.specs.Announced.{answers_of}
use Rattle.cmd_session.specs.Checkpoint.{stream_line, query_line, kept_lines}
use Rattle.cmd_session.specs.Restoring.{CheckpointsHaveFewLines}
use Rattle.cmd_session.proofs.LinesKept.{announced_are_kept}

one_cell : (name : List ℕ) (i : ℕ) (o : Option ℤ) → length (cell_statement name i o) ≤ 1
one_cell name i None = omega arith
one_cell name i (Some v) = omega arith

-- at most one line for each cell
few_cells : (name : List ℕ) (i : ℕ) (cells : List Cell) → length (cell_statements name i cells) ≤ length cells
unfolding cell_statements
few_cells name i [] = omega arith
few_cells name i (c ∷ cells) =
    omega (arith, one_cell name i (content_in c), few_cells name (i + 1) cells, length-append (cell_statement name i (content_in c)) (cell_statements name (i + 1) cells))

-- one for each printed tuple, of which there are no more than announced
few_tuples : (name : List ℕ) (q : QueryValue) (shared : Bool) (plan : Plan) (tuples : List (List ℤ)) → IsFormPlanOf shared q plan → (q.distinct ≡ true → length tuples ≤ most_answers plan)
    → length (printed_statements name q.distinct tuples) ≤ answers_of plan
few_tuples name q shared plan tuples is few = by q.distinct refl
  where
    told : length (tuple_statements name tuples) ≡ length tuples
    told = length-map tuples (λ (t : List ℤ). ResumeTuple name (record { items = t }))

    none : (d : Bool) (one : Bool) → (not d && one) ≡ true → d ≡ true → ⊥
    none true one e f = cc
    none false one e f = cc

    rest : (p : Plan) → IsFormPlanOf shared q p → q.distinct ≡ true → length tuples ≤ most_answers p → length (tuple_statements name tuples) ≤ answers_of p
    rest plans.Filter f d n = absurd (none q.distinct _ f d)
    rest (plans.Parts parts numbers) f d n = omega (arith, told, n)

    by : (d : Bool) → q.distinct ≡ d → length (printed_statements name d tuples) ≤ answers_of plan
    by true e = rest plan is e (few e)
    by false e = omega arith

one_query : (q : LiveQuery) → IsSoundLive q → length (kept_lines q) ≤ 1 + plan_cells q.plan + answers_of q.plan
one_query q sound =
    let cells = cell_statements q.name 0 (base_in q).cells in
    let tuples = printed_statements q.name q.query.distinct (base_in q).table in
    let size = sound.whole ∙ sym (announced_are_kept q.shared q.query q.plan sound.accepted.plan) in
    omega
    (arith, size, few_cells q.name 0 (base_in q).cells, few_tuples q.name q.query q.shared q.plan (base_in q).table sound.accepted.plan sound.few, length-append cells tuples, length-map (kept_statements q.name q.query.distinct (base_in q)) printed_form)

all_queries : (queries : List LiveQuery) → All IsSoundLive queries
    → length (flat_map kept_lines queries) ≤ length queries + sum_by (λ (q : LiveQuery). plan_cells q.plan) queries + sum_by (λ (q : LiveQuery). answers_of q.plan) queries
all_queries [] all = omega arith
all_queries (q ∷ queries) all =
    omega (
      arith,
      one_query q (all 0 q (omega arith)),
      all_queries queries (λ i d less. all (suc i) d (omega (arith, less))),
      length-append (kept_lines q) (flat_map kept_lines queries),
      sum_by-cons (λ (x : LiveQuery). plan_cells x.plan) q queries,
      sum_by-cons (λ (x : LiveQuery). answers_of x.plan) q queries,
    )

pub few_lines : CheckpointsHaveFewLines
few_lines s streams queries sound =
    let created = map stream_line s.streams in
    let asked = map (query_line s.streams) s.queries in
    let kept = flat_map kept_lines s.queries in
    omega (arith, streams, queries, all_queries s.queries sound, length-append (created ++ asked) (printed_form (ResumeRows (pos s.taken)) ∷ kept), length-append created asked, length-map s.streams stream_line, length-map s.queries (query_line s.streams))
