-- Over a run of rows: all that waited.
use Rattle.std.proofs.Common.{◌≡◌, ◌+◌, List, [], ◌∷◌, ◌++◌, refl, sym, ap, ◌∙◌, ℤ}
use Rattle.sem_query.specs.Query.{QueryValue}
use Rattle.sem_query.specs.Meaning.{Arrival, new_answers}
use Rattle.sem_query.specs.Tuples.{is_same}
use Rattle.sem_laws.specs.Growth.{occurs, answered}
use Rattle.sem_laws.proofs.Sums.{bit, sums_append}
use Rattle.sem_laws.proofs.Interleaving.{occurs-is, any-interleaving}
use Rattle.exec_pool.specs.Extents.{PoolValue}
use Rattle.exec_query.specs.Executor.{ExecutorValue, waiting_in}
use Rattle.exec_query.specs.Standing.{StandsFor}
use Rattle.exec_query.specs.Runs.{Run, ended, took, between, RunsAnswerAll, RunsAgree}

occurs-append : (t : List ℤ) (xs ys : List (List ℤ)) → occurs t (xs ++ ys) ≡ occurs t xs + occurs t ys
occurs-append t xs ys =
    occurs-is t (xs ++ ys) ∙ sums_append (λ u. bit (is_same t u)) xs ys ∙ (λ j. sym (occurs-is t xs) j + sym (occurs-is t ys) j)

-- what waits along the rows that follow a history is what is answered along them
along : (q : QueryValue) (t : List ℤ) (e : ExecutorValue) (pool : PoolValue) (rows : List Arrival) (waited : List (List ℤ)) (history : List Arrival) → e.query ≡ q
    → StandsFor e pool history → Run e pool rows waited → occurs t waited ≡ answered q t history rows
along q t e pool rows waited history is stands ended = refl
along q t e pool rows waited history is stands (took r after later step same run) =
    let s = step history stands in
    let w : waiting_in after ≡ new_answers q history r = s.0 ∙ ap (λ (p : QueryValue). new_answers p history r) is in
    let rest = along q t after later _ _ (history ++ r ∷ []) (same ∙ is) s.1 run in
    occurs-append t (waiting_in after) _ ∙ (λ j. occurs t (w j) + rest j)
along q t e pool rows waited history is stands (between other later step same run) =
    along q t other later rows waited history (same ∙ is) (step history stands) run

pub runs-answer-all : RunsAnswerAll
runs-answer-all e pool rows waited within stands run t =
    along e.query t e pool rows waited [] refl stands run ∙ (any-interleaving e.query within).0 rows t

pub runs-agree : RunsAgree
runs-agree e f pool other g h waited others within same stands stands' run run' reorders t =
    along e.query t e pool g waited [] refl stands run
    ∙ (any-interleaving e.query within).1 g h reorders t
    ∙ sym (along e.query t f other h others [] same stands' run')
