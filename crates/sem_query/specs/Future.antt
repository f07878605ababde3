-- Future answers: what cells and table alone tell of the answers to the next row.
use Rattle.std.specs.Prelude.{List, [], ℤ, if◌then◌else◌, ◌==◌, replicate}
use Rattle.std.specs.List.{flat_map, list_any}
use Rattle.std.specs.Option.{option_to_list}
use Rattle.sem_query.specs.declared.plan.PartPlan.{PartPlan}
use Rattle.sem_query.specs.Query.{QueryValue, is_filter}
use Rattle.sem_query.specs.Tuples.{sorted, new_tuples}
use Rattle.sem_query.specs.Meaning.{Arrival}
use Rattle.sem_query.specs.Filter.{filter_tuple}
use Rattle.sem_query.specs.Combinations.{Reading, Found, found_in}

-- the tuples that are found, each as often as it is answered
abbrev pub spelled_out : List Found → List (List ℤ)
spelled_out = flat_map (λ f. replicate f.count f.tuple)

-- what all parts answer to a row
abbrev pub waiting : QueryValue → List PartPlan → Reading → Arrival → List (List ℤ)
waiting q plan read r = flat_map (λ part. spelled_out (found_in q part read r)) plan

-- the answers to the next row, from cells and table: a filter's own tuple, else what waits; with DISTINCT what is not in the table, once
unfoldable pub future : QueryValue → List PartPlan → Reading → List (List ℤ) → Arrival → List (List ℤ)
future q plan read table r =
    if is_filter q then option_to_list (filter_tuple q r)
    else (if list_any (λ stream. r.stream == stream) q.from
    then (if q.distinct then sorted (new_tuples table (waiting q plan read r)) else sorted (waiting q plan read r))
    else [])
