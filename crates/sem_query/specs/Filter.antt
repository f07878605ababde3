-- A filter answers a row by that row alone.
use Rattle.std.specs.Prelude.{◌≡◌, [], ◌∷◌, List, ℤ, if◌then◌else◌, ◌==◌, ◌&&◌, IsTrue}
use Rattle.std.specs.List.{slice_index_or}
use Rattle.std.specs.Option.{option_to_list}
use Rattle.std.specs.declared.option.Option.{Option}
use Rattle.std.specs.declared.option.Option.TheVariants.{None, Some}
use Rattle.sem_query.specs.Query.{QueryValue, is_filter}
use Rattle.sem_query.specs.Assignment.{holds, projected}
use Rattle.sem_query.specs.Meaning.{Arrival, assignment_of, new_answers}

-- the answer of a query over one stream to a row: its own tuple, where the row is of that stream and the condition holds
abbrev pub filter_tuple : QueryValue → Arrival → Option (List ℤ)
filter_tuple q r =
    if (r.stream == slice_index_or q.from 0 0) && holds q (assignment_of (r.values ∷ []))
    then Some (projected q (assignment_of (r.values ∷ [])))
    else None

-- a filter answers a row by that row alone, whatever the history
abbrev pub FiltersAlone : Type 0
FiltersAlone = (q : QueryValue) (history : List Arrival) (r : Arrival) → IsTrue (is_filter q) → new_answers q history r ≡ option_to_list (filter_tuple q r)
