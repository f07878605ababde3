-- What a query means: the answers over all rows so far, and what one more row adds to them.
use Rattle.std.specs.Prelude.{ℕ, zero, suc, List, [], ◌∷◌, ◌++◌, map, filter, ℤ, pos, if◌then◌else◌, ◌==◌}
use Rattle.std.specs.List.{flat_map, slice_index_or}
use Rattle.sem_query.specs.Query.{QueryValue}
use Rattle.sem_query.specs.Assignment.{Assignment, holds, projected}
use Rattle.sem_query.specs.Tuples.{sorted, bag_minus, new_tuples}

-- a row as it arrives: the number of its stream, and its values
pub record Arrival : Type 0 where
  pub stream : ℕ
  pub values : List ℤ

-- the rows of one stream in a history, which is the list of all rows in order of arrival
abbrev pub rows : List Arrival → ℕ → List (List ℤ)
rows history stream = map (λ r. r.values) (filter (λ r. r.stream == stream) history)

-- the nested product: one member of each list
abbrev pub product : {X : Type 0} → List (List X) → List (List X)
product [] = [] ∷ []
product (xs ∷ lists) = flat_map (λ x. map (λ others. x ∷ others) (product lists)) xs

-- the values of a row by column
abbrev pub by_column : List ℤ → ℕ → ℤ
by_column row column = slice_index_or row column (pos 0)

-- the values at a place of FROM
abbrev pub at_place : List (ℕ → ℤ) → ℕ → ℕ → ℤ
at_place [] place = λ column. pos 0
at_place (v ∷ vs) zero = v
at_place (v ∷ vs) (suc place) = at_place vs place

-- values for each place of FROM, joined to an assignment
abbrev pub joined : List (ℕ → ℤ) → Assignment
joined vs a = at_place vs a.stream a.column

-- a combination of rows, one per stream of FROM, read as an assignment
abbrev pub assignment_of : List (List ℤ) → Assignment
assignment_of combination = joined (map by_column combination)

-- the answers: the nested product of the complete streams, filtered by the condition, and projected
abbrev pub answers : QueryValue → List Arrival → List (List ℤ)
answers q history =
    map (λ c. projected q (assignment_of c)) (filter (λ c. holds q (assignment_of c)) (product (map (rows history) q.from)))

-- What a query answers to a row after a history, in ascending order: each tuple as often as the row adds it to the answers,
-- or with DISTINCT once each tuple that was no answer before.
unfoldable pub new_answers : QueryValue → List Arrival → Arrival → List (List ℤ)
new_answers q history r =
    let before = answers q history in
    let now = answers q (history ++ r ∷ []) in
    if q.distinct then sorted (new_tuples before now) else sorted (bag_minus now before)
