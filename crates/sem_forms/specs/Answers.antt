-- How many answers are announced for a query: of a compact one each tuple is counted once, however many parts have it.
use Rattle.std.specs.Prelude.{ℕ, ◌≤◌, ℤ, int_lt, if◌then◌else◌, min, IsTrue, List, [], ◌∷◌, map, length, Contains, All, AllPairs}
use Rattle.sem_query.specs.declared.atom.Attr.{Attr}
use Rattle.sem_query.specs.declared.plan.Dim.{Dim}
use Rattle.sem_query.specs.declared.plan.PartPlan.{PartPlan}
use Rattle.sem_query.specs.Query.{QueryValue}
use Rattle.sem_query.specs.Tuples.{is_before}
use Rattle.sem_query.specs.Boxes.{box_size}
use Rattle.sem_query.specs.Ranges.{different, range_of, all_tuples}
use Rattle.sem_query.specs.Numbers.{answer_bound}

-- the least of a number and the lower ends of the ranges of a column in some parts
abbrev pub least_end : QueryValue → List PartPlan → Attr → ℤ → ℤ
least_end q [] a z = z
least_end q (p ∷ ps) a z = least_end q ps a (if int_lt (range_of q p a).lo z then (range_of q p a).lo else z)

-- the greatest of a number and the upper ends
abbrev pub greatest_end : QueryValue → List PartPlan → Attr → ℤ → ℤ
greatest_end q [] a z = z
greatest_end q (p ∷ ps) a z = greatest_end q ps a (if int_lt z (range_of q p a).hi then (range_of q p a).hi else z)

-- the least range that holds those of a column in a part and in some others
abbrev pub hull : QueryValue → PartPlan → List PartPlan → Attr → Dim
hull q p ps a = record { attr = a; lo = least_end q ps a (range_of q p a).lo; hi = greatest_end q ps a (range_of q p a).hi }

-- how many tuples lie in the hulls of the different selected columns; without a part there is none
abbrev pub hull_bound : QueryValue → List PartPlan → ℕ
hull_bound q [] = 0
hull_bound q (p ∷ ps) = box_size (map (hull q p ps) (different q.select))

-- the announced answers of a plan: the tuples of each part; of a compact query those in the hulls, where these are fewer
abbrev pub announced_answers : QueryValue → List PartPlan → ℕ
announced_answers q plan = if q.compact then min (answer_bound q plan) (hull_bound q plan) else answer_bound q plan

-- there is room for each ascending table of tuples that lie in the ranges of some part
abbrev pub HoldsAllTuples : QueryValue → List PartPlan → ℕ → Type 0
HoldsAllTuples q plan n = (table : List (List ℤ)) → AllPairs (λ t u. IsTrue (is_before t u)) table → All (Contains (all_tuples q plan)) table → length table ≤ n
