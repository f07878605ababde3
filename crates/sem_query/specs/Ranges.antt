-- The ranges of the selected columns in each part, and all tuples that lie in them.
use Rattle.std.specs.Prelude.{Bool, not, List, [], ◌∷◌, map, filter, ℤ, pos, if◌then◌else◌}
use Rattle.std.specs.List.{flat_map}
use Rattle.sem_query.specs.declared.atom.Attr.{Attr}
use Rattle.sem_query.specs.declared.plan.Dim.{Dim}
use Rattle.sem_query.specs.declared.plan.PartPlan.{PartPlan}
use Rattle.sem_query.specs.Query.{QueryValue, attr_eq}
use Rattle.sem_query.specs.Boxes.{box}
use Rattle.sem_query.specs.Plan.{dims_at}
use Rattle.sem_query.specs.Combinations.{is_tied}

-- the columns, each once
abbrev pub different : List Attr → List Attr
different [] = []
different (a ∷ others) = a ∷ filter (λ b. not (attr_eq a b)) (different others)

-- the first dim whose class has the column
abbrev pub first_tied : (Attr → Attr → Bool) → List Dim → Attr → Dim
first_tied are_tied [] a = record { attr = a; lo = pos 0; hi = pos 0 }
first_tied are_tied (d ∷ dims) a = if are_tied d.attr a then d else first_tied are_tied dims a

-- the range of a column in a part: that of the dim of its class
abbrev pub range_of : QueryValue → PartPlan → Attr → Dim
range_of q part a = first_tied (is_tied q part) (dims_at part a.stream) a

-- the ranges of the different selected columns in a part
abbrev pub selected_ranges : QueryValue → PartPlan → List Dim
selected_ranges q part = map (range_of q part) (different q.select)

-- the value of a column, where the different columns have these values
abbrev pub at_column : List Attr → List ℤ → Attr → ℤ
at_column [] xs a = pos 0
at_column (b ∷ bs) [] a = pos 0
at_column (b ∷ bs) (x ∷ xs) a = if attr_eq b a then x else at_column bs xs a

-- each tuple whose different columns lie in their ranges in some part
abbrev pub all_tuples : QueryValue → List PartPlan → List (List ℤ)
all_tuples q plan = flat_map (λ part. map (λ xs. map (at_column (different q.select) xs) q.select) (box (selected_ranges q part))) plan
