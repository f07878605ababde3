-- A walk over the combinations of a part, by places of FROM: what it can choose, and which dims it tries.
use Rattle.std.specs.Prelude.{ℕ, ℤ, Bool, not, ◌||◌, List, [], map, filter, nat_lt, if◌then◌else◌, ◌==◌}
use Rattle.std.specs.List.{flat_map}
use Rattle.sem_query.specs.declared.atom.Attr.{Attr}
use Rattle.sem_query.specs.declared.plan.Dim.{Dim}
use Rattle.sem_query.specs.declared.plan.PartPlan.{PartPlan}
use Rattle.sem_query.specs.Boxes.{box_size, box, place_of}
use Rattle.sem_query.specs.Query.{QueryValue}
use Rattle.sem_query.specs.Meaning.{product}
use Rattle.sem_query.specs.Plan.{dims_at}
use Rattle.sem_query.specs.Combinations.{Choice, choice, choice_of, Reading, Found, found, chosen_values, linked}
use Rattle.sem_query.specs.Numbers.{equals_some, places}

-- a walk that has chosen at each place before this one knows the columns of those places and of the arriving row
abbrev pub is_known : ℕ → ℕ → Attr → Bool
is_known arriving place b = (b.stream == arriving) || nat_lt b.stream place

-- the dims of a place that no link to a known column fixes
abbrev pub tried_dims : PartPlan → ℕ → ℕ → List Dim
tried_dims part arriving place = if place == arriving then [] else filter (λ d. not (equals_some part d.attr (is_known arriving place))) (dims_at part place)

-- how many combinations of their values there are, over all places
abbrev pub tried_share : PartPlan → ℕ → ℕ
tried_share part arriving = box_size (flat_map (tried_dims part arriving) (places part))

-- what a walk can choose at a place of FROM for a row that arrives with these values: the row itself at its own place, else each
-- cell that is not empty, by the values of the dims
abbrev pub choices_beside : QueryValue → PartPlan → Reading → ℕ → (ℕ → ℤ) → ℕ → List Choice
choices_beside q part read arriving v place =
    if place == arriving then choice v 1
    else flat_map (λ xs. choice_of q part place xs (read part place (place_of (dims_at part place) xs))) (box (dims_at part place))

-- what a walk finds: per combination of one choice for each place that meets the links, its tuple and count
unfoldable pub found_beside : QueryValue → PartPlan → Reading → ℕ → (ℕ → ℤ) → List Found
found_beside q part read arriving v =
    map (found q) (filter (λ chosen. linked part (chosen_values chosen)) (product (map (choices_beside q part read arriving v) (places part))))
