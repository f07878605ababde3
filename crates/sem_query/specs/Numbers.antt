-- The numbers that are announced for a query: parts, cells, answers, work; and its pages.
use Rattle.std.specs.Prelude.{ℕ, ◌+◌, ◌/◌, Bool, not, ◌&&◌, ◌||◌, List, [], ◌∷◌, map, filter, length, max, nat_lt, if◌then◌else◌, ◌==◌}
use Rattle.std.specs.List.{flat_map, list_any, range_with_len, sum_by}
use Rattle.sem_query.specs.declared.atom.Attr.{Attr}
use Rattle.sem_query.specs.declared.plan.Dim.{Dim}
use Rattle.sem_query.specs.declared.plan.PartPlan.{PartPlan}
use Rattle.sem_query.specs.declared.plan.Numbers.{Numbers}
use Rattle.sem_query.specs.declared.plan.Plan.{Plan}
use Rattle.sem_query.specs.declared.plan.Plan.TheVariants as plan
use Rattle.sem_query.specs.Query.{QueryValue, attr_eq}
use Rattle.sem_query.specs.Boxes.{box_size}
use Rattle.sem_query.specs.Plan.{dims_at}
use Rattle.sem_query.specs.Ranges.{selected_ranges}

-- the number of cells: the sizes of all boxes
abbrev pub cell_count : List PartPlan → ℕ
cell_count parts = sum_by (λ part. sum_by (λ s. s.size) part.streams.items) parts

-- the most different answers: over all parts, the product of the range sizes of the different selected columns
abbrev pub answer_bound : QueryValue → List PartPlan → ℕ
answer_bound q parts = sum_by (λ part. box_size (selected_ranges q part)) parts

-- a link of the part says that the column equals one that passes the test
abbrev pub equals_some : PartPlan → Attr → (Attr → Bool) → Bool
equals_some part a test = list_any (λ l. (attr_eq l.left a && test l.right) || (attr_eq l.right a && test l.left)) part.equal.items

-- the column names a dim of a stream that stands earlier in FROM
abbrev pub is_earlier_dim : PartPlan → ℕ → Attr → Bool
is_earlier_dim part place b = nat_lt b.stream place && list_any (λ d. attr_eq d.attr b) (dims_at part b.stream)

-- a dim is fixed where it equals an attribute of the arriving stream, or a dim of a stream earlier in FROM
abbrev pub is_fixed : PartPlan → ℕ → ℕ → Dim → Bool
is_fixed part arriving place d = equals_some part d.attr (λ b. (b.stream == arriving) || is_earlier_dim part place b)

-- the free dims of a stream that is not the arriving one
abbrev pub free_dims : PartPlan → ℕ → ℕ → List Dim
free_dims part arriving place = if place == arriving then [] else filter (λ d. not (is_fixed part arriving place d)) (dims_at part place)

-- the places of FROM
abbrev pub places : PartPlan → List ℕ
places part = range_with_len 0 (length part.streams.items)

-- the share of a part for one arriving stream: the product of the sizes of the free dims of the other streams
abbrev pub share_of : PartPlan → ℕ → ℕ
share_of part arriving = box_size (flat_map (free_dims part arriving) (places part))

-- the greatest of some numbers
abbrev pub greatest_of : List ℕ → ℕ
greatest_of [] = 0
greatest_of (n ∷ others) = max n (greatest_of others)

-- the share of a part: the greatest over the arriving stream
abbrev pub share : PartPlan → ℕ
share part = greatest_of (map (share_of part) (places part))

-- the work of a row: the shares of all parts
abbrev pub work : List PartPlan → ℕ
work parts = sum_by share parts

-- the four numbers
abbrev pub numbers_of : QueryValue → List PartPlan → Numbers
numbers_of q parts = record { parts = length parts; cells = cell_count parts; answers = answer_bound q parts; work = work parts }

-- the pages of so many cells, 64 to a page
abbrev pub page_count : ℕ → ℕ
page_count cells = (cells + 63) / 64

-- the parts of a plan: a filter has none
abbrev pub parts_of : Plan → List PartPlan
parts_of plan.Filter = []
parts_of (plan.Parts parts numbers) = parts

-- the pages of a plan: a filter has none
abbrev pub pages_of : Plan → ℕ
pages_of plan.Filter = 0
pages_of (plan.Parts parts numbers) = page_count numbers.cells
