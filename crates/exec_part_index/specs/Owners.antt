-- Which parts take a row into a box of their own. Where cells are shared, several parts have one box, and the first of them takes the row.
use Rattle.std.specs.Prelude.{◌≡◌, ℕ, ◌<◌, ◌≤◌, Bool, true, false, not, ◌&&◌, nat_lt, take, List, length, slice_get, Some, Contains, nat_eq}
use Rattle.sem_query.specs.declared.plan.PartPlan.{PartPlan}
use Rattle.sem_query.specs.Query.{QueryValue}
use Rattle.sem_query.specs.Plan.{stream_at}
use Rattle.std.specs.List.{list_any}

-- one of these parts has its box at a place of FROM where this one has it
abbrev pub has_base : List PartPlan → PartPlan → ℕ → Bool
has_base parts part place = list_any (λ p. nat_eq (stream_at p place).base (stream_at part place).base) parts

-- at the first places of FROM, a box that no earlier part has begins no earlier than those of all earlier parts
abbrev pub BeginBehind : ℕ → List PartPlan → Type 0
BeginBehind places parts =
    (place i : ℕ) (part earlier : PartPlan) → place < places → slice_get parts i ≡ Some part → Contains (take i parts) earlier
    → has_base (take i parts) part place ≡ false → (stream_at earlier place).base ≤ (stream_at part place).base

-- whether the part of this number takes rows into a box of its own at a place of FROM: the query has several streams, and no part before it
-- has that box
abbrev pub takes_rows : QueryValue → List PartPlan → ℕ → ℕ → PartPlan → Bool
takes_rows q parts place i part = nat_lt 1 (length q.from) && not (has_base (take i parts) part place)

-- for each part, whether it does
pub record AreOwners (q : QueryValue) (parts : List PartPlan) (place : ℕ) (owns : List Bool) : Type 0 where
  pub many : length owns ≡ length parts
  pub each : (i : ℕ) (b : Bool) → slice_get owns i ≡ Some b → (part : PartPlan) → slice_get parts i ≡ Some part → b ≡ takes_rows q parts place i part

-- each part does, as the parts of a plan without shared cells do where the query has several streams
abbrev pub EachTakes : QueryValue → List PartPlan → ℕ → Type 0
EachTakes q parts place = (i : ℕ) (part : PartPlan) → slice_get parts i ≡ Some part → takes_rows q parts place i part ≡ true
