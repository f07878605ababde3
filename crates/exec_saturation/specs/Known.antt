-- Of which cells it is known that they are saturated: of those before a cell, in the order of parts, places of FROM and cells.
use Rattle.std.specs.Prelude.{◌≡◌, ◌⊎◌, ℕ, ◌<◌, ℤ, List, length, Some, slice_get}
use Rattle.sem_query.specs.declared.plan.PartPlan.{PartPlan}
use Rattle.sem_query.specs.Query.{QueryValue}
use Rattle.sem_query.specs.Plan.{stream_at}
use Rattle.sem_query.specs.Combinations.{Reading}
use Rattle.sem_laws.specs.Closed.{IsSaturated}
use Rattle.exec_saturation.specs.declared.saturation.Cursor.{Cursor}
use Rattle.exec_saturation.specs.declared.saturation.Saturation.{Saturation}

-- cell i of the box of part n and a place of FROM stands before a cell
abbrev pub IsBefore : Cursor → ℕ → ℕ → ℕ → Type 0
IsBefore at n place i = (n < at.part) ⊎ ((n ≡ at.part) × ((place < at.place) ⊎ ((place ≡ at.place) × (i < at.cell))))

-- it is known that this cell is saturated
abbrev pub IsKnown : Saturation → ℕ → ℕ → ℕ → Type 0
IsKnown Saturation.All n place i = Unit {0}
IsKnown (Saturation.Before at) n place i = IsBefore at n place i
IsKnown Saturation.None n place i = ⊥

-- each cell of which that is known is saturated
abbrev pub AreSaturated : Saturation → QueryValue → List PartPlan → Reading → List (List ℤ) → Type 0
AreSaturated known q parts read table =
    (n : ℕ) (part : PartPlan) → slice_get parts n ≡ Some part → (place i : ℕ) → place < length q.from → i < (stream_at part place).size
    → IsKnown known n place i → IsSaturated q part read table place i

-- no cell was looked at yet
abbrev pub none_yet : Saturation
none_yet = Saturation.Before (record { part = 0; place = 0; cell = 0 })
