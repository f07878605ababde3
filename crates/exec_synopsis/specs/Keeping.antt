-- What a part asks of a row beside the ranges of its dims.
use Rattle.std.specs.Prelude.{ℕ, ℤ, ◌&&◌, Bool, List}
use Rattle.sem_query.specs.declared.part.Pair.{Pair}
use Rattle.sem_query.specs.declared.plan.PartPlan.{PartPlan}
use Rattle.sem_query.specs.Admission.{alone, keeps_signs, keeps_local}

-- a row of the stream at this place has the signs of the part, and stands as else it is asked
abbrev pub keeps_part : List Pair → PartPlan → ℕ → (ℕ → ℤ) → Bool
keeps_part ps part place v = keeps_signs place (alone v) ps part.signs.items && keeps_local place (alone v) part.local
