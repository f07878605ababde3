-- The least ranges that hold those of the selected columns in the parts so far.
use Rattle.std.specs.Prelude.{◌≡◌, int_lt, if◌then◌else◌, Option, None, Some, List, [], ◌∷◌, map}
use Rattle.sem_query.specs.declared.plan.Dim.{Dim}
use Rattle.sem_query.specs.declared.plan.PartPlan.{PartPlan}
use Rattle.sem_query.specs.Query.{QueryValue}
use Rattle.sem_query.specs.Ranges.{different}
use Rattle.sem_forms.specs.Answers.{hull}

-- the hulls of the different selected columns over some parts; without a part there are none
abbrev pub AreHulls : QueryValue → List PartPlan → List Dim → Type 0
AreHulls q [] dims = dims ≡ []
AreHulls q (p ∷ ps) dims = dims ≡ map (hull q p ps) (different q.select)

-- the least range that holds two of a column
abbrev pub wider : Dim → Dim → Dim
wider d e = record { attr = d.attr; lo = if int_lt e.lo d.lo then e.lo else d.lo; hi = if int_lt d.hi e.hi then e.hi else d.hi }

-- the same with a range that may not be there
abbrev pub wider_with : Option Dim → Dim → Dim
wider_with None d = d
wider_with (Some o) d = wider o d

-- the same column by column
abbrev pub joined : List Dim → List Dim → List Dim
joined before [] = []
joined [] (d ∷ dims) = d ∷ joined [] dims
joined (o ∷ before) (d ∷ dims) = wider o d ∷ joined before dims
