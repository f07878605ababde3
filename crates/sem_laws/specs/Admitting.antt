-- What admission tells: a combination is in a part exactly where the part admits each of its rows and the links hold.
use Rattle.std.specs.Prelude.{◌≡◌, ℕ, ◌<◌, ◌↔◌, ℤ, List, length, IsTrue}
use Rattle.sem_query.specs.declared.plan.PartPlan.{PartPlan}
use Rattle.sem_query.specs.Query.{QueryValue, IsWithinLimits}
use Rattle.sem_query.specs.Assignment.{KeepsDomains}
use Rattle.sem_query.specs.Parts.{InPart, IsPart}
use Rattle.sem_query.specs.Meaning.{joined, at_place}
use Rattle.sem_query.specs.Plan.{IsPartPlan}
use Rattle.sem_query.specs.Admission.{admits}
use Rattle.sem_query.specs.Combinations.{linked}

-- the part admits each row at its place of FROM, and the links hold
pub record AreAdmitted (q : QueryValue) (part : PartPlan) (rows : List (ℕ → ℤ)) : Type 0 where
  pub each : (place : ℕ) → place < length q.from → IsTrue (admits q part place (at_place rows place))
  pub links : IsTrue (linked part (joined rows))

-- a combination of one row for each stream of FROM, which keeps to the domains, is in a part exactly where its rows are admitted and
-- the links hold
abbrev pub AdmissionIsExact : Type 0
AdmissionIsExact =
    (q : QueryValue) (part : PartPlan) → IsWithinLimits q → IsPart q part.signs.items → IsPartPlan q part
    → (rows : List (ℕ → ℤ)) → length rows ≡ length q.from → KeepsDomains q (joined rows)
    → InPart q part.signs.items (joined rows) ↔ AreAdmitted q part rows
