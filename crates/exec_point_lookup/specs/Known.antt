-- What an arriving row alone tells of the answers of a part.
use Rattle.std.specs.Prelude.{◌≡◌, ℕ, ℤ, true, List, map}
use Rattle.sem_query.specs.declared.atom.Attr.{Attr}
use Rattle.sem_query.specs.declared.plan.PartPlan.{PartPlan}
use Rattle.sem_query.specs.Query.{QueryValue}
use Rattle.sem_query.specs.Assignment.{Assignment}
use Rattle.sem_query.specs.Meaning.{by_column}
use Rattle.sem_query.specs.Combinations.{linked}

-- an assignment that meets the links of the part, and has the row's values at the row's place of FROM
pub record Meets (part : PartPlan) (pos : ℕ) (row : List ℤ) (v : Assignment) : Type 0 where
  pub links : linked part v ≡ true
  pub own : (a : Attr) → a.stream ≡ pos → v a ≡ by_column row a.column

-- the column has this value in each of them
abbrev pub IsKnown : PartPlan → ℕ → List ℤ → Attr → ℤ → Type 0
IsKnown part pos row a x = (v : Assignment) → Meets part pos row v → v a ≡ x

-- and these columns have these values
abbrev pub AreKnown : PartPlan → ℕ → List ℤ → List Attr → List ℤ → Type 0
AreKnown part pos row columns xs = (v : Assignment) → Meets part pos row v → map v columns ≡ xs

-- with DISTINCT, all that the part can answer to the row is one tuple
pub record IsDetermined (q : QueryValue) (part : PartPlan) (pos : ℕ) (row tuple : List ℤ) : Type 0 where
  pub distinct : q.distinct ≡ true
  pub known : AreKnown part pos row q.select tuple
