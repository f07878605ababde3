-- Whether a query is refused by no condition.
use Rattle.std.specs.Prelude.{ℕ, ◌<◌, ◌↔◌, IsFalse}
use Rattle.std.specs.declared.option.Option.{Option}
use Rattle.std.specs.declared.option.Option.TheVariants.{None, Some}
use Rattle.sem_query.specs.Query.{QueryValue, is_filter}
use Rattle.sem_query.specs.Assignment.{Assignment, Holds, KeepsDomains}
use Rattle.sem_forms.specs.Parts.{HasTooManyParts, IsFormViolation}

-- the query meets all conditions: it is a filter, or it has no more parts than there may be, and none of them breaks one
pub record Meets (q : QueryValue) : Type 0 where
  pub few : IsFalse (is_filter q) → ¬ HasTooManyParts q
  pub violation : IsFormViolation q None

-- it has a part: some assignment that keeps to the domains meets the comparisons
abbrev pub HasPart : QueryValue → Type 0
HasPart q = (v : Assignment) × Holds q v × KeepsDomains q v

-- it meets all conditions, and has a part
pub record Stands (q : QueryValue) : Type 0 where
  pub meets : Meets q
  pub some : HasPart q

-- how many parts a query has that meets all conditions, or that it does not meet them
abbrev pub MeetsWith : QueryValue → Option ℕ → Type 0
MeetsWith q None = ¬ Meets q
MeetsWith q (Some parts) = Meets q × ((0 < parts) ↔ HasPart q)

-- no assignment that keeps to the domains meets the comparisons
abbrev pub NeverMeets : QueryValue → Type 0
NeverMeets q = (v : Assignment) → Holds q v → ¬ KeepsDomains q v
