-- What holds of the plan of a query: it is fixed, and its ranges and free dims are what they are called.
use Rattle.std.specs.Prelude.{◌≡◌, Bool, ℕ, ◌<◌, ◌≤◌, ◌↔◌, List, IsTrue, IsFalse, Contains, length}
use Rattle.std.specs.declared.option.Option.TheVariants.{None}
use Rattle.sem_query.specs.declared.atom.Attr.{Attr}
use Rattle.sem_query.specs.declared.part.Sign.{Sign}
use Rattle.sem_query.specs.declared.plan.Dim.{Dim}
use Rattle.sem_query.specs.declared.plan.PartPlan.{PartPlan}
use Rattle.sem_query.specs.Query.{QueryValue, IsWithinLimits, is_filter}
use Rattle.sem_query.specs.Parts.{AreParts, HasMoreParts}
use Rattle.sem_query.specs.Order.{IsLeast, IsGreatest}
use Rattle.sem_query.specs.Links.{IsEquality}
use Rattle.sem_query.specs.Violation.{IsViolation}
use Rattle.sem_query.specs.Plan.{IsPartPlan, ArePartPlans, IsPlan, dims_at}
use Rattle.sem_query.specs.Ranges.{range_of}
use Rattle.sem_query.specs.Numbers.{is_fixed, share_of, share}
use Rattle.sem_query.specs.Verdict.{Verdict, IsVerdict}

-- a query has more than n parts exactly where the list of its parts is longer
abbrev pub PartsAreCounted : Type 0
PartsAreCounted = (q : QueryValue) (parts : List (List Sign)) (n : ℕ) → AreParts q parts → HasMoreParts q n ↔ (n < length parts)

-- a query of which no condition is violated has at most one plan
abbrev pub HasOnePlan : Type 0
HasOnePlan = (q : QueryValue) (plan other : List PartPlan) → IsFalse (is_filter q) → IsViolation q None → IsPlan q plan → IsPlan q other → plan ≡ other

-- there is at most one verdict on a query, without shared cells or with them, with so many free pages
abbrev pub HasOneVerdict : Type 0
HasOneVerdict =
    (shared : Bool) (q : QueryValue) (free : ℕ) (verdict other : Verdict) → IsVerdict shared q free verdict → IsVerdict shared q free other → verdict ≡ other

-- the range of a selected column goes from its least to its greatest value in the part
abbrev pub RangesAreExact : Type 0
RangesAreExact =
    (q : QueryValue) (plan : List PartPlan) → IsWithinLimits q → IsFalse (is_filter q) → ArePartPlans q plan → IsViolation q None
    → (part : PartPlan) → Contains plan part → (a : Attr) → Contains q.select a
    → IsLeast q part.signs.items a (range_of q part a).lo × IsGreatest q part.signs.items a (range_of q part a).hi

-- a dim equals an attribute of the arriving stream, or a dim of a stream earlier in FROM, in every assignment of the part
pub data IsFixed (q : QueryValue) (part : PartPlan) (arriving place : ℕ) (d : Dim) : Type 0 where
  by_arriving : (b : Attr) → b.stream ≡ arriving → IsEquality q part.signs.items d.attr b → IsFixed q part arriving place d
  by_earlier : (before : ℕ) (e : Dim) → before < place → e.attr.stream ≡ before → Contains (dims_at part before) e → IsEquality q part.signs.items d.attr e.attr → IsFixed q part arriving place d

-- the links tell exactly which dims are fixed
abbrev pub FreeDimsAreExact : Type 0
FreeDimsAreExact =
    (q : QueryValue) (part : PartPlan) → IsPartPlan q part
    → (arriving place : ℕ) (d : Dim)
    → IsTrue (is_fixed part arriving place d) ↔ IsFixed q part arriving place d

-- the share of a part is the share for some arriving stream, and for none it is greater
pub record IsGreatestShare (part : PartPlan) : Type 0 where
  pub arriving : ℕ
  pub there : arriving < length part.streams.items
  pub reached : share_of part arriving ≡ share part
  pub above : (other : ℕ) → other < length part.streams.items → share_of part other ≤ share part

-- the share of each part of at least one stream is the greatest
abbrev pub SharesAreGreatest : Type 0
SharesAreGreatest = (part : PartPlan) → 0 < length part.streams.items → IsGreatestShare part
