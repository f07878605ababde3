-- The conditions that each part has to meet, and the first that some part breaks.
use Rattle.std.specs.Prelude.{◌≡◌, ℕ, ◌<◌, ◌-◌, ◌⊎◌, Bool, ◌&&◌, ◌||◌, IsTrue, IsFalse, nat_eq, nat_lt, List, Contains, slice_get}
use Rattle.std.specs.declared.option.Option.{Option}
use Rattle.std.specs.declared.option.Option.TheVariants.{None, Some}
use Rattle.sem_query.specs.declared.atom.Attr.{Attr}
use Rattle.sem_query.specs.declared.part.Sign.{Sign}
use Rattle.sem_query.specs.declared.condition.Condition.{Condition}
use Rattle.sem_query.specs.declared.condition.Condition.TheVariants.{C1, C2, C3}
use Rattle.sem_query.specs.Query.{QueryValue, attr_lt, is_filter}
use Rattle.sem_query.specs.Parts.{AreParts}
use Rattle.sem_query.specs.Order.{IsBounded}
use Rattle.sem_query.specs.Links.{IsEquality, IsMinRef, IsMaxRef, HasTwoRefs}

-- the part breaks the condition, and the column shows it
abbrev pub Breaks : QueryValue → List Sign → Condition → Attr → Type 0
Breaks q s C1 a = Contains q.select a × ¬ IsBounded q s a
Breaks q s C2 a = (¬ IsBounded q s a) × (b : Attr) × (IsEquality q s a b ⊎ IsEquality q s b a)
Breaks q s C3 a = (IsMinRef q s a ⊎ IsMaxRef q s a) × (IsTrue q.distinct → HasTwoRefs q s a.stream)

-- the number of a condition
abbrev pub condition_index : Condition → ℕ
condition_index C1 = 1
condition_index C2 = 2
condition_index C3 = 3

-- conditions are ordered by their numbers
abbrev pub condition_lt : Condition → Condition → Bool
condition_lt c d = nat_lt (condition_index c) (condition_index d)

-- a failure: the number of a part, from 1, a condition, and a column
pub record Failure : Type 0 where
  pub part : ℕ
  pub condition : Condition
  pub attr : Attr

-- failures are ordered by part, then condition, then column
abbrev pub failure_lt : Failure → Failure → Bool
failure_lt f g =
    nat_lt f.part g.part
    || (nat_eq f.part g.part
    && (condition_lt f.condition g.condition
    || (nat_eq (condition_index f.condition) (condition_index g.condition) && attr_lt f.attr g.attr)))

-- the part of that number breaks that condition at that column
pub record Fails (q : QueryValue) (parts : List (List Sign)) (f : Failure) : Type 0 where
  pub signs : List Sign
  pub number : 0 < f.part
  pub at : slice_get parts (f.part - 1) ≡ Some signs
  pub breaks : Breaks q signs f.condition f.attr

-- the first failure among the parts, or none where no part fails
abbrev pub IsFirstFailure : QueryValue → List (List Sign) → Option Failure → Type 0
IsFirstFailure q parts None = (f : Failure) → ¬ Fails q parts f
IsFirstFailure q parts (Some f) = Fails q parts f × ((g : Failure) → IsTrue (failure_lt g f) → ¬ Fails q parts g)

-- the violation of a query: none for a filter, and else the first failure
pub data IsViolation (q : QueryValue) (r : Option Failure) : Type 0 where
  filter : IsTrue (is_filter q) → r ≡ None → IsViolation q r
  first : IsFalse (is_filter q) → (parts : List (List Sign)) → AreParts q parts → IsFirstFailure q parts r → IsViolation q r
