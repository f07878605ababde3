-- The first condition that a part breaks, and the first column that shows it.
use Rattle.std.specs.Prelude.{Bool, IsTrue, if◌then◌else◌, List, Contains}
use Rattle.std.specs.declared.option.Option.{Option}
use Rattle.std.specs.declared.option.Option.TheVariants.{None, Some}
use Rattle.sem_query.specs.declared.atom.Attr.{Attr}
use Rattle.sem_query.specs.declared.part.Sign.{Sign}
use Rattle.sem_query.specs.declared.condition.Condition.{Condition}
use Rattle.sem_query.specs.declared.condition.Condition.TheVariants.{C1, C2, C3}
use Rattle.sem_query.specs.Query.{QueryValue, attr_lt}
use Rattle.sem_query.specs.Violation.{Breaks, condition_lt}
use Rattle.sem_query.specs.declared.first_break.Break.{Break}

-- the column found, or another that comes before it
abbrev pub sooner : Option Attr → Attr → Option Attr
sooner None a = Some a
sooner (Some b) a = if attr_lt a b then Some a else Some b

-- the same where the other counts
abbrev pub sooner_if : Bool → Option Attr → Attr → Option Attr
sooner_if counts found a = if counts then sooner found a else found

-- the first column with the property, in FROM order and then column order, or none where no column has it
abbrev pub IsFirst : (Attr → Type 0) → Option Attr → Type 0
IsFirst P None = (a : Attr) → ¬ P a
IsFirst P (Some a) = P a × ((b : Attr) → IsTrue (attr_lt b a) → ¬ P b)

-- the first of some columns with the property, or none
abbrev pub IsFirstAmong : (Attr → Type 0) → List Attr → Option Attr → Type 0
IsFirstAmong P xs r = IsFirst (λ a. Contains xs a × P a) r

-- the first of the three columns that is there, with its condition
abbrev pub first_of_three : Option Attr → Option Attr → Option Attr → Option Break
first_of_three (Some a) second third = Some record { condition = C1; attr = a }
first_of_three None (Some a) third = Some record { condition = C2; attr = a }
first_of_three None None (Some a) = Some record { condition = C3; attr = a }
first_of_three None None None = None

-- the first condition that the part breaks and the first column that shows it, or none where it breaks no condition
abbrev pub IsFirstBreak : QueryValue → List Sign → Option Break → Type 0
IsFirstBreak q s None = (c : Condition) (a : Attr) → ¬ Breaks q s c a
IsFirstBreak q s (Some b) =
    Breaks q s b.condition b.attr
    × ((c : Condition) (a : Attr) → IsTrue (condition_lt c b.condition) → ¬ Breaks q s c a)
    × ((a : Attr) → IsTrue (attr_lt a b.attr) → ¬ Breaks q s b.condition a)
