-- Which failure of the whole form is reported, and queries whose system contradicts itself.
use Rattle.std.specs.Prelude.{◌≡◌, ◌↔◌, IsTrue, IsFalse, List, []}
use Rattle.std.specs.declared.option.Option.{Option}
use Rattle.std.specs.declared.option.Option.TheVariants.{None, Some}
use Rattle.sem_query.specs.declared.atom.Attr.{Attr}
use Rattle.sem_query.specs.declared.atom.Atom.{Atom}
use Rattle.sem_query.specs.declared.condition.Condition.{Condition}
use Rattle.sem_query.specs.declared.condition.Condition.TheVariants.{C1, C2, C3}
use Rattle.sem_query.specs.declared.first_break.Break.{Break}
use Rattle.sem_query.specs.Query.{QueryValue, is_filter, attr_lt}
use Rattle.sem_query.specs.Assignment.{Assignment}
use Rattle.sem_query.specs.Domains.{RowsKeep}
use Rattle.sem_query.specs.FirstBreak.{IsFirst, first_of_three}
use Rattle.sem_query.specs.Meaning.{Arrival, answers}
use Rattle.sem_query.specs.Violation.{Failure, condition_lt}
use Rattle.sem_whole.specs.System.{system, Solves}
use Rattle.sem_whole.specs.Links.{AreLinks}
use Rattle.sem_whole.specs.Signed.{IsWellFormed}
use Rattle.sem_whole.specs.Whole.{Form, IsWholeForm, WholeBreaks, HasFiniteRanges}
use Rattle.sem_whole.specs.Plan.{IsWholePlan}

-- no assignment solves the system
abbrev pub Contradicts : QueryValue → Type 0
Contradicts q = (v : Assignment) → ¬ Solves (system q) v

-- the first condition that the whole form breaks and the first column that shows it, or none where it breaks no condition
abbrev pub IsFirstWholeBreak : QueryValue → List Atom → Option Break → Type 0
IsFirstWholeBreak q links None = (c : Condition) (a : Attr) → ¬ WholeBreaks q links c a
IsFirstWholeBreak q links (Some b) =
    WholeBreaks q links b.condition b.attr
    × ((c : Condition) (a : Attr) → IsTrue (condition_lt c b.condition) → ¬ WholeBreaks q links c a)
    × ((a : Attr) → IsTrue (attr_lt a b.attr) → ¬ WholeBreaks q links b.condition a)

-- a break as a failure of the one part
abbrev pub failure_of : Option Break → Option Failure
failure_of None = None
failure_of (Some b) = Some record { part = 1; condition = b.condition; attr = b.attr }

-- the failure of the whole form, or none: a filter has none, nor has a query without a part, whose system contradicts itself
pub data IsWholeViolation (q : QueryValue) (r : Option Failure) : Type 0 where
  filter : IsTrue (is_filter q) → r ≡ None → IsWholeViolation q r
  no_part : IsFalse (is_filter q) → Contradicts q → r ≡ None → IsWholeViolation q r
  first : IsFalse (is_filter q) → ¬ Contradicts q → (links : List Atom) → AreLinks q links → (b : Option Break) → IsFirstWholeBreak q links b → r ≡ failure_of b → IsWholeViolation q r

-- two violations of a query are the same: one failure, or none
abbrev pub HasOneWholeViolation : Type 0
HasOneWholeViolation = (q : QueryValue) (r s : Option Failure) → IsWholeViolation q r → IsWholeViolation q s → r ≡ s

-- the first columns that show each of the three conditions give the first break
abbrev pub FirstsGiveBreak : Type 0
FirstsGiveBreak =
    (q : QueryValue) (links : List Atom) (x y z : Option Attr)
    → IsFirst (WholeBreaks q links C1) x → IsFirst (WholeBreaks q links C2) y → IsFirst (WholeBreaks q links C3) z
    → IsFirstWholeBreak q links (first_of_three x y z)

-- a query whose system contradicts itself has no form
abbrev pub ContradictionsHaveNoForm : Type 0
ContradictionsHaveNoForm = (q : QueryValue) → IsWellFormed q → Contradicts q → (f : Form) → ¬ IsWholeForm q f

-- and is answered nothing
abbrev pub ContradictionsAnswerNothing : Type 0
ContradictionsAnswerNothing = (q : QueryValue) → IsWellFormed q → Contradicts q → (h : List Arrival) → RowsKeep q h → answers q h ≡ []

-- the kept ranges of the plan have both ends exactly where the query has no violation
abbrev pub PlansTellViolations : Type 0
PlansTellViolations =
    (q : QueryValue) → IsWellFormed q → IsFalse (is_filter q) → (f : Form) → IsWholePlan q f
    → HasFiniteRanges q f ↔ IsWholeViolation q None
