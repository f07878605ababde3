-- What a form comes to as a part of a plan, but for where its boxes begin.
use Rattle.std.specs.Prelude.{◌≡◌, ℕ, nat_eq, Result, Ok, Err, Some, [], ◌∷◌, length}
use Rattle.sem_query.specs.declared.atom.Attr.{Attr}
use Rattle.sem_query.specs.declared.plan.Numbers.{Numbers}
use Rattle.sem_query.specs.declared.plan.PartPlan.{PartPlan}
use Rattle.sem_query.specs.FirstBreak.{IsFirst}
use Rattle.sem_query.specs.Numbers.{numbers_of}
use Rattle.sem_query.specs.Query.{QueryValue}
use Rattle.plan_whole_form.specs.declared.numbers.PartNumbers.{PartNumbers}
use Rattle.plan_whole_form.specs.declared.whole.WholePart.{WholePart}
use Rattle.plan_whole_form.specs.Numbers.{capped, cells_with, dims_in}
use Rattle.plan_whole_form.specs.Part.{form_of}
use Rattle.sem_forms.specs.Part.{IsWholePartPlan}
use Rattle.sem_forms.specs.SplitBreaks.{IsOpenDim}
use Rattle.plan_forms.specs.declared.making.Made.{Made}
use Rattle.plan_forms.specs.Placed.{ArePlaced}
use Rattle.plan_forms.specs.Hulls.{AreHulls}

-- these numbers of a part, as those of a plan
abbrev pub of_one : PartNumbers → Numbers
of_one n = record { parts = 1; cells = n.cells; answers = n.answers; work = n.work }

-- numbers as 64 bits keep them
abbrev pub capped_all : Numbers → Numbers
capped_all n = record { parts = n.parts; cells = capped n.cells; answers = capped n.answers; work = capped n.work }

-- a part of what is made, its boxes one after another from a cell on
pub record IsPlacedFrom (m : Made) (next : ℕ) (part : PartPlan) : Type 0 where
  pub signs : part.signs.items ≡ []
  pub local : part.local ≡ m.local
  pub streams : ArePlaced (nat_eq (length m.streams.items) 1) next m.streams.items part.streams.items
  pub equal : part.equal.items ≡ m.equal.items
  pub less : part.less.items ≡ m.less.items
  pub soft : part.soft.items ≡ m.soft.items

-- from each cell on it is the plan of the whole form, and each plan of that has these numbers and these ranges of the selected columns
pub record IsMade (q : QueryValue) (m : Made) : Type 0 where
  pub count : length m.streams.items ≡ length q.from
  pub plan : (next : ℕ) (part : PartPlan) → IsPlacedFrom m next part → IsWholePartPlan q part
  pub cells : m.numbers.cells ≡ capped (cells_with (dims_in m.streams.items))
  pub numbers : (part : PartPlan) → IsWholePartPlan q part → of_one m.numbers ≡ capped_all (numbers_of q (part ∷ []))
  pub selected : (part : PartPlan) → IsWholePartPlan q part → AreHulls q (part ∷ []) m.selected.items

-- what is made of the form, or the first of its dims whose own range lacks an end
abbrev pub IsMadeOr : QueryValue → WholePart → Result Made Attr → Type 0
IsMadeOr q p (Ok m) = IsMade q m
IsMadeOr q p (Err a) = IsFirst (IsOpenDim q (form_of p)) (Some a)
