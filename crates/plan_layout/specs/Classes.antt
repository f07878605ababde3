-- The classes of a stream, by their names: those that are dims, and those of references.
use Rattle.std.specs.Prelude.{◌≡◌, ℕ, ◌<◌, Bool, List, Contains, Option, None, Some}
use Rattle.sem_query.specs.Members.{Has, Ascends}
use Rattle.sem_query.specs.declared.atom.Attr.{Attr}
use Rattle.sem_query.specs.declared.part.Sign.{Sign}
use Rattle.sem_query.specs.declared.plan.Dim.{Dim}
use Rattle.sem_query.specs.Query.{QueryValue, attr_lt}
use Rattle.sem_query.specs.Plan.{AreOneClass, NamesClass, IsWanted, IsDim}

-- the second attribute is of the class of the first, and answers read it
abbrev pub IsWantedMember : QueryValue → List Sign → Attr → Attr → Type 0
IsWantedMember q s a member = AreOneClass q s a member × IsWanted q s member

-- answers read a member of the class of the attribute
pub record HasWanted (q : QueryValue) (s : List Sign) (a : Attr) : Type 0 where
  pub member : Attr
  pub wanted : IsWantedMember q s a member

-- the attribute names a class of the stream at a place of FROM
abbrev pub NamesOf : QueryValue → List Sign → ℕ → Attr → Type 0
NamesOf q s place a = (a.stream ≡ place) × NamesClass q s a

-- the attribute names a class of the stream, and answers read a member of that class
abbrev pub NamesWanted : QueryValue → List Sign → ℕ → Attr → Type 0
NamesWanted q s place a = NamesOf q s place a × HasWanted q s a

-- the dim of the stream that the attribute names, or none where it names none
abbrev pub IsDimAt : QueryValue → List Sign → ℕ → Attr → Option Dim → Type 0
IsDimAt q s place a None = (d : Dim) → d.attr ≡ a → ¬ IsDim q s place d
IsDimAt q s place a (Some d) = (d.attr ≡ a) × IsDim q s place d

-- dims are ordered by their names
abbrev pub dim_lt : Dim → Dim → Bool
dim_lt d e = attr_lt d.attr e.attr

-- the dims of the stream that its columns before a column name, ascending
pub record AreDimsBelow (q : QueryValue) (s : List Sign) (place column : ℕ) (dims : List Dim) : Type 0 where
  pub ascends : Ascends dim_lt dims
  pub each : (d : Dim) → Has dims d → IsDim q s place d × (d.attr.column < column)
  pub all : (d : Dim) → IsDim q s place d → d.attr.column < column → (e : Dim) × Has dims e × (e.attr ≡ d.attr)

-- the attribute is one of these columns, and names a class of the stream at a place of FROM
abbrev pub IsNameAmong : QueryValue → List Sign → List Attr → ℕ → Attr → Type 0
IsNameAmong q s columns place a = NamesOf q s place a × Contains columns a

-- such an attribute, or none where there is none
abbrev pub IsSomeName : QueryValue → List Sign → List Attr → ℕ → Option Attr → Type 0
IsSomeName q s columns place None = (a : Attr) → ¬ IsNameAmong q s columns place a
IsSomeName q s columns place (Some a) = IsNameAmong q s columns place a
