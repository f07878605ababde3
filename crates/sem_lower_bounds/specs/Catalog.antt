-- Evaluators that see only rows as a catalog has them: of each stream rows of so many columns.
use Rattle.std.specs.Prelude.{◌≡◌, ℕ, suc, ◌<◌, ◌≤◌, ◌*◌, ◌^◌, ◌⊎◌, List, [], ◌∷◌, length, Contains}
use Rattle.std.specs.List.{slice_index_or}
use Rattle.std.specs.declared.option.Option.TheVariants.{Some}
use Rattle.sem_query.specs.declared.atom.Attr.{Attr}
use Rattle.sem_query.specs.Query.{QueryValue, IsWithinLimits, attrs_of}
use Rattle.sem_query.specs.Meaning.{Arrival, new_answers}
use Rattle.sem_query.specs.Violation.{Failure, IsViolation}
use Rattle.sem_lower_bounds.specs.Plain.{IsPlain}
use Rattle.sem_lower_bounds.specs.States.{Evaluator, after, AreWithin}

-- the query names columns that its streams have
abbrev pub IsOver : (ℕ → ℕ) → QueryValue → Type 0
IsOver width q = (a : Attr) → Contains q.select a ⊎ Contains (attrs_of q.atoms) a → a.column < width (slice_index_or q.from a.stream 0)

-- the row has a value for each column of its stream
abbrev pub IsRow : (ℕ → ℕ) → Arrival → Type 0
IsRow width r = length r.values ≡ width r.stream

-- all rows do
abbrev pub AreRows : (ℕ → ℕ) → List Arrival → Type 0
AreRows width [] = Unit {0}
AreRows width (r ∷ history) = IsRow width r × AreRows width history

-- to each row of the catalog, after each history of such rows, it answers what the query answers
abbrev pub IsRightOver : (ℕ → ℕ) → QueryValue → Evaluator → Type 0
IsRightOver width q e = (history : List Arrival) (r : Arrival) → AreRows width history → IsRow width r → e.says (after e e.start history) r ≡ new_answers q history r

-- the histories of at most n rows of the catalog with values within a bound lead to at most so many different states
pub record HasStatesOver (width : ℕ → ℕ) (e : Evaluator) (n bound most : ℕ) : Type 0 where
  pub states : List ℕ
  pub size : length states ≤ most
  pub all : (history : List Arrival) → AreRows width history → length history ≤ n → AreWithin bound history → Contains states (after e e.start history)

-- for one factor b, each evaluator that is right on the rows of the catalog is in at least 2^n states after at most n of them with values
-- within b * (n + 1): that there is no such factor is absurd
abbrev pub NeedsStatesOver : (ℕ → ℕ) → QueryValue → Type 0
NeedsStatesOver width q = ¬ ((b : ℕ) → ¬ ((e : Evaluator) → IsRightOver width q e → (n most : ℕ) → HasStatesOver width e n (b * suc n) most → 2 ^ n ≤ most))

-- a plain query over a catalog that is refused needs many states, even of evaluators that are right only on rows of the catalog
abbrev pub CatalogNeedsStates : Type 0
CatalogNeedsStates =
    (q : QueryValue) → IsWithinLimits q → IsPlain q → (f : Failure) → IsViolation q (Some f) → (width : ℕ → ℕ) → IsOver width q → NeedsStatesOver width q
