-- Evaluators of a query, and how many states they need.
use Rattle.std.specs.Prelude.{◌≡◌, ℕ, suc, ◌<◌, ◌≤◌, ◌*◌, ◌^◌, nat_abs, ℤ, List, [], ◌∷◌, ◌++◌, length, IsTrue, Contains}
use Rattle.std.specs.declared.option.Option.TheVariants.{Some}
use Rattle.sem_query.specs.Query.{QueryValue, IsWithinLimits, is_filter}
use Rattle.sem_query.specs.Meaning.{Arrival, new_answers}
use Rattle.sem_query.specs.Violation.{Failure, IsViolation}
use Rattle.sem_lower_bounds.specs.Plain.{IsPlain}

-- an evaluator whose states are numbers: the first state, the state after one more row, and what is answered to a row
pub record Evaluator : Type 0 where
  pub start : ℕ
  pub step : ℕ → Arrival → ℕ
  pub says : ℕ → Arrival → List (List ℤ)

-- the state that these rows lead to from a state
abbrev pub after : Evaluator → ℕ → List Arrival → ℕ
after e s [] = s
after e s (r ∷ later) = after e (e.step s r) later

-- to each row after each history it answers what the query answers
abbrev pub IsRight : QueryValue → Evaluator → Type 0
IsRight q e = (history : List Arrival) (r : Arrival) → e.says (after e e.start history) r ≡ new_answers q history r

-- the values of a row lie between -bound and bound
abbrev pub IsWithin : ℕ → List ℤ → Type 0
IsWithin bound [] = Unit {0}
IsWithin bound (z ∷ row) = (nat_abs z ≤ bound) × IsWithin bound row

-- those of all rows do
abbrev pub AreWithin : ℕ → List Arrival → Type 0
AreWithin bound [] = Unit {0}
AreWithin bound (r ∷ history) = IsWithin bound r.values × AreWithin bound history

-- the histories of at most n rows with values within a bound lead to at most so many different states
pub record HasStates (e : Evaluator) (n bound most : ℕ) : Type 0 where
  pub states : List ℕ
  pub size : length states ≤ most
  pub all : (history : List Arrival) → length history ≤ n → AreWithin bound history → Contains states (after e e.start history)

-- for some n it has fewer than 2^n states after at most n rows with values within b * (n + 1)
pub record HasFewFor (e : Evaluator) (b : ℕ) : Type 0 where
  pub n : ℕ
  pub most : ℕ
  pub states : HasStates e n (b * suc n) most
  pub few : most < 2 ^ n

-- whatever the factor b: as where the number of states is a polynomial in the number of rows and the bound on their values
abbrev pub HasFewStates : Evaluator → Type 0
HasFewStates e = (b : ℕ) → HasFewFor e b

-- whatever the number n, each evaluator that is right is in at least 2^n states after at most n rows with values within b * (n + 1)
abbrev pub NeedsStatesBy : QueryValue → ℕ → Type 0
NeedsStatesBy q b = (e : Evaluator) → IsRight q e → (n most : ℕ) → HasStates e n (b * suc n) most → 2 ^ n ≤ most

-- for one factor b, the same for all evaluators, this is so: that there is none is absurd
abbrev pub NeedsStates : QueryValue → Type 0
NeedsStates q = ¬ ((b : ℕ) → ¬ NeedsStatesBy q b)

-- a plain query that is refused needs many states
abbrev pub RefusedNeedsStates : Type 0
RefusedNeedsStates = (q : QueryValue) → IsWithinLimits q → IsPlain q → (f : Failure) → IsViolation q (Some f) → NeedsStates q

-- different histories lead to different states
abbrev pub KeepsHistories : Evaluator → Type 0
KeepsHistories e = (g h : List Arrival) → after e e.start g ≡ after e e.start h → g ≡ h

-- each query has an evaluator that is right: one that keeps whole histories
abbrev pub WholeHistoriesAreRight : Type 0
WholeHistoriesAreRight = (q : QueryValue) → (e : Evaluator) × KeepsHistories e × IsRight q e

-- a filter, which is never refused, has an evaluator that is right and has few states
abbrev pub FiltersNeedFewStates : Type 0
FiltersNeedFewStates = (q : QueryValue) → IsTrue (is_filter q) → (e : Evaluator) × IsRight q e × HasFewStates e

-- whatever follows, each row is answered alike after the one history and after the other
abbrev pub AnsweredAlike : QueryValue → List Arrival → List Arrival → Type 0
AnsweredAlike q g h = (later : List Arrival) (r : Arrival) → new_answers q (g ++ later) r ≡ new_answers q (h ++ later) r
