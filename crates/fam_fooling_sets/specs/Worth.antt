-- What a family is worth: whatever keeps too little of a history answers wrong after some set of its rows.
use Rattle.std.specs.Prelude.{◌≡◌, ◌≢◌, ℕ, ◌<◌, ◌^◌, Bool, List, ◌∷◌, ◌++◌, length, ℤ}
use Rattle.sem_query.specs.declared.atom.Attr.{Attr}
use Rattle.sem_query.specs.declared.condition.Condition.{Condition}
use Rattle.sem_query.specs.Query.{QueryValue, IsWithinLimits}
use Rattle.sem_query.specs.Meaning.{Arrival, new_answers}
use Rattle.fam_fooling_sets.specs.Family.{FamilyValue, IsFamily, history_of, asking_at}

-- what is kept of a history, as a number, and what is answered to a row by that and by the rows that came since
pub record Keeper : Type 0 where
  pub keeps : List Arrival → ℕ
  pub says : ℕ → List Arrival → Arrival → List (List ℤ)

-- of each history one of so many numbers is kept
abbrev pub KeepsOneOf : ℕ → Keeper → Type 0
KeepsOneOf k e = (history : List Arrival) → e.keeps history < k

-- after some set of the family's rows one of the rows that ask for a number is answered otherwise than by the query
pub record IsWrong (q : QueryValue) (n : ℕ) (f : FamilyValue) (e : Keeper) : Type 0 where
  pub marks : List Bool
  pub size : length marks ≡ n
  pub number : ℕ
  pub below : number < n
  pub since : List Arrival
  pub row : Arrival
  pub behind : List Arrival
  pub asks : asking_at f number ≡ since ++ row ∷ behind
  pub wrong : e.says (e.keeps (history_of f marks)) since row ≢ new_answers q (history_of f marks ++ since) row

-- where a query has a family of n rows, whatever keeps one of fewer than 2^n numbers is wrong on it
abbrev pub FamiliesNeedStates : Type 0
FamiliesNeedStates =
    (q : QueryValue) (condition : Condition) (a : Attr) (n : ℕ) (f : FamilyValue) → IsWithinLimits q → IsFamily q condition a n f
    → (e : Keeper) (k : ℕ) → KeepsOneOf k e → k < 2 ^ n → IsWrong q n f e
