-- Values of all numbers, and which mixtures of two of them do not satisfy the query.
use Rattle.std.specs.Prelude.{◌≡◌, ◌≢◌, ℕ, suc, ◌<◌, ◌≤ℤ◌, ◌<ℤ◌, cond, nat_eq, List, [], length, ℤ, IsFalse}
use Rattle.std.specs.List.{slice_index_or, All}
use Rattle.arrayvec.specs.ArrayVec.{ArrayVec as Items}
use Rattle.sem_query.specs.declared.atom.Attr.{Attr}
use Rattle.sem_query.specs.Query.{QueryValue, attrs_of}
use Rattle.sem_query.specs.Assignment.{Assignment, Holds}
use Rattle.fam_motions.specs.Values.{valued, IsSolution}

-- one attribute is at most another wherever the query is satisfied
abbrev pub SaysAtMost : QueryValue → Attr → Attr → Type 0
SaysAtMost q x y = (v : Assignment) → Holds q v → v x ≤ℤ v y

-- so many values of the attributes, each of which satisfies the query
pub record AreSolutions (q : QueryValue) (n : ℕ) (all : List (Items ℤ)) : Type 0 where
  pub many : length all ≡ n
  pub each : All (λ (xs : Items ℤ). IsSolution q xs.items) all

-- the values of a number
abbrev pub values_at : List (Items ℤ) → ℕ → List ℤ
values_at all i = (slice_index_or all i (record { items = [] })).items

-- what one assignment has at a place of FROM, and another elsewhere
abbrev pub mixture : ℕ → Assignment → Assignment → Assignment
mixture place here elsewhere b = cond (nat_eq b.stream place) (here b) (elsewhere b)

-- what a later assignment has at the place, and an earlier one elsewhere, does not satisfy the query
abbrev pub LaterMixesFail : QueryValue → ℕ → ℕ → (ℕ → Assignment) → Type 0
LaterMixesFail q place n at = (i j : ℕ) → i < j → j < n → ¬ Holds q (mixture place (at j) (at i))

-- and what an earlier one has at the place, and a later one elsewhere
abbrev pub EarlierMixesFail : QueryValue → ℕ → ℕ → (ℕ → Assignment) → Type 0
EarlierMixesFail q place n at = (i j : ℕ) → i < j → j < n → ¬ Holds q (mixture place (at i) (at j))

-- what number j has at the place, and number i elsewhere, satisfies the query, unless j is the next number
pub record FailsAsNext (q : QueryValue) (place : ℕ) (at : ℕ → Assignment) (i j : ℕ) : Type 0 where
  pub fails : j ≡ suc i → ¬ Holds q (mixture place (at j) (at i))
  pub holds : j ≢ suc i → Holds q (mixture place (at j) (at i))

-- all mixtures satisfy the query but those of the next number
abbrev pub OnlyNextMixesFail : QueryValue → ℕ → ℕ → (ℕ → Assignment) → Type 0
OnlyNextMixesFail q place n at = (i j : ℕ) → i < n → j < n → FailsAsNext q place at i j

-- No mixture of two of them satisfies the query. Without DISTINCT it is enough that none of the one kind does, or that only those of the next number do
-- not.
pub data StayApart (q : QueryValue) (place n : ℕ) (at : ℕ → Assignment) : Type 0 where
  both : LaterMixesFail q place n at → EarlierMixesFail q place n at → StayApart q place n at
  later : IsFalse q.distinct → LaterMixesFail q place n at → StayApart q place n at
  earlier : IsFalse q.distinct → EarlierMixesFail q place n at → StayApart q place n at
  next : IsFalse q.distinct → OnlyNextMixesFail q place n at → StayApart q place n at

-- the assignment of a number
abbrev pub assigned : QueryValue → List (Items ℤ) → ℕ → Assignment
assigned q all i = valued (attrs_of q.atoms) (values_at all i)

-- at each later number the one attribute lies above what the other is at each earlier number
abbrev pub Rises : List Attr → List (Items ℤ) → Attr → Attr → Type 0
Rises attrs all above below = (i j : ℕ) → i < j → j < length all → valued attrs (values_at all i) below <ℤ valued attrs (values_at all j) above

-- and at each earlier number above what the other is at each later number
abbrev pub Falls : List Attr → List (Items ℤ) → Attr → Attr → Type 0
Falls attrs all above below = (i j : ℕ) → i < j → j < length all → valued attrs (values_at all j) below <ℤ valued attrs (values_at all i) above

-- no two numbers have one value at the column
abbrev pub Differ : ℕ → (ℕ → Assignment) → Attr → Type 0
Differ n at a = (i j : ℕ) → i < n → j < n → at i a ≡ at j a → i ≡ j
