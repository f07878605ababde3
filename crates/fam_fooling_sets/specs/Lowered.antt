-- Whether a query that is refused has a family.
use Rattle.std.specs.Prelude.{◌≡◌, ◌≢◌, ℕ, ◌<◌, ⊤, List, [], length, Contains, Option, None, Some, Result, Ok, Err, ℤ, IsTrue, IsFalse}
use Rattle.std.specs.List.{slice_index_or}
use Rattle.sem_query.specs.declared.atom.Attr.{Attr}
use Rattle.sem_query.specs.declared.condition.Condition.{Condition}
use Rattle.sem_query.specs.declared.condition.Condition.TheVariants.{C1, C2, C3}
use Rattle.sem_query.specs.declared.decision.Decision.{Decision}
use Rattle.sem_query.specs.declared.decision.Decision.TheVariants as decision
use Rattle.sem_query.specs.declared.part.Pair.{Pair}
use Rattle.sem_query.specs.declared.part.Sign.{Sign}
use Rattle.sem_query.specs.Query.{QueryValue, is_filter, IsWithinLimits}
use Rattle.sem_query.specs.Meaning.{Arrival}
use Rattle.sem_query.specs.Parts.{pairs, IsPart}
use Rattle.sem_query.specs.Violation.{Breaks}
use Rattle.fam_fooling_sets.specs.declared.error.LowerError.{LowerError}
use Rattle.fam_fooling_sets.specs.declared.error.LowerError.TheVariants as why
use Rattle.fam_fooling_sets.specs.Blanks.{IsLike}
use Rattle.fam_fooling_sets.specs.Family.{FamilyValue, IsFamily, Asks, row_at, asking_at}
use Rattle.fam_fooling_sets.specs.Making.{IsMade}
use Rattle.fam_fooling_sets.specs.Laws.{IsLocal, AreLocalFor}

-- some pair lies between streams
pub record HasPairAcross (q : QueryValue) : Type 0 where
  pub pair : Pair
  pub named : Contains (pairs q) pair
  pub across : ¬ IsLocal pair

-- a pair between streams, or none where none of them lies so
abbrev pub IsAcross : List Pair → Option Pair → Type 0
IsAcross ps None = (p : Pair) → Contains ps p → IsLocal p
IsAcross ps (Some p) = Contains ps p × ¬ IsLocal p

-- the arrival is a row of a place of FROM like the blank one there
pub record IsLikeBlank (q : QueryValue) (blanks : List (List ℤ)) (r : Arrival) : Type 0 where
  pub place : ℕ
  pub there : place < length q.from
  pub stream : r.stream ≡ slice_index_or q.from place 0
  pub like : IsLike q blanks place r.values

-- all rows are like the blank ones
pub record AreLike (q : QueryValue) (blanks : List (List ℤ)) (n : ℕ) (f : FamilyValue) : Type 0 where
  pub rows : (i : ℕ) → i < n → IsLikeBlank q blanks (record { stream = f.stream; values = row_at f i })
  pub asking : (i : ℕ) → i < n → (r : Arrival) → Contains (asking_at f i) r → IsLikeBlank q blanks r

-- the query is not compact, and no column has a domain
pub record IsWhole (q : QueryValue) : Type 0 where
  pub compact : IsFalse q.compact
  pub domains : q.domains ≡ []

-- where rows are made for an unbounded inequality, the query is so
abbrev pub IsWholeFor : QueryValue → Condition → Type 0
IsWholeFor q C1 = ⊤
IsWholeFor q C2 = ⊤
IsWholeFor q C3 = IsWhole q

-- why no rows are made for an unbounded inequality: the query is compact, a column has a domain, or a pair lies between streams
pub data LacksRows (q : QueryValue) : Type 0 where
  compact : IsTrue q.compact → LacksRows q
  domains : q.domains ≢ [] → LacksRows q
  across : HasPairAcross q → LacksRows q

-- rows that are made from assignments of a part, with different values at a column
pub record IsMadeFamily (q : QueryValue) (s : List Sign) (a : Attr) (blanks : List (List ℤ)) (n : ℕ) (f : FamilyValue) : Type 0 where
  pub stream : f.stream ≡ slice_index_or q.from a.stream 0
  pub size : length f.rows ≡ n
  pub many : length f.asking ≡ n
  pub asks : (i : ℕ) → i < n → Asks q f i
  pub made : IsMade q s a n f
  pub like : AreLike q blanks n f

-- such rows were made, or there was no memory
abbrev pub MakesFamily : QueryValue → List Sign → Attr → List (List ℤ) → ℕ → Result FamilyValue LowerError → Type 0
MakesFamily q s a blanks n (Ok f) = IsMadeFamily q s a blanks n f
MakesFamily q s a blanks n (Err why.Memory) = ⊤
MakesFamily q s a blanks n (Err why.Bounded) = ⊥
MakesFamily q s a blanks n (Err why.C2) = ⊥
MakesFamily q s a blanks n (Err why.C3) = ⊥

-- the signs are those of a part that breaks the condition at the column, and of the second and the third condition not both
pub record IsBroken (q : QueryValue) (s : List Sign) (condition : Condition) (a : Attr) : Type 0 where
  pub counts : IsFalse (is_filter q)
  pub within : IsWithinLimits q
  pub part : IsPart q s
  pub breaks : Breaks q s condition a
  pub second : condition ≡ C3 → (b : Attr) → ¬ Breaks q s C2 b

-- a family of so many rows for a condition that some part breaks at a column; for an unbounded equality or inequality no pair lies between
-- streams, and for an inequality the query is not compact, and no column has a domain
pub record HasFamily (q : QueryValue) (blanks : List (List ℤ)) (condition : Condition) (a : Attr) (n : ℕ) (f : FamilyValue) : Type 0 where
  pub local : AreLocalFor q condition
  pub whole : IsWholeFor q condition
  pub family : IsFamily q condition a n f
  pub like : AreLike q blanks n f

-- what is answered where a part breaks a condition at a column
abbrev pub LowersBroken : QueryValue → List (List ℤ) → Condition → Attr → ℕ → Result FamilyValue LowerError → Type 0
LowersBroken q blanks condition a n (Ok f) = HasFamily q blanks condition a n f
LowersBroken q blanks condition a n (Err why.Bounded) = ⊥
LowersBroken q blanks condition a n (Err why.C2) = (condition ≡ C2) × HasPairAcross q
LowersBroken q blanks condition a n (Err why.C3) = (condition ≡ C3) × LacksRows q
LowersBroken q blanks condition a n (Err why.Memory) = ⊤

-- what is answered by the decision
abbrev pub Lowers : QueryValue → List (List ℤ) → Decision → ℕ → Result FamilyValue LowerError → Type 0
Lowers q blanks decision.Bounded n result = result ≡ Err why.Bounded
Lowers q blanks (decision.Violation part condition a) n result = LowersBroken q blanks condition a n result
