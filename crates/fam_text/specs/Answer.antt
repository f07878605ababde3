-- What is answered where a family over the streams of a catalog is asked for.
use Rattle.std.specs.Prelude.{◌≡◌, ℕ, ◌<◌, ⊤, List, length, map, All, Contains, FitsSigned, Result, Ok, Err}
use Rattle.std.specs.Int.{w64}
use Rattle.sem_query.specs.declared.atom.Attr.{Attr}
use Rattle.sem_query.specs.declared.condition.Condition.{Condition}
use Rattle.sem_query.specs.declared.condition.Condition.TheVariants.{C2, C3}
use Rattle.sem_query.specs.declared.decision.Decision.{Decision}
use Rattle.sem_query.specs.declared.decision.Decision.TheVariants as decision
use Rattle.sem_query.specs.Query.{QueryValue}
use Rattle.sem_query.specs.Meaning.{Arrival}
use Rattle.sql_catalog.specs.Streams.{Shape, shape_at, KeepsDomains}
use Rattle.sql_parser.specs.Resolution.{IsColumnOf}
use Rattle.fam_fooling_sets.specs.declared.error.LowerError.{LowerError}
use Rattle.fam_fooling_sets.specs.declared.error.LowerError.TheVariants as why
use Rattle.fam_fooling_sets.specs.Family.{FamilyValue, IsFamily, row_at, asking_at, as_arrival}
use Rattle.fam_fooling_sets.specs.Laws.{AreLocalFor}
use Rattle.fam_fooling_sets.specs.Lowered.{HasPairAcross, IsWholeFor, LacksRows, AreLike}
use Rattle.fam_text.specs.Blank.{blank_row}

-- the arrival is a row of one of the streams, with a value of 64 bits for each of its columns, in the domains of the columns
pub record IsTakenRow (streams : List Shape) (r : Arrival) : Type 0 where
  pub there : r.stream < length streams
  pub wide : length r.values ≡ length (shape_at streams r.stream).columns
  pub keeps : KeepsDomains streams r.stream r.values
  pub fits : All (FitsSigned w64) r.values

-- so have all rows of a family
pub record AreTakenRows (streams : List Shape) (n : ℕ) (f : FamilyValue) : Type 0 where
  pub rows : (i : ℕ) → i < n → IsTakenRow streams (as_arrival f (row_at f i))
  pub asking : (i : ℕ) → i < n → (r : Arrival) → Contains (asking_at f i) r → IsTakenRow streams r

-- A family of so many rows that a session with the streams takes; for an unbounded equality or inequality no pair lies between streams, and for an
-- inequality the query is not compact, and no column has a domain. A column that the query does not read has the least value of its domain, or 0.
pub record HasFamilyOver (streams : List Shape) (q : QueryValue) (condition : Condition) (a : Attr) (n : ℕ) (f : FamilyValue) : Type 0 where
  pub local : AreLocalFor q condition
  pub whole : IsWholeFor q condition
  pub family : IsFamily q condition a n f
  pub taken : AreTakenRows streams n f
  pub like : AreLike q (map (blank_row streams) q.from) n f

-- a family of so many rows for the column that is named with it, which the query reads; a session with the streams takes the rows
pub record IsFoundOver (streams : List Shape) (q : QueryValue) (condition : Condition) (a : Attr) (n : ℕ) (f : FamilyValue) : Type 0 where
  pub column : IsColumnOf streams q.from a
  pub family : IsFamily q condition a n f
  pub taken : AreTakenRows streams n f
  pub like : AreLike q (map (blank_row streams) q.from) n f

-- what is answered where a part breaks a condition at a column
abbrev pub AnswersBroken : List Shape → QueryValue → Condition → Attr → ℕ → Result FamilyValue LowerError → Type 0
AnswersBroken streams q condition a n (Ok f) = HasFamilyOver streams q condition a n f
AnswersBroken streams q condition a n (Err why.Bounded) = ⊥
AnswersBroken streams q condition a n (Err why.C2) = (condition ≡ C2) × HasPairAcross q
AnswersBroken streams q condition a n (Err why.C3) = (condition ≡ C3) × LacksRows q
AnswersBroken streams q condition a n (Err why.Memory) = ⊤

-- what is answered by the decision
abbrev pub IsFamilyAnswer : List Shape → QueryValue → Decision → ℕ → Result FamilyValue LowerError → Type 0
IsFamilyAnswer streams q decision.Bounded n result = result ≡ Err why.Bounded
IsFamilyAnswer streams q (decision.Violation part condition a) n result = AnswersBroken streams q condition a n result
