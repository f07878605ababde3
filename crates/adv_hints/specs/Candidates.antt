-- What may stand at a place of a statement: by what text it is tried, and how it is told.
use Rattle.std.specs.Prelude.{◌≡◌, ℕ, ◌<◌, ◌⊎◌, Bool, true, false, List, [], ◌∷◌, ◌++◌, length, codes}
use Rattle.sql_parser.specs.declared.tree.Statement.{Statement}
use Rattle.sql_parser.specs.Syntax.{IsStatement, IsFault}
use Rattle.adv_hints.specs.declared.candidates.Candidate.{Candidate}
use Rattle.adv_hints.specs.declared.candidates.Candidate.TheVariants.{Name, Integer, Column, Points, SecondPoint, Comma, Open, Close, Comparison, End, Create, Stream, Query, As, Select, Distinct, From, Where, And, Explain, Drop, In, Shared, Compact, Checkpoint, Resume, Lock, Unlock, To}

-- a text of the candidate; behind a word that is not reserved there stands more, so that no name is tried by it
abbrev pub sample_of : Candidate → List ℕ
sample_of Name = codes "x"
sample_of Integer = codes "0"
sample_of Column = codes ".x"
sample_of Points = codes "..0"
sample_of SecondPoint = codes ".0"
sample_of Comma = codes ","
sample_of Open = codes "("
sample_of Close = codes ")"
sample_of Comparison = codes "<"
sample_of End = codes ";"
sample_of Create = codes "CREATE"
sample_of Stream = codes "STREAM"
sample_of Query = codes "QUERY"
sample_of As = codes "AS"
sample_of Select = codes "SELECT"
sample_of Distinct = codes "DISTINCT"
sample_of From = codes "FROM"
sample_of Where = codes "WHERE"
sample_of And = codes "AND"
sample_of Explain = codes "EXPLAIN"
sample_of Drop = codes "DROP"
sample_of In = codes "IN"
sample_of Shared = codes "SHARED"
sample_of Compact = codes "COMPACT QUERY"
sample_of Checkpoint = codes "CHECKPOINT"
sample_of Resume = codes "RESUME"
sample_of Lock = codes "LOCK 0"
sample_of Unlock = codes "UNLOCK 0"
sample_of To = codes "TO x"

-- how the candidate is told: a word or a parenthesis as it is tried
abbrev pub told_as : Candidate → List ℕ
told_as Name = codes "a name"
told_as Integer = codes "an integer"
told_as Column = codes "a point and a column"
told_as Points = codes ".."
told_as SecondPoint = codes "a second point"
told_as Comma = codes "a comma"
told_as Comparison = codes "one of < = > <= >= <>"
told_as End = codes "the end"
told_as Compact = codes "COMPACT"
told_as Lock = codes "LOCK"
told_as Unlock = codes "UNLOCK"
told_as To = codes "TO"
told_as c = sample_of c

-- a front of a statement, and behind a space the text of a candidate
abbrev pub tried : List ℕ → Candidate → List ℕ
tried front c = front ++ 32 ∷ sample_of c

-- a text is a statement, within the limits or not, or leaves the grammar at its end alone
pub data GoesOn (text : List ℕ) : Type 0 where
  whole : (s : Statement) → IsStatement text s → GoesOn text
  begun : IsFault text (length text) → GoesOn text

-- a text leaves the grammar before its end
pub record Stops (text : List ℕ) : Type 0 where
  pub at : ℕ
  pub fault : IsFault text at
  pub early : at ≡ length text → ⊥

-- whether a text goes on
abbrev pub GoesOnIf : Bool → List ℕ → Type 0
GoesOnIf true text = GoesOn text
GoesOnIf false text = Stops text

-- a candidate may stand behind a front: with it, the text fits into a line and goes on; or it does not
abbrev pub MayStand : Bool → List ℕ → Candidate → Type 0
MayStand true front c = GoesOn (tried front c)
MayStand false front c = (1024 < length (tried front c)) ⊎ Stops (tried front c)

-- of these candidates those that may stand behind a front, in their order
pub data AreNext (front : List ℕ) : List Candidate → List Candidate → Type 0 where
  none : AreNext front [] []
  may : (c : Candidate) (cs next : List Candidate) → AreNext front cs next → MayStand true front c → AreNext front (cs ++ c ∷ []) (next ++ c ∷ [])
  may_not : (c : Candidate) (cs next : List Candidate) → AreNext front cs next → MayStand false front c → AreNext front (cs ++ c ∷ []) next
