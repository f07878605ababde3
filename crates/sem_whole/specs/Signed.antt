-- A query with the signs of some pairs as further comparisons, and what the whole form needs of a query.
use Rattle.std.specs.Prelude.{◌≡◌, ◌≢◌, ◌<◌, ◌≤◌, ◌↔◌, IsTrue, List, [], ◌∷◌, ◌++◌, map, filter, length, All, AllPairs, Contains}
use Rattle.sem_query.specs.declared.atom.Atom.{Atom}
use Rattle.sem_query.specs.declared.atom.Element.{Element}
use Rattle.sem_query.specs.declared.atom.Element.TheVariants as element
use Rattle.sem_query.specs.declared.atom.Op.{Op}
use Rattle.sem_query.specs.declared.atom.Attr.{Attr}
use Rattle.sem_query.specs.declared.part.Pair.{Pair}
use Rattle.sem_query.specs.declared.part.Sign.{Sign}
use Rattle.sem_query.specs.Members.{Has}
use Rattle.sem_query.specs.Query.{QueryValue, attrs_of, consts_of, attr_lt, is_soft, IsColumn, IsShort, IsDomain, HasAttr, IsWithinLimits}
use Rattle.sem_query.specs.Assignment.{Assignment, AtomHolds, Holds, KeepsDomains}
use Rattle.sem_query.specs.Parts.{sign_at}
use Rattle.sem_whole.specs.System.{system, Solves}
use Rattle.sem_whole.specs.Links.{are_across, comparison, across, AreLinks}

-- the operator that says a sign
abbrev pub op_of : Sign → Op
op_of Sign.Lt = Op.Lt
op_of Sign.Eq = Op.Eq
op_of Sign.Gt = Op.Gt

-- what the sign of a pair says
abbrev pub said : Pair → Sign → Atom
said p s = comparison (element.Attr p.left) (op_of s) p.right

-- what the signs of pairs say; the shorter list ends it
abbrev pub all_said : List Pair → List Sign → List Atom
all_said [] ss = []
all_said (p ∷ ps) [] = []
all_said (p ∷ ps) (s ∷ ss) = said p s ∷ all_said ps ss

-- the query with the signs of pairs as comparisons before its own
abbrev pub with_signs : List Pair → List Sign → QueryValue → QueryValue
with_signs ps ss q = record q { atoms = all_said ps ss ++ q.atoms }

-- what the whole form needs of a query: the limits of a statement, but for how many comparisons, integers and domains there are
pub record IsWellFormed (q : QueryValue) : Type 0 where
  pub streams : (0 < length q.from) × (length q.from ≤ 4)
  pub different : AllPairs (λ s t. s ≢ t) q.from
  pub selected : (0 < length q.select) × (length q.select ≤ 8)
  pub select : All (IsColumn (length q.from)) q.select
  pub sides : All HasAttr q.atoms
  pub few_attrs : length (attrs_of q.atoms) ≤ 12
  pub attrs : All (IsColumn (length q.from)) (attrs_of q.atoms)
  pub consts : All IsShort (consts_of q.atoms)
  pub domains : All (IsDomain q) q.domains
  pub ascending : AllPairs (λ d e. IsTrue (attr_lt d.attr e.attr)) q.domains
  pub few_soft_links : length (filter (λ t. is_soft t.op) (across q.atoms)) ≤ 16

-- one of these columns, or an integer that may be written
abbrev pub IsSide : List Attr → Element → Type 0
IsSide attrs (element.Attr a) = Contains attrs a
IsSide attrs (element.Const k) = IsShort k

-- pairs of attributes of a query, and of them with integers, each with a sign; at most eight are of two streams
pub record AreSignedPairs (q : QueryValue) (ps : List Pair) (ss : List Sign) : Type 0 where
  pub left : (p : Pair) → Has ps p → Contains (attrs_of q.atoms) p.left
  pub right : (p : Pair) → Has ps p → IsSide (attrs_of q.atoms) p.right
  pub same : length ps ≡ length ss
  pub few : length (filter (λ p. are_across (element.Attr p.left) p.right) ps) ≤ 8

-- a query within the limits of a statement is well formed
abbrev pub QueriesAreWellFormed : Type 0
QueriesAreWellFormed = (q : QueryValue) → IsWithinLimits q → IsWellFormed q

-- what signs say holds of an assignment exactly where the pairs have these signs in it
abbrev pub SignsAreSaid : Type 0
SignsAreSaid =
    (v : Assignment) (ps : List Pair) (ss : List Sign) → length ps ≡ length ss
    → (map (sign_at v) ps ≡ ss) ↔ ((t : Atom) → Has (all_said ps ss) t → AtomHolds v t)

-- an assignment satisfies the query with signs exactly where it satisfies the query and has them
abbrev pub SignedQueriesHold : Type 0
SignedQueriesHold =
    (q : QueryValue) (ps : List Pair) (ss : List Sign) → length ps ≡ length ss → (v : Assignment)
    → Holds (with_signs ps ss q) v ↔ (Holds q v × map (sign_at v) ps ≡ ss)

-- signs name no further columns
abbrev pub SignedAttrsAreTheSame : Type 0
SignedAttrsAreTheSame = (q : QueryValue) (ps : List Pair) (ss : List Sign) → AreSignedPairs q ps ss → attrs_of (with_signs ps ss q).atoms ≡ attrs_of q.atoms

-- a query within the limits is well formed with signs too
abbrev pub SignedQueriesAreWellFormed : Type 0
SignedQueriesAreWellFormed = (q : QueryValue) (ps : List Pair) (ss : List Sign) → IsWithinLimits q → AreSignedPairs q ps ss → IsWellFormed (with_signs ps ss q)

-- at most 16 links are soft
abbrev pub SoftLinksAreFew : Type 0
SoftLinksAreFew = (q : QueryValue) → IsWellFormed q → (links : List Atom) → AreLinks q links → length (filter (λ t. is_soft t.op) links) ≤ 16

-- a solution that meets each `<>` satisfies the query within its domains
abbrev pub SolutionsSatisfy : Type 0
SolutionsSatisfy =
    (q : QueryValue) (v : Assignment) → Solves (system q) v → ((t : Atom) → Has q.atoms t → t.op ≡ Op.Ne → AtomHolds v t)
    → Holds q v × KeepsDomains q v
