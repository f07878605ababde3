-- The columns that a plan names are columns of the streams of FROM.
use Rattle.std.specs.Prelude.{◌≡◌, ℕ, ◌⊎◌, List, [], length, All}
use Rattle.sem_query.specs.declared.atom.Op.{Op}
use Rattle.sem_query.specs.declared.part.Pair.{Pair}
use Rattle.sem_query.specs.declared.plan.Dim.{Dim}
use Rattle.sem_query.specs.declared.plan.Kind.{Kind}
use Rattle.sem_query.specs.declared.plan.Link.{Link}
use Rattle.sem_query.specs.declared.plan.PartPlan.{PartPlan}
use Rattle.sem_query.specs.declared.plan.SoftLink.{SoftLink}
use Rattle.sem_query.specs.declared.plan.StreamPlan.{StreamPlan}
use Rattle.sem_query.specs.Query.{QueryValue}
use Rattle.sem_query.specs.Parts.{pairs}
use Rattle.sql_catalog.specs.Streams.{Shape}
use Rattle.sql_parser.specs.Resolution.{IsColumnOf, HasSide}

-- both sides of a pair are there
abbrev pub HasPair : List Shape → List ℕ → Pair → Type 0
HasPair streams from p = IsColumnOf streams from p.left × HasSide streams from p.right

-- both sides of a link are there
abbrev pub HasLink : List Shape → List ℕ → Link → Type 0
HasLink streams from l = IsColumnOf streams from l.left × IsColumnOf streams from l.right

-- both sides of a link that is neither `=` nor `<` are there, and it reads `<=` or `<>`
pub record HasSoftLink (streams : List Shape) (from : List ℕ) (l : SoftLink) : Type 0 where
  pub left : IsColumnOf streams from l.left
  pub right : IsColumnOf streams from l.right
  pub reads : (l.op ≡ Op.Le) ⊎ (l.op ≡ Op.Ne)

-- the column of a dim is there
abbrev pub HasDim : List Shape → List ℕ → Dim → Type 0
HasDim streams from d = IsColumnOf streams from d.attr

-- the column of which a cell keeps an extreme value is there
abbrev pub HasKind : List Shape → List ℕ → Kind → Type 0
HasKind streams from Kind.Count = Unit {0}
HasKind streams from Kind.Present = Unit {0}
HasKind streams from (Kind.Least a) = IsColumnOf streams from a
HasKind streams from (Kind.Greatest a) = IsColumnOf streams from a

-- the columns of what is kept of a stream are there
pub record HasStream (streams : List Shape) (from : List ℕ) (s : StreamPlan) : Type 0 where
  pub dims : All (HasDim streams from) s.dims.items
  pub kind : HasKind streams from s.kind

-- the columns of a part are there, and it has a sign for each pair of the query, or none
pub record HasPart (streams : List Shape) (q : QueryValue) (part : PartPlan) : Type 0 where
  pub signs : (length (pairs q) ≡ length part.signs.items) ⊎ (part.signs.items ≡ [])
  pub equal : All (HasLink streams q.from) part.equal.items
  pub less : All (HasLink streams q.from) part.less.items
  pub soft : All (HasSoftLink streams q.from) part.soft.items
  pub kept : All (HasStream streams q.from) part.streams.items
