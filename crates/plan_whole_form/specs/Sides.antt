-- How columns stand in links.
use Rattle.std.specs.Prelude.{◌≡◌, ◌⊎◌, List}
use Rattle.sem_query.specs.declared.atom.Attr.{Attr}
use Rattle.sem_query.specs.declared.atom.Atom.{Atom}
use Rattle.sem_query.specs.declared.atom.Op.{Op}
use Rattle.sem_query.specs.Query.{QueryValue}
use Rattle.sem_whole.specs.System.{Difference, system, AreOneClass}
use Rattle.sem_whole.specs.Whole.{IsOpenSide, IsOneWay}
use Rattle.plan_whole.specs.declared.links.ColumnLink.{ColumnLink}
use Rattle.plan_whole.specs.Asked.{IsSideOf}

-- the column is a side of the link
abbrev pub IsSide : Attr → ColumnLink → Type 0
IsSide a l = (l.left ≡ a) ⊎ (l.right ≡ a)

-- the link is a `<>`, and a side of it is of the class of the column
abbrev pub DiffersAt : List Difference → Attr → ColumnLink → Type 0
DiffersAt ds a l = (l.op ≡ Op.Ne) × IsSideOf ds a l

-- another column has an open kept range, its class may be the extreme of its stream, and it is not that of the column
pub record IsEarlier (q : QueryValue) (links : List Atom) (a first : Attr) : Type 0 where
  pub unbounded : IsOpenSide q links first
  pub way : IsOneWay q links first
  pub apart : ¬ AreOneClass (system q) first a
