-- The name of a class, and how it stands at a link.
use Rattle.std.specs.Prelude.{◌≡◌, ℕ, ◌≤◌, ◌⊎◌, List}
use Rattle.sem_query.specs.declared.atom.Attr.{Attr}
use Rattle.sem_query.specs.declared.atom.Op.{Op}
use Rattle.sem_query.specs.Query.{QueryValue}
use Rattle.sem_whole.specs.System.{Difference, system, AreOneClass}
use Rattle.sem_whole.specs.Plan.{NamesClass}
use Rattle.plan_whole.specs.declared.links.ColumnLink.{ColumnLink}

-- a column of the stream of another
abbrev pub beside : Attr → ℕ → Attr
beside a c = record { stream = a.stream; column = c }

-- the first column of a class
pub record IsNameOf (q : QueryValue) (a n : Attr) : Type 0 where
  pub inside : AreOneClass (system q) n a
  pub name : NamesClass q n
  pub early : n.column ≤ a.column

-- the class stands at most on the left of the link, and then of `<` or `<=`
pub record IsLeftAt (ds : List Difference) (a : Attr) (l : ColumnLink) : Type 0 where
  pub left : AreOneClass ds a l.left → (l.op ≡ Op.Lt) ⊎ (l.op ≡ Op.Le)
  pub right : ¬ AreOneClass ds a l.right

-- or on the right
pub record IsRightAt (ds : List Difference) (a : Attr) (l : ColumnLink) : Type 0 where
  pub left : ¬ AreOneClass ds a l.left
  pub right : AreOneClass ds a l.right → (l.op ≡ Op.Lt) ⊎ (l.op ≡ Op.Le)
