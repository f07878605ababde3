-- Columns without an end, and differences between two streams.
use Rattle.std.specs.Prelude.{◌≡◌, ◌≢◌, ◌⊎◌, List}
use Rattle.std.specs.declared.option.Option.TheVariants.{None}
use Rattle.sem_query.specs.declared.atom.Attr.{Attr}
use Rattle.sem_query.specs.declared.atom.Element.TheVariants as element
use Rattle.sem_query.specs.Members.{Has}
use Rattle.sem_whole.specs.System.{Difference}
use Rattle.sem_whole.specs.Kept.{IsLowest, IsHighest}

-- no integer is as great as the column in each solution
abbrev pub NoTop : List Difference → Attr → Type 0
NoTop ds a = IsHighest ds a None

-- no integer is as small as the column in each solution
abbrev pub NoBottom : List Difference → Attr → Type 0
NoBottom ds a = IsLowest ds a None

-- a difference between columns of two streams
pub record Step (ds : List Difference) (x y : Attr) : Type 0 where
  pub of : Difference
  pub among : Has ds of
  pub left : of.left ≡ element.Attr x
  pub right : of.right ≡ element.Attr y
  pub across : x.stream ≢ y.stream

-- the left sides of two differences lack a greatest value, or their right sides a least
abbrev pub OneEnd : List Difference → Attr → Attr → Attr → Attr → Type 0
OneEnd ds x1 y1 x2 y2 = (NoTop ds x1 × NoTop ds x2) ⊎ (NoBottom ds y1 × NoBottom ds y2)
