-- Pairs that are added to a list, each once, and comparisons with integers that may be written.
use Rattle.std.specs.Prelude.{◌≡◌, ◌<◌, List, ◌++◌, length}
use Rattle.std.specs.declared.option.Option.{Option}
use Rattle.std.specs.declared.option.Option.TheVariants.{None, Some}
use Rattle.sem_query.specs.declared.atom.Atom.{Atom}
use Rattle.sem_query.specs.declared.atom.Element.{Element}
use Rattle.sem_query.specs.declared.atom.Element.TheVariants as element
use Rattle.sem_query.specs.declared.part.Pair.{Pair}
use Rattle.sem_query.specs.Query.{IsShort}
use Rattle.sem_query.specs.Parts.{each_once}

-- no pair is listed twice
abbrev pub IsOnce : List Pair → Type 0
IsOnce pairs = each_once pairs ≡ pairs

-- those of some pairs that are not listed are added, in order; or there are more than 114 with them
abbrev pub Adds : Option (Unit {0}) → List Pair → List Pair → List Pair → Type 0
Adds (Some done) before more after = after ≡ each_once (before ++ more)
Adds None before more after = 114 < length (each_once (before ++ more))

-- a column, or an integer of at most 15 digits
abbrev pub IsShortSide : Element → Type 0
IsShortSide (element.Attr a) = Unit {0}
IsShortSide (element.Const k) = IsShort k

-- the integers of a comparison have at most 15 digits
pub record IsWrittenShort (t : Atom) : Type 0 where
  pub left : IsShortSide t.left
  pub right : IsShortSide t.right
