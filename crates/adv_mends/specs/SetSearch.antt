-- What looking at one more set adds to those that were found.
use Rattle.std.specs.Prelude.{◌≡◌, if◌then◌else◌, List, [], ◌∷◌, ◌++◌}
use Rattle.sem_query.specs.declared.atom.Attr.{Attr}
use Rattle.sem_query.specs.Query.{QueryValue, attr_eq}
use Rattle.adv_mends.specs.declared.mend.ChangeKind.{ChangeKind}
use Rattle.adv_mends.specs.Ends.{MendsBy}
use Rattle.adv_mends.specs.Sets.{HasWithin}

-- the columns behind the first, where that is the column, and else all
abbrev pub behind : Attr → List Attr → List Attr
behind column [] = []
behind column (first ∷ others) = if attr_eq first column then others else first ∷ others

-- a set that contains one that was found is passed over, as is one that does not mend the query; any other is found
pub data Looks (kind : ChangeKind) (q : QueryValue) (set : List Attr) (before after : List (List Attr)) : Type 0 where
  passed : HasWithin before set → after ≡ before → Looks kind q set before after
  failed : ¬ MendsBy kind set q → after ≡ before → Looks kind q set before after
  found : ¬ HasWithin before set → MendsBy kind set q → after ≡ before ++ set ∷ [] → Looks kind q set before after
