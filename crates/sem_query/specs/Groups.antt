-- The groups of columns: those that comparisons of two columns join.
use Rattle.std.specs.Prelude.{◌≡◌, Bool, if◌then◌else◌, List, [], ◌∷◌}
use Rattle.sem_query.specs.declared.atom.Attr.{Attr}
use Rattle.sem_query.specs.declared.atom.Element.{Element}
use Rattle.sem_query.specs.declared.atom.Element.TheVariants as element
use Rattle.sem_query.specs.declared.atom.Atom.{Atom}
use Rattle.sem_query.specs.Members.{Has}
use Rattle.sem_query.specs.Query.{attr_eq}

-- one more comparison: where it names two columns, those of the group of the right one come to the group of the left one
abbrev pub group_with : (Attr → Attr) → Element → Element → Attr → Attr
group_with group (element.Attr x) (element.Attr y) a = if attr_eq (group a) (group y) then group x else group a
group_with group (element.Attr x) (element.Const k) a = group a
group_with group (element.Const k) y a = group a

-- the column that stands for the group of a column: with no comparison each stands for itself
unfoldable pub group_of : List Atom → Attr → Attr
group_of [] a = a
group_of (t ∷ ts) a = group_with (group_of ts) t.left t.right a

-- whether the same column stands for two
abbrev pub same_group : List Atom → Attr → Attr → Bool
same_group atoms a b = attr_eq (group_of atoms a) (group_of atoms b)

-- a chain of comparisons of two columns leads from one column to the other
pub data AreJoined (atoms : List Atom) : Attr → Attr → Type 0 where
  itself : {a : Attr} → AreJoined atoms a a
  compared : {a b : Attr} (t : Atom) → Has atoms t → t.left ≡ element.Attr a → t.right ≡ element.Attr b → AreJoined atoms a b
  turned : {a b : Attr} → AreJoined atoms a b → AreJoined atoms b a
  onward : {a b c : Attr} → AreJoined atoms a b → AreJoined atoms b c → AreJoined atoms a c
