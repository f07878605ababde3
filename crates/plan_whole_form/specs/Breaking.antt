-- What breaks a condition.
use Rattle.std.specs.Prelude.{◌⊎◌, IsTrue, List}
use Rattle.sem_query.specs.declared.atom.Attr.{Attr}
use Rattle.sem_query.specs.declared.atom.Atom.{Atom}
use Rattle.sem_query.specs.Query.{QueryValue}
use Rattle.sem_whole.specs.Kept.{IsKeptAsItIs}
use Rattle.sem_whole.specs.Whole.{IsUnlike, IsOneWay, HasEarlier}

-- the class of the column is kept as it is, or in a link `<>`
abbrev pub IsFixed : QueryValue → List Atom → Attr → Type 0
IsFixed q links a = IsKeptAsItIs q links a ⊎ IsUnlike q links a

-- with DISTINCT, and where its links go one way, a class that comes before it is open and one-way as well
abbrev pub MayNotBeExtreme : QueryValue → List Atom → Attr → Type 0
MayNotBeExtreme q links a = IsTrue q.distinct → IsOneWay q links a → HasEarlier q links a
