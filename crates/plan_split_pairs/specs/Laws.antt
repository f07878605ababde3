-- What holds of the split pairs of every query.
use Rattle.std.specs.Prelude.{◌≡◌, ◌≤◌, Bool, false, not, List, ◌++◌, filter, length, Contains}
use Rattle.sem_query.specs.declared.atom.Attr.{Attr}
use Rattle.sem_query.specs.declared.atom.Element.{Element}
use Rattle.sem_query.specs.declared.atom.Atom.{Atom}
use Rattle.sem_query.specs.declared.atom.Element.TheVariants as element
use Rattle.sem_query.specs.declared.atom.Op.{Op}
use Rattle.sem_query.specs.declared.part.Pair.{Pair}
use Rattle.sem_query.specs.Members.{Has}
use Rattle.sem_query.specs.Query.{QueryValue, attrs_of, IsShort, IsWithinLimits}
use Rattle.sem_query.specs.Parts.{same_stream, pair_of}
use Rattle.plan_split_pairs.specs.Pairs.{unlike_pairs, split_pairs}

-- one of these columns, or an integer of at most 15 digits
abbrev pub IsColumnOrShort : List Attr → Element → Type 0
IsColumnOrShort attrs (element.Attr a) = Contains attrs a
IsColumnOrShort attrs (element.Const k) = IsShort k

-- the left side of a pair is one of these columns, and the right side one too or an integer of at most 15 digits
pub record IsNamed (attrs : List Attr) (p : Pair) : Type 0 where
  pub left : Contains attrs p.left
  pub right : IsColumnOrShort attrs p.right

-- the columns of split pairs are attributes, and their integers may be written
abbrev pub SplitPairsAreNamed : Type 0
SplitPairsAreNamed = (q : QueryValue) → IsWithinLimits q → (p : Pair) → Has (split_pairs q) p → IsNamed (attrs_of q.atoms) p

-- whether an element is a column of another stream than a column
abbrev pub is_of_another : Attr → Element → Bool
is_of_another a (element.Attr b) = not (same_stream a b)
is_of_another a (element.Const k) = false

-- at most eight split pairs are of columns of two streams
abbrev pub FewPairsBetween : Type 0
FewPairsBetween = (q : QueryValue) → IsWithinLimits q → length (filter (λ p. is_of_another p.left p.right) (split_pairs q)) ≤ 8

-- the first split pairs are those of `<>`, at most eight, and the pair of each `<>` is among them
pub record BeginWithUnlikes (q : QueryValue) : Type 0 where
  pub others : List Pair
  pub joined : split_pairs q ≡ unlike_pairs q ++ others
  pub few : length (unlike_pairs q) ≤ 8
  pub each : (t : Atom) → Has q.atoms t → t.op ≡ Op.Ne → (p : Pair) → Has (pair_of t.left t.right) p → Has (unlike_pairs q) p
  pub only : (p : Pair) → Has (unlike_pairs q) p → (t : Atom) × Has q.atoms t × (t.op ≡ Op.Ne) × Has (pair_of t.left t.right) p

abbrev pub UnlikesArePairs : Type 0
UnlikesArePairs = (q : QueryValue) → IsWithinLimits q → BeginWithUnlikes q
