-- Parts by the signs that they begin with.
use Rattle.std.specs.Prelude.{◌≡◌, ℕ, true, false, List, ◌++◌, take, length}
use Rattle.sem_query.specs.declared.atom.Atom.{Atom}
use Rattle.sem_query.specs.declared.part.Pair.{Pair}
use Rattle.sem_query.specs.declared.part.Sign.{Sign}
use Rattle.sem_query.specs.Query.{QueryValue, is_soft}
use Rattle.sem_query.specs.Assignment.{Assignment, AtomHolds, KeepsDomains}
use Rattle.sem_query.specs.Parts.{pairs, pair_of, signs_of, signs_lt, IsPart}
use Rattle.sem_query.specs.Members.{Has, Ascends}

-- the sign vector begins with pre
pub record StartsWith (pre s : List Sign) : Type 0 where
  pub rest : List Sign
  pub is : s ≡ pre ++ rest

-- the pair that a soft comparison names, if it names one, is among the first n
abbrev pub IsDecided : QueryValue → ℕ → Atom → Type 0
IsDecided q n t = (p : Pair) → Has (pair_of t.left t.right) p → Has (take n (pairs q)) p

-- an assignment that keeps to the domains and whose signs begin with pre meets the comparisons that are not soft, and the soft ones
-- of which the signs in pre decide
pub record IsFeasible (q : QueryValue) (pre : List Sign) : Type 0 where
  pub one : Assignment
  pub hard : (t : Atom) → Has q.atoms t → is_soft t.op ≡ false → AtomHolds one t
  pub soft : (t : Atom) → Has q.atoms t → is_soft t.op ≡ true → IsDecided q (length pre) t → AtomHolds one t
  pub domains : KeepsDomains q one
  pub starts : StartsWith pre (signs_of q one)

-- xs is the list of the parts that begin with pre, ascending
pub record ArePartsUnder (q : QueryValue) (pre : List Sign) (xs : List (List Sign)) : Type 0 where
  pub ascends : Ascends signs_lt xs
  pub parts : (s : List Sign) → Has xs s → IsPart q s
  pub under : (s : List Sign) → Has xs s → StartsWith pre s
  pub all : (s : List Sign) → IsPart q s → StartsWith pre s → Has xs s
