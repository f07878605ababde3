-- What the sign of a pair, or its sides alone, say of a soft comparison.
use Rattle.std.specs.Prelude.{◌≡◌, ℤ, pos, neg_ℤ, Bool, true, false, not, ◌&&◌, if◌then◌else◌, List, length, Option, Some, None}
use Rattle.std.specs.List.{list_any}
use Rattle.sem_query.specs.declared.atom.Atom.{Atom}
use Rattle.sem_query.specs.declared.atom.Element.TheVariants as element
use Rattle.sem_query.specs.declared.atom.Op.{Op}
use Rattle.sem_query.specs.declared.atom.Op.TheVariants.{Lt, Eq, Gt, Le, Ge, Ne}
use Rattle.sem_query.specs.declared.part.Pair.{Pair}
use Rattle.sem_query.specs.declared.part.Sign.{Sign}
use Rattle.sem_query.specs.Query.{QueryValue, is_soft}
use Rattle.sem_query.specs.Assignment.{Assignment, compares, AtomHolds}
use Rattle.sem_query.specs.Parts.{pair_of, element_eq, pair_eq, signs_of}
use Rattle.sem_query.specs.Members.{Has}
use Rattle.sem_query.specs.Prefixes.{StartsWith, IsDecided}
use Rattle.plan_constraints.specs.Nodes.{turned}

-- an integer that has the sign to 0
abbrev pub stands : Sign → ℤ
stands Sign.Lt = neg_ℤ (pos 1)
stands Sign.Eq = pos 0
stands Sign.Gt = pos 1

-- the sign of the sides of a comparison that names the pair, where the pair has this sign
abbrev pub sides_sign : Atom → Pair → Sign → Sign
sides_sign t p s = if element_eq t.left (element.Attr p.left) then s else turned s

-- whether the comparison is soft, names the pair, and is false where the pair has the sign
abbrev pub fails_by : Atom → Pair → Sign → Bool
fails_by t p s = is_soft t.op && list_any (λ r. pair_eq r p) (pair_of t.left t.right) && not (compares t.op (stands (sides_sign t p s)) (pos 0))

-- whether a comparison of the query is false where the next pair, if there is one, has the sign
abbrev pub next_fails : List Atom → Option Pair → Sign → Bool
next_fails ts None s = false
next_fails ts (Some p) s = list_any (λ t. fails_by t p s) ts

abbrev pub is_unequal : Op → Bool
is_unequal Lt = false
is_unequal Eq = false
is_unequal Gt = false
is_unequal Le = false
is_unequal Ge = false
is_unequal Ne = true

-- whether the comparison says that an element is not itself
abbrev pub denies_itself : Atom → Bool
denies_itself t = is_unequal t.op && element_eq t.left t.right

-- the soft comparisons of which the signs decide hold in each assignment that begins with the signs
abbrev pub SoftHold : QueryValue → List Sign → Type 0
SoftHold q signs = (t : Atom) → Has q.atoms t → is_soft t.op ≡ true → IsDecided q (length signs) t → (v : Assignment) → StartsWith signs (signs_of q v) → AtomHolds v t
