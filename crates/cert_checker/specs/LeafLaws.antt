-- Law of the leaves of good trees: what their bounds say.
use Rattle.std.specs.Prelude.{◌≡◌, ◌↔◌, ℤ, ◌+ℤ◌, ◌-ℤ◌, ◌≤ℤ◌, ◌<ℤ◌, List, [], Contains}
use Rattle.sem_query.specs.declared.atom.Element.{Element}
use Rattle.sem_query.specs.declared.part.Sign.{Sign}
use Rattle.sem_query.specs.Query.{QueryValue, attrs_of, IsWithinLimits}
use Rattle.sem_query.specs.Assignment.{Assignment, value, IsAmong}
use Rattle.sem_query.specs.Parts.{InPart}
use Rattle.plan_constraints.specs.Nodes.{node_of, offset_of}
use Rattle.cert_checker.specs.Branching.{plain_branching, constraints_at}
use Rattle.cert_checker.specs.Rules.{IsBound}
use Rattle.cert_checker.specs.Tree.{Tree, IsGoodTree, PlacedLeaf, leaves_below}

-- x is at most so much above y in every assignment of the part, and just so much in one
pub record IsMostAbove (q : QueryValue) (s : List Sign) (x y : Element) (most : ℤ) : Type 0 where
  pub kept : (v : Assignment) → InPart q s v → value x v ≤ℤ (most +ℤ value y v)
  pub at : Assignment
  pub inside : InPart q s at
  pub reached : value x at ≡ most +ℤ value y at

-- whatever integer is named, x is more above y in some assignment of the part
pub record IsFreeAbove (q : QueryValue) (s : List Sign) (x y : Element) : Type 0 where
  pub passed : (most : ℤ) → (v : Assignment) × InPart q s v × ((most +ℤ value y v) <ℤ value x v)

-- a leaf says that x is at most so much above y: it has a bound of the node of x above that of y, moved by constants
abbrev pub SaysMost : QueryValue → PlacedLeaf → Element → Element → ℤ → Type 0
SaysMost q l x y most = IsBound (constraints_at (plain_branching q) l.signs) l.paths (node_of (attrs_of q.atoms) x) (node_of (attrs_of q.atoms) y) (offset_of y -ℤ offset_of x +ℤ most)

-- the leaf says how much x is at most above y in its part, and says nothing exactly where that has no limit
pub record IsTold (q : QueryValue) (l : PlacedLeaf) (x y : Element) : Type 0 where
  pub most : (most : ℤ) → SaysMost q l x y most ↔ IsMostAbove q l.signs x y most
  pub free : ((most : ℤ) → ¬ SaysMost q l x y most) ↔ IsFreeAbove q l.signs x y

-- in a tree that is good for a query within the limits the bounds of a leaf are what its part implies of any two columns that the comparisons name, or constants
abbrev pub LeavesAreTight : Type 0
LeavesAreTight =
    (q : QueryValue) → IsWithinLimits q → (t : Tree) → IsGoodTree (plain_branching q) [] t
    → (l : PlacedLeaf) → Contains (leaves_below [] t) l
    → (x y : Element) → IsAmong (attrs_of q.atoms) x → IsAmong (attrs_of q.atoms) y → IsTold q l x y
