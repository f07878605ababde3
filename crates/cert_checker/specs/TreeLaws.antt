-- Laws of the trees of certificates.
use Rattle.std.specs.Prelude.{◌≡◌, ◌↔◌, ℕ, List, [], map}
use Rattle.std.specs.declared.option.Option.TheVariants.{Some}
use Rattle.sem_query.specs.Query.{QueryValue, IsWithinLimits}
use Rattle.sem_query.specs.Parts.{AreParts}
use Rattle.plan_split_pairs.specs.SplitParts.{AreSplitParts}
use Rattle.cert_checker.specs.declared.answer.CheckAnswer.{CheckAnswer}
use Rattle.cert_checker.specs.declared.answer.Reason.{Reason}
use Rattle.cert_format.specs.Nodes.{Node}
use Rattle.cert_checker.specs.Branching.{Branching, plain_branching, whole_branching, split_branching}
use Rattle.cert_checker.specs.Branches.{AreAll, IsWholePart}
use Rattle.cert_checker.specs.Tree.{Tree, IsGoodTree, preorder, ListGoodTree, leaves_below}
use Rattle.cert_checker.specs.Reading.{IsGood, IsFirstFault}
use Rattle.cert_checker.specs.Shown.{IsCheckAnswer}
use Rattle.cert_checker.specs.Leaves.{leaves_of}

-- nodes that are read as good one behind the other, from the root to the end of the tree, are those of a good tree in preorder, and the
-- other way round
abbrev pub GoodIsTree : Type 0
GoodIsTree = (b : Branching) → (nodes : List Node) → IsGood b nodes ↔ ListGoodTree b nodes

-- nodes list one tree at most
abbrev pub ListOneTree : Type 0
ListOneTree = (t u : Tree) → preorder t ≡ preorder u → t ≡ u

-- the leaves of a tree that is good for a query within the limits, each by the signs on the way to it, are the parts of the query, in order
abbrev pub LeavesOfTreeAreParts : Type 0
LeavesOfTreeAreParts = (q : QueryValue) → IsWithinLimits q → (t : Tree) → IsGoodTree (plain_branching q) [] t → AreParts q (map (λ l. l.signs) (leaves_below [] t))

-- the leaves of nodes that are read as a good tree of a query within the limits are the parts of the query, in order
abbrev pub LeavesAreParts : Type 0
LeavesAreParts = (q : QueryValue) → IsWithinLimits q → (nodes : List Node) → IsGood (plain_branching q) nodes → AreParts q (leaves_of (Some []) nodes)

-- a good tree of its whole form has one leaf where its comparisons can be met, and none where they cannot
abbrev pub WholeLeavesAreParts : Type 0
WholeLeavesAreParts = (q : QueryValue) → IsWithinLimits q → (nodes : List Node) → IsGood (whole_branching q) nodes → AreAll (IsWholePart q) (leaves_of (Some []) nodes)

-- the leaves of a good tree of its split form are its split parts, in order
abbrev pub SplitLeavesAreParts : Type 0
SplitLeavesAreParts = (q : QueryValue) → IsWithinLimits q → (nodes : List Node) → IsGood (split_branching q) nodes → AreSplitParts q (leaves_of (Some []) nodes)

-- nodes have one answer at most
abbrev pub HasOneAnswer : Type 0
HasOneAnswer = (q : QueryValue) → (nodes : List Node) → (answer : CheckAnswer) → (other : CheckAnswer) → IsCheckAnswer q nodes answer → IsCheckAnswer q nodes other → answer ≡ other

-- the branching and the nodes determine the place and the reason of the first fault
abbrev pub HasOneFault : Type 0
HasOneFault = (b : Branching) → (nodes : List Node) → (place other : ℕ) → (why because : Reason) → IsFirstFault b nodes place why → IsFirstFault b nodes other because → (place ≡ other) × (why ≡ because)

-- nodes with a fault are no good tree
abbrev pub FaultsAreBad : Type 0
FaultsAreBad = (b : Branching) → (nodes : List Node) → (place : ℕ) → (why : Reason) → IsFirstFault b nodes place why → ¬ IsGood b nodes
