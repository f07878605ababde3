-- What reading the nodes of a certificate one after another comes to.
use Rattle.std.specs.Prelude.{◌≡◌, ℕ, ◌+◌, false, true, ℤ, Option, Some, None, Result, Ok, Err, List, [], ◌∷◌, length, ◌⊎◌}
use Rattle.sem_query.specs.declared.part.Sign.{Sign}
use Rattle.sem_query.specs.Query.{QueryValue}
use Rattle.cert_format.specs.declared.line.Line.{Line}
use Rattle.cert_format.specs.declared.line.Line.TheVariants as line
use Rattle.cert_checker.specs.declared.answer.Reason.{Reason}
use Rattle.cert_checker.specs.declared.answer.Reason.TheVariants as reason
use Rattle.cert_checker.specs.declared.walk.Walk.{Walk}
use Rattle.cert_format.specs.Nodes.{Node, split, infeasible, against, leaf, grouped}
use Rattle.cert_checker.specs.declared.shown.Shown.{Shown}
use Rattle.cert_checker.specs.Branching.{Branching, constraints_at}
use Rattle.cert_checker.specs.Shown.{branching_of, breaks_by, IsShownDecision}
use Rattle.cert_checker.specs.Rules.{IsGoodNode, IsGoodLeaf, Breaks}
use Rattle.cert_checker.specs.Bounds.{Tells}
use Rattle.cert_format.specs.declared.line.Path.{Path}
use Rattle.cert_checker.specs.Reading.{after, AreGood, IsGood}
use Rattle.cert_checker.specs.declared.answer.CheckAnswer.{CheckAnswer}
use Rattle.cert_checker.specs.declared.answer.CheckAnswer.TheVariants.{Yes, No}
use Rattle.sem_query.specs.declared.decision.Decision.{Decision}
use Rattle.cert_checker.specs.declared.decision.DecisionSoFar.{DecisionSoFar}
use Rattle.cert_checker.specs.Leaves.{leaves_of}
use Rattle.cert_checker.specs.SoFar.{IsSoFar, TakesLeaf}
use Rattle.cert_checker.specs.Standing.{Stands, at}

-- the node that a line begins, with the lines behind it. A path begins none
abbrev pub node_at : Line → List Line → Option Node
node_at (line.Split pair) behind = Some (split pair)
node_at (line.Infeasible numbers) behind = Some (infeasible numbers.items)
node_at (line.Against comparison) behind = Some (against comparison)
node_at line.Leaf behind = Some (leaf (grouped behind).paths)
node_at (line.Path p) behind = None

-- the number of leaves of some nodes
abbrev pub leaves : List Node → ℕ
leaves [] = 0
leaves (split pair ∷ nodes) = leaves nodes
leaves (infeasible numbers ∷ nodes) = leaves nodes
leaves (against comparison ∷ nodes) = leaves nodes
leaves (leaf paths ∷ nodes) = leaves nodes + 1

-- a fact holds, or else a rule is broken
abbrev pub IsUnless : Type 0 → Reason → Result (Unit {0}) Reason → Type 0
IsUnless P why (Ok u) = P
IsUnless P why (Err w) = (w ≡ why) × ¬ P

-- a leaf is good, and the table tells all bounds that its paths give; or it breaks a rule
abbrev pub JudgesLeaf : Branching → List Sign → List Path → Result (List (Option ℤ)) Reason → Type 0
JudgesLeaf b signs paths (Ok bounds) = IsGoodLeaf b signs paths × Tells (constraints_at b signs) paths bounds
JudgesLeaf b signs paths (Err why) = Breaks b signs (leaf paths) why

-- how a good node, whose leaf would have this number, changes the decision so far
abbrev pub Decides : Shown → QueryValue → List Sign → Node → ℕ → DecisionSoFar → DecisionSoFar → Type 0
Decides shown q signs (split pair) number old new = new ≡ old
Decides shown q signs (infeasible numbers) number old new = new ≡ old
Decides shown q signs (against comparison) number old new = new ≡ old
Decides shown q signs (leaf paths) number old new = TakesLeaf (breaks_by shown q) signs number old new

-- a good node is passed
pub record Passes (q : QueryValue) (shown : Shown) (node : Node) (old new : Walk) : Type 0 where
  pub good : IsGoodNode (branching_of shown q) old.place.signs.items node
  pub at_is : at new.more new.place.signs.items ≡ after old.place.signs.items node
  pub stands : Stands q shown new.place
  pub count : new.nodes ≡ old.nodes
  pub leaves_are : new.leaves ≡ old.leaves + leaves (node ∷ [])
  pub decides : Decides shown q old.place.signs.items node (old.leaves + 1) old.so_far new.so_far

-- that, or a rule is broken
abbrev pub PassesOr : QueryValue → Shown → Node → Walk → Walk → Result (Unit {0}) Reason → Type 0
PassesOr q shown node old new (Ok u) = Passes q shown node old new
PassesOr q shown node old new (Err why) = Breaks (branching_of shown q) old.place.signs.items node why × (new.nodes ≡ old.nodes)

-- one more node is read
pub record Steps (q : QueryValue) (shown : Shown) (node : Node) (old new : Walk) : Type 0 where
  pub more : old.more ≡ true
  pub good : IsGoodNode (branching_of shown q) old.place.signs.items node
  pub at_is : at new.more new.place.signs.items ≡ after old.place.signs.items node
  pub stands : Stands q shown new.place
  pub count : new.nodes ≡ old.nodes + 1
  pub leaves_are : new.leaves ≡ old.leaves + leaves (node ∷ [])
  pub decides : Decides shown q old.place.signs.items node (old.leaves + 1) old.so_far new.so_far

-- a node stands behind the tree, or breaks a rule
abbrev pub IsWrong : Branching → Node → Walk → Reason → Type 0
IsWrong b node old why = ((old.more ≡ false) × (why ≡ reason.Shape)) ⊎ ((old.more ≡ true) × Breaks b old.place.signs.items node why)

-- what reading a line comes to: nothing where it begins no node
abbrev pub StepsOr : QueryValue → Shown → Option Node → Walk → Walk → Result (Unit {0}) Reason → Type 0
StepsOr q shown None old new (Ok u) = new ≡ old
StepsOr q shown None old new (Err why) = ⊥
StepsOr q shown (Some node) old new (Ok u) = Steps q shown node old new
StepsOr q shown (Some node) old new (Err why) = IsWrong (branching_of shown q) node old why × (new.nodes ≡ old.nodes + 1)

-- these nodes were read, and all are good
pub record Walked (q : QueryValue) (shown : Shown) (nodes : List Node) (w : Walk) : Type 0 where
  pub good : AreGood (branching_of shown q) (Some []) nodes (at w.more w.place.signs.items)
  pub stands : Stands q shown w.place
  pub count : w.nodes ≡ length nodes
  pub leaves_are : w.leaves ≡ leaves nodes
  pub decided : IsSoFar (breaks_by shown q) (leaves_of (Some []) nodes) w.so_far

-- what the decision on the leaves of a good tree comes to in the end
abbrev pub Finishes : QueryValue → Shown → DecisionSoFar → Decision → Type 0
Finishes q shown so_far decision =
    (nodes : List Node) → IsGood (branching_of shown q) nodes → IsSoFar (breaks_by shown q) (leaves_of (Some []) nodes) so_far
    → IsShownDecision q shown decision (length (leaves_of (Some []) nodes))

-- what the walk says where no node follows: the tree is whole, and then it answers with the leaves and with what they decide; or it is
-- not, and the fault is behind the last node
abbrev pub EndsWith : QueryValue → Shown → Walk → CheckAnswer → Type 0
EndsWith q shown w (Yes decision parts) = (w.more ≡ false) × (parts ≡ w.leaves) × Finishes q shown w.so_far decision
EndsWith q shown w (No place why) = (w.more ≡ true) × (place ≡ w.nodes + 1) × (why ≡ reason.Shape)
