-- How the nodes of a certificate are read: where each stands, whether they are one good tree, and the first fault.
use Rattle.std.specs.Prelude.{◌≡◌, ℕ, suc, List, [], ◌∷◌, ◌++◌, length}
use Rattle.std.specs.declared.option.Option.{Option}
use Rattle.std.specs.declared.option.Option.TheVariants.{None, Some}
use Rattle.sem_query.specs.declared.part.Sign.{Sign}
use Rattle.sem_query.specs.Query.{QueryValue}
use Rattle.sem_query.specs.Parts.{AreParts}
use Rattle.cert_checker.specs.declared.answer.Reason.{Reason}
use Rattle.cert_checker.specs.declared.answer.Reason.TheVariants as reason
use Rattle.cert_format.specs.Nodes.{Node, split, infeasible, against, leaf}
use Rattle.cert_checker.specs.Branching.{Branching, HasRoom}
use Rattle.cert_checker.specs.Rules.{IsGoodNode, Breaks}

-- the first of the three signs is less, then comes equal, then greater: signs with another first one, where the others have none
abbrev pub advanced : Sign → Option (List Sign) → Option (List Sign)
advanced s (Some others) = Some (s ∷ others)
advanced Sign.Lt None = Some (Sign.Eq ∷ [])
advanced Sign.Eq None = Some (Sign.Gt ∷ [])
advanced Sign.Gt None = None

-- the signs at which the tree goes on behind what stands below some signs: the last of them that is not greater is the
-- next sign, and none stand behind it. There are none behind the whole tree
abbrev pub following : List Sign → Option (List Sign)
following [] = None
following (s ∷ signs) = advanced s (following signs)

-- where the next node stands: one sign deeper below a split
abbrev pub after : List Sign → Node → Option (List Sign)
after signs (split pair) = Some (signs ++ Sign.Lt ∷ [])
after signs (infeasible numbers) = following signs
after signs (against comparison) = following signs
after signs (leaf paths) = following signs

-- good nodes, one behind the other: where the first stands, and where the next one would
pub data AreGood (b : Branching) : Option (List Sign) → List Node → Option (List Sign) → Type 0 where
  done : {at : Option (List Sign)} → AreGood b at [] at
  next : {signs : List Sign} {node : Node} {nodes : List Node} {end : Option (List Sign)}
      → IsGoodNode b signs node → AreGood b (after signs node) nodes end → AreGood b (Some signs) (node ∷ nodes) end

-- the nodes are one tree, in which each is good, over pairs for whose signs there is room. They are exactly those that list a good tree
-- (`Tree`, law `good_is_tree`)
pub record IsGood (b : Branching) (nodes : List Node) : Type 0 where
  pub room : HasRoom b
  pub good : AreGood b (Some []) nodes None

-- the first fault, by its place from 1: there is no room for the signs of the pairs, or a node breaks a rule, or the tree is not whole at the end,
-- or a node stands behind the tree
pub data IsFirstFault (b : Branching) (nodes : List Node) (place : ℕ) (why : Reason) : Type 0 where
  crowded : ¬ HasRoom b → why ≡ reason.Shape → place ≡ 1 → IsFirstFault b nodes place why
  broken : HasRoom b → (before : List Node) (node : Node) (behind : List Node) (signs : List Sign) → nodes ≡ before ++ node ∷ behind
      → AreGood b (Some []) before (Some signs) → Breaks b signs node why → place ≡ suc (length before) → IsFirstFault b nodes place why
  unfinished : HasRoom b → (signs : List Sign) → AreGood b (Some []) nodes (Some signs) → why ≡ reason.Shape → place ≡ suc (length nodes) → IsFirstFault b nodes place why
  left_over : HasRoom b → (before : List Node) (node : Node) (behind : List Node) → nodes ≡ before ++ node ∷ behind
      → AreGood b (Some []) before None → why ≡ reason.Shape → place ≡ suc (length before) → IsFirstFault b nodes place why

-- some list of all parts has this length
pub record HasParts (q : QueryValue) (count : ℕ) : Type 0 where
  pub parts : List (List Sign)
  pub are : AreParts q parts
  pub count_is : length parts ≡ count
