-- A certificate as a tree, when that tree is good over a branching, and the nodes that list it.
use Rattle.std.specs.Prelude.{◌≡◌, List, [], ◌∷◌, ◌++◌, ℕ}
use Rattle.sem_query.specs.declared.part.Sign.{Sign}
use Rattle.plan_constraints.specs.Solutions.{IsNegativeCycle}
use Rattle.cert_format.specs.declared.line.Path.{Path}
use Rattle.cert_format.specs.Nodes as nodes
use Rattle.cert_format.specs.Nodes.{Node}
use Rattle.cert_checker.specs.Branching.{Branching, constraints_at, HasRoom}
use Rattle.cert_checker.specs.Rules.{IsNextPair, IsRefuted, IsGoodLeaf}

-- a split at a pair, by its number from 1, into the trees of less, equal and greater; a branch that is closed by constraints that make a
-- negative cycle, by their numbers from 1, or against a soft comparison, by its number from 1; or a leaf, which is a part, with its paths
pub data Tree : Type 0 where
  split : ℕ → Tree → Tree → Tree → Tree
  closed : List ℕ → Tree
  against : ℕ → Tree
  leaf : List Path → Tree

-- a tree is good below some signs where each of its nodes meets its rule at the signs on the way to it
abbrev pub IsGoodTree : Branching → List Sign → Tree → Type 0
IsGoodTree b signs (split pair less equal greater) =
    IsNextPair b signs pair
    × IsGoodTree b (signs ++ Sign.Lt ∷ []) less
    × IsGoodTree b (signs ++ Sign.Eq ∷ []) equal
    × IsGoodTree b (signs ++ Sign.Gt ∷ []) greater
IsGoodTree b signs (closed numbers) = IsNegativeCycle (constraints_at b signs) numbers
IsGoodTree b signs (against comparison) = IsRefuted b signs comparison
IsGoodTree b signs (leaf paths) = IsGoodLeaf b signs paths

-- the nodes of a tree in preorder: each before those below it, and less before equal before greater
abbrev pub preorder : Tree → List Node
preorder (split pair less equal greater) = nodes.split pair ∷ (preorder less ++ preorder equal ++ preorder greater)
preorder (closed numbers) = nodes.infeasible numbers ∷ []
preorder (against comparison) = nodes.against comparison ∷ []
preorder (leaf paths) = nodes.leaf paths ∷ []

-- the nodes are those of a good tree in preorder, over pairs for whose signs there is room
pub record ListGoodTree (b : Branching) (listed : List Node) : Type 0 where
  pub room : HasRoom b
  pub tree : Tree
  pub good : IsGoodTree b [] tree
  pub listed_is : listed ≡ preorder tree

-- a leaf, with the signs on the way to it
pub record PlacedLeaf : Type 0 where
  pub signs : List Sign
  pub paths : List Path

-- the leaves of a tree that stands below some signs, in order
abbrev pub leaves_below : List Sign → Tree → List PlacedLeaf
leaves_below signs (split pair less equal greater) = leaves_below (signs ++ Sign.Lt ∷ []) less ++ leaves_below (signs ++ Sign.Eq ∷ []) equal ++ leaves_below (signs ++ Sign.Gt ∷ []) greater
leaves_below signs (closed numbers) = []
leaves_below signs (against comparison) = []
leaves_below signs (leaf paths) = record { signs = signs; paths = paths } ∷ []
