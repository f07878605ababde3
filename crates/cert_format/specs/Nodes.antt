-- The nodes of a certificate, in preorder, and its lines.
use Rattle.std.specs.Prelude.{ℕ, List, [], ◌∷◌}
use Rattle.cert_format.specs.declared.line.Path.{Path}
use Rattle.cert_format.specs.declared.line.Line.{Line}
use Rattle.cert_format.specs.declared.line.Line.TheVariants as line

-- a split at a pair, by its number from 1; constraints that no integers meet, by their numbers from 1; a soft comparison that is false, by its
-- number from 1; or a part with its paths
pub data Node : Type 0 where
  split : ℕ → Node
  infeasible : List ℕ → Node
  against : ℕ → Node
  leaf : List Path → Node

-- the paths at the front of some lines, and the nodes that follow
pub record Grouped : Type 0 where
  pub paths : List Path
  pub nodes : List Node

-- each path belongs to the leaf that stands before it
abbrev pub grouped : List Line → Grouped
grouped [] = record { paths = []; nodes = [] }
grouped (line.Split pair ∷ lines) = record { paths = []; nodes = split pair ∷ (grouped lines).nodes }
grouped (line.Infeasible numbers ∷ lines) = record { paths = []; nodes = infeasible numbers.items ∷ (grouped lines).nodes }
grouped (line.Against comparison ∷ lines) = record { paths = []; nodes = against comparison ∷ (grouped lines).nodes }
grouped (line.Leaf ∷ lines) = record { paths = []; nodes = leaf (grouped lines).paths ∷ (grouped lines).nodes }
grouped (line.Path path ∷ lines) = record { paths = path ∷ (grouped lines).paths; nodes = (grouped lines).nodes }

-- the nodes of some lines
abbrev pub nodes_of : List Line → List Node
nodes_of lines = (grouped lines).nodes
