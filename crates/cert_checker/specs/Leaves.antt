-- The leaves of a certificate.
use Rattle.std.specs.Prelude.{List, [], ◌∷◌, ◌++◌}
use Rattle.std.specs.declared.option.Option.{Option}
use Rattle.std.specs.declared.option.Option.TheVariants.{None, Some}
use Rattle.sem_query.specs.declared.part.Sign.{Sign}
use Rattle.cert_format.specs.Nodes.{Node, split, infeasible, against, leaf}
use Rattle.cert_checker.specs.Reading.{after}

-- the signs at which a leaf stands, and none for another node
abbrev pub leaf_at : List Sign → Node → List (List Sign)
leaf_at signs (split pair) = []
leaf_at signs (infeasible numbers) = []
leaf_at signs (against comparison) = []
leaf_at signs (leaf paths) = signs ∷ []

-- the signs at which the leaves of some nodes stand, in order, where the first node stands at some signs
abbrev pub leaves_of : Option (List Sign) → List Node → List (List Sign)
leaves_of None nodes = []
leaves_of (Some signs) [] = []
leaves_of (Some signs) (node ∷ nodes) = leaf_at signs node ++ leaves_of (after signs node) nodes
