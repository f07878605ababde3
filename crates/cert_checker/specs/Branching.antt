-- What a tree of signs branches on: pairs that get signs one after another, the comparisons that may close a branch, the columns that are
-- nodes, and the constraints at the root.
use Rattle.std.specs.Prelude.{◌≤◌, List, [], ◌++◌, length}
use Rattle.sem_query.specs.declared.atom.Attr.{Attr}
use Rattle.sem_query.specs.declared.atom.Atom.{Atom}
use Rattle.sem_query.specs.declared.part.Pair.{Pair}
use Rattle.sem_query.specs.declared.part.Sign.{Sign}
use Rattle.sem_query.specs.Query.{QueryValue, attrs_of}
use Rattle.sem_query.specs.Parts.{pairs}
use Rattle.plan_constraints.specs.declared.constraint.Constraint.{Constraint}
use Rattle.plan_constraints.specs.PartConstraints.{of_base, of_signs}
use Rattle.plan_split_pairs.specs.Pairs.{split_pairs}
use Rattle.plan_whole.specs.Closed.{closed_constraints}

pub record Branching : Type 0 where
  pub pairs : List Pair
  pub atoms : List Atom
  pub attrs : List Attr
  pub base : List Constraint

-- the constraints where the first pairs have these signs
abbrev pub constraints_at : Branching → List Sign → List Constraint
constraints_at b ss = b.base ++ of_signs b.attrs b.pairs ss

-- what a tree of parts branches on
abbrev pub plain_branching : QueryValue → Branching
plain_branching q = record { pairs = pairs q; atoms = q.atoms; attrs = attrs_of q.atoms; base = of_base q }

-- the whole form gives no signs, and no comparison closes it
abbrev pub whole_branching : QueryValue → Branching
whole_branching q = record { pairs = []; atoms = []; attrs = attrs_of q.atoms; base = closed_constraints q }

-- the split form gives signs to its pairs
abbrev pub split_branching : QueryValue → Branching
split_branching q = record { pairs = split_pairs q; atoms = q.atoms; attrs = attrs_of q.atoms; base = closed_constraints q }

-- there is room for the signs of all pairs
abbrev pub HasRoom : Branching → Type 0
HasRoom b = length b.pairs ≤ 114
