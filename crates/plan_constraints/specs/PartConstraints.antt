-- The constraints of a query's comparisons and domains, and of the first signs of a part.
use Rattle.std.specs.Prelude.{◌≡◌, suc, neg_ℤ, ◌≤◌, cond, List, [], ◌∷◌, ◌++◌, length, All}
use Rattle.std.specs.List.{flat_map}
use Rattle.sem_query.specs.declared.atom.Attr.{Attr}
use Rattle.sem_query.specs.declared.atom.Atom.{Atom}
use Rattle.sem_query.specs.declared.atom.Domain.{Domain}
use Rattle.sem_query.specs.declared.atom.Element.{Element}
use Rattle.sem_query.specs.declared.atom.Op.{Op}
use Rattle.sem_query.specs.declared.part.Pair.{Pair}
use Rattle.sem_query.specs.declared.atom.Element.TheVariants as element
use Rattle.sem_query.specs.declared.part.Sign.{Sign}
use Rattle.sem_query.specs.Query.{QueryValue, attrs_of}
use Rattle.sem_query.specs.Parts.{pairs}
use Rattle.plan_constraints.specs.declared.constraint.Constraint.{Constraint}
use Rattle.plan_constraints.specs.Nodes.{place_of, has_node, constraints_of}
use Rattle.plan_constraints.specs.Solutions.{IsWithin}

-- the constraints that two elements stand so to each other: a soft comparison has none
abbrev pub of_op : List Attr → Element → Op → Element → List Constraint
of_op xs x Op.Lt y = constraints_of xs x Sign.Lt y
of_op xs x Op.Eq y = constraints_of xs x Sign.Eq y
of_op xs x Op.Gt y = constraints_of xs x Sign.Gt y
of_op xs x Op.Le y = []
of_op xs x Op.Ge y = []
of_op xs x Op.Ne y = []

-- the constraints of the comparisons, in order
abbrev pub of_atoms : List Attr → List Atom → List Constraint
of_atoms xs [] = []
of_atoms xs (t ∷ ts) = of_op xs t.left t.op t.right ++ of_atoms xs ts

-- the column is at least the least integer of its domain
abbrev pub at_least : List Attr → Domain → Constraint
at_least xs d = record { left = 0; right = suc (place_of xs d.attr); bound = neg_ℤ d.lo }

-- and at most the greatest
abbrev pub at_most : List Attr → Domain → Constraint
at_most xs d = record { left = suc (place_of xs d.attr); right = 0; bound = d.hi }

-- the constraints of a domain; a column without a node has none
abbrev pub of_domain : List Attr → Domain → List Constraint
of_domain xs d = cond (has_node xs d.attr) (at_least xs d ∷ at_most xs d ∷ []) []

-- the constraints of the query's comparisons, and then of its domains
abbrev pub of_base : QueryValue → List Constraint
of_base q = of_atoms (attrs_of q.atoms) q.atoms ++ flat_map (of_domain (attrs_of q.atoms)) q.domains

-- the constraints of the first pairs, one for each sign
abbrev pub of_signs : List Attr → List Pair → List Sign → List Constraint
of_signs xs [] ss = []
of_signs xs (p ∷ ps) [] = []
of_signs xs (p ∷ ps) (s ∷ ss) = constraints_of xs (element.Attr p.left) s p.right ++ of_signs xs ps ss

-- the constraints of the query's comparisons and domains, and then of the first signs
abbrev pub of_prefix : QueryValue → List Sign → List Constraint
of_prefix q pre = of_base q ++ of_signs (attrs_of q.atoms) (pairs q) pre

-- the constraints that one more sign adds
pub record AddsSign (q : QueryValue) (signs : List Sign) (s : Sign) (cs : List Constraint) : Type 0 where
  pub more : of_prefix q (signs ++ s ∷ []) ≡ of_prefix q signs ++ cs
  pub within : All (IsWithin (length (attrs_of q.atoms))) cs
  pub few : length cs ≤ 2
