-- Elements as nodes, how two elements stand to each other as constraints, and how they stand in all solutions.
use Rattle.std.specs.Prelude.{◌≡◌, ◌↔◌, ℕ, zero, suc, ℤ, pos, neg_ℤ, ◌+ℤ◌, ◌-ℤ◌, ◌≤ℤ◌, ◌<ℤ◌, cond, Bool, ◌&&◌, nat_eq, List, [], ◌∷◌, ◌⊎◌, IsTrue}
use Rattle.std.specs.List.{list_any}
use Rattle.sem_query.specs.declared.atom.Attr.{Attr}
use Rattle.sem_query.specs.declared.atom.Domain.{Domain}
use Rattle.sem_query.specs.declared.atom.Element.{Element}
use Rattle.sem_query.specs.declared.atom.Element.TheVariants as element
use Rattle.sem_query.specs.declared.part.Sign.{Sign}
use Rattle.sem_query.specs.Query.{QueryValue, attr_eq, attrs_of, is_attr, IsShort}
use Rattle.sem_query.specs.Assignment.{Assignment, value}
use Rattle.sem_query.specs.Parts.{sign}
use Rattle.plan_constraints.specs.declared.constraint.Constraint.{Constraint}
use Rattle.plan_constraints.specs.Solutions.{Solves}

-- the place of a in xs, and their number where it is not there
abbrev pub place_of : List Attr → Attr → ℕ
place_of [] a = 0
place_of (x ∷ xs) a = cond (nat_eq x.stream a.stream && nat_eq x.column a.column) 0 (suc (place_of xs a))

-- an attribute's node, from 1, and node 0 for a constant
abbrev pub node_of : List Attr → Element → ℕ
node_of xs (element.Attr a) = suc (place_of xs a)
node_of xs (element.Const k) = 0

-- what an element adds to its node
abbrev pub offset_of : Element → ℤ
offset_of (element.Attr a) = pos 0
offset_of (element.Const k) = k

-- the integer of an element, by the integers of the nodes
abbrev pub element_at : List Attr → (ℕ → ℤ) → Element → ℤ
element_at xs z e = z (node_of xs e) +ℤ offset_of e

-- the first is at most so much above the second
abbrev pub at_most_above : List Attr → Element → Element → ℤ → Constraint
at_most_above xs x y by = record { left = node_of xs x; right = node_of xs y; bound = offset_of y -ℤ offset_of x +ℤ by }

-- the sign read from the right
abbrev pub turned : Sign → Sign
turned Sign.Lt = Sign.Gt
turned Sign.Eq = Sign.Eq
turned Sign.Gt = Sign.Lt

-- less by 1 at least; or each at most the other
abbrev pub between : List Attr → Element → Sign → Element → List Constraint
between xs x Sign.Lt y = at_most_above xs x y (neg_ℤ (pos 1)) ∷ []
between xs x Sign.Eq y = at_most_above xs x y (pos 0) ∷ at_most_above xs y x (pos 0) ∷ []
between xs x Sign.Gt y = at_most_above xs y x (neg_ℤ (pos 1)) ∷ []

-- the constraints that two elements stand so to each other; a constant on the left is first brought to the right
abbrev pub constraints_of : List Attr → Element → Sign → Element → List Constraint
constraints_of xs (element.Attr a) s y = between xs (element.Attr a) s y
constraints_of xs (element.Const k) s y = between xs y (turned s) (element.Const k)

-- the attributes' values in an assignment, in order
abbrev pub value_at : List Attr → Assignment → ℕ → ℤ
value_at [] v n = pos 0
value_at (x ∷ xs) v zero = v x
value_at (x ∷ xs) v (suc n) = value_at xs v n

-- the nodes' integers of an assignment
abbrev pub nodes_of : List Attr → Assignment → ℕ → ℤ
nodes_of xs v zero = pos 0
nodes_of xs v (suc n) = value_at xs v n

-- whether a column has a node
abbrev pub has_node : List Attr → Attr → Bool
has_node xs a = list_any (λ x. attr_eq x a) xs

-- the least integer of the domain of a column, 0 where it has none
abbrev pub low_of : List Domain → Attr → ℤ
low_of [] a = pos 0
low_of (d ∷ ds) a = cond (attr_eq d.attr a) d.lo (low_of ds a)

-- the assignment of the nodes' integers; a column without a node has the least of its domain
abbrev pub assignment_of : List Attr → List Domain → (ℕ → ℤ) → Assignment
assignment_of xs ds x a = cond (has_node xs a) (x (suc (place_of xs a))) (low_of ds a)

-- a constant has at most 15 digits
abbrev pub IsWithinLimit : Element → Type 0
IsWithinLimit (element.Attr a) = Unit {0}
IsWithinLimit (element.Const k) = IsShort k

-- they are not both constants
abbrev pub HasAttr : Element → Element → Type 0
HasAttr x y = IsTrue (is_attr x) ⊎ IsTrue (is_attr y)

-- an assignment meets the constraints exactly where it gives the elements this sign
abbrev pub SayThat : QueryValue → Element → Sign → Element → List Constraint → Type 0
SayThat q x s y cs = (v : Assignment) → (sign (value x v) (value y v) ≡ s) ↔ Solves (nodes_of (attrs_of q.atoms) v) cs

-- x is less than y in all solutions
pub record IsAlwaysLess (q : QueryValue) (cs : List Constraint) (x y : Element) : Type 0 where
  pub less : (z : ℕ → ℤ) → Solves z cs → element_at (attrs_of q.atoms) z x <ℤ element_at (attrs_of q.atoms) z y

-- x is equal to y in all solutions
pub record IsAlwaysEqual (q : QueryValue) (cs : List Constraint) (x y : Element) : Type 0 where
  pub equal : (z : ℕ → ℤ) → Solves z cs → element_at (attrs_of q.atoms) z x ≡ element_at (attrs_of q.atoms) z y

-- x is at most so much above y in all solutions
pub record IsAlwaysAbove (xs : List Attr) (cs : List Constraint) (x y : Element) (by : ℤ) : Type 0 where
  pub above : (z : ℕ → ℤ) → Solves z cs → element_at xs z x ≤ℤ (by +ℤ element_at xs z y)
