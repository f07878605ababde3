-- The system of a query: the differences that its comparisons and domains bound, what follows from all of them, and what they leave to each stream.
use Rattle.std.specs.Prelude.{◌≡◌, ℕ, ℤ, pos, neg_ℤ, ◌+ℤ◌, ◌≤ℤ◌, List, [], ◌∷◌, ◌++◌}
use Rattle.std.specs.List.{flat_map}
use Rattle.sem_query.specs.declared.atom.Attr.{Attr}
use Rattle.sem_query.specs.declared.atom.Atom.{Atom}
use Rattle.sem_query.specs.declared.atom.Domain.{Domain}
use Rattle.sem_query.specs.declared.atom.Element.{Element}
use Rattle.sem_query.specs.declared.atom.Element.TheVariants as element
use Rattle.sem_query.specs.declared.atom.Op.{Op}
use Rattle.sem_query.specs.Members.{Has}
use Rattle.sem_query.specs.Query.{QueryValue}
use Rattle.sem_query.specs.Assignment.{Assignment, value, AtomHolds}

-- the first is at most so much above the second
pub record Difference : Type 0 where
  pub left : Element
  pub right : Element
  pub by : ℤ

-- a difference is within its bound
abbrev pub Meets : Assignment → Difference → Type 0
Meets v d = value d.left v ≤ℤ (d.by +ℤ value d.right v)

-- what an operator says of its sides; of `<>` nothing
abbrev pub bounds_of : Op → Element → Element → List Difference
bounds_of Op.Lt x y = record { left = x; right = y; by = neg_ℤ (pos 1) } ∷ []
bounds_of Op.Eq x y = record { left = x; right = y; by = pos 0 } ∷ record { left = y; right = x; by = pos 0 } ∷ []
bounds_of Op.Gt x y = record { left = y; right = x; by = neg_ℤ (pos 1) } ∷ []
bounds_of Op.Le x y = record { left = x; right = y; by = pos 0 } ∷ []
bounds_of Op.Ge x y = record { left = y; right = x; by = pos 0 } ∷ []
bounds_of Op.Ne x y = []

abbrev pub atom_bounds : Atom → List Difference
atom_bounds t = bounds_of t.op t.left t.right

-- a column is neither below the least integer of its domain nor above the greatest
abbrev pub domain_bounds : Domain → List Difference
domain_bounds d = bounds_of Op.Le (element.Const d.lo) (element.Attr d.attr) ++ bounds_of Op.Le (element.Attr d.attr) (element.Const d.hi)

-- the system of a query
abbrev pub system : QueryValue → List Difference
system q = flat_map atom_bounds q.atoms ++ flat_map domain_bounds q.domains

-- the assignment meets all of them
abbrev pub Solves : List Difference → Assignment → Type 0
Solves ds v = (d : Difference) → Has ds d → Meets v d

-- x is at most c above y in each solution
abbrev pub Bound : List Difference → Element → Element → ℤ → Type 0
Bound ds x y c = (v : Assignment) → Solves ds v → Meets v record { left = x; right = y; by = c }

-- an element of the stream at a place of FROM: one of its columns, or an integer
abbrev pub IsOf : ℕ → Element → Type 0
IsOf place (element.Attr a) = a.stream ≡ place
IsOf place (element.Const k) = Unit {0}

-- the local conditions of a stream: what follows from the system for its own columns, and its own `<>`
pub record MeetsLocal (q : QueryValue) (place : ℕ) (v : Assignment) : Type 0 where
  pub bounds : (x y : Element) (c : ℤ) → IsOf place x → IsOf place y → Bound (system q) x y c → Meets v record { left = x; right = y; by = c }
  pub unequal : (t : Atom) → Has q.atoms t → t.op ≡ Op.Ne → IsOf place t.left → IsOf place t.right → AtomHolds v t

-- two columns of one stream that are equal in each solution
pub record AreOneClass (ds : List Difference) (a b : Attr) : Type 0 where
  pub stream : a.stream ≡ b.stream
  pub below : Bound ds (element.Attr a) (element.Attr b) (pos 0)
  pub above : Bound ds (element.Attr b) (element.Attr a) (pos 0)
