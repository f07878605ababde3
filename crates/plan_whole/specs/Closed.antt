-- The closed system of a query: what its comparisons and domains bound, as constraints on the nodes of its attributes.
use Rattle.std.specs.Prelude.{◌≡◌, ◌≢◌, ℕ, ◌+◌, ◌*◌, ◌≤◌, ℤ, pos, neg_ℤ, ◌-ℤ◌, ◌≤ℤ◌, List, [], ◌∷◌, ◌++◌, map, cond, length}
use Rattle.std.specs.declared.option.Option.{Option}
use Rattle.std.specs.declared.option.Option.TheVariants.{None, Some}
use Rattle.std.specs.List.{flat_map, slice_index_or}
use Rattle.sem_query.specs.declared.atom.Attr.{Attr}
use Rattle.sem_query.specs.declared.atom.Domain.{Domain}
use Rattle.sem_query.specs.declared.atom.Element.TheVariants as element
use Rattle.sem_query.specs.declared.part.Pair.{Pair}
use Rattle.sem_query.specs.declared.part.Sign.{Sign}
use Rattle.sem_query.specs.Query.{QueryValue, attr_eq, attrs_of}
use Rattle.sem_query.specs.Assignment.{Assignment}
use Rattle.plan_constraints.specs.declared.constraint.Constraint.{Constraint}
use Rattle.plan_constraints.specs.Nodes.{has_node, at_most_above}
use Rattle.plan_constraints.specs.Solutions.{IsSatisfiable, IsUpperAnswer}
use Rattle.sem_whole.specs.System.{Difference, atom_bounds, domain_bounds, system, Solves}
use Rattle.sem_whole.specs.Ranges.{Range, range}
use Rattle.sem_whole.specs.Kept.{IsRange}
use Rattle.sem_whole.specs.Laws.{IsLeastBound}
use Rattle.sem_whole.specs.Signed.{with_signs, IsWellFormed, AreSignedPairs}
use Rattle.plan_whole.specs.declared.closed.Ends.{Ends}

-- a difference as a constraint on the nodes of these columns
abbrev pub constraint_of : List Attr → Difference → Constraint
constraint_of xs d = at_most_above xs d.left d.right d.by

-- what a domain bounds, where its column is one of these
abbrev pub named_bounds : List Attr → Domain → List Difference
named_bounds xs d = cond (has_node xs d.attr) (domain_bounds d) []

-- the system of a query without the domains of columns that no comparison names
abbrev pub named_system : QueryValue → List Difference
named_system q = flat_map atom_bounds q.atoms ++ flat_map (named_bounds (attrs_of q.atoms)) q.domains

-- its constraints on the nodes of the attributes
abbrev pub closed_constraints : QueryValue → List Constraint
closed_constraints q = map (constraint_of (attrs_of q.atoms)) (named_system q)

-- within 10^17 either way
abbrev pub IsSmall : Option ℤ → Type 0
IsSmall None = Unit {0}
IsSmall (Some u) = (neg_ℤ (pos 100000000000000000) ≤ℤ u) × (u ≤ℤ pos 100000000000000000)

-- a bound at most u is there
abbrev pub IsMet : Option ℤ → ℤ → Type 0
IsMet None u = ⊥
IsMet (Some b) u = b ≤ℤ u

-- the bound of node i above node j in a table with 13 to a row
abbrev pub bound_at : List (Option ℤ) → ℕ → ℕ → Option ℤ
bound_at bounds i j = slice_index_or bounds (13 * i + j) None

-- some assignment solves the system of a query, and the table holds the least bound of each node above each other, none where there is none
pub record IsClosedSystem (q : QueryValue) (bounds : List (Option ℤ)) : Type 0 where
  pub within : IsWellFormed q
  pub satisfiable : IsSatisfiable (closed_constraints q)
  pub told : (i j : ℕ) → i ≤ length (attrs_of q.atoms) → j ≤ length (attrs_of q.atoms) → i ≢ j → IsUpperAnswer (closed_constraints q) i j (bound_at bounds i j)
  pub small : (i j : ℕ) → i ≤ length (attrs_of q.atoms) → j ≤ length (attrs_of q.atoms) → i ≢ j → IsSmall (bound_at bounds i j)

-- a query with the signs of some of its pairs
pub record IsWithSigns (q r : QueryValue) : Type 0 where
  pub pairs : List Pair
  pub signs : List Sign
  pub are : AreSignedPairs q pairs signs
  pub is : r ≡ with_signs pairs signs q

-- some assignment solves the system of a query, and the range of each column and the least bound of each two, where there is one, are known
pub record IsSolvable (q : QueryValue) : Type 0 where
  pub at : Assignment
  pub solves : Solves (system q) at
  pub range : (a : Attr) → (r : Range) × IsRange (system q) a r
  pub above : (a b : Attr) → (u : Option ℤ) × IsLeastBound (system q) (element.Attr a) (element.Attr b) u

-- a bound below 0, as the least value above 0 that it tells
abbrev pub negated : Option ℤ → Option ℤ
negated None = None
negated (Some u) = Some (neg_ℤ u)

-- two ends as a range
abbrev pub ends_of : Ends → Range
ends_of e = range e.lo e.hi

-- the ends of the domain of a column; one without a domain is open
abbrev pub domain_ends : List Domain → Attr → Ends
domain_ends [] a = record { lo = None; hi = None }
domain_ends (d ∷ ds) a = cond (attr_eq d.attr a) (record { lo = Some d.lo; hi = Some d.hi }) (domain_ends ds a)

-- how far a greatest value is above a least one, where both are there
abbrev pub apart : Option ℤ → Option ℤ → Option ℤ
apart None low = None
apart (Some high) None = None
apart (Some high) (Some low) = Some (high -ℤ low)

-- within 2 * 10^17 either way
abbrev pub IsModest : Option ℤ → Type 0
IsModest None = Unit {0}
IsModest (Some u) = (neg_ℤ (pos 200000000000000000) ≤ℤ u) × (u ≤ℤ pos 200000000000000000)
