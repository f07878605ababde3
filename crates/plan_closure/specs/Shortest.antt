-- Distances: the bounds of a closure, without the chains that they are sums of.
use Rattle.std.specs.Prelude.{◌≡◌, ◌≢◌, ℕ, suc, ◌+◌, ◌*◌, ◌<◌, ◌≤◌, ℤ, pos, ◌+ℤ◌, ◌≤ℤ◌, ◌<ℤ◌, int_lt, cond, List, length, Option, Some, None, is_some, slice_index_or}
use Rattle.plan_constraints.specs.declared.constraint.Constraint.{Constraint}
use Rattle.plan_constraints.specs.Solutions.{IsSatisfiable}
use Rattle.plan_constraints.specs.Table.{Table, AtMost}
use Rattle.plan_closure.specs.declared.entry.Entry.{Entry}
use Rattle.plan_closure.specs.declared.distance.Distance.{Distance}
use Rattle.plan_closure.specs.declared.distances.Distances.{Distances}
use Rattle.plan_closure.specs.Tightened.{lesser}
use Rattle.plan_closure.specs.Closure.{bound_at, IsClosureOf}

-- the bound of a distance: none where it is the greatest integer of 64 bits
abbrev pub bound_of : Distance → Option ℤ
bound_of d = cond (int_lt d.bound (pos 9223372036854775807)) (Some d.bound) None

abbrev pub no_distance : Distance
no_distance = record { bound = pos 9223372036854775807 }

-- the bounds of a table with 13 to a row
abbrev pub between : List Distance → Table
between ds i j = bound_of (slice_index_or ds (13 * i + j) no_distance)

-- s is below what is there
abbrev pub Undercuts : Option ℤ → ℤ → Type 0
Undercuts None s = Unit {0}
Undercuts (Some d) s = s <ℤ d

-- a bound at most u is there
abbrev pub IsMet : Option ℤ → ℤ → Type 0
IsMet None u = ⊥
IsMet (Some d) u = d ≤ℤ u

-- a bound is there with which u sums to less than 0
abbrev pub Closes : Option ℤ → ℤ → Type 0
Closes None u = ⊥
Closes (Some d) u = (d +ℤ u) <ℤ pos 0

-- the sum of a bound and another, where that is there
abbrev pub onward : ℤ → Option ℤ → Option ℤ
onward h None = None
onward h (Some q) = Some (h +ℤ q)

-- a node reaches itself at 0, and no other node
pub data IsApart (i j : ℕ) (o : Option ℤ) : Type 0 where
  self : i ≡ j → o ≡ Some (pos 0) → IsApart i j o
  other : i ≢ j → o ≡ None → IsApart i j o

-- what leads on from b to j by the bound c gives a no lower bound to j
abbrev pub IsKept : Table → ℕ → ℕ → ℤ → ℕ → Type 0
IsKept t a b c j = (q : ℤ) → t b j ≡ Some q → AtMost t a j (c +ℤ q)

-- j is one of the columns, or the bound c of a - b says nothing new of a and j
pub data IsColumn (t : Table) (a b : ℕ) (c : ℤ) (columns : List ℕ) (j : ℕ) : Type 0 where
  listed : (m : ℕ) → m < length columns → slice_index_or columns m 0 ≡ j → IsColumn t a b c columns j
  kept : IsKept t a b c j → IsColumn t a b c columns j

-- a place of the row i is the lesser of what it was and of the way by the head and the row r; or it is none of the first n columns, and stays
pub data IsLowered (ds : List Distance) (i r : ℕ) (columns : List ℕ) (n : ℕ) (head : ℤ) (es : List Distance) (j : ℕ) : Type 0 where
  lowered : between es i j ≡ lesser (between ds i j) (onward head (between ds r j)) → IsLowered ds i r columns n head es j
  stays : slice_index_or es (13 * i + j) no_distance ≡ slice_index_or ds (13 * i + j) no_distance → ((m : ℕ) → m < n → slice_index_or columns m 0 ≢ j) → IsLowered ds i r columns n head es j

-- the first n columns of the row i are lowered, and all other rows are as before
pub record Lowers (ds : List Distance) (i r : ℕ) (columns : List ℕ) (n : ℕ) (head : ℤ) (es : List Distance) : Type 0 where
  pub here : (j : ℕ) → j < 13 → IsLowered ds i r columns n head es j
  pub before : (k : ℕ) → k < 13 * i → slice_index_or es k no_distance ≡ slice_index_or ds k no_distance
  pub later : (k : ℕ) → 13 * i + 13 ≤ k → slice_index_or es k no_distance ≡ slice_index_or ds k no_distance

-- the distances are the bounds of a closure of the constraints, and they are broken where it has a cycle
pub record AreDistancesOf (d : Distances) (n : ℕ) (cs : List Constraint) : Type 0 where
  pub entries : List (Option Entry)
  pub cycle : Option (List ℕ)
  pub closure : IsClosureOf record { attrs = n; count = length cs; entries = entries; cycle = cycle } n cs
  pub attrs : d.attrs ≡ n
  pub broken : d.broken ≡ is_some cycle
  pub same : (i j : ℕ) → i < suc n → j < suc n → between d.table i j ≡ bound_at entries i j

-- they are those of some constraints
pub record AreDistances (d : Distances) : Type 0 where
  pub constraints : List Constraint
  pub distances : AreDistancesOf d d.attrs constraints

-- and some integers meet these
pub record AreSatisfiable (d : Distances) : Type 0 where
  pub constraints : List Constraint
  pub distances : AreDistancesOf d d.attrs constraints
  pub satisfiable : IsSatisfiable constraints
