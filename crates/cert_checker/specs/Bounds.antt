-- The bounds of a leaf as a table with 13 nodes to a row.
use Rattle.std.specs.Prelude.{◌≡◌, ℕ, ◌+◌, ◌*◌, ◌≤◌, ℤ, pos, neg_ℤ, ◌+ℤ◌, ◌≤ℤ◌, cond, nat_eq, Option, Some, None, List, slice_index_or, slice_set, IfSome}
use Rattle.plan_constraints.specs.declared.constraint.Constraint.{Constraint}
use Rattle.plan_constraints.specs.Solutions.{IsChain}
use Rattle.cert_format.specs.declared.line.Path.{Path}
use Rattle.cert_checker.specs.Rules.{IsPath, ArePaths, IsBound}

-- a table's bound of node i above node j
abbrev pub bound_at : List (Option ℤ) → ℕ → ℕ → Option ℤ
bound_at bounds i j = cond (nat_eq i j) (Some (pos 0)) (slice_index_or bounds (13 * i + j) None)

-- the place of a path's bound in a table. Paths ascend where their places do
abbrev pub place : Path → ℕ
place p = 13 * p.from + p.to

-- a sum of 13 constraints at most
pub record IsModest (u : ℤ) : Type 0 where
  pub low : neg_ℤ (pos 13000000000000000) ≤ℤ u
  pub high : u ≤ℤ pos 13000000000000000

abbrev pub AreModest : List (Option ℤ) → Type 0
AreModest bounds = (k : ℕ) → IfSome (slice_index_or bounds k None) IsModest

-- the sum of a path, or that it is none
abbrev pub IsSumOf : ℕ → List Constraint → Path → Option ℤ → Type 0
IsSumOf attrs cs p (Some u) = IsPath attrs cs p × IsChain cs p.numbers.items p.from p.to u
IsSumOf attrs cs p None = ¬ IsPath attrs cs p

-- a path at a place from the first on, with its bound written there
pub record IsAdded (attrs : ℕ) (cs : List Constraint) (p : Path) (first next : ℕ) (old new : List (Option ℤ)) : Type 0 where
  pub sum : ℤ
  pub path : IsPath attrs cs p
  pub chain : IsChain cs p.numbers.items p.from p.to sum
  pub modest : IsModest sum
  pub behind : first ≤ place p
  pub next_is : next ≡ place p + 1
  pub new_is : new ≡ slice_set old (place p) (Some sum)

-- that, or it is no path at such a place
abbrev pub AddsPath : ℕ → List Constraint → Path → ℕ → Option ℕ → List (Option ℤ) → List (Option ℤ) → Type 0
AddsPath attrs cs p first (Some next) old new = IsAdded attrs cs p first next old new
AddsPath attrs cs p first None old new = IsPath attrs cs p → ¬ (first ≤ place p)

-- the table tells all bounds that the paths give between the nodes 0 to 12
pub record Tells (cs : List Constraint) (paths : List Path) (bounds : List (Option ℤ)) : Type 0 where
  pub told : (i j : ℕ) → i ≤ 12 → j ≤ 12 → (u : ℤ) → IsBound cs paths i j u → bound_at bounds i j ≡ Some u
  pub true : (i j : ℕ) → i ≤ 12 → j ≤ 12 → (u : ℤ) → bound_at bounds i j ≡ Some u → IsBound cs paths i j u
  pub modest : AreModest bounds

-- the bounds of some paths, or that they are no paths of a leaf
abbrev pub ReadsBounds : ℕ → List Constraint → List Path → Option (List (Option ℤ)) → Type 0
ReadsBounds attrs cs paths (Some bounds) = ArePaths attrs cs paths × Tells cs paths bounds
ReadsBounds attrs cs paths None = ¬ ArePaths attrs cs paths

-- there is a bound, and it is at most u
abbrev pub IsAtMost : Option ℤ → ℤ → Type 0
IsAtMost (Some b) u = b ≤ℤ u
IsAtMost None u = ⊥

-- where the right node of a constraint has a bound, the left one has one that is no more than by above it
abbrev pub KeepsBy : ℤ → Option ℤ → Option ℤ → Type 0
KeepsBy by (Some u) left = IsAtMost left (by +ℤ u)
KeepsBy by None left = Unit {0}

-- the constraint gives nothing that is less than the bound above a node
abbrev pub Keeps : List (Option ℤ) → Constraint → ℕ → Type 0
Keeps bounds c j = KeepsBy c.bound (bound_at bounds c.right j) (bound_at bounds c.left j)

-- the same for each node
abbrev pub KeepsEach : ℕ → List (Option ℤ) → Constraint → Type 0
KeepsEach attrs bounds c = (j : ℕ) → j ≤ attrs → Keeps bounds c j
