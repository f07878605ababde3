-- A leaf that is added with its paths.
use Rattle.std.specs.Prelude.{◌⊎◌, ◌≡◌, ◌≢◌, ℕ, ◌+◌, ◌*◌, ◌<◌, ◌≤◌, ℤ, true, List, [], ◌∷◌, ◌++◌, map, Result, Ok, Err}
use Rattle.sem_query.specs.Members.{Has, Ascends}
use Rattle.plan_constraints.specs.declared.constraint.Constraint.{Constraint}
use Rattle.plan_constraints.specs.Solutions.{IsUpper, HasNoUpper, IsChain}
use Rattle.cert_format.specs.declared.line.Path.{Path}
use Rattle.cert_format.specs.declared.line.Line.{Line}
use Rattle.cert_format.specs.declared.line.Line.TheVariants as line
use Rattle.cert_checker.specs.Rules.{path_lt}
use Rattle.cert_format.specs.Certificate.{HasRoom, IsTooMany, last_of, takes_path}
use Rattle.cert_maker.specs.declared.error.MakeError.{MakeError}
use Rattle.cert_maker.specs.declared.error.MakeError.TheVariants as why

-- a path whose sum is the least bound between its ends
pub record IsLeastPath (cs : List Constraint) (p : Path) : Type 0 where
  pub sum : ℤ
  pub least : IsUpper cs p.from p.to sum
  pub chain : IsChain cs p.numbers.items p.from p.to sum

-- the least path between two nodes
pub record IsBetween (cs : List Constraint) (i j : ℕ) (p : Path) : Type 0 where
  pub from : p.from ≡ i
  pub to : p.to ≡ j
  pub least : IsLeastPath cs p

-- the least path between two nodes was added, or there is none
pub data AddedPath (cs : List Constraint) (i j : ℕ) (old new : List Line) : Type 0 where
  none : HasNoUpper cs i j → new ≡ old → AddedPath cs i j old new
  one : (p : Path) → IsBetween cs i j p → new ≡ old ++ line.Path p ∷ [] → AddedPath cs i j old new

-- it was added, or there is no memory for it
abbrev pub AddsPath : Result (Unit {0}) MakeError → List Constraint → ℕ → ℕ → List Line → List Line → Type 0
AddsPath (Ok u) cs i j old new = AddedPath cs i j old new
AddsPath (Err why.Limit) cs i j old new = ⊥
AddsPath (Err why.Memory) cs i j old new = Unit {0}

-- the least path between two nodes is one of these, or there is none
pub data HasPath (cs : List Constraint) (ps : List Path) (i j : ℕ) : Type 0 where
  free : HasNoUpper cs i j → HasPath cs ps i j
  bound : (p : Path) → Has ps p → IsBetween cs i j p → HasPath cs ps i j

-- the least paths between the nodes 0 to attrs, as far as 13 times the node where they begin and the one where they end are
-- below k
pub record ArePathsTo (attrs : ℕ) (cs : List Constraint) (k : ℕ) (ps : List Path) : Type 0 where
  pub least : (p : Path) → Has ps p → IsLeastPath cs p
  pub from : (p : Path) → Has ps p → p.from ≤ attrs
  pub to : (p : Path) → Has ps p → p.to ≤ attrs
  pub differ : (p : Path) → Has ps p → p.from ≢ p.to
  pub before : (p : Path) → Has ps p → 13 * p.from + p.to < k
  pub ascend : Ascends path_lt ps
  pub all : (i j : ℕ) → i ≤ attrs → j ≤ attrs → i ≢ j → 13 * i + j < k → HasPath cs ps i j

-- they were added behind a leaf or a path
pub record AddedTo (attrs : ℕ) (cs : List Constraint) (k : ℕ) (old new : List Line) : Type 0 where
  pub paths : List Path
  pub are : ArePathsTo attrs cs k paths
  pub lines : new ≡ old ++ map line.Path paths
  pub takes : takes_path (last_of new) ≡ true

-- all were added, or there is no memory for them
abbrev pub AddsPaths : Result (Unit {0}) MakeError → ℕ → List Constraint → List Line → List Line → Type 0
AddsPaths (Ok u) attrs cs old new = AddedTo attrs cs 169 old new
AddsPaths (Err why.Limit) attrs cs old new = ⊥
AddsPaths (Err why.Memory) attrs cs old new = Unit {0}

-- a leaf was added with all its paths
pub record AddedLeaf (attrs : ℕ) (cs : List Constraint) (old new : List Line) (before after : ℕ) : Type 0 where
  pub paths : List Path
  pub are : ArePathsTo attrs cs 169 paths
  pub lines : new ≡ old ++ line.Leaf ∷ map line.Path paths
  pub room : HasRoom old line.Leaf
  pub counted : after ≡ before + 1
  pub few : after ≤ 4096

-- the leaf is one part too many, or one node too many
abbrev pub IsLeafTooMany : List Line → ℕ → Type 0
IsLeafTooMany old before = (before ≡ 4096) ⊎ IsTooMany old line.Leaf

-- it was added, or is too many, or there is no memory for it
abbrev pub AddsLeaf : Result (Unit {0}) MakeError → ℕ → List Constraint → List Line → List Line → ℕ → ℕ → Type 0
AddsLeaf (Ok u) attrs cs old new before after = AddedLeaf attrs cs old new before after
AddsLeaf (Err why.Limit) attrs cs old new before after = IsLeafTooMany old before
AddsLeaf (Err why.Memory) attrs cs old new before after = Unit {0}
