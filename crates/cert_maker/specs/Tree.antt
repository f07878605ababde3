-- What a walk of the tree of signs adds.
use Rattle.std.specs.Prelude.{◌≡◌, ℕ, ◌+◌, ◌*◌, ◌<◌, ◌≤◌, List, [], ◌∷◌, ◌++◌, length, All, IsFalse, Option, None, Some, Result, Ok, Err}
use Rattle.sem_query.specs.declared.part.Sign.{Sign}
use Rattle.sem_query.specs.declared.part.Pair.{Pair}
use Rattle.sem_query.specs.Query.{QueryValue, attrs_of, IsWithinLimits}
use Rattle.sem_query.specs.Parts.{signs_lt, IsPart}
use Rattle.sem_query.specs.Members.{Has, Ascends}
use Rattle.sem_query.specs.Prefixes.{StartsWith, IsFeasible}
use Rattle.plan_split_pairs.specs.SplitParts.{IsSplitPart}
use Rattle.plan_split_parts.specs.Fronts.{IsFront}
use Rattle.plan_closure.specs.BoundsValue.{BoundsValue}
use Rattle.plan_constraints.specs.Solutions.{IsWithin}
use Rattle.cert_format.specs.declared.line.Line.{Line}
use Rattle.cert_format.specs.Nodes.{grouped, nodes_of}
use Rattle.cert_format.specs.Certificate.{HasRoom, IsTooMany}
use Rattle.cert_checker.specs.declared.shown.Shown.{Shown}
use Rattle.cert_checker.specs.Branching.{Branching, constraints_at}
use Rattle.cert_checker.specs.Branches.{IsWholePart}
use Rattle.cert_checker.specs.Shown.{branching_of}
use Rattle.cert_checker.specs.Rules.{some_refuted, IsRefuted}
use Rattle.cert_checker.specs.Reading.{AreGood, following}
use Rattle.cert_maker.specs.declared.branches.Branches.{Branches}
use Rattle.cert_maker.specs.declared.error.MakeError.{MakeError}
use Rattle.cert_maker.specs.declared.error.MakeError.TheVariants as why
use Rattle.cert_maker.specs.Made.{IsOpen}

-- What adding a line that may stand behind the others comes to. Memory may be short only for a line for which there is room.
abbrev pub AddsNext : Result (Unit {0}) MakeError → Line → List Line → List Line → Type 0
AddsNext (Ok u) l old new = HasRoom old l × (new ≡ old ++ l ∷ [])
AddsNext (Err why.Limit) l old new = IsTooMany old l
AddsNext (Err why.Memory) l old new = HasRoom old l

-- the parts of a form
abbrev pub IsPartOf : Shown → QueryValue → List Sign → Type 0
IsPartOf Shown.Plain q = IsPart q
IsPartOf Shown.Whole q = IsWholePart q
IsPartOf Shown.Split q = IsSplitPart q

-- the signs with which a part of a form may begin
abbrev pub IsFrontOf : Shown → QueryValue → List Sign → Type 0
IsFrontOf Shown.Plain q = IsFeasible q
IsFrontOf Shown.Whole q = IsWholePart q
IsFrontOf Shown.Split q = λ s. IsFront q (length s) s

-- those that are open
abbrev pub IsOpenOf : Shown → QueryValue → List Sign → Type 0
IsOpenOf s q = IsOpen (branching_of s q) (IsFrontOf s q)

-- the number of a comparison that closes the branch at these signs; or no comparison is refuted there
abbrev pub ClosesAgainst : Branching → List Sign → Option ℕ → Type 0
ClosesAgainst b signs None = IsFalse (some_refuted b.pairs signs b.atoms)
ClosesAgainst b signs (Some number) = IsRefuted b signs number

-- a node of the tree: the bounds are those of the root and of the signs, no comparison is refuted by the signs, and there is room for the
-- constraints of the signs of the pairs that are left
pub record IsNode (s : Shown) (q : QueryValue) (ps : List Pair) (signs : List Sign) (b : BoundsValue) : Type 0 where
  pub pairs : ps ≡ (branching_of s q).pairs
  pub room : length signs ≤ length ps
  pub few : length ps ≤ 114
  pub limits : IsWithinLimits q
  pub agree : ClosesAgainst (branching_of s q) signs None
  pub attrs : b.attrs ≡ length (attrs_of q.atoms)
  pub constraints : b.constraints ≡ constraints_at (branching_of s q) signs
  pub within : All (IsWithin (length (attrs_of q.atoms))) (constraints_at (branching_of s q) signs)
  pub short : length (constraints_at (branching_of s q) signs) + 2 * length ps ≤ 300 + 2 * length signs

-- the same of what the code branches on
abbrev pub IsNodeOf : Branches → List Sign → BoundsValue → Type 0
IsNodeOf t signs b = IsNode t.shown t.query.now t.pairs.now signs b

-- some lists of signs of which P holds, ascending, that begin with these
pub record SomeUnder (P : List Sign → Type 0) (signs : List Sign) (xs : List (List Sign)) : Type 0 where
  pub ascends : Ascends signs_lt xs
  pub each : (s : List Sign) → Has xs s → P s
  pub under : (s : List Sign) → Has xs s → StartsWith signs s

-- all of them
pub record AllUnder (P : List Sign → Type 0) (signs : List Sign) (xs : List (List Sign)) : Type 0 where
  pub some : SomeUnder P signs xs
  pub all : (s : List Sign) → P s → StartsWith signs s → Has xs s

-- the nodes of the tree below some signs were added, with the parts that begin with the signs, and with three nodes below each
-- open list of signs
pub record Walked (s : Shown) (q : QueryValue) (signs : List Sign) (old new : List Line) (before after : ℕ) : Type 0 where
  pub added : List Line
  pub lines : new ≡ old ++ added
  pub head : (grouped added).paths ≡ []
  pub good : AreGood (branching_of s q) (Some signs) (nodes_of added) (following signs)
  pub parts : List (List Sign)
  pub are_parts : AllUnder (IsPartOf s q) signs parts
  pub counted : after ≡ before + length parts
  pub few : after ≤ 4096
  pub fronts : List (List Sign)
  pub are_fronts : AllUnder (IsOpenOf s q) signs fronts
  pub sized : length (nodes_of added) ≡ 1 + 3 * length fronts
  pub fit : length (nodes_of new) ≤ 262144

-- with so many nodes and parts before them, the nodes below some signs are too many, or the parts that begin with the signs are
pub data IsOver (s : Shown) (q : QueryValue) (signs : List Sign) (nodes parts : ℕ) : Type 0 where
  of_parts : (some : List (List Sign)) → SomeUnder (IsPartOf s q) signs some → 4096 < parts + length some → IsOver s q signs nodes parts
  of_nodes : (some : List (List Sign)) → SomeUnder (IsOpenOf s q) signs some → 262144 < nodes + 1 + 3 * length some → IsOver s q signs nodes parts

-- the nodes below some signs were added, or there are too many
abbrev pub Walks : Result (Unit {0}) MakeError → Shown → QueryValue → List Sign → List Line → List Line → ℕ → ℕ → Type 0
Walks (Ok u) s q signs old new before after = Walked s q signs old new before after
Walks (Err why.Limit) s q signs old new before after = IsOver s q signs (length (nodes_of old)) before
Walks (Err why.Memory) s q signs old new before after = Unit {0}

-- the same of what the code branches on
abbrev pub WalksOf : Result (Unit {0}) MakeError → Branches → List Sign → List Line → List Line → ℕ → ℕ → Type 0
WalksOf r t signs old new before after = Walks r t.shown t.query.now signs old new before after
