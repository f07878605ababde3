-- What a walk of the tree of signs adds.
use Rattle.std.specs.Prelude.{◌≡◌, ℕ, ◌+◌, ◌<◌, ◌≤◌, ℤ, List, [], ◌∷◌, ◌++◌, length, All, false, slice_get, Result, Ok, Err}
use Rattle.sem_query.specs.declared.part.Sign.{Sign}
use Rattle.sem_query.specs.declared.part.Part.{Part}
use Rattle.sem_query.specs.Query.{QueryValue, attrs_of, IsWithinLimits}
use Rattle.sem_query.specs.Parts.{pairs, signs_lt, IsPart, sign_lists}
use Rattle.sem_query.specs.Members.{Has, Ascends}
use Rattle.sem_query.specs.Prefixes.{StartsWith, IsFeasible, ArePartsUnder}
use Rattle.plan_constraints.specs.declared.constraint.Constraint.{Constraint}
use Rattle.plan_closure.specs.ChoiceValue.{ChoiceValue}
use Rattle.plan_closure.specs.declared.distances.Distances.{Distances}
use Rattle.plan_closure.specs.Choices.{AreChoices, chosen}
use Rattle.plan_closure.specs.Shortest.{AreDistancesOf}
use Rattle.plan_constraints.specs.PartConstraints.{of_prefix}
use Rattle.plan_constraints.specs.Solutions.{Solves, Implies}
use Rattle.plan_constraints.specs.Soft.{next_fails, SoftHold}
use Rattle.plan_parts.specs.declared.error.SplitError.{SplitError}
use Rattle.plan_parts.specs.declared.error.SplitError.TheVariants as why

-- the same integers meet the constraints as those of the comparisons, the domains and the signs
pub record AreOf (q : QueryValue) (signs : List Sign) (cs : List Constraint) : Type 0 where
  pub into : (x : ℕ → ℤ) → Solves x cs → Solves x (of_prefix q signs)
  pub from : (x : ℕ → ℤ) → Solves x (of_prefix q signs) → Solves x cs

-- the distances of such constraints
pub record AreDistancesFor (q : QueryValue) (signs : List Sign) (k : Distances) : Type 0 where
  pub constraints : List Constraint
  pub distances : AreDistancesOf k (length (attrs_of q.atoms)) constraints
  pub are : AreOf q signs constraints

-- a node of the tree: some assignment has its signs, the distances are theirs, and no soft comparison is false under them
pub record Before (q : QueryValue) (cs : List ChoiceValue) (k : Distances) (signs : List Sign) : Type 0 where
  pub limits : IsWithinLimits q
  pub choices : AreChoices q cs
  pub room : length signs ≤ length cs
  pub few : length cs ≤ 114
  pub known : AreDistancesFor q signs k
  pub soft : SoftHold q signs
  pub feasible : IsFeasible q signs

-- the constraints whose distances they are imply each of these
abbrev pub AreImplied : Distances → List Constraint → Type 0
AreImplied k cs = (n : ℕ) (ks : List Constraint) → AreDistancesOf k n ks → All (Implies ks) cs

-- the constraints of the sign are implied, and no soft comparison is false under it
pub record FollowsNext (q : QueryValue) (signs : List Sign) (k : Distances) (c : ChoiceValue) (s : Sign) : Type 0 where
  pub implied : AreImplied k (chosen c s)
  pub agrees : next_fails q.atoms (slice_get (pairs q) (length signs)) s ≡ false

-- the longer signs begin with the signs, and each part that begins with the signs begins with the longer ones
pub record Follows (q : QueryValue) (signs longer : List Sign) : Type 0 where
  pub starts : StartsWith signs longer
  pub all : (s : List Sign) → IsPart q s → StartsWith signs s → StartsWith longer s

-- the parts that begin with the signs of some pairs were added, and there are at most 4,096 in all
pub record Walked (q : QueryValue) (signs : List Sign) (before after : List Part) : Type 0 where
  pub room : length signs ≤ length (pairs q)
  pub more : List (List Sign)
  pub are : ArePartsUnder q signs more
  pub added : sign_lists after ≡ sign_lists before ++ more
  pub few : length after ≤ 4096

-- some parts that begin with the signs, ascending
pub record SomePartsUnder (q : QueryValue) (signs : List Sign) (xs : List (List Sign)) : Type 0 where
  pub ascends : Ascends signs_lt xs
  pub parts : (s : List Sign) → Has xs s → IsPart q s
  pub under : (s : List Sign) → Has xs s → StartsWith signs s

-- with n parts before them they are more than 4,096
pub record IsOver (q : QueryValue) (signs : List Sign) (n : ℕ) : Type 0 where
  pub some : List (List Sign)
  pub are : SomePartsUnder q signs some
  pub over : 4096 < n + length some

-- all parts that begin with the signs were added, or there are too many
abbrev pub Walks : Result (Unit {0}) SplitError → QueryValue → List Sign → List Part → List Part → Type 0
Walks (Ok u) q signs before after = Walked q signs before after
Walks (Err why.TooManyParts) q signs before after = IsOver q signs (length before)
Walks (Err why.Memory) q signs before after = Unit {0}

-- the same of the parts that begin with the signs and then less, and of those that begin with them and then equal
pub record WalkedTwo (q : QueryValue) (signs : List Sign) (before after : List Part) : Type 0 where
  pub less : List (List Sign)
  pub equal : List (List Sign)
  pub are_less : ArePartsUnder q (signs ++ Sign.Lt ∷ []) less
  pub are_equal : ArePartsUnder q (signs ++ Sign.Eq ∷ []) equal
  pub added : sign_lists after ≡ (sign_lists before ++ less) ++ equal
  pub few : length after ≤ 4096

-- these parts were added, or there are too many
abbrev pub WalksTwo : Result (Unit {0}) SplitError → QueryValue → List Sign → List Part → List Part → Type 0
WalksTwo (Ok u) q signs before after = WalkedTwo q signs before after
WalksTwo (Err why.TooManyParts) q signs before after = IsOver q signs (length before)
WalksTwo (Err why.Memory) q signs before after = Unit {0}

-- one part was added, of which there are at most 4,096 in all
pub record Added (p : Part) (before after : List Part) : Type 0 where
  pub added : after ≡ before ++ p ∷ []
  pub few : length after ≤ 4096

-- the part was added, or there are 4,096
abbrev pub Adds : Result (Unit {0}) SplitError → Part → List Part → List Part → Type 0
Adds (Ok u) p before after = Added p before after
Adds (Err why.TooManyParts) p before after = length before ≡ 4096
Adds (Err why.Memory) p before after = Unit {0}
