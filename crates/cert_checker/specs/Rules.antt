-- When a node of a certificate is good, at the signs on the way to it, and which rule one that is not good breaks first.
use Rattle.std.specs.Prelude.{◌≡◌, ◌≢◌, ℕ, suc, ◌-◌, ◌<◌, ◌≤◌, ℤ, pos, ◌+ℤ◌, ◌≤ℤ◌, Bool, false, cond, nat_eq, nat_lt, ◌&&◌, ◌||◌, IsTrue, IsFalse, Option, Some, None, List, [], ◌∷◌, length, slice_get, All, AllPairs, Contains}
use Rattle.std.specs.List.{list_any}
use Rattle.sem_query.specs.declared.atom.Atom.{Atom}
use Rattle.sem_query.specs.declared.part.Pair.{Pair}
use Rattle.sem_query.specs.declared.part.Sign.{Sign}
use Rattle.plan_constraints.specs.declared.constraint.Constraint.{Constraint}
use Rattle.plan_constraints.specs.Solutions.{IsChain, IsNegativeCycle}
use Rattle.plan_constraints.specs.Soft.{fails_by, denies_itself}
use Rattle.cert_format.specs.declared.line.Path.{Path}
use Rattle.cert_checker.specs.declared.answer.Reason.{Reason}
use Rattle.cert_checker.specs.declared.answer.Reason.TheVariants as reason
use Rattle.cert_checker.specs.Branching.{Branching, constraints_at}
use Rattle.cert_format.specs.Nodes.{Node, split, infeasible, against, leaf}

-- a path names two different ones of the nodes 0 to attrs, and leads from the one to the other
pub record IsPath (attrs : ℕ) (cs : List Constraint) (p : Path) : Type 0 where
  pub from : p.from ≤ attrs
  pub to : p.to ≤ attrs
  pub differ : p.from ≢ p.to
  pub sum : ℤ
  pub chain : IsChain cs p.numbers.items p.from p.to sum

-- paths are ordered by where they begin, and then by where they end
abbrev pub path_lt : Path → Path → Bool
path_lt p r = nat_lt p.from r.from || (nat_eq p.from r.from && nat_lt p.to r.to)

-- the paths of a leaf, ascending
pub record ArePaths (attrs : ℕ) (cs : List Constraint) (paths : List Path) : Type 0 where
  pub each : All (IsPath attrs cs) paths
  pub ascend : AllPairs (λ p r. IsTrue (path_lt p r)) paths

-- u bounds node i above node j: 0 for one and the same, and otherwise the sum of the path from i to j
pub data IsBound (cs : List Constraint) (paths : List Path) (i j : ℕ) (u : ℤ) : Type 0 where
  same : i ≡ j → u ≡ pos 0 → IsBound cs paths i j u
  of_path : (p : Path) → Contains paths p → p.from ≡ i → p.to ≡ j → IsChain cs p.numbers.items i j u → IsBound cs paths i j u

-- i has a bound above j that is at most u
pub record HasBound (cs : List Constraint) (paths : List Path) (i j : ℕ) (u : ℤ) : Type 0 where
  pub bound : ℤ
  pub is : IsBound cs paths i j bound
  pub small : bound ≤ℤ u

-- the bounds are closed: a constraint before a bound gives nothing that is less than the bound of its left node
pub record AreClosed (attrs : ℕ) (cs : List Constraint) (paths : List Path) : Type 0 where
  pub closed : (c : Constraint) → Contains cs c → (j : ℕ) → j ≤ attrs → (u : ℤ) → IsBound cs paths c.right j u → HasBound cs paths c.left j (c.bound +ℤ u)

-- the rules of a split: there is another pair, and it is the next one
pub record IsNextPair (b : Branching) (signs : List Sign) (pair : ℕ) : Type 0 where
  pub next : pair ≡ suc (length signs)
  pub left : length signs < length b.pairs

-- the comparison with a number, from 1
abbrev pub comparison : List Atom → ℕ → Option Atom
comparison ts number = cond (nat_eq number 0) None (slice_get ts (number - 1))

-- whether a comparison is soft and false under the sign of its pair, where the first pairs have these signs
abbrev pub is_false_under : Atom → List Pair → List Sign → Bool
is_false_under t [] signs = false
is_false_under t (p ∷ ps) [] = false
is_false_under t (p ∷ ps) (s ∷ signs) = fails_by t p s || is_false_under t ps signs

-- whether it is, or says that an element is not itself
abbrev pub is_refuted : List Pair → List Sign → Atom → Bool
is_refuted ps signs t = denies_itself t || is_false_under t ps signs

-- the same of a comparison that may not be there
abbrev pub is_there_refuted : List Pair → List Sign → Option Atom → Bool
is_there_refuted ps signs None = false
is_there_refuted ps signs (Some t) = is_refuted ps signs t

-- whether some comparison is refuted
abbrev pub some_refuted : List Pair → List Sign → List Atom → Bool
some_refuted ps signs ts = list_any (λ t. is_refuted ps signs t) ts

-- the rule of a branch that a comparison closes: there is one with this number, and it is refuted
abbrev pub IsRefuted : Branching → List Sign → ℕ → Type 0
IsRefuted b signs number = IsTrue (is_there_refuted b.pairs signs (comparison b.atoms number))

-- the first rules of a leaf: each pair has its sign, and no comparison is refuted
pub record MayBePart (b : Branching) (signs : List Sign) : Type 0 where
  pub whole : length signs ≡ length b.pairs
  pub agree : IsFalse (some_refuted b.pairs signs b.atoms)

-- the rules of a leaf: it stands where a part may be, the paths are paths, and their bounds are closed
pub record IsGoodLeaf (b : Branching) (signs : List Sign) (paths : List Path) : Type 0 where
  pub place : MayBePart b signs
  pub are_paths : ArePaths (length b.attrs) (constraints_at b signs) paths
  pub closed : AreClosed (length b.attrs) (constraints_at b signs) paths

-- a node meets its rules, where the pairs before it have these signs
abbrev pub IsGoodNode : Branching → List Sign → Node → Type 0
IsGoodNode b signs (split pair) = IsNextPair b signs pair
IsGoodNode b signs (infeasible numbers) = IsNegativeCycle (constraints_at b signs) numbers
IsGoodNode b signs (against number) = IsRefuted b signs number
IsGoodNode b signs (leaf paths) = IsGoodLeaf b signs paths

-- the first rule that a node breaks
pub data Breaks (b : Branching) (signs : List Sign) : Node → Reason → Type 0 where
  no_split : {pair : ℕ} → ¬ IsNextPair b signs pair → Breaks b signs (split pair) reason.Shape
  no_cycle : {numbers : List ℕ} → ¬ IsNegativeCycle (constraints_at b signs) numbers → Breaks b signs (infeasible numbers) reason.Cycle
  no_refuted : {number : ℕ} → ¬ IsRefuted b signs number → Breaks b signs (against number) reason.Cycle
  no_part : {paths : List Path} → ¬ MayBePart b signs → Breaks b signs (leaf paths) reason.Shape
  no_paths : {paths : List Path} → MayBePart b signs → ¬ ArePaths (length b.attrs) (constraints_at b signs) paths → Breaks b signs (leaf paths) reason.Path
  not_closed : {paths : List Path} → MayBePart b signs → ArePaths (length b.attrs) (constraints_at b signs) paths → ¬ AreClosed (length b.attrs) (constraints_at b signs) paths → Breaks b signs (leaf paths) reason.Bound
