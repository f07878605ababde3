-- What a tree over a branching is a tree of: the sign lists that are parts, and those with which one may begin.
use Rattle.std.specs.Prelude.{◌≡◌, ◌≤◌, IsTrue, IsFalse, List, [], length, All, AllPairs, Contains}
use Rattle.sem_query.specs.declared.part.Sign.{Sign}
use Rattle.sem_query.specs.Query.{QueryValue}
use Rattle.sem_query.specs.Assignment.{Assignment}
use Rattle.sem_query.specs.Parts.{signs_lt}
use Rattle.sem_query.specs.Prefixes.{StartsWith}
use Rattle.plan_constraints.specs.declared.constraint.Constraint.{Constraint}
use Rattle.plan_constraints.specs.Solutions.{IsSatisfiable}
use Rattle.sem_whole.specs.System.{system, Solves}
use Rattle.cert_checker.specs.Branching.{Branching, constraints_at}
use Rattle.cert_checker.specs.Rules.{some_refuted}

-- a part has a sign for each pair, and a front of it for the first; the signs are a front exactly where no comparison is refuted and some
-- integers meet the constraints, which name nodes alone. A front with a sign for each pair is a part
pub record AreBranches (b : Branching) (Part Front : List Sign → Type 0) : Type 0 where
  pub leads : (signs : List Sign) (c : Constraint) → Contains (constraints_at b signs) c → (c.left ≤ length b.attrs) × (c.right ≤ length b.attrs)
  pub long : (s : List Sign) → Part s → length s ≡ length b.pairs
  pub begins : (s signs : List Sign) → Part s → StartsWith signs s → Front signs
  pub solved : (signs : List Sign) → Front signs → IsSatisfiable (constraints_at b signs)
  pub agreed : (signs : List Sign) → Front signs → IsFalse (some_refuted b.pairs signs b.atoms)
  pub opens : (signs : List Sign) → length signs ≤ length b.pairs → IsFalse (some_refuted b.pairs signs b.atoms) → IsSatisfiable (constraints_at b signs) → Front signs
  pub whole : (signs : List Sign) → length signs ≡ length b.pairs → Front signs → Part signs

-- a list of all of which P holds, ascending
pub record AreAll (P : List Sign → Type 0) (xs : List (List Sign)) : Type 0 where
  pub ascending : AllPairs (λ s t. IsTrue (signs_lt s t)) xs
  pub each : All P xs
  pub all : (s : List Sign) → P s → Contains xs s

-- the one part of a whole form, which has no signs: some assignment solves the system
pub record IsWholePart (q : QueryValue) (s : List Sign) : Type 0 where
  pub none : s ≡ []
  pub one : Assignment
  pub solves : Solves (system q) one
