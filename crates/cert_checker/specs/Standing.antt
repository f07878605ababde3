-- Where the walk over the nodes of a certificate stands.
use Rattle.std.specs.Prelude.{◌≡◌, ℕ, ◌-◌, ◌≤◌, Bool, cond, Option, Some, None, List, [], ◌∷◌, ◌++◌, length, take, All}
use Rattle.sem_query.specs.declared.part.Sign.{Sign}
use Rattle.sem_query.specs.Query.{QueryValue, attrs_of, IsWithinLimits}
use Rattle.plan_constraints.specs.declared.constraint.Constraint.{Constraint}
use Rattle.plan_constraints.specs.Solutions.{IsWithin}
use Rattle.cert_checker.specs.declared.shown.Shown.{Shown}
use Rattle.cert_checker.specs.declared.cursor.TreeCursor.{TreeCursor}
use Rattle.cert_checker.specs.Branching.{constraints_at, HasRoom}
use Rattle.cert_checker.specs.Shown.{branching_of}

-- how many constraints a sign stands for
abbrev pub width : Sign → ℕ
width Sign.Lt = 1
width Sign.Eq = 2
width Sign.Gt = 1

-- the constraints that one more sign adds
pub record Adds (q : QueryValue) (shown : Shown) (signs : List Sign) (s : Sign) (cs : List Constraint) : Type 0 where
  pub more : constraints_at (branching_of shown q) (signs ++ s ∷ []) ≡ constraints_at (branching_of shown q) signs ++ cs
  pub within : All (IsWithin (length (attrs_of q.atoms))) cs
  pub few : length cs ≤ 2

-- the signs are those of some first pairs of the form, and the constraints are theirs. There is room for the signs of all pairs, and
-- for the constraints
pub record Stands (q : QueryValue) (shown : Shown) (p : TreeCursor) : Type 0 where
  pub constraints : p.constraints.items ≡ constraints_at (branching_of shown q) p.signs.items
  pub within : All (IsWithin 12) p.constraints.items
  pub below : length p.signs.items ≤ length (branching_of shown q).pairs
  pub room : HasRoom (branching_of shown q)
  pub few : length (branching_of shown q).base ≤ 72
  pub limits : IsWithinLimits q

-- the last sign and its constraints are taken away, or there is none
abbrev pub Drops : Option Sign → TreeCursor → TreeCursor → Type 0
Drops (Some s) old new = (old.signs.items ≡ new.signs.items ++ s ∷ []) × (new.constraints.items ≡ take (length old.constraints.items - width s) old.constraints.items)
Drops None old new = (old.signs.items ≡ []) × (new ≡ old)

-- the sign behind a sign
abbrev pub next_sign : Sign → Option Sign
next_sign Sign.Lt = Some Sign.Eq
next_sign Sign.Eq = Some Sign.Gt
next_sign Sign.Gt = None

-- the signs, where there are some
abbrev pub at : Bool → List Sign → Option (List Sign)
at more signs = cond more (Some signs) None
