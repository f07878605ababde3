use Rattle.std.proofs.Common.{arith, refl, ℕ, List, Bool, true, false, not, IsTrue}
use Rattle.plan_constraints.specs.declared.constraint.Constraint.{Constraint}
use Rattle.plan_constraints.specs.Solutions.{Allows}
use Rattle.plan_closure.specs.Shortest.{between, Closes, AreDistancesOf}
use Rattle.plan_closure.proofs.Least.{never, allowed_if, not_allowed_if, small}
use Rattle.plan_closure.proofs.distances.Distances.allows.Goals as goal

pub returns-then-self : goal.returns-then-self
returns-then-self c = λ n cs h. ((λ t. cc), (λ s. absurd (never c.args.self.now n cs h c.args.c c.requires.within c.if-self.true s)))

pub is_closed_by-requires-clause-small : goal.is_closed_by-requires-clause-small
is_closed_by-requires-clause-small c = small c.args.self.now _ _ c.requires.known.distances c.if-self.false _ _ (omega (arith, c.requires.within.right)) (omega (arith, c.requires.within.left))

pub returns : goal.returns
returns c = λ n cs h. go n cs h c.is_closed_by.result c.is_closed_by.ensures.0 c.is_closed_by.ensures.1
  where
    go : (n : ℕ) (cs : List Constraint) (h : AreDistancesOf c.args.self.now n cs) (b : Bool) → (IsTrue b → Closes (between c.args.self.now.table c.args.c.right c.args.c.left) c.args.c.bound) → (Closes (between c.args.self.now.table c.args.c.right c.args.c.left) c.args.c.bound → IsTrue b) → (IsTrue (not b) → Allows cs c.args.c) × (Allows cs c.args.c → IsTrue (not b))
    go n cs h true f g = ((λ t. cc), (λ s. absurd (not_allowed_if c.args.self.now n cs h c.args.c c.requires.within (f refl) s)))
    go n cs h false f g = ((λ t. allowed_if c.args.self.now n cs h c.args.c c.requires.within c.if-self.false (λ k. let y = g k in cc)), (λ s. refl))
