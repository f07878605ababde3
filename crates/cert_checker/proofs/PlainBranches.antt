-- The branches of a plain query: its parts, and the signs with which one may begin.
use Rattle.std.proofs.Common.{◌≡◌, Bool, true, false, List, length, refl, sym, ◌∙◌, ap}
use Rattle.std.proofs.lemmas.List.{length-map}
use Rattle.sem_query.specs.declared.part.Sign.{Sign}
use Rattle.sem_query.specs.Query.{QueryValue, IsWithinLimits}
use Rattle.sem_query.specs.Parts.{pairs, sign_at, IsPart}
use Rattle.sem_query.proofs.Has.{first, Has-from_contains}
use Rattle.sem_query.proofs.Split.{IsFeasible, feasible_where, one_under}
use Rattle.plan_constraints.specs.PartConstraints.{of_prefix}
use Rattle.plan_constraints.proofs.Feasible.{feasible_if, satisfiable_if}
use Rattle.plan_constraints.proofs.Softly.{any_one}
use Rattle.cert_checker.specs.Branching.{plain_branching}
use Rattle.cert_checker.specs.Branches.{AreBranches}
use Rattle.cert_checker.specs.Rules.{is_refuted, some_refuted}
use Rattle.cert_checker.proofs.PrefixNodes.{prefix_leads}
use Rattle.cert_checker.proofs.Refuted.{soft_hold, refuted_fails}

-- signs with which a part may begin refute no comparison
none_refuted : (q : QueryValue) (signs : List Sign) → IsFeasible q signs → (b : Bool) → some_refuted (pairs q) signs q.atoms ≡ b → b ≡ false
none_refuted q signs f false e = refl
none_refuted q signs f true e = let r = any_one (λ t. is_refuted (pairs q) signs t) q.atoms e in absurd (refuted_fails q signs r.0 r.1 r.2 f)

pub plain_branches : (q : QueryValue) → IsWithinLimits q → AreBranches (plain_branching q) (IsPart q) (IsFeasible q)
plain_branches q w = record {
  leads = λ signs c h. (let l = prefix_leads q signs c (Has-from_contains (of_prefix q signs) c h) in (l.left, l.right));
  long = λ s p. ap length (sym p.inside.signs) ∙ length-map (pairs q) (sign_at p.one);
  begins = λ s signs p st. feasible_where q signs p.one p.inside.holds p.inside.domains record { rest = st.rest; is = p.inside.signs ∙ st.is };
  solved = λ signs f. satisfiable_if q signs f;
  agreed = λ signs f. none_refuted q signs f (some_refuted (pairs q) signs q.atoms) refl;
  opens = λ signs l n s. feasible_if q signs w (soft_hold q signs w n) l s;
  whole = λ signs l f. (one_under q signs l f).parts signs first;
}
