-- The branch of a whole form: its one part, which has no signs. And which nodes the constraints of a query and of signs name.
use Rattle.std.proofs.Common.{◌≡◌, ◌≤◌, inl, inr, List, [], ◌∷◌, ◌++◌, length, append-nil, Contains, refl, sym, ◌∙◌, ap, subst, arith}
use Rattle.sem_query.specs.declared.atom.Attr.{Attr}
use Rattle.sem_query.specs.declared.atom.Element.{Element}
use Rattle.sem_query.specs.declared.atom.Element.TheVariants as element
use Rattle.sem_query.specs.declared.part.Pair.{Pair}
use Rattle.sem_query.specs.declared.part.Sign.{Sign}
use Rattle.sem_query.specs.Query.{QueryValue, attrs_of, IsWithinLimits}
use Rattle.sem_query.proofs.Has.{Has, Has-from_contains, Has-append_cases, Has-map_from}
use Rattle.plan_constraints.specs.declared.constraint.Constraint.{Constraint}
use Rattle.plan_constraints.specs.Solutions.{IsSatisfiable}
use Rattle.plan_constraints.specs.PartConstraints.{of_signs}
use Rattle.plan_constraints.proofs.NodeFacts.{Known}
use Rattle.sem_whole.specs.Signed.{IsSide}
use Rattle.sem_whole.proofs.Formed.{well_formed}
use Rattle.plan_whole.specs.Closed.{constraint_of, named_system, closed_constraints}
use Rattle.plan_whole.proofs.Named.{named_in, solution, satisfied}
use Rattle.cert_checker.specs.Branching.{whole_branching}
use Rattle.cert_checker.specs.Branches.{AreBranches, IsWholePart}
use Rattle.cert_checker.proofs.PrefixNodes.{LeadsWithin, node_known, signs_lead}

-- the constraints of a query lead between nodes that exist
pub closed_leads : (q : QueryValue) (c : Constraint) → Has (closed_constraints q) c → LeadsWithin (length (attrs_of q.atoms)) c
closed_leads q c h =
    let xs = attrs_of q.atoms in
    let r = Has-map_from (constraint_of xs) (named_system q) c h in
    let n = named_in q r.0 r.1 in
    subst (LeadsWithin (length xs)) r.2 record { left = node_known xs r.0.left n.1; right = node_known xs r.0.right n.2 }

pub side_known : (xs : List Attr) (e : Element) → IsSide xs e → Known xs e
side_known xs (element.Attr a) h = Has-from_contains xs a h
side_known xs (element.Const k) h = tt

-- and so do those of signs behind them, of pairs of attributes, and of attributes with integers
pub signed_leads : (q : QueryValue) (ps : List Pair) (ss : List Sign) → ((p : Pair) → Has ps p → Contains (attrs_of q.atoms) p.left) → ((p : Pair) → Has ps p → IsSide (attrs_of q.atoms) p.right)
    → (c : Constraint) → Has (closed_constraints q ++ of_signs (attrs_of q.atoms) ps ss) c → LeadsWithin (length (attrs_of q.atoms)) c
signed_leads q ps ss left right c h = elim (Has-append_cases (closed_constraints q) (of_signs (attrs_of q.atoms) ps ss) c h) [
  | inl i ↦ closed_leads q c i
  | inr i ↦ signs_lead (attrs_of q.atoms) ps ss (λ p k. (Has-from_contains (attrs_of q.atoms) p.left (left p k), side_known (attrs_of q.atoms) p.right (right p k))) c i
]

none_left : (xs : List Sign) → length xs ≤ 0 → xs ≡ []
none_left [] l = refl
none_left (x ∷ xs) l = absurd (omega (arith, l))

none_begins : (signs rest : List Sign) → [] ≡ signs ++ rest → signs ≡ []
none_begins [] rest e = refl
none_begins (s ∷ signs) rest e = absurd cc

pub whole_branches : (q : QueryValue) → IsWithinLimits q → AreBranches (whole_branching q) (IsWholePart q) (IsWholePart q)
whole_branches q w = record {
  leads = λ signs c h. (let l = closed_leads q c (subst (λ z. Has z c) (append-nil (closed_constraints q)) (Has-from_contains (closed_constraints q ++ []) c h)) in (l.left, l.right));
  long = λ s p. ap length p.none;
  begins = λ s signs p st. record { none = none_begins signs st.rest (sym p.none ∙ st.is); one = p.one; solves = p.solves };
  solved = λ signs p. subst IsSatisfiable (sym (append-nil (closed_constraints q))) (satisfied q p.one p.solves);
  agreed = λ signs p. refl;
  opens = λ signs l n s. (let v = solution q (well_formed q w) (subst IsSatisfiable (append-nil (closed_constraints q)) s) in record { none = none_left signs l; one = v.0; solves = v.1 });
  whole = λ signs l p. p;
}
