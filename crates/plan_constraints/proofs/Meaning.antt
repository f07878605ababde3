-- An assignment meets the constraints of two elements exactly where it gives them the sign.
use Rattle.std.proofs.Common.{◌≡◌, List, refl, sym, subst}
use Rattle.sem_query.proofs.Has.{Has-from_contains, Contains-from_has}
use Rattle.sem_query.specs.declared.atom.Element.{Element}
use Rattle.sem_query.specs.declared.atom.Element.TheVariants as element
use Rattle.sem_query.specs.declared.part.Sign.{Sign}
use Rattle.sem_query.specs.Assignment.{Assignment, value}
use Rattle.sem_query.specs.Order.{IsElement}
use Rattle.sem_query.specs.Parts.{sign}
use Rattle.sem_query.specs.Query.{QueryValue, attrs_of}
use Rattle.plan_constraints.specs.declared.constraint.Constraint.{Constraint}
use Rattle.plan_constraints.specs.Nodes.{constraints_of, nodes_of}
use Rattle.plan_constraints.specs.Solutions.{Solves}
use Rattle.plan_constraints.proofs.NodeFacts.{Agree, Known, nodes_agree, met_from_sign, sign_from_met}

-- an element of the query is a constant or among its attributes
pub known : (q : QueryValue) (e : Element) → IsElement q e → Known (attrs_of q.atoms) e
known q (element.Attr a) h = Has-from_contains _ a h
known q (element.Const k) h = tt

pub meaning_if : (q : QueryValue) (x : Element) (s : Sign) (y : Element) (cs : List Constraint) → cs ≡ constraints_of (attrs_of q.atoms) x s y → IsElement q x → IsElement q y → (v : Assignment)
    → (sign (value x v) (value y v) ≡ s → Solves (nodes_of (attrs_of q.atoms) v) cs) × (Solves (nodes_of (attrs_of q.atoms) v) cs → sign (value x v) (value y v) ≡ s)
meaning_if q x s y cs e hx hy v =
    let g : Agree (attrs_of q.atoms) (nodes_of (attrs_of q.atoms) v) v = nodes_agree (attrs_of q.atoms) v in (
      (λ p. subst (Solves (nodes_of (attrs_of q.atoms) v)) (sym e) (record { origin = refl; each = λ c h. met_from_sign _ _ v g s x y (known q x hx) (known q y hy) p c (Has-from_contains _ c h) })),
      (λ w. let u : Solves (nodes_of (attrs_of q.atoms) v) (constraints_of (attrs_of q.atoms) x s y) = subst (Solves (nodes_of (attrs_of q.atoms) v)) e w in
          sign_from_met _ _ v g s x y (known q x hx) (known q y hy) (λ c h. u.each c (Contains-from_has _ c h))),
    )
