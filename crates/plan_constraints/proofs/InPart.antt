-- What the constraints of a part imply is what holds in all its assignments: for the crates above.
use Rattle.std.proofs.Common.{◌≡◌, ℕ, Bool, true, false, refl, ◌+◌, ℤ, ◌≤ℤ◌, ◌<ℤ◌, List, [], ◌∷◌, ◌++◌, length, length-append, append-nil, sym, ◌∙◌, ap, subst, arith}
use Rattle.std.proofs.lemmas.Int.{ints}
use Rattle.std.proofs.lemmas.List.{length-map}
use Rattle.sem_query.proofs.Has.{Has, Has-from_contains}
use Rattle.sem_query.proofs.Holding.{Compares-from_test, compares-true, Holds-each, Holds-from_each}
use Rattle.sem_query.proofs.Local.{soft_sign, compares_alike}
use Rattle.sem_query.proofs.Split.{StartsWith}
use Rattle.sem_query.specs.declared.atom.Atom.{Atom}
use Rattle.sem_query.specs.declared.atom.Attr.{Attr}
use Rattle.sem_query.specs.declared.atom.Element.{Element}
use Rattle.sem_query.specs.declared.atom.Element.TheVariants as element
use Rattle.sem_query.specs.declared.part.Sign.{Sign}
use Rattle.sem_query.specs.Query.{QueryValue, attrs_of, is_soft, IsWithinLimits}
use Rattle.sem_query.specs.Assignment.{Assignment, value, AtomHolds}
use Rattle.sem_query.specs.Parts.{pairs, signs_of, InPart, IsPart}
use Rattle.sem_query.specs.Order.{IsElement, IsLess, IsEqual, IsLeast as IsLeastInPart, IsGreatest as IsGreatestInPart}
use Rattle.plan_constraints.specs.Nodes.{IsAlwaysLess, IsAlwaysEqual, node_of, element_at, nodes_of, assignment_of}
use Rattle.plan_constraints.specs.PartConstraints.{of_prefix}
use Rattle.plan_constraints.specs.Solutions.{Solves, IsLeast, IsGreatest}
use Rattle.plan_constraints.proofs.Feasible.{solves_if, holds_if, keeps_if, starts_if}
use Rattle.plan_constraints.proofs.Meaning.{known}
use Rattle.plan_constraints.proofs.NodeFacts.{Agree, value_is, assignment_agrees, nodes_agree}

module _ (q : QueryValue) (s : List Sign) where
  -- an assignment of the part solves the part's constraints
  pub solves_in_part : (v : Assignment) → InPart q s v → Solves (nodes_of (attrs_of q.atoms) v) (of_prefix q s)
  solves_in_part v h = solves_if q s v (λ t i e. Holds-each q v h.holds t i) h.domains (record { rest = []; is = h.signs ∙ sym (append-nil s) })

  whole : length s ≡ length (pairs q) → (v : Assignment) → StartsWith s (signs_of q v) → signs_of q v ≡ s
  whole l v w = go w.rest w.is
    where
      go : (rest : List Sign) → signs_of q v ≡ s ++ rest → signs_of q v ≡ s
      go [] e = e ∙ append-nil s
      go (t ∷ rest) e =
          let a : length (signs_of q v) ≡ length (pairs q) = simp length-map in
          let b : length (signs_of q v) ≡ length s + length (t ∷ rest) = ap length e ∙ length-append s (t ∷ rest) in
          absurd (omega (arith, a, b, l))

  module _ (within : IsWithinLimits q) (part : IsPart q s) where
    long : length s ≡ length (pairs q)
    long = let a : length (signs_of q part.one) ≡ length (pairs q) = simp length-map in sym (ap length part.inside.signs) ∙ a

    -- what solves them is an assignment of the part: a soft comparison holds of it by its signs
    pub in_part_from_solves : (x : ℕ → ℤ) → Solves x (of_prefix q s) → InPart q s (assignment_of (attrs_of q.atoms) q.domains x)
    in_part_from_solves x v = record {
      holds = Holds-from_each q given (λ t i. by t i (is_soft t.op) refl);
      domains = keeps_if q s x v within;
      signs = signs;
    }
      where
        given : Assignment
        given = assignment_of (attrs_of q.atoms) q.domains x

        signs : signs_of q given ≡ s
        signs = whole long given (starts_if q s x v (omega (arith, long)))

        by : (t : Atom) → Has q.atoms t → (b : Bool) → is_soft t.op ≡ b → AtomHolds given t
        by t i true e =
            compares-true t.op _ _ (compares_alike t.op _ _ _ _ (soft_sign q part.one given (part.inside.signs ∙ sym signs) t i e) (Compares-from_test t.op _ _ (Holds-each q part.one part.inside.holds t i)))
        by t i false e = holds_if q s x v t i e

  module _ (within : IsWithinLimits q) (part : IsPart q s) (x y : Element) (hx : IsElement q x) (hy : IsElement q y) where
    pub less_in_part : IsAlwaysLess q (of_prefix q s) x y → IsLess q s x y
    less_in_part h = record {
      less = λ v p.
          let g : Agree (attrs_of q.atoms) (nodes_of (attrs_of q.atoms) v) v = nodes_agree (attrs_of q.atoms) v in
          let a = value_is (attrs_of q.atoms) (nodes_of (attrs_of q.atoms) v) v g x (known q x hx) in
          let b = value_is (attrs_of q.atoms) (nodes_of (attrs_of q.atoms) v) v g y (known q y hy) in
          let c : element_at (attrs_of q.atoms) (nodes_of (attrs_of q.atoms) v) x <ℤ element_at (attrs_of q.atoms) (nodes_of (attrs_of q.atoms) v) y = h.less _ (solves_in_part v p) in
          omega (arith, ints, a, b, c);
    }

    pub less_from_part : IsLess q s x y → IsAlwaysLess q (of_prefix q s) x y
    less_from_part h = record {
      less = λ z p.
          let g : Agree (attrs_of q.atoms) z (assignment_of (attrs_of q.atoms) q.domains z) = assignment_agrees (attrs_of q.atoms) q.domains z p.origin in
          let a = value_is (attrs_of q.atoms) z _ g x (known q x hx) in
          let b = value_is (attrs_of q.atoms) z _ g y (known q y hy) in
          let c : value x (assignment_of (attrs_of q.atoms) q.domains z) <ℤ value y (assignment_of (attrs_of q.atoms) q.domains z) = h.less _ (in_part_from_solves within part z p) in
          omega (arith, ints, a, b, c);
    }

    pub equal_in_part : IsAlwaysEqual q (of_prefix q s) x y → IsEqual q s x y
    equal_in_part h = record {
      equal = λ v p.
          let g : Agree (attrs_of q.atoms) (nodes_of (attrs_of q.atoms) v) v = nodes_agree (attrs_of q.atoms) v in
          let a = value_is (attrs_of q.atoms) (nodes_of (attrs_of q.atoms) v) v g x (known q x hx) in
          let b = value_is (attrs_of q.atoms) (nodes_of (attrs_of q.atoms) v) v g y (known q y hy) in
          let c : element_at (attrs_of q.atoms) (nodes_of (attrs_of q.atoms) v) x ≡ element_at (attrs_of q.atoms) (nodes_of (attrs_of q.atoms) v) y = h.equal _ (solves_in_part v p) in
          omega (arith, ints, a, b, c);
    }

    pub equal_from_part : IsEqual q s x y → IsAlwaysEqual q (of_prefix q s) x y
    equal_from_part h = record {
      equal = λ z p.
          let g : Agree (attrs_of q.atoms) z (assignment_of (attrs_of q.atoms) q.domains z) = assignment_agrees (attrs_of q.atoms) q.domains z p.origin in
          let a = value_is (attrs_of q.atoms) z _ g x (known q x hx) in
          let b = value_is (attrs_of q.atoms) z _ g y (known q y hy) in
          let c : value x (assignment_of (attrs_of q.atoms) q.domains z) ≡ value y (assignment_of (attrs_of q.atoms) q.domains z) = h.equal _ (in_part_from_solves within part z p) in
          omega (arith, ints, a, b, c);
    }

  module _ (within : IsWithinLimits q) (part : IsPart q s) (a : Attr) (ha : IsElement q (element.Attr a)) where
    at_node : (v : Assignment) → nodes_of (attrs_of q.atoms) v (node_of (attrs_of q.atoms) (element.Attr a)) ≡ v a
    at_node v = (nodes_agree (attrs_of q.atoms) v).each a (Has-from_contains _ a ha)

    pub least_in_part : (low : ℤ) → IsLeast (of_prefix q s) (node_of (attrs_of q.atoms) (element.Attr a)) low → IsLeastInPart q s a low
    least_in_part low h = record {
      at = assignment_of (attrs_of q.atoms) q.domains h.at;
      inside = in_part_from_solves within part h.at h.solves;
      reached = sym ((assignment_agrees (attrs_of q.atoms) q.domains h.at h.solves.origin).each a (Has-from_contains _ a ha)) ∙ h.reached;
      above = λ v p. subst (λ z. low ≤ℤ z) (at_node v) (h.above _ (solves_in_part v p));
    }

    pub greatest_in_part : (high : ℤ) → IsGreatest (of_prefix q s) (node_of (attrs_of q.atoms) (element.Attr a)) high → IsGreatestInPart q s a high
    greatest_in_part high h = record {
      at = assignment_of (attrs_of q.atoms) q.domains h.at;
      inside = in_part_from_solves within part h.at h.solves;
      reached = sym ((assignment_agrees (attrs_of q.atoms) q.domains h.at h.solves.origin).each a (Has-from_contains _ a ha)) ∙ h.reached;
      below = λ v p. subst (λ z. z ≤ℤ high) (at_node v) (h.below _ (solves_in_part v p));
    }
