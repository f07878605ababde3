-- The range of an attribute is told by the least and the greatest value of its node.
use Rattle.std.proofs.Common.{◌≡◌, ℕ, zero, suc, ◌+◌, ◌<◌, ℤ, ◌≤ℤ◌, ◌<ℤ◌, true, cond, ◌&&◌, nat_eq, Option, None, Some, List, [], ◌∷◌, length, slice_index_or, Contains, sym, ◌∙◌, ap, subst, arith}
use Rattle.std.proofs.lemmas.Int.{ints}
use Rattle.std.proofs.lemmas.List.Elements.{Contains-get_or}
use Rattle.std.proofs.lemmas.Bool.Decides.{nat_tests}
use Rattle.sem_query.proofs.Has.{Has-from_contains}
use Rattle.sem_query.proofs.Unique.{Ascends, more}
use Rattle.sem_query.proofs.Ascending.{Ascends-attrs_of}
use Rattle.sem_query.specs.declared.atom.Attr.{Attr}
use Rattle.sem_query.specs.declared.atom.Element.TheVariants as element
use Rattle.sem_query.specs.declared.part.Sign.{Sign}
use Rattle.sem_query.specs.Query.{QueryValue, attrs_of, attr_lt, IsWithinLimits}
use Rattle.sem_query.specs.Parts.{IsPart}
use Rattle.sem_query.specs.Order.{IsElement, IsBounded}
use Rattle.plan_constraints.specs.declared.constraint.Constraint.{Constraint}
use Rattle.plan_closure.specs.BoundsValue.{BoundsValue}
use Rattle.plan_constraints.specs.Solutions.{IsLowAnswer, IsHighAnswer, Solves, HasNoLeast, HasNoGreatest}
use Rattle.plan_constraints.specs.Nodes.{place_of, node_of, assignment_of}
use Rattle.plan_constraints.specs.PartConstraints.{of_prefix}
use Rattle.plan_constraints.proofs.NodeFacts.{assignment_agrees}
use Rattle.plan_constraints.proofs.InPart.{in_part_from_solves, least_in_part, greatest_in_part}
use Rattle.plan_links.specs.declared.range.Range.{Range}
use Rattle.plan_links.specs.Known.{IsKnown}
use Rattle.plan_links.specs.Refs.{IsRange, IsRangeAt, between_of}

same_place : (x : Attr) (n : ℕ) → cond (nat_eq x.stream x.stream && nat_eq x.column x.column) 0 n ≡ 0
same_place x n = grind (arith, nat_tests)

other_place : (x z : Attr) (n : ℕ) → attr_lt x z ≡ true → cond (nat_eq x.stream z.stream && nat_eq x.column z.column) 0 n ≡ n
other_place x z n h = grind (arith, nat_tests)

-- the place of the element at a place
pub place_is : (xs : List Attr) → Ascends attr_lt xs → (i : ℕ) (d : Attr) → i < length xs → place_of xs (slice_index_or xs i d) ≡ i
place_is [] a i d l = absurd (omega arith)
place_is (x ∷ xs) a zero d l = same_place x (suc (place_of xs x))
place_is (x ∷ xs) (more f a) (suc i) d l =
    let z : Attr = slice_index_or xs i d in
    let e : place_of xs (slice_index_or xs i d) ≡ i = place_is xs a i d (omega arith) in
    let g : attr_lt x (slice_index_or xs i d) ≡ true = f _ (Has-from_contains xs _ (Contains-get_or xs i d (omega arith))) in
    other_place x (slice_index_or xs i d) (suc (place_of xs (slice_index_or xs i d))) g ∙ ap suc e

module _ (q : QueryValue) (s : List Sign) (w : IsWithinLimits q) (l : IsPart q s) (a : Attr) (ha : IsElement q (element.Attr a)) where
  not_bounded_below : HasNoLeast (of_prefix q s) (node_of (attrs_of q.atoms) (element.Attr a)) → IsBounded q s a → ⊥
  not_bounded_below h b =
      let p : (x : ℕ → ℤ) × Solves x (of_prefix q s) × (x (node_of (attrs_of q.atoms) (element.Attr a)) <ℤ b.low) = h.passed b.low in
      let m : b.low ≤ℤ p.0 (node_of (attrs_of q.atoms) (element.Attr a)) = subst (λ z. b.low ≤ℤ z) (sym ((assignment_agrees (attrs_of q.atoms) q.domains p.0 p.1.origin).each a (Has-from_contains _ a ha))) (b.above (assignment_of (attrs_of q.atoms) q.domains p.0) (in_part_from_solves q s w l p.0 p.1)) in
      omega (arith, ints, m, p.2)

  not_bounded_above : HasNoGreatest (of_prefix q s) (node_of (attrs_of q.atoms) (element.Attr a)) → IsBounded q s a → ⊥
  not_bounded_above h b =
      let p : (x : ℕ → ℤ) × Solves x (of_prefix q s) × (b.high <ℤ x (node_of (attrs_of q.atoms) (element.Attr a))) = h.passed b.high in
      let m : p.0 (node_of (attrs_of q.atoms) (element.Attr a)) ≤ℤ b.high = subst (λ z. z ≤ℤ b.high) (sym ((assignment_agrees (attrs_of q.atoms) q.domains p.0 p.1.origin).each a (Has-from_contains _ a ha))) (b.below (assignment_of (attrs_of q.atoms) q.domains p.0) (in_part_from_solves q s w l p.0 p.1)) in
      omega (arith, ints, m, p.2)

  range_from : (low high : Option ℤ) → IsLowAnswer (of_prefix q s) (node_of (attrs_of q.atoms) (element.Attr a)) low → IsHighAnswer (of_prefix q s) (node_of (attrs_of q.atoms) (element.Attr a)) high → IsRange q s a (between_of low high)
  range_from None high h g = not_bounded_below h
  range_from (Some low) None h g = not_bounded_above g
  range_from (Some low) (Some high) h g = (least_in_part q s w l a ha low h, greatest_in_part q s w l a ha high g)

pub range_told : (q : QueryValue) (s : List Sign) (b : BoundsValue) (i node : ℕ) (low high : Option ℤ) (r : Option Range) → IsKnown q s b → i < length (attrs_of q.atoms) → node ≡ i + 1 → IsLowAnswer b.constraints node low → IsHighAnswer b.constraints node high → r ≡ between_of low high → IsRangeAt q s i r
range_told q s b i node low high r k l e h g is = λ d.
    let xs : List Attr = attrs_of q.atoms in
    let a : Attr = slice_index_or (attrs_of q.atoms) i d in
    let ha : Contains (attrs_of q.atoms) (slice_index_or (attrs_of q.atoms) i d) = Contains-get_or (attrs_of q.atoms) i d l in
    let p : place_of (attrs_of q.atoms) (slice_index_or (attrs_of q.atoms) i d) ≡ i = place_is (attrs_of q.atoms) (Ascends-attrs_of q.atoms) i d l in
    let n : node ≡ node_of (attrs_of q.atoms) (element.Attr (slice_index_or (attrs_of q.atoms) i d)) = omega (arith, e, p) in
    let h1 : IsLowAnswer (of_prefix q s) node low = subst (λ (cs : List Constraint). IsLowAnswer cs node low) k.constraints h in
    let g1 : IsHighAnswer (of_prefix q s) node high = subst (λ (cs : List Constraint). IsHighAnswer cs node high) k.constraints g in
    let h2 = subst (λ (m : ℕ). IsLowAnswer (of_prefix q s) m low) n h1 in
    let g2 = subst (λ (m : ℕ). IsHighAnswer (of_prefix q s) m high) n g1 in
    subst (IsRange q s (slice_index_or (attrs_of q.atoms) i d)) (sym is) (range_from q s k.within k.part (slice_index_or (attrs_of q.atoms) i d) ha low high h2 g2)
