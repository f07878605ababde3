-- What the paths of a good leaf say of its part: the order of elements, and the least and the greatest value of a column.
use Rattle.std.proofs.Common.{◌≡◌, ℕ, ◌≤◌, ℤ, pos, neg_ℤ, ◌+ℤ◌, ◌-ℤ◌, ◌≤ℤ◌, ◌<ℤ◌, ◌↔◌, sym, subst, arith, Option, Some, None, List, length}
use Rattle.std.proofs.lemmas.Int.{ints}
use Rattle.sem_query.specs.declared.atom.Attr.{Attr}
use Rattle.sem_query.specs.declared.atom.Element.{Element}
use Rattle.sem_query.specs.declared.atom.Element.TheVariants as element
use Rattle.sem_query.specs.declared.part.Sign.{Sign}
use Rattle.sem_query.specs.Query.{QueryValue, attrs_of, IsWithinLimits}
use Rattle.sem_query.specs.Assignment.{Assignment}
use Rattle.sem_query.specs.Parts.{IsPart}
use Rattle.sem_query.specs.Order.{IsElement, IsLess, IsEqual, IsBounded, IsLeast, IsGreatest}
use Rattle.plan_constraints.specs.Nodes.{IsAlwaysLess, IsAlwaysEqual, node_of, offset_of, element_at, assignment_of, nodes_of}
use Rattle.plan_constraints.specs.PartConstraints.{of_prefix}
use Rattle.plan_constraints.specs.Solutions.{Solves, IsUpper}
use Rattle.sem_query.proofs.Has.{Has-from_contains}
use Rattle.plan_constraints.proofs.NodeFacts.{node_in, assignment_agrees, nodes_agree}
use Rattle.plan_constraints.proofs.InPart.{solves_in_part, in_part_from_solves, less_in_part, less_from_part, equal_in_part, equal_from_part}
use Rattle.cert_format.specs.declared.line.Path.{Path}
use Rattle.cert_checker.specs.Branching.{plain_branching}
use Rattle.cert_checker.specs.Rules.{IsBound, HasBound, IsGoodLeaf}
use Rattle.cert_checker.proofs.LeafTable.{table_of}
use Rattle.cert_checker.proofs.TightLeaf.{IsTight, IsBoundAnswer, bound_sound, table_answers, leaf_is_tight}
use Rattle.cert_checker.proofs.LeavesInOrder.{leaf_is_part}

-- the node of an element of the query
abbrev pub node_at : QueryValue → Element → ℕ
node_at q x = node_of (attrs_of q.atoms) x

-- a bound of the paths says that x is at most so much above y
abbrev pub SayAbove : QueryValue → List Sign → List Path → Element → Element → ℤ → Type 0
SayAbove q signs paths x y by = HasBound (of_prefix q signs) paths (node_at q x) (node_at q y) (offset_of y -ℤ offset_of x +ℤ by)

-- the paths have a bound of the column above node 0, and one of node 0 above the column
pub record Enclose (q : QueryValue) (signs : List Sign) (paths : List Path) (a : Attr) : Type 0 where
  pub high : ℤ
  pub above : IsBound (of_prefix q signs) paths (node_at q (element.Attr a)) 0 high
  pub low : ℤ
  pub below : IsBound (of_prefix q signs) paths 0 (node_at q (element.Attr a)) low

module _ (q : QueryValue) (w : IsWithinLimits q) (signs : List Sign) (paths : List Path) (g : IsGoodLeaf (plain_branching q) signs paths) where
  part : IsPart q signs
  part = leaf_is_part q w signs paths g

  tight : IsTight (length (attrs_of q.atoms)) (of_prefix q signs) paths
  tight = leaf_is_tight q signs paths g

  -- where all solutions keep within u, some bound is at most u
  bound_below : (i j : ℕ) → i ≤ length (attrs_of q.atoms) → j ≤ length (attrs_of q.atoms) → (u : ℤ) → ((x : ℕ → ℤ) → Solves x (of_prefix q signs) → x i ≤ℤ (u +ℤ x j)) → HasBound (of_prefix q signs) paths i j u
  bound_below i j li lj u h = go (table_of (of_prefix q signs) paths i j) (table_answers (length (attrs_of q.atoms)) (of_prefix q signs) paths g.are_paths i j)
    where
      go : (o : Option ℤ) → IsBoundAnswer (of_prefix q signs) paths i j o → HasBound (of_prefix q signs) paths i j u
      go (Some d) b =
          let t : IsUpper (of_prefix q signs) i j d = tight.reached i j li lj d b in
          let r : t.at i ≡ d +ℤ t.at j = t.reached in
          let l : t.at i ≤ℤ (u +ℤ t.at j) = h t.at t.solves in
          record { bound = d; is = b; small = omega (arith, ints, r, l) }
      go None n =
          let t : (x : ℕ → ℤ) × Solves x (of_prefix q signs) × ((u +ℤ x j) <ℤ x i) = (tight.passed i j li lj n).passed u in
          let l : t.0 i ≤ℤ (u +ℤ t.0 j) = h t.0 t.1 in
          let m : (u +ℤ t.0 j) <ℤ t.0 i = t.2 in
          absurd (omega (arith, ints, l, m))

  say_above : (x y : Element) → IsElement q x → IsElement q y → (by : ℤ) → ((z : ℕ → ℤ) → Solves z (of_prefix q signs) → element_at (attrs_of q.atoms) z x ≤ℤ (by +ℤ element_at (attrs_of q.atoms) z y)) → SayAbove q signs paths x y by
  say_above x y hx hy by h = bound_below (node_at q x) (node_at q y) (node_in q x hx) (node_in q y hy) (offset_of y -ℤ offset_of x +ℤ by) (λ z v. let a = h z v in omega (arith, ints, a))

  from_above : (x y : Element) (by : ℤ) → SayAbove q signs paths x y by → (z : ℕ → ℤ) → Solves z (of_prefix q signs) → element_at (attrs_of q.atoms) z x ≤ℤ (by +ℤ element_at (attrs_of q.atoms) z y)
  from_above x y by h z v =
      let a : z (node_at q x) ≤ℤ (h.bound +ℤ z (node_at q y)) = bound_sound (of_prefix q signs) paths (node_at q x) (node_at q y) h.bound h.is z v in
      let b : h.bound ≤ℤ (offset_of y -ℤ offset_of x +ℤ by) = h.small in
      omega (arith, ints, a, b)

  -- one element is less than another in the part exactly where a bound says that it is at least 1 below
  pub less_by_bound : (x y : Element) → IsElement q x → IsElement q y → IsLess q signs x y ↔ SayAbove q signs paths x y (neg_ℤ (pos 1))
  less_by_bound x y hx hy = (
    (λ h. let k : IsAlwaysLess q (of_prefix q signs) x y = less_from_part q signs w part x y hx hy h in
        say_above x y hx hy (neg_ℤ (pos 1)) (λ z v. let a = k.less z v in omega (arith, ints, a))),
    (λ h. less_in_part q signs w part x y hx hy record { less = λ z v. let a = from_above x y (neg_ℤ (pos 1)) h z v in omega (arith, ints, a) }),
  )

  -- two elements are equal in the part exactly where bounds say that neither is above the other
  pub equal_by_bounds : (x y : Element) → IsElement q x → IsElement q y → IsEqual q signs x y ↔ (SayAbove q signs paths x y (pos 0) × SayAbove q signs paths y x (pos 0))
  equal_by_bounds x y hx hy = (
    (λ h. let k : IsAlwaysEqual q (of_prefix q signs) x y = equal_from_part q signs w part x y hx hy h in (
      say_above x y hx hy (pos 0) (λ z v. let a = k.equal z v in omega (arith, ints, a)),
      say_above y x hy hx (pos 0) (λ z v. let a = k.equal z v in omega (arith, ints, a)),
    )),
    (λ h. equal_in_part q signs w part x y hx hy record {
      equal = λ z v.
          let a = from_above x y (pos 0) h.0 z v in
          let b = from_above y x (pos 0) h.1 z v in
          omega (arith, ints, a, b);
    }),
  )

  module _ (a : Attr) (ha : IsElement q (element.Attr a)) where
    at_column : (v : Assignment) → nodes_of (attrs_of q.atoms) v (node_at q (element.Attr a)) ≡ v a
    at_column v = (nodes_agree (attrs_of q.atoms) v).each a (Has-from_contains (attrs_of q.atoms) a ha)

    given_at : (x : ℕ → ℤ) → Solves x (of_prefix q signs) → x (node_at q (element.Attr a)) ≡ assignment_of (attrs_of q.atoms) q.domains x a
    given_at x v = (assignment_agrees (attrs_of q.atoms) q.domains x v.origin).each a (Has-from_contains (attrs_of q.atoms) a ha)

    column_in : node_at q (element.Attr a) ≤ length (attrs_of q.atoms)
    column_in = node_in q (element.Attr a) ha

    -- a bound of the column above node 0 is the greatest value of the column
    pub greatest_by_bound : (u : ℤ) → IsBound (of_prefix q signs) paths (node_at q (element.Attr a)) 0 u → IsGreatest q signs a u
    greatest_by_bound u b =
        let t : IsUpper (of_prefix q signs) (node_at q (element.Attr a)) 0 u = tight.reached (node_at q (element.Attr a)) 0 column_in (omega arith) u b in
        let o : t.at 0 ≡ pos 0 = t.solves.origin in
        let r : t.at (node_at q (element.Attr a)) ≡ u +ℤ t.at 0 = t.reached in
        record {
          at = assignment_of (attrs_of q.atoms) q.domains t.at;
          inside = in_part_from_solves q signs w part t.at t.solves;
          reached = (let f = given_at t.at t.solves in omega (arith, ints, f, o, r));
          below = λ v p.
              let e : nodes_of (attrs_of q.atoms) v (node_at q (element.Attr a)) ≡ v a = at_column v in
              let l : nodes_of (attrs_of q.atoms) v (node_at q (element.Attr a)) ≤ℤ (u +ℤ pos 0) = t.bound (nodes_of (attrs_of q.atoms) v) (solves_in_part q signs v p) in
              omega (arith, ints, e, l);
        }

    -- a bound of node 0 above the column is the least value of the column, with its sign turned
    pub least_by_bound : (u : ℤ) → IsBound (of_prefix q signs) paths 0 (node_at q (element.Attr a)) u → IsLeast q signs a (neg_ℤ u)
    least_by_bound u b =
        let t : IsUpper (of_prefix q signs) 0 (node_at q (element.Attr a)) u = tight.reached 0 (node_at q (element.Attr a)) (omega arith) column_in u b in
        let o : t.at 0 ≡ pos 0 = t.solves.origin in
        let r : t.at 0 ≡ u +ℤ t.at (node_at q (element.Attr a)) = t.reached in
        record {
          at = assignment_of (attrs_of q.atoms) q.domains t.at;
          inside = in_part_from_solves q signs w part t.at t.solves;
          reached = (let f = given_at t.at t.solves in omega (arith, ints, f, o, r));
          above = λ v p.
              let e : nodes_of (attrs_of q.atoms) v (node_at q (element.Attr a)) ≡ v a = at_column v in
              let l : pos 0 ≤ℤ (u +ℤ nodes_of (attrs_of q.atoms) v (node_at q (element.Attr a))) = t.bound (nodes_of (attrs_of q.atoms) v) (solves_in_part q signs v p) in
              omega (arith, ints, e, l);
        }

    -- a column is bounded in the part exactly where the paths have a bound of it above node 0, and one of node 0 above it
    pub bounded_by_bounds : IsBounded q signs a ↔ Enclose q signs paths a
    bounded_by_bounds = (to, from)
      where
        to : IsBounded q signs a → Enclose q signs paths a
        to h =
            let above : HasBound (of_prefix q signs) paths (node_at q (element.Attr a)) 0 h.high = bound_below (node_at q (element.Attr a)) 0 column_in (omega arith) h.high
            (λ x v. let l : x (node_at q (element.Attr a)) ≤ℤ h.high = subst (λ z. z ≤ℤ h.high) (sym (given_at x v)) (h.below (assignment_of (attrs_of q.atoms) q.domains x) (in_part_from_solves q signs w part x v)) in
            let o : x 0 ≡ pos 0 = v.origin in
            omega (arith, ints, l, o)) in
            let below : HasBound (of_prefix q signs) paths 0 (node_at q (element.Attr a)) (neg_ℤ h.low) = bound_below 0 (node_at q (element.Attr a)) (omega arith) column_in (neg_ℤ h.low)
            (λ x v. let l : h.low ≤ℤ x (node_at q (element.Attr a)) = subst (λ z. h.low ≤ℤ z) (sym (given_at x v)) (h.above (assignment_of (attrs_of q.atoms) q.domains x) (in_part_from_solves q signs w part x v)) in
            let o : x 0 ≡ pos 0 = v.origin in
            omega (arith, ints, l, o)) in
            record { high = above.bound; above = above.is; low = below.bound; below = below.is }

        from : Enclose q signs paths a → IsBounded q signs a
        from h =
            let most : IsGreatest q signs a h.high = greatest_by_bound h.high h.above in
            let least : IsLeast q signs a (neg_ℤ h.low) = least_by_bound h.low h.below in
            record { low = neg_ℤ h.low; high = h.high; above = least.above; below = most.below }
