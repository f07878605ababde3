-- What the table of a good leaf says of the order of elements, and of the bounds of columns.
use Rattle.std.proofs.Common.{◌≡◌, ℕ, suc, ◌<◌, ◌≤◌, ℤ, pos, neg_ℤ, ◌+ℤ◌, ◌-ℤ◌, cond, ◌&&◌, nat_eq, nat_lt, Bool, true, false, IsTrue, Option, Some, None, List, [], ◌∷◌, length, Contains, refl, sym, ◌∙◌, ap, subst, arith}
use Rattle.std.specs.List.{list_any}
use Rattle.std.proofs.lemmas.Bool.Decides.{nat_tests}
use Rattle.sem_query.specs.declared.atom.Attr.{Attr}
use Rattle.sem_query.specs.declared.atom.Domain.{Domain}
use Rattle.sem_query.specs.declared.atom.Element.{Element}
use Rattle.sem_query.specs.declared.atom.Element.TheVariants as element
use Rattle.sem_query.specs.declared.part.Sign.{Sign}
use Rattle.sem_query.specs.Query.{QueryValue, attr_eq, attrs_of}
use Rattle.sem_query.specs.Order.{IsElement, IsLess, IsEqual, IsBounded}
use Rattle.sem_query.proofs.Has.{Has, first, later, Has-from_contains, Contains-from_has}
use Rattle.plan_constraints.specs.Nodes.{place_of, node_of, offset_of}
use Rattle.plan_constraints.specs.PartConstraints.{of_prefix}
use Rattle.plan_constraints.proofs.NodeFacts.{node_in, place_below}
use Rattle.cert_checker.specs.Rules.{IsBound, HasBound}
use Rattle.cert_checker.specs.Bounds.{bound_at, IsAtMost}
use Rattle.cert_checker.specs.OnLeaf.{IsLeafTable, SaysAbove}
use Rattle.cert_checker.proofs.LeavesInOrder.{leaf_is_part}
use Rattle.cert_checker.proofs.LeafInPart.{Enclose, less_by_bound, equal_by_bounds, bounded_by_bounds}
use Rattle.cert_checker.proofs.Unnamed.{bounded_by_domain}

-- ---- columns among columns

-- the two are one where their numbers are
same_column : (x a : Attr) → nat_eq x.stream a.stream && nat_eq x.column a.column ≡ true → x ≡ a
same_column x a h = grind arith

has_if_below : (xs : List Attr) (a : Attr) → place_of xs a < length xs → Has xs a
has_if_below [] a l = absurd (omega arith)
has_if_below (x ∷ xs) a l = go (nat_eq x.stream a.stream && nat_eq x.column a.column) refl l (has_if_below xs a)
  where
    go : (b : Bool) → nat_eq x.stream a.stream && nat_eq x.column a.column ≡ b → cond b 0 (suc (place_of xs a)) < suc (length xs) → (place_of xs a < length xs → Has xs a) → Has (x ∷ xs) a
    go true e l f = subst (Has (x ∷ xs)) (same_column x a e) first
    go false e l f = later (f (omega (arith, l)))

-- a column is among some where its place is one of theirs
among_from : (xs : List Attr) (a : Attr) (n : ℕ) → n ≡ place_of xs a → n < length xs → Contains xs a
among_from xs a n e l = Contains-from_has xs a (has_if_below xs a (subst (λ (z : ℕ). z < length xs) e l))

among_to : (xs : List Attr) (a : Attr) (n : ℕ) → n ≡ place_of xs a → Contains xs a → n < length xs
among_to xs a n e h = subst (λ (z : ℕ). z < length xs) (sym e) (place_below xs a (Has-from_contains xs a h))

below_from_test : (m n : ℕ) → nat_lt m n ≡ true → m < n
below_from_test m n h = grind (arith, nat_tests)

test_from_below : (m n : ℕ) → m < n → nat_lt m n ≡ true
test_from_below m n h = grind (arith, nat_tests)

pub among_told : (xs : List Attr) (a : Attr) (n : ℕ) → n ≡ place_of xs a → (IsTrue (nat_lt n (length xs)) → Contains xs a) × (Contains xs a → IsTrue (nat_lt n (length xs)))
among_told xs a n e = ((λ h. among_from xs a n e (below_from_test n (length xs) h)), (λ h. test_from_below n (length xs) (among_to xs a n e h)))

module _ (q : QueryValue) (s : List Sign) (b : List (Option ℤ)) (t : IsLeafTable q s b) where
  -- ---- the order of elements

  bound_from : (i j : ℕ) → i ≤ length (attrs_of q.atoms) → j ≤ length (attrs_of q.atoms) → (u : ℤ) → IsAtMost (bound_at b i j) u → HasBound (of_prefix q s) t.paths i j u
  bound_from i j li lj u h = go (bound_at b i j) refl h
    where
      go : (o : Option ℤ) → bound_at b i j ≡ o → IsAtMost o u → HasBound (of_prefix q s) t.paths i j u
      go (Some d) e h = record { bound = d; is = t.tells.true i j (omega (arith, li, t.limits.few_attrs)) (omega (arith, lj, t.limits.few_attrs)) d e; small = h }
      go None e h = absurd h

  bound_to : (i j : ℕ) → i ≤ length (attrs_of q.atoms) → j ≤ length (attrs_of q.atoms) → (u : ℤ) → HasBound (of_prefix q s) t.paths i j u → IsAtMost (bound_at b i j) u
  bound_to i j li lj u h = subst (λ (o : Option ℤ). IsAtMost o u) (sym (t.tells.told i j (omega (arith, li, t.limits.few_attrs)) (omega (arith, lj, t.limits.few_attrs)) h.bound h.is)) h.small

  module _ (x y : Element) (hx : IsElement q x) (hy : IsElement q y) where
    above_from : (by : ℤ) → SaysAbove q b x y by → HasBound (of_prefix q s) t.paths (node_of (attrs_of q.atoms) x) (node_of (attrs_of q.atoms) y) (offset_of y -ℤ offset_of x +ℤ by)
    above_from by h = bound_from (node_of (attrs_of q.atoms) x) (node_of (attrs_of q.atoms) y) (node_in q x hx) (node_in q y hy) (offset_of y -ℤ offset_of x +ℤ by) h

    above_to : (by : ℤ) → HasBound (of_prefix q s) t.paths (node_of (attrs_of q.atoms) x) (node_of (attrs_of q.atoms) y) (offset_of y -ℤ offset_of x +ℤ by) → SaysAbove q b x y by
    above_to by h = bound_to (node_of (attrs_of q.atoms) x) (node_of (attrs_of q.atoms) y) (node_in q x hx) (node_in q y hy) (offset_of y -ℤ offset_of x +ℤ by) h

  pub less_from : (x y : Element) → IsElement q x → IsElement q y → SaysAbove q b x y (neg_ℤ (pos 1)) → IsLess q s x y
  less_from x y hx hy h = (less_by_bound q t.limits s t.paths t.good x y hx hy).1 (above_from x y hx hy (neg_ℤ (pos 1)) h)

  pub less_to : (x y : Element) → IsElement q x → IsElement q y → IsLess q s x y → SaysAbove q b x y (neg_ℤ (pos 1))
  less_to x y hx hy h = above_to x y hx hy (neg_ℤ (pos 1)) ((less_by_bound q t.limits s t.paths t.good x y hx hy).0 h)

  pub equal_from : (x y : Element) → IsElement q x → IsElement q y → SaysAbove q b x y (pos 0) → SaysAbove q b y x (pos 0) → IsEqual q s x y
  equal_from x y hx hy h k = (equal_by_bounds q t.limits s t.paths t.good x y hx hy).1 (above_from x y hx hy (pos 0) h, above_from y x hy hx (pos 0) k)

  pub equal_to : (x y : Element) → IsElement q x → IsElement q y → IsEqual q s x y → SaysAbove q b x y (pos 0)
  equal_to x y hx hy h = above_to x y hx hy (pos 0) ((equal_by_bounds q t.limits s t.paths t.good x y hx hy).0 h).0

  pub equal_back : (x y : Element) → IsElement q x → IsElement q y → IsEqual q s x y → SaysAbove q b y x (pos 0)
  equal_back x y hx hy h = above_to y x hy hx (pos 0) ((equal_by_bounds q t.limits s t.paths t.good x y hx hy).0 h).1

  -- ---- bounded columns

  there_from : (i j : ℕ) → i ≤ length (attrs_of q.atoms) → j ≤ length (attrs_of q.atoms) → ¬ (bound_at b i j ≡ None) → (u : ℤ) × IsBound (of_prefix q s) t.paths i j u
  there_from i j li lj n = go (bound_at b i j) refl n
    where
      go : (o : Option ℤ) → bound_at b i j ≡ o → ¬ (o ≡ None) → (u : ℤ) × IsBound (of_prefix q s) t.paths i j u
      go (Some d) e n = (d, t.tells.true i j (omega (arith, li, t.limits.few_attrs)) (omega (arith, lj, t.limits.few_attrs)) d e)
      go None e n = absurd (n refl)

  there_to : (i j : ℕ) (u : ℤ) → i ≤ length (attrs_of q.atoms) → j ≤ length (attrs_of q.atoms) → IsBound (of_prefix q s) t.paths i j u → ¬ (bound_at b i j ≡ None)
  there_to i j u li lj h e = let f = t.tells.told i j (omega (arith, li, t.limits.few_attrs)) (omega (arith, lj, t.limits.few_attrs)) u h in cc

  module _ (a : Attr) (h : Contains (attrs_of q.atoms) a) (n : ℕ) (e : n ≡ node_of (attrs_of q.atoms) (element.Attr a)) where
    low_enough : n ≤ length (attrs_of q.atoms)
    low_enough = subst (λ (z : ℕ). z ≤ length (attrs_of q.atoms)) (sym e) (node_in q (element.Attr a) h)

    pub bounded_from : ¬ (bound_at b n 0 ≡ None) → ¬ (bound_at b 0 n ≡ None) → IsBounded q s a
    bounded_from k l =
        let above : (u : ℤ) × IsBound (of_prefix q s) t.paths n 0 u = there_from n 0 low_enough (omega arith) k in
        let below : (u : ℤ) × IsBound (of_prefix q s) t.paths 0 n u = there_from 0 n (omega arith) low_enough l in
        (bounded_by_bounds q t.limits s t.paths t.good a h).1 record {
          high = above.0;
          above = subst (λ (z : ℕ). IsBound (of_prefix q s) t.paths z 0 above.0) e above.1;
          low = below.0;
          below = subst (λ (z : ℕ). IsBound (of_prefix q s) t.paths 0 z below.0) e below.1;
        }

    enclosed : IsBounded q s a → Enclose q s t.paths a
    enclosed w = (bounded_by_bounds q t.limits s t.paths t.good a h).0 w

    pub above_if_bounded : IsBounded q s a → ¬ (bound_at b n 0 ≡ None)
    above_if_bounded w = there_to n 0 (enclosed w).high low_enough (omega arith) (subst (λ (z : ℕ). IsBound (of_prefix q s) t.paths z 0 (enclosed w).high) (sym e) (enclosed w).above)

    pub below_if_bounded : IsBounded q s a → ¬ (bound_at b 0 n ≡ None)
    below_if_bounded w = there_to 0 n (enclosed w).low (omega arith) low_enough (subst (λ (z : ℕ). IsBound (of_prefix q s) t.paths 0 z (enclosed w).low) (sym e) (enclosed w).below)

  -- a column that no comparison names is bounded exactly where it has a domain
  pub unnamed_told : (ds : List Domain) → ds ≡ q.domains → (a : Attr) → ¬ Contains (attrs_of q.atoms) a → (r : Bool) → r ≡ list_any (λ d. attr_eq d.attr a) ds → (IsTrue r → IsBounded q s a) × (IsBounded q s a → IsTrue r)
  unnamed_told ds e a n r h = bounded_by_domain q s (leaf_is_part q t.limits s t.paths t.good) a n r (h ∙ ap (λ z. list_any (λ d. attr_eq d.attr a) z) e)
