-- What the tests of a plan show of a part.
use Rattle.std.proofs.Common.{◌≡◌, ◌≢◌, ℕ, zero, suc, ◌<◌, ◌⊎◌, inl, inr, List, map, length, cond, Bool, true, false, ◌&&◌, ◌||◌, not, refl, sym, subst, arith, nat_eq, ℤ, pos, int_lt, ◌+ℤ◌, ◌-ℤ◌, ◌<ℤ◌, ◌≤ℤ◌, Some, None, Contains, IsTrue}
use Rattle.std.proofs.lemmas.Int.{ints}
use Rattle.std.specs.Ordering.{int_eq}
use Rattle.std.specs.List.{list_all, list_any}
use Rattle.sem_query.proofs.Has.{Has, Has-from_contains, Contains-from_has, Has-map, Has-append_left, Has-append_right, Has-append_cases, Has-map_from}
use Rattle.sem_query.proofs.Bounded.{unbounded_over_all, unbounded_under_all}
use Rattle.sem_query.proofs.Local.{streams_differ}
use Rattle.sem_query.specs.declared.atom.Attr.{Attr}
use Rattle.sem_query.specs.declared.atom.Element.{Element}
use Rattle.sem_query.specs.declared.atom.Element.TheVariants as element
use Rattle.sem_query.specs.declared.part.Sign.{Sign}
use Rattle.sem_query.specs.declared.plan.Dim.{Dim}
use Rattle.sem_query.specs.declared.plan.Kind.{Kind}
use Rattle.sem_query.specs.declared.plan.Link.{Link}
use Rattle.sem_query.specs.declared.plan.StreamPlan.{StreamPlan}
use Rattle.sem_query.specs.declared.plan.PartPlan.{PartPlan}
use Rattle.sem_query.specs.Query.{QueryValue, attrs_of, consts_of, attr_lt, attr_eq}
use Rattle.sem_query.specs.Assignment.{Assignment, value}
use Rattle.sem_query.specs.Parts.{same_stream, InPart}
use Rattle.sem_query.specs.Laws.{ends_of}
use Rattle.sem_query.specs.Order.{IsElement, IsLess, IsEqual, IsBounded, IsLeast, IsGreatest}
use Rattle.sem_query.specs.Links.{AreAcross, IsEquality, IsInequality, IsRedundant, between, equal_left, equal_right, IsMinRef, IsMaxRef}
use Rattle.sem_query.specs.Plan.{IsWanted, selected, left_equal, right_equal, left_less, right_less, AreOneClass, NamesClass, IsDim, IsKind, IsStreamPlan, IsPartPlan, link, link_lt, stream_at}
use Rattle.sem_laws.proofs.Tests.{and-left, and-right, or-cases, all_at, any_from, any_if, attr_eq-is, attr_eq-itself, nat_true, true_or_false, not_both}
use Rattle.sem_laws.proofs.Tables.{Bound, Under, bound, bound-holds, at_most, at_most-is}
use Rattle.sem_laws.proofs.PartsListed.{elements_of, part_table, part_table-holds}
use Rattle.sem_laws.proofs.PlanTests.{is_none, none-if, ascends_test, pairs-ascend, all-true, among, among-has, among-if, has_link, has_link-is, has_link-if, each_pair, pair-at, not-true, less_by, equal_by, not_less, not_equal, redundant_by, needed_by, equal_link, less_link, are_named, links_test, has_some, bounded_by, unbounded_by, names_class, in_class, wanted_by, low_by, high_by, dim_test, covered_by, side_bounded, kind_test, stream_test, streams_test, part_test}

pub int_lt-is : (x y : ℤ) → int_lt x y ≡ true → x <ℤ y
int_lt-is x y h = grind (arith, ints, h)

int_eq-is : (x y : ℤ) → int_eq x y ≡ true → x ≡ y
int_eq-is x y h = grind (arith, ints, h)

not-int_lt : (x y : ℤ) → not (int_lt x y) ≡ true → x <ℤ y → ⊥
not-int_lt x y h l = grind (arith, ints, h, l)

not-int_eq : (x y : ℤ) → not (int_eq x y) ≡ true → x ≡ y → ⊥
not-int_eq x y h e = grind (arith, ints, h, e)

pub three-or : (a b c : Bool) → (a || b || c) ≡ true → (a ≡ true) ⊎ ((b ≡ true) ⊎ (c ≡ true))
three-or true b c h = inl refl
three-or false true c h = inr (inl refl)
three-or false false c h = inr (inr h)

pub four-or : (a b c d : Bool) → (a || b || c || d) ≡ true → (a ≡ true) ⊎ ((b ≡ true) ⊎ ((c ≡ true) ⊎ (d ≡ true)))
four-or true b c d h = inl refl
four-or false true c d h = inr (inl refl)
four-or false false true d h = inr (inr (inl refl))
four-or false false false d h = inr (inr (inr h))

pub three-and : (a b c : Bool) → (a && b && c) ≡ true → (a ≡ true) × (b ≡ true) × (c ≡ true)
three-and true true true h = (refl, refl, refl)
three-and true true false h = absurd cc
three-and true false c h = absurd cc
three-and false b c h = absurd cc

element_in : (q : QueryValue) (e : Element) → IsElement q e → Has (elements_of q) e
element_in q (element.Attr a) h = Has-append_left (map element.Const (consts_of q.atoms)) (Has-map element.Attr (Has-from_contains _ a h))
element_in q (element.Const k) h = Has-append_right (map element.Attr (attrs_of q.atoms)) (Has-map element.Const (Has-from_contains _ k h))

element_of : (q : QueryValue) (e : Element) → Has (elements_of q) e → IsElement q e
element_of q e h = elim (Has-append_cases (map element.Attr (attrs_of q.atoms)) (map element.Const (consts_of q.atoms)) e h) [
  | inl i ↦ (let r = Has-map_from element.Attr (attrs_of q.atoms) e i in subst (IsElement q) r.2 (Contains-from_has _ r.0 r.1))
  | inr i ↦ (let r = Has-map_from element.Const (consts_of q.atoms) e i in subst (IsElement q) r.2 (Contains-from_has _ r.0 r.1))
]

module _ (q : QueryValue) (s : List Sign) (ws : List Assignment) (inside : (w : Assignment) → Has ws w → InPart q s w) where
  abbrev table : List (List Bound)
  table = part_table q s

  within : (v : Assignment) → InPart q s v → (x y : Element) → Under (value x v) (value y v) (bound (elements_of q) table x y)
  within v i x y = bound-holds v (elements_of q) table (part_table-holds q s v i) x y

  pub less-if : (x y : Element) → less_by q table ws x y ≡ true → IsLess q s x y
  less-if x y h = record {
    less = λ v i. (let l : value x v ≤ℤ (value y v +ℤ (pos 0 -ℤ pos 1)) = at_most-is (value x v) (value y v) (bound (elements_of q) table x y) (pos 0 -ℤ pos 1) h (within v i x y) in omega (arith, ints, l));
  }

  pub equal-if : (x y : Element) → equal_by q table ws x y ≡ true → IsEqual q s x y
  equal-if x y h = record {
    equal = λ v i. (
        let l : value x v ≤ℤ (value y v +ℤ pos 0) = at_most-is (value x v) (value y v) (bound (elements_of q) table x y) (pos 0) (and-left _ _ h) (within v i x y) in
        let m : value y v ≤ℤ (value x v +ℤ pos 0) = at_most-is (value y v) (value x v) (bound (elements_of q) table y x) (pos 0) (and-right (at_most (bound (elements_of q) table x y) (pos 0)) _ h) (within v i y x) in
        omega (arith, ints, l, m)
        );
  }

  pub no-less : (x y : Element) → not_less q table ws x y ≡ true → IsLess q s x y → ⊥
  no-less x y h l =
      let r = any_from (λ w. not (int_lt (value x w) (value y w))) ws h in
      not-int_lt (value x r.0) (value y r.0) r.2 (l.less r.0 (inside r.0 r.1))

  pub no-equal : (x y : Element) → not_equal q table ws x y ≡ true → IsEqual q s x y → ⊥
  no-equal x y h e =
      let r = any_from (λ w. not (int_eq (value x w) (value y w))) ws h in
      not-int_eq (value x r.0) (value y r.0) r.2 (e.equal r.0 (inside r.0 r.1))

  redundant-if : (x y : Attr) → redundant_by q table ws x y ≡ true → IsRedundant q s x y
  redundant-if x y h = elim (three-or _ _ _ h) [
    | inl i ↦ (
        let r = any_from (λ e. less_by q table ws (element.Attr x) e && less_by q table ws e (element.Attr y)) (elements_of q) i in
        let t = r.2 in
        between r.0 (element_of q r.0 r.1) (less-if (element.Attr x) r.0 (and-left _ _ t)) (less-if r.0 (element.Attr y) (and-right (less_by q table ws (element.Attr x) r.0) _ t)))
    | inr j ↦ elim j [
      | inl i ↦ (
          let r = any_from (λ k. equal_by q table ws (element.Attr x) (element.Const k) && less_by q table ws (element.Const k) (element.Attr y)) (consts_of q.atoms) i in
          let t = r.2 in
          equal_left r.0 (Contains-from_has _ r.0 r.1) (equal-if (element.Attr x) (element.Const r.0) (and-left _ _ t)) (less-if (element.Const r.0) (element.Attr y) (and-right (equal_by q table ws (element.Attr x) (element.Const r.0)) _ t)))
      | inr i ↦ (
          let r = any_from (λ k. less_by q table ws (element.Attr x) (element.Const k) && equal_by q table ws (element.Const k) (element.Attr y)) (consts_of q.atoms) i in
          let t = r.2 in
          equal_right r.0 (Contains-from_has _ r.0 r.1) (less-if (element.Attr x) (element.Const r.0) (and-left _ _ t)) (equal-if (element.Const r.0) (element.Attr y) (and-right (less_by q table ws (element.Attr x) (element.Const r.0)) _ t)))
    ]
  ]

  needed-if : (x y : Attr) → needed_by q table ws x y ≡ true → ¬ IsRedundant q s x y
  needed-if x y h (between e i l m) =
      elim (or-cases _ _ (all_at (λ e. not_less q table ws (element.Attr x) e || not_less q table ws e (element.Attr y)) (elements_of q) e (and-left _ _ h) (element_in q e i))) [
        | inl n ↦ no-less (element.Attr x) e n l
        | inr n ↦ no-less e (element.Attr y) n m
      ]
  needed-if x y h (equal_left k i e m) =
      elim (or-cases _ _ (all_at (λ k. not_equal q table ws (element.Attr x) (element.Const k) || not_less q table ws (element.Const k) (element.Attr y)) (consts_of q.atoms) k (and-left _ _ (and-right (list_all (λ e. not_less q table ws (element.Attr x) e || not_less q table ws e (element.Attr y)) (elements_of q)) _ h)) (Has-from_contains _ k i))) [
        | inl n ↦ no-equal (element.Attr x) (element.Const k) n e
        | inr n ↦ no-less (element.Const k) (element.Attr y) n m
      ]
  needed-if x y h (equal_right k i l e) =
      elim (or-cases _ _ (all_at (λ k. not_less q table ws (element.Attr x) (element.Const k) || not_equal q table ws (element.Const k) (element.Attr y)) (consts_of q.atoms) k (and-right (list_all (λ k. not_equal q table ws (element.Attr x) (element.Const k) || not_less q table ws (element.Const k) (element.Attr y)) (consts_of q.atoms)) _ (and-right (list_all (λ e. not_less q table ws (element.Attr x) e || not_less q table ws e (element.Attr y)) (elements_of q)) _ h)) (Has-from_contains _ k i))) [
        | inl n ↦ no-less (element.Attr x) (element.Const k) n l
        | inr n ↦ no-equal (element.Const k) (element.Attr y) n e
      ]

  -- links

  abbrev attrs : List Attr
  attrs = attrs_of q.atoms

  named-sides : (links : List Link) (x y : Attr) → are_named q table ws links ≡ true → Has links (link x y) → Has attrs x × Has attrs y
  named-sides links x y h i =
      let both : (among x attrs && among y attrs) ≡ true = all_at (λ (l : Link). among l.left attrs && among l.right attrs) links (link x y) h i in
      (among-has x attrs (and-left _ _ both), among-has y attrs (and-right (among x attrs) _ both))

  across-if : (x y : Attr) → Has attrs x → Has attrs y → not (same_stream x y) ≡ true → AreAcross q x y
  across-if x y h i n = record {
    left = Contains-from_has attrs x h;
    right = Contains-from_has attrs y i;
    across = streams_differ x y (not-true (same_stream x y) n);
  }

  module _ (part : PartPlan) (tested : links_test q table ws part ≡ true) where
    equal-named : are_named q table ws part.equal.items ≡ true
    equal-named = and-left _ _ tested

    equal-tested : each_pair attrs (equal_link q table ws part.equal.items) ≡ true
    equal-tested = and-left _ _ (and-right (are_named q table ws part.equal.items) _ tested)

    less-named : are_named q table ws part.less.items ≡ true
    less-named = and-left _ _ (and-right (each_pair attrs (equal_link q table ws part.equal.items)) _ (and-right (are_named q table ws part.equal.items) _ tested))

    less-tested : each_pair attrs (less_link q table ws part.less.items) ≡ true
    less-tested = and-right (are_named q table ws part.less.items) _ (and-right (each_pair attrs (equal_link q table ws part.equal.items)) _ (and-right (are_named q table ws part.equal.items) _ tested))

    listed : (b c d : Bool) → b ≡ true → cond b c d ≡ true → c ≡ true
    listed true c d e h = h
    listed false c d e h = absurd cc

    unlisted : (b c d : Bool) → b ≡ false → cond b c d ≡ true → d ≡ true
    unlisted true c d e h = absurd cc
    unlisted false c d e h = h

    equal-sound : (x y : Attr) → Has part.equal.items (link x y) → IsTrue (attr_lt x y) × IsEquality q s x y
    equal-sound x y h =
        let n = named-sides part.equal.items x y equal-named h in
        let t = three-and _ _ _ (listed (has_link part.equal.items x y) _ _ (has_link-if part.equal.items x y h) (pair-at attrs (equal_link q table ws part.equal.items) x y equal-tested n.0 n.1)) in
        (t.0, record { across = across-if x y n.0 n.1 t.1; equal = equal-if (element.Attr x) (element.Attr y) t.2 })

    pub equal-complete : (x y : Attr) → attr_lt x y ≡ true → IsEquality q s x y → Has part.equal.items (link x y)
    equal-complete x y l e = elim (true_or_false (has_link part.equal.items x y)) [
      | inl h ↦ has_link-is part.equal.items x y h
      | inr h ↦ elim (three-or _ _ _ (unlisted (has_link part.equal.items x y) _ _ h (pair-at attrs (equal_link q table ws part.equal.items) x y equal-tested (Has-from_contains attrs x e.across.left) (Has-from_contains attrs y e.across.right)))) [
        | inl n ↦ absurd (not_both (attr_lt x y) l (not-true (attr_lt x y) n))
        | inr o ↦ elim o [
          | inl n ↦ absurd (e.across.across (nat_true x.stream y.stream n))
          | inr n ↦ absurd (no-equal (element.Attr x) (element.Attr y) n e.equal)
        ]
      ]
    ]

    less-sound : (x y : Attr) → Has part.less.items (link x y) → IsInequality q s x y
    less-sound x y h =
        let n = named-sides part.less.items x y less-named h in
        let t = three-and _ _ _ (listed (has_link part.less.items x y) _ _ (has_link-if part.less.items x y h) (pair-at attrs (less_link q table ws part.less.items) x y less-tested n.0 n.1)) in
        record { across = across-if x y n.0 n.1 t.0; less = less-if (element.Attr x) (element.Attr y) t.1; needed = needed-if x y t.2 }

    pub less-complete : (x y : Attr) → IsInequality q s x y → Has part.less.items (link x y)
    less-complete x y e = elim (true_or_false (has_link part.less.items x y)) [
      | inl h ↦ has_link-is part.less.items x y h
      | inr h ↦ elim (three-or _ _ _ (unlisted (has_link part.less.items x y) _ _ h (pair-at attrs (less_link q table ws part.less.items) x y less-tested (Has-from_contains attrs x e.across.left) (Has-from_contains attrs y e.across.right)))) [
        | inl n ↦ absurd (e.across.across (nat_true x.stream y.stream n))
        | inr o ↦ elim o [
          | inl n ↦ absurd (no-less (element.Attr x) (element.Attr y) n e.less)
          | inr n ↦ absurd (e.needed (redundant-if x y n))
        ]
      ]
    ]

    pub in-order : (x y : Attr) → x.stream ≢ y.stream → (attr_lt x y ≡ true) ⊎ (attr_lt y x ≡ true)
    in-order x y n = elim (true_or_false (attr_lt x y)) [ inl l ↦ inl l | inr l ↦ inr (grind (arith, l, n)) ]

    pub turned : (x y : Attr) → IsEquality q s x y → IsEquality q s y x
    turned x y e = record {
      across = record { left = e.across.right; right = e.across.left; across = λ f. e.across.across (sym f) };
      equal = record { equal = λ v i. sym (e.equal.equal v i) };
    }

    -- what answers read
    wanted-if : (a : Attr) → wanted_by q table ws part a ≡ true → IsWanted q s a
    wanted-if a h = elim (or-cases _ _ h) [
      | inl i ↦ selected (Contains-from_has q.select a (among-has a q.select i))
      | inr r ↦ elim (or-cases _ _ r) [
        | inl i ↦ (
            let l = any_from (λ (l : Link). attr_eq l.left a) part.equal.items i in
            left_equal l.0.right (subst (λ b. IsEquality q s b l.0.right) (attr_eq-is l.0.left a l.2) (equal-sound l.0.left l.0.right l.1).1))
        | inr r ↦ elim (or-cases _ _ r) [
          | inl i ↦ (
              let l = any_from (λ (l : Link). attr_eq l.right a) part.equal.items i in
              right_equal l.0.left (subst (λ b. IsEquality q s l.0.left b) (attr_eq-is l.0.right a l.2) (equal-sound l.0.left l.0.right l.1).1))
          | inr r ↦ elim (or-cases _ _ r) [
            | inl i ↦ (
                let l = any_from (λ (l : Link). attr_eq l.left a) part.less.items i in
                left_less l.0.right (subst (λ b. IsInequality q s b l.0.right) (attr_eq-is l.0.left a l.2) (less-sound l.0.left l.0.right l.1)))
            | inr i ↦ (
                let l = any_from (λ (l : Link). attr_eq l.right a) part.less.items i in
                right_less l.0.left (subst (λ b. IsInequality q s l.0.left b) (attr_eq-is l.0.right a l.2) (less-sound l.0.left l.0.right l.1)))
          ]
        ]
      ]
    ]

    abbrev at_left : List Link → Attr → Bool
    at_left links a = list_any (λ l. attr_eq l.left a) links

    abbrev at_right : List Link → Attr → Bool
    at_right links a = list_any (λ l. attr_eq l.right a) links

    left-any : (links : List Link) (a b : Attr) → Has links (link a b) → list_any (λ (l : Link). attr_eq l.left a) links ≡ true
    left-any links a b h = any_if (λ (l : Link). attr_eq l.left a) links (link a b) h (attr_eq-itself a)

    right-any : (links : List Link) (a b : Attr) → Has links (link b a) → list_any (λ (l : Link). attr_eq l.right a) links ≡ true
    right-any links a b h = any_if (λ (l : Link). attr_eq l.right a) links (link b a) h (attr_eq-itself a)

    second : (a b c d e : Bool) → b ≡ true → (a || (b || (c || (d || e)))) ≡ true
    second true b c d e h = refl
    second false b c d e h = rw h refl

    third : (a b c d e : Bool) → c ≡ true → (a || (b || (c || (d || e)))) ≡ true
    third true b c d e h = refl
    third false true c d e h = refl
    third false false c d e h = rw h refl

    fourth : (a b c d e : Bool) → d ≡ true → (a || (b || (c || (d || e)))) ≡ true
    fourth true b c d e h = refl
    fourth false true c d e h = refl
    fourth false false true d e h = refl
    fourth false false false d e h = rw h refl

    fifth : (a b c d e : Bool) → e ≡ true → (a || (b || (c || (d || e)))) ≡ true
    fifth true b c d e h = refl
    fifth false true c d e h = refl
    fifth false false true d e h = refl
    fifth false false false true e h = refl
    fifth false false false false e h = h

    equal-wanted : (a b : Attr) → IsEquality q s a b → wanted_by q table ws part a ≡ true
    equal-wanted a b i = elim (in-order a b i.across.across) [
      | inl l ↦ second (among a q.select) (at_left part.equal.items a) (at_right part.equal.items a) (at_left part.less.items a) (at_right part.less.items a) (left-any part.equal.items a b (equal-complete a b l i))
      | inr l ↦ third (among a q.select) (at_left part.equal.items a) (at_right part.equal.items a) (at_left part.less.items a) (at_right part.less.items a) (right-any part.equal.items a b (equal-complete b a l (turned a b i)))
    ]

    wanted-then : (a : Attr) → IsWanted q s a → wanted_by q table ws part a ≡ true
    wanted-then a (selected h) = or_left (among a q.select) (at_left part.equal.items a || (at_right part.equal.items a || (at_left part.less.items a || at_right part.less.items a))) (among-if a q.select (Has-from_contains q.select a h))
      where
        or_left : (b c : Bool) → b ≡ true → (b || c) ≡ true
        or_left b c e = rw e refl
    wanted-then a (left_equal b i) = equal-wanted a b i
    wanted-then a (right_equal b i) = equal-wanted a b (turned b a i)
    wanted-then a (left_less b i) = fourth (among a q.select) (at_left part.equal.items a) (at_right part.equal.items a) (at_left part.less.items a) (at_right part.less.items a) (left-any part.less.items a b (less-complete a b i))
    wanted-then a (right_less b i) = fifth (among a q.select) (at_left part.equal.items a) (at_right part.equal.items a) (at_left part.less.items a) (at_right part.less.items a) (right-any part.less.items a b (less-complete b a i))

    -- classes, and bounds of columns

    names-if : (a : Attr) → names_class q table ws a ≡ true → NamesClass q s a
    names-if a h = record {
      named = inl (Contains-from_has attrs a (among-has a attrs (and-left _ _ h)));
      first = λ b c l. elim c.named [ inl e ↦ not-before-itself b a e l | inr n ↦ first-named a h b n.0 c l ];
    }
      where
        not-before-itself : (b a : Attr) → b ≡ a → attr_lt b a ≡ true → ⊥
        not-before-itself b a e l = grind (arith, l, e)

        first-named : (a : Attr) → names_class q table ws a ≡ true → (b : Attr) → Contains attrs b → AreOneClass q s b a → attr_lt b a ≡ true → ⊥
        first-named a h b n c l = elim (three-or _ _ _ (all_at (λ b. not (attr_lt b a) || not (same_stream b a) || not_equal q table ws (element.Attr b) (element.Attr a)) attrs b (and-right (among a attrs) _ h) (Has-from_contains attrs b n))) [
          | inl n ↦ not_both (attr_lt b a) l (not-true (attr_lt b a) n)
          | inr o ↦ elim o [
            | inl n ↦ streams_differ b a (not-true (same_stream b a) n) c.stream
            | inr n ↦ no-equal (element.Attr b) (element.Attr a) n c.equal
          ]
        ]

    class-if : (a b : Attr) → in_class q table ws a b ≡ true → AreOneClass q s a b
    class-if a b h =
        let r = and-right (among a attrs) _ h in
        let t = and-right (among b attrs) _ r in
        record {
          named = inr (Contains-from_has attrs a (among-has a attrs (and-left _ _ h)), Contains-from_has attrs b (among-has b attrs (and-left _ _ r)));
          stream = nat_true a.stream b.stream (and-left _ _ t);
          equal = equal-if (element.Attr a) (element.Attr b) (and-right (same_stream a b) _ t);
        }

    low-if : (a : Attr) (z : ℤ) → low_by q table ws a z ≡ true → IsLeast q s a z
    low-if a z h =
        let r = any_from (λ (w : Assignment). int_eq (w a) z) ws (and-left _ _ h) in
        let k = any_from (λ k. at_most (bound (elements_of q) table (element.Const k) (element.Attr a)) (k -ℤ z)) (consts_of q.atoms) (and-right (list_any (λ (w : Assignment). int_eq (w a) z) ws) _ h) in
        record {
          at = r.0;
          inside = inside r.0 r.1;
          reached = int_eq-is (r.0 a) z r.2;
          above = λ v i. (let l : k.0 ≤ℤ (v a +ℤ (k.0 -ℤ z)) = at_most-is k.0 (v a) (bound (elements_of q) table (element.Const k.0) (element.Attr a)) (k.0 -ℤ z) k.2 (within v i (element.Const k.0) (element.Attr a)) in omega (arith, ints, l));
        }

    high-if : (a : Attr) (z : ℤ) → high_by q table ws a z ≡ true → IsGreatest q s a z
    high-if a z h =
        let r = any_from (λ (w : Assignment). int_eq (w a) z) ws (and-left _ _ h) in
        let k = any_from (λ k. at_most (bound (elements_of q) table (element.Attr a) (element.Const k)) (z -ℤ k)) (consts_of q.atoms) (and-right (list_any (λ (w : Assignment). int_eq (w a) z) ws) _ h) in
        record {
          at = r.0;
          inside = inside r.0 r.1;
          reached = int_eq-is (r.0 a) z r.2;
          below = λ v i. (let l : v a ≤ℤ (k.0 +ℤ (z -ℤ k.0)) = at_most-is (v a) k.0 (bound (elements_of q) table (element.Attr a) (element.Const k.0)) (z -ℤ k.0) k.2 (within v i (element.Attr a) (element.Const k.0)) in omega (arith, ints, l));
        }

    some-low : (k : ℤ) (a : Attr) (b : Bound) → has_some q table ws b ≡ true → ((v : Assignment) → InPart q s v → Under k (v a) b) → (c : ℤ) × ((v : Assignment) → InPart q s v → c ≤ℤ v a)
    some-low k a None e f = absurd cc
    some-low k a (Some c) e f = (k -ℤ c, (λ v i. (let l : k ≤ℤ (v a +ℤ c) = f v i in omega (arith, ints, l))))

    some-high : (k : ℤ) (a : Attr) (b : Bound) → has_some q table ws b ≡ true → ((v : Assignment) → InPart q s v → Under (v a) k b) → (c : ℤ) × ((v : Assignment) → InPart q s v → v a ≤ℤ c)
    some-high k a None e f = absurd cc
    some-high k a (Some c) e f = (k +ℤ c, (λ v i. (let l : v a ≤ℤ (k +ℤ c) = f v i in omega (arith, ints, l))))

    pub bounded-if : (a : Attr) → bounded_by q table ws a ≡ true → IsBounded q s a
    bounded-if a h =
        let j = any_from (λ k. has_some q table ws (bound (elements_of q) table (element.Const k) (element.Attr a))) (consts_of q.atoms) (and-left _ _ h) in
        let k = any_from (λ k. has_some q table ws (bound (elements_of q) table (element.Attr a) (element.Const k))) (consts_of q.atoms) (and-right (list_any (λ k. has_some q table ws (bound (elements_of q) table (element.Const k) (element.Attr a))) (consts_of q.atoms)) _ h) in
        let low = some-low j.0 a (bound (elements_of q) table (element.Const j.0) (element.Attr a)) j.2 (λ v i. within v i (element.Const j.0) (element.Attr a)) in
        let high = some-high k.0 a (bound (elements_of q) table (element.Attr a) (element.Const k.0)) k.2 (λ v i. within v i (element.Attr a) (element.Const k.0)) in
        record { low = low.0; high = high.0; above = low.1; below = high.1 }

    unbounded-if : (a : Attr) → unbounded_by q table ws a ≡ true → ¬ IsBounded q s a
    unbounded-if a h b = elim (or-cases _ _ h) [
      | inl i ↦ (
          let r = any_from (λ (w : Assignment). list_all (λ k. int_lt k (w a)) (ends_of q)) ws i in
          unbounded_over_all q s record { one = r.0; inside = inside r.0 r.1 } a (λ k c. int_lt-is k (r.0 a) (all_at (λ k. int_lt k (r.0 a)) (ends_of q) k r.2 (Has-from_contains _ k c))) b)
      | inr i ↦ (
          let r = any_from (λ (w : Assignment). list_all (λ k. int_lt (w a) k) (ends_of q)) ws i in
          unbounded_under_all q s record { one = r.0; inside = inside r.0 r.1 } a (λ k c. int_lt-is (r.0 a) k (all_at (λ k. int_lt (r.0 a) k) (ends_of q) k r.2 (Has-from_contains _ k c))) b)
    ]

    -- dims

    dim-if : (place : ℕ) (d : Dim) → dim_test q table ws part place d ≡ true → IsDim q s place d
    dim-if place d h =
        let r1 = and-right (nat_eq d.attr.stream place) _ h in
        let r2 = and-right (names_class q table ws d.attr) _ r1 in
        let r3 = and-right (low_by q table ws d.attr d.lo) _ r2 in
        let r4 = and-right (high_by q table ws d.attr d.hi) _ r3 in
        let m = any_from (λ m. in_class q table ws d.attr m && wanted_by q table ws part m) attrs r4 in
        record {
          here = nat_true d.attr.stream place (and-left _ _ h);
          name = names-if d.attr (and-left _ _ r1);
          low = low-if d.attr d.lo (and-left _ _ r2);
          high = high-if d.attr d.hi (and-left _ _ r3);
          member = m.0;
          inside = class-if d.attr m.0 (and-left _ _ m.2);
          wanted = wanted-if m.0 (and-right (in_class q table ws d.attr m.0) _ m.2);
        }

    wanted-named : list_all (λ a. among a attrs) q.select ≡ true → (a : Attr) → IsWanted q s a → Has attrs a
    wanted-named n a (selected h) = among-has a attrs (all_at (λ a. among a attrs) q.select a n (Has-from_contains q.select a h))
    wanted-named n a (left_equal b i) = Has-from_contains attrs a i.across.left
    wanted-named n a (right_equal b i) = Has-from_contains attrs a i.across.right
    wanted-named n a (left_less b i) = Has-from_contains attrs a i.across.left
    wanted-named n a (right_less b i) = Has-from_contains attrs a i.across.right

    covered : (place : ℕ) (dims : List Dim) (a : Attr) → covered_by q table ws part place dims a ≡ true → a.stream ≡ place → IsWanted q s a → IsBounded q s a
        → (d : Dim) × Contains dims d × AreOneClass q s d.attr a
    covered place dims a h e w b = elim (four-or _ _ _ _ h) [
      | inl n ↦ absurd (elsewhere a.stream place e n)
      | inr o ↦ elim o [
        | inl n ↦ absurd (unbounded-if a n b)
        | inr o ↦ elim o [
          | inl n ↦ absurd (not_both (wanted_by q table ws part a) (wanted-then a w) (not-true (wanted_by q table ws part a) n))
          | inr i ↦ (let r = any_from (λ (d : Dim). in_class q table ws d.attr a) dims i in (r.0, Contains-from_has dims r.0 r.1, class-if r.0.attr a r.2))
        ]
      ]
    ]
      where
        elsewhere : (m n : ℕ) → m ≡ n → not (nat_eq m n) ≡ true → ⊥
        elsewhere m n e h = grind (arith, e, h)

    -- kinds

    side-bounded : (place : ℕ) (a : Attr) → side_bounded q table ws place a ≡ true → a.stream ≡ place → IsBounded q s a
    side-bounded place a h e = elim (or-cases _ _ h) [ inl n ↦ absurd (elsewhere a.stream place e n) | inr b ↦ bounded-if a b ]
      where
        elsewhere : (m n : ℕ) → m ≡ n → not (nat_eq m n) ≡ true → ⊥
        elsewhere m n e h = grind (arith, e, h)

    pub min-ref : (a : Attr) → unbounded_by q table ws a ≡ true → list_any (λ (l : Link). attr_eq l.left a) part.less.items ≡ true → IsMinRef q s a
    min-ref a u h =
        let l = any_from (λ (l : Link). attr_eq l.left a) part.less.items h in
        record { unbounded = unbounded-if a u; other = l.0.right; inequality = subst (λ b. IsInequality q s b l.0.right) (attr_eq-is l.0.left a l.2) (less-sound l.0.left l.0.right l.1) }

    pub max-ref : (a : Attr) → unbounded_by q table ws a ≡ true → list_any (λ (l : Link). attr_eq l.right a) part.less.items ≡ true → IsMaxRef q s a
    max-ref a u h =
        let l = any_from (λ (l : Link). attr_eq l.right a) part.less.items h in
        record { unbounded = unbounded-if a u; other = l.0.left; inequality = subst (λ b. IsInequality q s l.0.left b) (attr_eq-is l.0.right a l.2) (less-sound l.0.left l.0.right l.1) }

    kind-if : (place : ℕ) (kind : Kind) → kind_test q table ws part place kind ≡ true → IsKind q s place kind
    kind-if place Kind.Count h = not-true q.distinct h
    kind-if place Kind.Present h = (
      and-left _ _ h,
      λ a e. (
        (λ m. m.unbounded (side-bounded place a (and-left _ _ (at a m.other (less-complete a m.other m.inequality))) e)),
        (λ m. m.unbounded (side-bounded place a (and-right (side_bounded q table ws place m.other) _ (at m.other a (less-complete m.other a m.inequality))) e)),
      ),
    )
      where
        at : (x y : Attr) → Has part.less.items (link x y) → (side_bounded q table ws place x && side_bounded q table ws place y) ≡ true
        at x y i = all_at (λ (l : Link). side_bounded q table ws place l.left && side_bounded q table ws place l.right) part.less.items (link x y) (and-right q.distinct _ h) i
    kind-if place (Kind.Least a) h =
        let r1 = and-right q.distinct _ h in
        let r2 = and-right (nat_eq a.stream place) _ r1 in
        let r3 = and-right (names_class q table ws a) _ r2 in
        (and-left _ _ h, nat_true a.stream place (and-left _ _ r1), names-if a (and-left _ _ r2), min-ref a (and-left _ _ r3) (and-right (unbounded_by q table ws a) _ r3))
    kind-if place (Kind.Greatest a) h =
        let r1 = and-right q.distinct _ h in
        let r2 = and-right (nat_eq a.stream place) _ r1 in
        let r3 = and-right (names_class q table ws a) _ r2 in
        (and-left _ _ h, nat_true a.stream place (and-left _ _ r1), names-if a (and-left _ _ r2), max-ref a (and-left _ _ r3) (and-right (unbounded_by q table ws a) _ r3))

    stream-if : list_all (λ a. among a attrs) q.select ≡ true → (place : ℕ) (plan : StreamPlan) → stream_test q table ws part place plan ≡ true → IsStreamPlan q s place plan
    stream-if n place plan h =
        let r1 = and-right (ascends_test (λ (d : Dim) (e : Dim). attr_lt d.attr e.attr) plan.dims.items) _ h in
        let r2 = and-right (list_all (dim_test q table ws part place) plan.dims.items) _ r1 in
        let r3 = and-right (list_all (covered_by q table ws part place plan.dims.items) attrs) _ r2 in
        record {
          dims = record {
            ascending = pairs-ascend (λ (d : Dim) (e : Dim). attr_lt d.attr e.attr) plan.dims.items (and-left _ _ h);
            each = all-true (dim_test q table ws part place) (IsDim q s place) (λ d t. dim-if place d t) plan.dims.items (and-left _ _ r1);
            all = λ a e w b. covered place plan.dims.items a (all_at (covered_by q table ws part place plan.dims.items) attrs a (and-left _ _ r2) (wanted-named n a w)) e w b;
          };
          kind = kind-if place plan.kind (and-left _ _ r3);
          size = nat_true _ _ (and-right (kind_test q table ws part place plan.kind) _ r3);
        }

    streams-if : list_all (λ a. among a attrs) q.select ≡ true → (n : ℕ) → streams_test q table ws part n ≡ true → (place : ℕ) → place < n → IsStreamPlan q s place (stream_at part place)
    streams-if m zero h place l = absurd (omega (arith, l))
    streams-if m (suc n) h place l = elim (true_or_false (nat_eq place n)) [
      | inl e ↦ subst (λ k. IsStreamPlan q s k (stream_at part k)) (sym (nat_true place n e)) (stream-if m n (stream_at part n) (and-left _ _ h))
      | inr e ↦ streams-if m n (and-right (stream_test q table ws part n (stream_at part n)) _ h) place (grind (arith, l, e))
    ]

module _ (q : QueryValue) (part : PartPlan) (ws : List Assignment) where
  pub part-tested : ((w : Assignment) → Has ws w → InPart q part.signs.items w) → part_test q (part_table q part.signs.items) ws part ≡ true → IsPartPlan q part
  part-tested inside h =
      let t : List (List Bound) = part_table q part.signs.items in
      let r1 = and-right (list_all (λ a. among a (attrs_of q.atoms)) q.select) _ h in
      let r2 = and-right (links_test q t ws part) _ r1 in
      let r3 = and-right (ascends_test link_lt part.equal.items) _ r2 in
      let r4 = and-right (ascends_test link_lt part.less.items) _ r3 in
      let r5 = and-right (nat_eq (length part.streams.items) (length q.from)) _ r4 in
      let r6 = and-right (streams_test q t ws part (length q.from)) _ r5 in
      let links = and-left _ _ r1 in
      record {
        equal = λ x y. (
          (λ c. equal-sound q part.signs.items ws inside part links x y (Has-from_contains part.equal.items (link x y) c)),
          (λ i. Contains-from_has part.equal.items (link x y) (equal-complete q part.signs.items ws inside part links x y i.0 i.1)),
        );
        equal_ascends = pairs-ascend link_lt part.equal.items (and-left _ _ r2);
        less = λ x y. (
          (λ c. less-sound q part.signs.items ws inside part links x y (Has-from_contains part.less.items (link x y) c)),
          (λ i. Contains-from_has part.less.items (link x y) (less-complete q part.signs.items ws inside part links x y i)),
        );
        less_ascends = pairs-ascend link_lt part.less.items (and-left _ _ r3);
        local = none-if part.local (and-left _ _ r6);
        soft = none-if part.soft.items (and-right (is_none part.local) _ r6);
        count = nat_true _ _ (and-left _ _ r4);
        streams = streams-if q part.signs.items ws inside part links (and-left _ _ h) (length q.from) (and-left _ _ r5);
      }
