-- A plan that passes a further test is of a query that breaks no condition.
use Rattle.std.proofs.Common.{◌≡◌, ◌-◌, ℕ, zero, suc, ◌⊎◌, inl, inr, List, [], ◌∷◌, map, cond, Bool, true, false, ◌&&◌, ◌||◌, not, sym, ◌∙◌, subst, arith, Some, None, slice_get, Contains}
use Rattle.std.specs.List.{list_all}
use Rattle.sem_query.proofs.Has.{Has, first, later, Has-from_contains, Has-map_from}
use Rattle.sem_query.specs.declared.atom.Attr.{Attr}
use Rattle.sem_query.specs.declared.atom.Element.TheVariants as element
use Rattle.sem_query.specs.declared.condition.Condition.{Condition}
use Rattle.sem_query.specs.declared.condition.Condition.TheVariants.{C1, C2, C3}
use Rattle.sem_query.specs.declared.part.Sign.{Sign}
use Rattle.sem_query.specs.declared.plan.Link.{Link}
use Rattle.sem_query.specs.declared.plan.PartPlan.{PartPlan}
use Rattle.sem_query.specs.Query.{QueryValue, attrs_of, is_filter}
use Rattle.sem_query.specs.Assignment.{Assignment}
use Rattle.sem_query.specs.Parts.{same_stream, InPart}
use Rattle.sem_query.specs.Order.{IsBounded}
use Rattle.sem_query.specs.Links.{IsEquality, IsMinRef, IsMaxRef, AreOneClass, AreTwoRefs, two_mins, two_maxes, both, HasTwoRefs}
use Rattle.sem_query.specs.Violation as Violation
use Rattle.sem_query.specs.Violation.{Breaks, IsViolation}
use Rattle.sem_query.specs.Plan.{link}
use Rattle.sem_laws.proofs.Tests.{and-left, and-right, all_at, true_or_false}
use Rattle.sem_laws.proofs.Tables.{Bound}
use Rattle.sem_laws.proofs.PartsListed.{part_table}
use Rattle.sem_laws.proofs.PlanTests.{bounded_by, equal_by, links_test}
use Rattle.sem_laws.proofs.PlanTested.{bounded-if, equal-if, equal-complete, less-complete, in-order, turned, three-or, four-or}
use Rattle.sem_laws.proofs.PlanIs.{is_inside, inside-if, plan_test, is-plan}

module _ (q : QueryValue) (table : List (List Bound)) (ws : List Assignment) where
  abbrev pub ends_bounded : Link → Bool
  ends_bounded l = bounded_by q table ws l.left && bounded_by q table ws l.right

  -- two links do not make two references of one stream
  abbrev pub one_ref : Attr → Attr → Bool
  one_ref a b = not (same_stream a b) || bounded_by q table ws a || bounded_by q table ws b || equal_by q table ws (element.Attr a) (element.Attr b)

  abbrev pub no_two : Attr → Attr → Bool
  no_two a b = not (same_stream a b) || bounded_by q table ws a || bounded_by q table ws b

  abbrev pub links_agree : Link → Link → Bool
  links_agree l m = one_ref l.left m.left && (one_ref l.right m.right && no_two l.left m.right)

  abbrev pub keeps_test : PartPlan → Bool
  keeps_test part =
      list_all (bounded_by q table ws) q.select
      && (list_all ends_bounded part.equal.items
      && cond q.distinct (list_all (λ l. list_all (links_agree l) part.less.items) part.less.items) (list_all ends_bounded part.less.items))

module _ (q : QueryValue) (part : PartPlan) (ws : List Assignment) (inside : (w : Assignment) → Has ws w → InPart q part.signs.items w)
    (links : links_test q (part_table q part.signs.items) ws part ≡ true)
    (keeps : keeps_test q (part_table q part.signs.items) ws part ≡ true) where
  abbrev s : List Sign
  s = part.signs.items

  abbrev t : List (List Bound)
  t = part_table q part.signs.items

  selects : list_all (bounded_by q t ws) q.select ≡ true
  selects = and-left _ _ keeps

  equals : list_all (ends_bounded q t ws) part.equal.items ≡ true
  equals = and-left _ _ (and-right (list_all (bounded_by q t ws) q.select) _ keeps)

  refs : cond q.distinct (list_all (λ l. list_all (links_agree q t ws l) part.less.items) part.less.items) (list_all (ends_bounded q t ws) part.less.items) ≡ true
  refs = and-right (list_all (ends_bounded q t ws) part.equal.items) _ (and-right (list_all (bounded_by q t ws) q.select) _ keeps)

  bounded : (a : Attr) → bounded_by q t ws a ≡ true → IsBounded q s a
  bounded a h = bounded-if q s ws inside part links a h

  ends : (ls : List Link) (x y : Attr) → list_all (ends_bounded q t ws) ls ≡ true → Has ls (link x y) → IsBounded q s x × IsBounded q s y
  ends ls x y h i =
      let e : (bounded_by q t ws x && bounded_by q t ws y) ≡ true = all_at (λ (l : Link). bounded_by q t ws l.left && bounded_by q t ws l.right) ls (link x y) h i in
      (bounded x (and-left _ _ e), bounded y (and-right (bounded_by q t ws x) _ e))

  equal-bounded : (a b : Attr) → IsEquality q s a b → IsBounded q s a × IsBounded q s b
  equal-bounded a b e = elim (in-order q s ws inside part links a b e.across.across) [
    | inl l ↦ ends part.equal.items a b equals (equal-complete q s ws inside part links a b l e)
    | inr l ↦ (let r = ends part.equal.items b a equals (equal-complete q s ws inside part links b a l (turned q s ws inside part links a b e)) in (r.1, r.0))
  ]

  min-link : (a : Attr) (m : IsMinRef q s a) → Has part.less.items (link a m.other)
  min-link a m = less-complete q s ws inside part links a m.other m.inequality

  max-link : (a : Attr) (m : IsMaxRef q s a) → Has part.less.items (link m.other a)
  max-link a m = less-complete q s ws inside part links m.other a m.inequality

  plain : (b : Bool) (c d : Bool) → b ≡ false → cond b c d ≡ true → d ≡ true
  plain true c d e h = absurd cc
  plain false c d e h = h

  with_distinct : (b : Bool) (c d : Bool) → b ≡ true → cond b c d ≡ true → c ≡ true
  with_distinct true c d e h = h
  with_distinct false c d e h = absurd cc

  same : (a b : Attr) → a.stream ≡ b.stream → not (same_stream a b) ≡ true → ⊥
  same a b e h = grind (arith, e, h)

  module _ (d : q.distinct ≡ true) where
    agree : (x y z w : Attr) → Has part.less.items (link x y) → Has part.less.items (link z w) → links_agree q t ws (link x y) (link z w) ≡ true
    agree x y z w i j =
        all_at (links_agree q t ws (link x y)) part.less.items (link z w)
        (all_at (λ l. list_all (links_agree q t ws l) part.less.items) part.less.items (link x y) (with_distinct q.distinct _ _ d refs) i) j

    one-class : (a b : Attr) → Contains (attrs_of q.atoms) a → Contains (attrs_of q.atoms) b → a.stream ≡ b.stream
        → equal_by q t ws (element.Attr a) (element.Attr b) ≡ true → AreOneClass q s a b
    one-class a b i j e h = record {
      named = inr (i, j);
      stream = e;
      equal = equal-if q s ws inside (element.Attr a) (element.Attr b) h;
    }

    no-two : (a b : Attr) → a.stream ≡ b.stream → AreTwoRefs q s a b → ⊥
    no-two a b e (two_mins m n differ) = elim (four-or _ _ _ _ (and-left _ _ (agree a m.other b n.other (min-link a m) (min-link b n)))) [
      | inl h ↦ same a b e h
      | inr o ↦ elim o [
        | inl h ↦ m.unbounded (bounded a h)
        | inr o ↦ elim o [ inl h ↦ n.unbounded (bounded b h) | inr h ↦ differ (one-class a b m.inequality.across.left n.inequality.across.left e h) ]
      ]
    ]
    no-two a b e (two_maxes m n differ) = elim (four-or _ _ _ _ (and-left _ _ (and-right (one_ref q t ws m.other n.other) _ (agree m.other a n.other b (max-link a m) (max-link b n))))) [
      | inl h ↦ same a b e h
      | inr o ↦ elim o [
        | inl h ↦ m.unbounded (bounded a h)
        | inr o ↦ elim o [ inl h ↦ n.unbounded (bounded b h) | inr h ↦ differ (one-class a b m.inequality.across.right n.inequality.across.right e h) ]
      ]
    ]
    no-two a b e (both m n) = elim (three-or _ _ _ (and-right (one_ref q t ws m.other b) _ (and-right (one_ref q t ws a n.other) _ (agree a m.other n.other b (min-link a m) (max-link b n))))) [
      | inl h ↦ same a b e h
      | inr o ↦ elim o [ inl h ↦ m.unbounded (bounded a h) | inr h ↦ n.unbounded (bounded b h) ]
    ]

  unbounded-ends : q.distinct ≡ false → (a : Attr) → IsMinRef q s a ⊎ IsMaxRef q s a → ⊥
  unbounded-ends d a (inl m) = m.unbounded (ends part.less.items a m.other (plain q.distinct _ _ d refs) (min-link a m)).0
  unbounded-ends d a (inr m) = m.unbounded (ends part.less.items m.other a (plain q.distinct _ _ d refs) (max-link a m)).1

  pub breaks-none : (c : Condition) (a : Attr) → Breaks q s c a → ⊥
  breaks-none C1 a h = h.1 (bounded a (all_at (bounded_by q t ws) q.select a selects (Has-from_contains q.select a h.0)))
  breaks-none C2 a h = elim h.2 [ inl e ↦ h.0 (equal-bounded a h.1 e).0 | inr e ↦ h.0 (equal-bounded h.1 a e).1 ]
  breaks-none C3 a h = elim (true_or_false q.distinct) [
    | inl d ↦ (let r : HasTwoRefs q s a.stream = h.1 d in no-two d r.first r.second (r.here ∙ sym r.there) r.two)
    | inr d ↦ unbounded-ends d a h.0
  ]

-- no part breaks a condition, as some assignments of each show
abbrev pub unbroken : QueryValue → List PartPlan → List (List Assignment) → Bool
unbroken q [] wss = true
unbroken q (p ∷ plan) [] = false
unbroken q (p ∷ plan) (ws ∷ wss) =
    list_all (is_inside q p.signs.items) ws && (links_test q (part_table q p.signs.items) ws p && (keeps_test q (part_table q p.signs.items) ws p && unbroken q plan wss))

pub none-broken : (q : QueryValue) (plan : List PartPlan) (wss : List (List Assignment)) → unbroken q plan wss ≡ true
    → (part : PartPlan) → Has plan part → (c : Condition) (a : Attr) → Breaks q part.signs.items c a → ⊥
none-broken q [] wss h part i c a b = elim i [ ]
none-broken q (p ∷ plan) [] h part i c a b = absurd cc
none-broken q (p ∷ plan) (ws ∷ wss) h part first c a b =
    let r1 = and-right (list_all (is_inside q p.signs.items) ws) _ h in
    let r2 = and-right (links_test q (part_table q p.signs.items) ws p) _ r1 in
    breaks-none q p ws (λ w k. inside-if q p.signs.items w (all_at (is_inside q p.signs.items) ws w (and-left _ _ h) k)) (and-left _ _ r1) (and-left _ _ r2) c a b
none-broken q (p ∷ plan) (ws ∷ wss) h part (later i) c a b =
    let r1 = and-right (list_all (is_inside q p.signs.items) ws) _ h in
    let r2 = and-right (links_test q (part_table q p.signs.items) ws p) _ r1 in
    none-broken q plan wss (and-right (keeps_test q (part_table q p.signs.items) ws p) _ r2) part i c a b

at_place : {X : Type 0} (xs : List X) (n : ℕ) (x : X) → slice_get xs n ≡ Some x → Has xs x
at_place [] n x e = absurd cc
at_place (y ∷ xs) zero x e = let f : y ≡ x = cc in subst (Has (y ∷ xs)) f first
at_place (y ∷ xs) (suc n) x e = later (at_place xs n x e)

pub no-violation : (q : QueryValue) (plan : List PartPlan) (wss : List (List Assignment)) → is_filter q ≡ false → plan_test q plan wss ≡ true → unbroken q plan wss ≡ true → IsViolation q None
no-violation q plan wss none h k = Violation.first none (map (λ part. part.signs.items) plan) (is-plan q plan wss h).parts (λ f b.
    let r = Has-map_from (λ (part : PartPlan). part.signs.items) plan b.signs (at_place _ (f.part - 1) b.signs b.at) in
    none-broken q plan wss k r.0 r.1 f.condition f.attr (subst (λ s. Breaks q s f.condition f.attr) (sym r.2) b.breaks))
