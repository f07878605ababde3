-- References, by the names of their classes.
use Rattle.std.proofs.Common.{◌≡◌, ◌↔◌, ℕ, ◌≤◌, Bool, IsTrue, List, length, take, All, Contains, sym, ◌∙◌, subst, arith, ℤ, ◌≤ℤ◌, ◌<ℤ◌}
use Rattle.std.specs.List.{list_any}
use Rattle.sem_query.proofs.Has.{Has-from_contains, Contains-from_has}
use Rattle.sem_laws.proofs.Tests.{any_from, any_if, attr_eq-is, attr_eq-itself}
use Rattle.sem_query.specs.declared.atom.Attr.{Attr}
use Rattle.sem_query.specs.declared.atom.Element.{Element}
use Rattle.sem_query.specs.declared.atom.Element.TheVariants as element
use Rattle.sem_query.specs.declared.part.Sign.{Sign}
use Rattle.sem_query.specs.Query.{QueryValue, attrs_of, attr_eq}
use Rattle.sem_query.specs.Assignment.{value}
use Rattle.sem_query.specs.Order.{IsLess, IsEqual, IsBounded}
use Rattle.sem_query.specs.Links.{IsRedundant, between, equal_left, equal_right, IsMinRef, IsMaxRef}
use Rattle.sem_query.specs.Plan.{AreOneClass, NamesClass}
use Rattle.plan_links.specs.declared.types.Refs.{Refs}
use Rattle.plan_links.specs.Refs.{AreRefs}
use Rattle.plan_links.proofs.Searching.{not_any}
use Rattle.plan_conditions.specs.Deciding.{AreNamedAll}
use Rattle.plan_layout.specs.Classes.{IsNameAmong}
use Rattle.plan_layout.proofs.Dimming.{class_at, named_with}

-- a column is among some exactly where a test finds it
pub among_told : (xs : List Attr) (a : Attr) (t : Bool) → t ≡ list_any (λ b. attr_eq b a) xs → IsTrue t ↔ Contains xs a
among_told xs a t e = (
  (λ h. let o = any_from (λ b. attr_eq b a) xs (sym e ∙ h) in subst (Contains xs) (attr_eq-is o.0 a o.2) (Contains-from_has xs o.0 o.1)),
  (λ c. e ∙ any_if (λ b. attr_eq b a) xs a (Has-from_contains xs a c) (attr_eq-itself a)),
)

module _ (q : QueryValue) (s : List Sign) where
  less_left : (x y e : Element) → IsEqual q s x y → IsLess q s x e → IsLess q s y e
  less_left x y e h l = record { less = λ v i. subst (λ (z : ℤ). z <ℤ value e v) (h.equal v i) (l.less v i) }

  less_right : (x y e : Element) → IsEqual q s x y → IsLess q s e x → IsLess q s e y
  less_right x y e h l = record { less = λ v i. subst (λ (z : ℤ). value e v <ℤ z) (h.equal v i) (l.less v i) }

  equal_turned : (x y : Element) → IsEqual q s x y → IsEqual q s y x
  equal_turned x y h = record { equal = λ v i. sym (h.equal v i) }

  equal_then : (x y z : Element) → IsEqual q s x y → IsEqual q s y z → IsEqual q s x z
  equal_then x y z h k = record { equal = λ v i. h.equal v i ∙ k.equal v i }

  -- what makes an inequality redundant does so for a side of the same class
  redundant_left : (a b e : Attr) → AreOneClass q s a b → IsRedundant q s a e → IsRedundant q s b e
  redundant_left a b e o (between m i l r) = between m i (less_left (element.Attr a) (element.Attr b) m o.equal l) r
  redundant_left a b e o (equal_left k i f l) = equal_left k i (equal_then (element.Attr b) (element.Attr a) (element.Const k) (equal_turned (element.Attr a) (element.Attr b) o.equal) f) l
  redundant_left a b e o (equal_right k i l f) = equal_right k i (less_left (element.Attr a) (element.Attr b) (element.Const k) o.equal l) f

  redundant_right : (a b e : Attr) → AreOneClass q s a b → IsRedundant q s e a → IsRedundant q s e b
  redundant_right a b e o (between m i l r) = between m i l (less_right (element.Attr a) (element.Attr b) m o.equal r)
  redundant_right a b e o (equal_left k i f l) = equal_left k i f (less_right (element.Attr a) (element.Attr b) (element.Const k) o.equal l)
  redundant_right a b e o (equal_right k i l f) = equal_right k i l (equal_then (element.Const k) (element.Attr a) (element.Attr b) f o.equal)

  bounded_with : (a b : Attr) → AreOneClass q s a b → IsBounded q s a → IsBounded q s b
  bounded_with a b o h = record {
    low = h.low;
    high = h.high;
    above = λ v i. subst (λ z. h.low ≤ℤ z) (o.equal.equal v i) (h.above v i);
    below = λ v i. subst (λ z. z ≤ℤ h.high) (o.equal.equal v i) (h.below v i);
  }

  -- the members of a class are references together
  min_together : (n a : Attr) → AreOneClass q s n a → IsMinRef q s a → IsMinRef q s n
  min_together n a o m = record {
    unbounded = λ h. m.unbounded (bounded_with n a o h);
    other = m.other;
    inequality = record {
      across = record { left = named_with (attrs_of q.atoms) n a m.inequality.across.left o.named; right = m.inequality.across.right; across = λ e. m.inequality.across.across (sym o.stream ∙ e) };
      less = less_left (element.Attr a) (element.Attr n) (element.Attr m.other) (equal_turned (element.Attr n) (element.Attr a) o.equal) m.inequality.less;
      needed = λ r. m.inequality.needed (redundant_left n a m.other o r);
    };
  }

  max_together : (n a : Attr) → AreOneClass q s n a → IsMaxRef q s a → IsMaxRef q s n
  max_together n a o m = record {
    unbounded = λ h. m.unbounded (bounded_with n a o h);
    other = m.other;
    inequality = record {
      across = record { left = m.inequality.across.left; right = named_with (attrs_of q.atoms) n a m.inequality.across.right o.named; across = λ e. m.inequality.across.across (e ∙ o.stream) };
      less = less_right (element.Attr a) (element.Attr n) (element.Attr m.other) (equal_turned (element.Attr n) (element.Attr a) o.equal) m.inequality.less;
      needed = λ r. m.inequality.needed (redundant_right n a m.other o r);
    };
  }

  -- no name was found among the first attributes
  pub none_named : (columns : List Attr) → AreNamedAll q columns → (place n i : ℕ) → n ≡ length (attrs_of q.atoms) → n ≤ i → All (λ m. ¬ IsNameAmong q s columns place m) (take i (attrs_of q.atoms)) → (a : Attr) → ¬ IsNameAmong q s columns place a
  none_named columns all place n i e l h a w =
      let c : Contains (attrs_of q.atoms) a = all.named a w.1 in
      not_any (IsNameAmong q s columns place) (attrs_of q.atoms) i (omega (arith, e, l)) h (c.0, a, c.1, c.2, w)

  module _ (refs : Refs) (r : AreRefs q s refs) (place : ℕ) where
    pub min_named : (xs : List Attr) (a : Attr) → xs ≡ refs.min_ref.items → IsNameAmong q s xs place a → (a.stream ≡ place) × NamesClass q s a × IsMinRef q s a
    min_named xs a e w = (w.0.0, w.0.1, (r.min_ref a).0 (subst (λ z. Contains z a) e w.1))

    pub max_named : (xs : List Attr) (a : Attr) → xs ≡ refs.max_ref.items → IsNameAmong q s xs place a → (a.stream ≡ place) × NamesClass q s a × IsMaxRef q s a
    max_named xs a e w = (w.0.0, w.0.1, (r.max_ref a).0 (subst (λ z. Contains z a) e w.1))

    pub no_min : (xs : List Attr) → xs ≡ refs.min_ref.items → ((a : Attr) → ¬ IsNameAmong q s xs place a) → (a : Attr) → a.stream ≡ place → ¬ IsMinRef q s a
    no_min xs e f a h m =
        let c = class_at q s place refs r a (Has-from_contains (attrs_of q.atoms) a m.inequality.across.left) in
        f c.1.name ((c.1.inside.stream ∙ h, c.1.names), subst (λ z. Contains z c.1.name) (sym e) ((r.min_ref c.1.name).1 (min_together c.1.name a c.1.inside m)))

    pub no_max : (xs : List Attr) → xs ≡ refs.max_ref.items → ((a : Attr) → ¬ IsNameAmong q s xs place a) → (a : Attr) → a.stream ≡ place → ¬ IsMaxRef q s a
    no_max xs e f a h m =
        let c = class_at q s place refs r a (Has-from_contains (attrs_of q.atoms) a m.inequality.across.right) in
        f c.1.name ((c.1.inside.stream ∙ h, c.1.names), subst (λ z. Contains z c.1.name) (sym e) ((r.max_ref c.1.name).1 (max_together c.1.name a c.1.inside m)))
