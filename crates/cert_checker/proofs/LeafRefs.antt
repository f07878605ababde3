-- Redundant inequalities and references, by what some element or attribute of the query has.
use Rattle.std.proofs.Common.{◌≡◌, ◌↔◌, ℕ, ◌<◌, ℤ, pos, to_z, of_z, Bool, true, false, IsTrue, ◌⊎◌, inl, inr, List, length, All, slice_index_or, Contains, refl, sym, ◌∙◌, subst, arith}
use Rattle.std.specs.List.{Any}
use Rattle.std.proofs.lemmas.Int.{ints}
use Rattle.std.proofs.lemmas.List.Elements.{All-get_or}
use mir.Syntax.{w64}
use Rattle.sem_query.specs.declared.atom.Attr.{Attr}
use Rattle.sem_query.specs.declared.atom.Element.TheVariants as element
use Rattle.sem_query.specs.declared.part.Sign.{Sign}
use Rattle.sem_query.specs.Query.{QueryValue, IsShort, IsWithinLimits, attrs_of, consts_of}
use Rattle.sem_query.specs.Order.{IsEqual, IsBounded}
use Rattle.sem_query.specs.Links.{AreOneClass, IsEquality, IsRedundant, between, equal_left, equal_right, HasTwoRefs, AreTwoRefs, two_mins, two_maxes, both}
use Rattle.cert_checker.specs.declared.links.Side.{Side}
use Rattle.cert_checker.specs.OnLeaf.{LiesBetween, KeepsApart, middle, left, right, IsLinked, IsRef, IsSecond, across, beside}
use Rattle.cert_checker.proofs.Searching.{any_of}

-- an integer of the query fits its type
pub const_kept : (q : QueryValue) (ks : List ℤ) (i : ℕ) → IsWithinLimits q → ks ≡ consts_of q.atoms → i < length ks → to_z w64 (of_z w64 (slice_index_or ks i (pos 0))) ≡ slice_index_or ks i (pos 0)
const_kept q ks i w e l =
    let a : All IsShort ks = subst (All IsShort) (sym e) w.consts in
    let b : IsShort (slice_index_or ks i (pos 0)) = All-get_or IsShort ks i (pos 0) l a in
    omega (arith, ints, b.low, b.high)

module _ (q : QueryValue) (s : List Sign) where
  -- ---- redundant inequalities

  pub redundant_by_attr : (x y : Attr) → Any (λ a. LiesBetween q s x y (element.Attr a)) (attrs_of q.atoms) → IsRedundant q s x y
  redundant_by_attr x y w = between (element.Attr w.1) (w.0, w.2, w.3) w.4.0 w.4.1

  by_parts : (x y : Attr) (k : ℤ) → Contains (consts_of q.atoms) k → KeepsApart q s x y (element.Const k) → IsRedundant q s x y
  by_parts x y k h (middle m) = between (element.Const k) h m.0 m.1
  by_parts x y k h (left m) = equal_left k h m.0 m.1
  by_parts x y k h (right m) = equal_right k h m.0 m.1

  pub redundant_by_const : (x y : Attr) → Any (λ k. KeepsApart q s x y (element.Const k)) (consts_of q.atoms) → IsRedundant q s x y
  redundant_by_const x y w = by_parts x y w.1 (w.0, w.2, w.3) w.4

  pub const_where_no_attr : (x y : Attr) → ¬ Any (λ a. LiesBetween q s x y (element.Attr a)) (attrs_of q.atoms) → IsRedundant q s x y → Any (λ k. KeepsApart q s x y (element.Const k)) (consts_of q.atoms)
  const_where_no_attr x y n (between (element.Attr a) h l m) = absurd (n (any_of (λ a. LiesBetween q s x y (element.Attr a)) (attrs_of q.atoms) a h (l, m)))
  const_where_no_attr x y n (between (element.Const k) h l m) = any_of (λ k. KeepsApart q s x y (element.Const k)) (consts_of q.atoms) k h (middle (l, m))
  const_where_no_attr x y n (equal_left k h e l) = any_of (λ k. KeepsApart q s x y (element.Const k)) (consts_of q.atoms) k h (left (e, l))
  const_where_no_attr x y n (equal_right k h l e) = any_of (λ k. KeepsApart q s x y (element.Const k)) (consts_of q.atoms) k h (right (l, e))

  -- ---- equalities

  flipped : (x y : Attr) → IsEquality q s x y → IsEquality q s y x
  flipped x y e = record { across = record { left = e.across.right; right = e.across.left; across = λ h. e.across.across (sym h) }; equal = record { equal = λ v j. sym (e.equal.equal v j) } }

  -- an equality of a column with another, on whichever side it stands
  pub equality_from : (a : Attr) → Any (IsEquality q s a) (attrs_of q.atoms) → (b : Attr) × (IsEquality q s a b ⊎ IsEquality q s b a)
  equality_from a w = (w.1, inl w.4)

  pub equality_to : (a : Attr) → (b : Attr) × (IsEquality q s a b ⊎ IsEquality q s b a) → Any (IsEquality q s a) (attrs_of q.atoms)
  equality_to a w = elim w.1 [
    | inl e ↦ any_of (IsEquality q s a) (attrs_of q.atoms) w.0 e.across.right e
    | inr e ↦ any_of (IsEquality q s a) (attrs_of q.atoms) w.0 e.across.left (flipped w.0 a e)
  ]

  -- ---- references

  pub ref_from : (side : Side) (a : Attr) → Any (IsLinked q s side a) (attrs_of q.atoms) → ¬ IsBounded q s a → IsRef q s side a
  ref_from Side.Min a w n = record { unbounded = n; other = w.1; inequality = w.4 }
  ref_from Side.Max a w n = record { unbounded = n; other = w.1; inequality = w.4 }

  pub link_of_ref : (side : Side) (a : Attr) → IsRef q s side a → Any (IsLinked q s side a) (attrs_of q.atoms)
  link_of_ref Side.Min a r = any_of (IsLinked q s Side.Min a) (attrs_of q.atoms) r.other r.inequality.across.right r.inequality
  link_of_ref Side.Max a r = any_of (IsLinked q s Side.Max a) (attrs_of q.atoms) r.other r.inequality.across.left r.inequality

  pub unbounded_ref : (side : Side) (a : Attr) → IsRef q s side a → ¬ IsBounded q s a
  unbounded_ref Side.Min a r = r.unbounded
  unbounded_ref Side.Max a r = r.unbounded

  -- ---- two references of a stream

  two_from : (side : Side) (a b : Attr) → IsRef q s side a → IsSecond q s side a b → HasTwoRefs q s a.stream
  two_from Side.Min a b r (across h) = record { first = a; second = b; here = refl; there = sym h.0; two = both r h.1 }
  two_from Side.Max a b r (across h) = record { first = b; second = a; here = sym h.0; there = refl; two = both h.1 r }
  two_from Side.Min a b r (beside h) = record { first = a; second = b; here = refl; there = sym h.0.0; two = two_mins r h.1 (λ c. h.0.1 c.equal) }
  two_from Side.Max a b r (beside h) = record { first = a; second = b; here = refl; there = sym h.0.0; two = two_maxes r h.1 (λ c. h.0.1 c.equal) }

  ref_named : (side : Side) (a : Attr) → IsRef q s side a → Contains (attrs_of q.atoms) a
  ref_named Side.Min a r = r.inequality.across.left
  ref_named Side.Max a r = r.inequality.across.right

  -- what is not apart from one is not apart from another
  not_apart : (side : Side) (a b c : Attr) → b.stream ≡ c.stream → IsRef q s side b → IsRef q s side c
      → ¬ (¬ IsEqual q s (element.Attr a) (element.Attr b)) → ¬ (¬ IsEqual q s (element.Attr a) (element.Attr c)) → ¬ AreOneClass q s b c → ⊥
  not_apart side a b c e l m f g n = f (λ h. g (λ k. n record {
    named = inr (ref_named side b l, ref_named side c m);
    stream = e;
    equal = record { equal = λ v j. sym (h.equal v j) ∙ k.equal v j };
  }))

  module _ (a b c : Attr) (hb : b.stream ≡ a.stream) (hc : c.stream ≡ a.stream) where
    second_to_min : ((d : Attr) → ¬ IsSecond q s Side.Min a d) → AreTwoRefs q s b c → ⊥
    second_to_min n (two_mins l m g) = not_apart Side.Min a b c (hb ∙ sym hc) l m (λ h. n b (beside ((sym hb, h), l))) (λ h. n c (beside ((sym hc, h), m))) g
    second_to_min n (two_maxes l m g) = n b (across (sym hb, l))
    second_to_min n (both l m) = n c (across (sym hc, m))

    second_to_max : ((d : Attr) → ¬ IsSecond q s Side.Max a d) → AreTwoRefs q s b c → ⊥
    second_to_max n (two_mins l m g) = n b (across (sym hb, l))
    second_to_max n (two_maxes l m g) = not_apart Side.Max a b c (hb ∙ sym hc) l m (λ h. n b (beside ((sym hb, h), l))) (λ h. n c (beside ((sym hc, h), m))) g
    second_to_max n (both l m) = n b (across (sym hb, l))

  second_to : (side : Side) (a b c : Attr) → b.stream ≡ a.stream → c.stream ≡ a.stream → ((d : Attr) → ¬ IsSecond q s side a d) → AreTwoRefs q s b c → ⊥
  second_to Side.Min a b c hb hc n t = second_to_min a b c hb hc n t
  second_to Side.Max a b c hb hc n t = second_to_max a b c hb hc n t

  second_named : (side : Side) (a b : Attr) → IsSecond q s side a b → Contains (attrs_of q.atoms) b
  second_named Side.Min a b (across h) = ref_named Side.Max b h.1
  second_named Side.Max a b (across h) = ref_named Side.Min b h.1
  second_named side a b (beside h) = ref_named side b h.1

  -- the stream of a reference has two that are not of one class on one side, exactly where some attribute is a second one
  pub two_told : (side : Side) (a : Attr) (t : Bool) → IsRef q s side a → (IsTrue t → Any (IsSecond q s side a) (attrs_of q.atoms)) → (Any (IsSecond q s side a) (attrs_of q.atoms) → IsTrue t) → IsTrue t ↔ HasTwoRefs q s a.stream
  two_told side a t r f g = (
    (λ h. let w : Any (IsSecond q s side a) (attrs_of q.atoms) = f h in two_from side a w.1 r w.4),
    (λ w. go t (λ d k. g (any_of (IsSecond q s side a) (attrs_of q.atoms) d (second_named side a d k) k)) w),
  )
    where
      go : (t : Bool) → ((d : Attr) → IsSecond q s side a d → IsTrue t) → HasTwoRefs q s a.stream → IsTrue t
      go true n w = refl
      go false n w = absurd (second_to side a w.first w.second w.here w.there (λ d k. let h = n d k in cc) w.two)
