-- The lists of a part, each with its members and their order.
use Rattle.std.proofs.Common.{◌≡◌, ◌↔◌, ℕ, zero, suc, ◌+◌, ◌*◌, ◌<◌, ◌≤◌, ℤ, pos, to_z, of_z, All, ◌<ℤ◌, Bool, true, false, not, IsTrue, List, [], ◌∷◌, ◌++◌, length, take, slice_index_or, Contains, Option, None, Some, AllPairs, refl, sym, ◌∙◌, ap, subst, arith}
use Rattle.std.specs.List.{Any, AllZip}
use Rattle.std.proofs.lemmas.Int.{ints}
use Rattle.std.proofs.lemmas.List.{length-take-le}
use Rattle.std.proofs.lemmas.List.Elements.{Contains-get_or, All-get_or}
use mir.Syntax.{w64}
use Rattle.sem_query.proofs.Has.{Has, Has-from_contains, Contains-from_has}
use Rattle.sem_query.proofs.Ascending.{Ascends-attrs_of}
use Rattle.sem_query.specs.declared.atom.Attr.{Attr}
use Rattle.sem_query.specs.declared.atom.Element.TheVariants as element
use Rattle.sem_query.specs.declared.plan.Link.{Link}
use Rattle.sem_query.specs.declared.part.Sign.{Sign}
use Rattle.sem_query.specs.Query.{QueryValue, IsShort, IsWithinLimits, attrs_of, consts_of, attr_lt}
use Rattle.sem_query.specs.Parts.{IsPart}
use Rattle.sem_query.specs.Order.{IsBounded}
use Rattle.sem_query.specs.Links.{IsEquality, IsInequality, IsRedundant, between, equal_left, equal_right, IsMinRef, IsMaxRef}
use Rattle.sem_query.specs.Plan.{link, link_lt}
use Rattle.plan_links.specs.declared.range.Range.{Range}
use Rattle.plan_links.specs.declared.types.Refs.{Refs}
use Rattle.plan_links.specs.Redundant.{LiesBetween, Parts, middle, left, right}
use Rattle.plan_links.specs.Sifting.{Sifts, links_among, IsAcross, AreLinksAcross, IsOrderedEquality, IsOrderedInequality, AreInequalities}
use Rattle.plan_links.specs.Refs.{IsRange, IsClassPlace, AreRefs}
use Rattle.plan_links.proofs.Sifted.{kept_next, dropped_next, sift_end, sift_length, sift_ascends, sift_twice, member_from, member_of, pairs_ascend}
use Rattle.plan_links.proofs.AllLinks.{length-links, links_have, sides_of, links_ascend, attr_lt-apart}
use Rattle.plan_links.proofs.Room.{AreOneWay, room_next}
use Rattle.plan_closure.proofs.Zips.{zip_at}

-- ---- one step of a loop

module _ {X : Type 0} (P : X → Type 0) where
  pub kept_at : (xs ls ys zs : List X) (i : ℕ) (d : X) → ls ≡ xs → i < length ls → P (slice_index_or ls i d) → Sifts P (take i xs) ys → zs ≡ ys ++ slice_index_or ls i d ∷ [] → Sifts P (take (i + 1) xs) zs
  kept_at xs ls ys zs i d e l p s z =
      let t : Sifts P (take i ls) ys = subst (λ (w : List X). Sifts P (take i w) ys) (sym e) s in
      subst (λ (w : List X). Sifts P (take (i + 1) w) zs) e (subst (λ (w : List X). Sifts P (take (i + 1) ls) w) (sym z) (kept_next P ls ys i d l p t))

  pub dropped_at : (xs ls ys zs : List X) (i : ℕ) (d : X) → ls ≡ xs → i < length ls → ¬ P (slice_index_or ls i d) → Sifts P (take i xs) ys → zs ≡ ys → Sifts P (take (i + 1) xs) zs
  dropped_at xs ls ys zs i d e l p s z =
      let t : Sifts P (take i ls) ys = subst (λ (w : List X). Sifts P (take i w) ys) (sym e) s in
      subst (λ (w : List X). Sifts P (take (i + 1) w) zs) e (subst (λ (w : List X). Sifts P (take (i + 1) ls) w) (sym z) (dropped_next P ls ys i d l p t))

  pub end_at : (xs ls ys : List X) (i : ℕ) → ls ≡ xs → length ls ≤ i → Sifts P (take i xs) ys → Sifts P xs ys
  end_at xs ls ys i e l s = sift_end P xs ys i (subst (λ (w : List X). length w ≤ i) e l) s

  -- there are no more of them than were read
  pub few_of : (xs ls ys : List X) (i : ℕ) → ls ≡ xs → i < length ls → length xs ≤ 12 → Sifts P (take i xs) ys → length ys < 12
  few_of xs ls ys i e l few s =
      let m : i < length xs = subst (λ (w : List X). i < length w) e l in
      let a : length ys ≤ length (take i xs) = sift_length P (take i xs) ys s in
      let b : length (take i xs) ≡ i = length-take-le i xs (omega (arith, m)) in
      omega (arith, a, b, m, few)

pub not_from : (b : Bool) {R : Type 0} → (R → IsTrue b) → b ≡ false → ¬ R
not_from b f e r = let t : b ≡ true = f r in cc

pub not_iff : {R : Type 0} (b : Bool) → (IsTrue b → R) → (R → IsTrue b) → (IsTrue (not b) → ¬ R) × (¬ R → IsTrue (not b))
not_iff true f g = ((λ h. cc), (λ n. absurd (n (f refl))))
not_iff false f g = ((λ h r. let z = g r in cc), (λ n. refl))

-- what a list has at a place does not depend on the default
any_default : (xs : List Attr) (i : ℕ) (d e : Attr) → i < length xs → slice_index_or xs i d ≡ slice_index_or xs i e
any_default [] i d e l = absurd (omega arith)
any_default (x ∷ xs) zero d e l = refl
any_default (x ∷ xs) (suc i) d e l = any_default xs i d e (omega arith)

-- an integer of the query fits its type
pub const_kept : (q : QueryValue) (ks : List ℤ) (i : ℕ) → IsWithinLimits q → ks ≡ consts_of q.atoms → i < length ks → to_z w64 (of_z w64 (slice_index_or ks i (pos 0))) ≡ slice_index_or ks i (pos 0)
const_kept q ks i w e l =
    let a : All IsShort ks = subst (All IsShort) (sym e) w.consts in
    let b : IsShort (slice_index_or ks i (pos 0)) = All-get_or IsShort ks i (pos 0) l a in
    omega (arith, ints, b.low, b.high)

-- ---- links

-- there is room for the next of the links of each attribute with each
pub room_among : (xs : List Attr) (Q : Link → Type 0) (ls ys : List Link) (i : ℕ) → ls ≡ links_among xs xs → length xs ≤ 12 → i < length ls → Sifts Q (take i ls) ys → length ys < 144
room_among xs Q ls ys i e few l s =
    let a : length ys ≤ length (take i ls) = sift_length Q (take i ls) ys s in
    let b : length (take i ls) ≡ i = length-take-le i ls (omega arith) in
    let c : length ls ≡ length xs * length xs = ap length e ∙ length-links xs xs in
    let h : length xs * length xs ≤ 144 = square_of (length xs) few in
    omega (arith, a, b, c, h, l)
  where
    square_of : (n : ℕ) → n ≤ 12 → n * n ≤ 144
    square_of n m = grind arith

module _ (q : QueryValue) (s : List Sign) where
  equality_one_way : AreOneWay (IsOrderedEquality q s)
  equality_one_way l m h k e f =
      let a : attr_lt l.left l.right ≡ true = h.0 in
      let b : attr_lt m.left m.right ≡ true = k.0 in
      let c : attr_lt l.right l.left ≡ true = subst (λ (w : Attr). attr_lt w l.left ≡ true) (sym f) (subst (λ (w : Attr). attr_lt m.left w ≡ true) (sym e) b) in
      attr_lt-apart l.left l.right a c

  inequality_one_way : IsPart q s → AreOneWay (IsOrderedInequality q s)
  inequality_one_way p l m h k e f =
      let a : p.one l.left <ℤ p.one l.right = h.less.less p.one p.inside in
      let b : p.one m.left <ℤ p.one m.right = k.less.less p.one p.inside in
      let c : p.one l.left ≡ p.one m.right = ap p.one e in
      let d : p.one l.right ≡ p.one m.left = ap p.one f in
      omega (arith, ints, a, b, c, d)

  pub room_for_equality : (ls ys : List Link) (i : ℕ) (d : Link) → length (attrs_of q.atoms) ≤ 12 → AreLinksAcross q ls → i < length ls → IsOrderedEquality q s (slice_index_or ls i d) → Sifts (IsOrderedEquality q s) (take i ls) ys → length ys < 66
  room_for_equality ls ys i d few e l p t =
      room_next (IsOrderedEquality q s) equality_one_way (λ m h. h.1.across.across) (attrs_of q.atoms) (Ascends-attrs_of q.atoms) few IsAcross ls ys i d e l p t

  pub room_for_inequality : IsPart q s → (ls ys : List Link) (i : ℕ) (d : Link) → length (attrs_of q.atoms) ≤ 12 → AreLinksAcross q ls → i < length ls → IsOrderedInequality q s (slice_index_or ls i d) → Sifts (IsOrderedInequality q s) (take i ls) ys → length ys < 66
  room_for_inequality r ls ys i d few e l p t =
      room_next (IsOrderedInequality q s) (inequality_one_way r) (λ m h. h.across.across) (attrs_of q.atoms) (Ascends-attrs_of q.atoms) few IsAcross ls ys i d e l p t

  -- the sides of a link are attributes
  pub sides_among : (ls : List Link) (i : ℕ) (d : Link) → AreLinksAcross q ls → i < length ls → Contains (attrs_of q.atoms) (slice_index_or ls i d).left × Contains (attrs_of q.atoms) (slice_index_or ls i d).right
  sides_among ls i d e l =
      let h : Has ls (slice_index_or ls i d) = Has-from_contains ls _ (Contains-get_or ls i d l) in
      let g : Has (links_among (attrs_of q.atoms) (attrs_of q.atoms)) (slice_index_or ls i d) = (member_from IsAcross _ e h).0 in
      let r : Has (attrs_of q.atoms) (slice_index_or ls i d).left × Has (attrs_of q.atoms) (slice_index_or ls i d).right = sides_of _ _ _ g in
      (Contains-from_has _ _ r.0, Contains-from_has _ _ r.1)

  -- the equalities of all links are those of the links across
  pub all_equalities : (ls ys : List Link) → AreLinksAcross q ls → Sifts (IsOrderedEquality q s) ls ys → Sifts (IsOrderedEquality q s) (links_among (attrs_of q.atoms) (attrs_of q.atoms)) ys
  all_equalities ls ys a t = sift_twice (IsOrderedEquality q s) IsAcross (λ m h. h.1.across.across) a t

  pub all_inequalities : (ls ys : List Link) → AreLinksAcross q ls → Sifts (IsOrderedInequality q s) ls ys → Sifts (IsOrderedInequality q s) (links_among (attrs_of q.atoms) (attrs_of q.atoms)) ys
  all_inequalities ls ys a t = sift_twice (IsOrderedInequality q s) IsAcross (λ m h. h.across.across) a t

  pub are_inequalities : (ls : List Link) → Sifts (IsOrderedInequality q s) (links_among (attrs_of q.atoms) (attrs_of q.atoms)) ls → AreInequalities q s ls
  are_inequalities ls t = record {
    members = λ x y. (
      (λ h. (member_from (IsOrderedInequality q s) (link x y) t (Has-from_contains ls _ h)).1),
      (λ i. Contains-from_has ls _ (member_of (IsOrderedInequality q s) (link x y) t (links_have _ _ x y (Has-from_contains _ x i.across.left) (Has-from_contains _ y i.across.right)) i)),
    );
  }

  are_equalities : (ls : List Link) → Sifts (IsOrderedEquality q s) (links_among (attrs_of q.atoms) (attrs_of q.atoms)) ls → (x y : Attr) → Contains ls (link x y) ↔ (IsTrue (attr_lt x y) × IsEquality q s x y)
  are_equalities ls t x y = (
    (λ h. (member_from (IsOrderedEquality q s) (link x y) t (Has-from_contains ls _ h)).1),
    (λ i. Contains-from_has ls _ (member_of (IsOrderedEquality q s) (link x y) t (links_have _ _ x y (Has-from_contains _ x i.1.across.left) (Has-from_contains _ y i.1.across.right)) i)),
  )

  links_in_order : (P : Link → Type 0) (ls : List Link) → Sifts P (links_among (attrs_of q.atoms) (attrs_of q.atoms)) ls → AllPairs (λ x y. IsTrue (link_lt x y)) ls
  links_in_order P ls t = pairs_ascend link_lt ls (sift_ascends P link_lt t (links_ascend _ _ (Ascends-attrs_of q.atoms) (Ascends-attrs_of q.atoms)))

  -- ---- redundant inequalities

  pub redundant_by_attr : (x y : Attr) → Any (λ a. LiesBetween q s x y (element.Attr a)) (attrs_of q.atoms) → IsRedundant q s x y
  redundant_by_attr x y w = between (element.Attr w.1) (w.0, w.2, w.3) w.4.0 w.4.1

  by_parts : (x y : Attr) (k : ℤ) → Contains (consts_of q.atoms) k → Parts q s x y (element.Const k) → IsRedundant q s x y
  by_parts x y k h (middle m) = between (element.Const k) h m.0 m.1
  by_parts x y k h (left m) = equal_left k h m.0 m.1
  by_parts x y k h (right m) = equal_right k h m.0 m.1

  pub redundant_by_const : (x y : Attr) → Any (λ k. Parts q s x y (element.Const k)) (consts_of q.atoms) → IsRedundant q s x y
  redundant_by_const x y w = by_parts x y w.1 (w.0, w.2, w.3) w.4

  any_of : {X : Type 0} (P : X → Type 0) (xs : List X) (x : X) → Contains xs x → P x → Any P xs
  any_of P xs x h p = (h.0, x, h.1, h.2, p)

  pub const_where_no_attr : (x y : Attr) → ¬ Any (λ a. LiesBetween q s x y (element.Attr a)) (attrs_of q.atoms) → IsRedundant q s x y → Any (λ k. Parts q s x y (element.Const k)) (consts_of q.atoms)
  const_where_no_attr x y n (between (element.Attr a) h l m) = absurd (n (any_of (λ a. LiesBetween q s x y (element.Attr a)) (attrs_of q.atoms) a h (l, m)))
  const_where_no_attr x y n (between (element.Const k) h l m) = any_of (λ k. Parts q s x y (element.Const k)) (consts_of q.atoms) k h (middle (l, m))
  const_where_no_attr x y n (equal_left k h e l) = any_of (λ k. Parts q s x y (element.Const k)) (consts_of q.atoms) k h (left (e, l))
  const_where_no_attr x y n (equal_right k h l e) = any_of (λ k. Parts q s x y (element.Const k)) (consts_of q.atoms) k h (right (l, e))

  -- ---- references

  unbounded_where_none : (a : Attr) (r : Option Range) → IsRange q s a r → r ≡ None → ¬ IsBounded q s a
  unbounded_where_none a None h e = h
  unbounded_where_none a (Some r) h e = cc

  none_where_unbounded : (a : Attr) (r : Option Range) → IsRange q s a r → ¬ IsBounded q s a → r ≡ None
  none_where_unbounded a None h n = refl
  none_where_unbounded a (Some r) h n = absurd (n (record { low = r.lo; high = r.hi; above = h.0.above; below = h.1.below }))

  module _ (rs : List (Option Range)) (ls : List Link) (i : ℕ) (d : Attr) (z : AllZip (IsRange q s) (attrs_of q.atoms) rs) (m : AreInequalities q s ls) (l : i < length (attrs_of q.atoms)) where
    here : IsRange q s (slice_index_or (attrs_of q.atoms) i d) (slice_index_or rs i None)
    here = zip_at (IsRange q s) (attrs_of q.atoms) rs i d None z l

    pub min_ref_from : slice_index_or rs i None ≡ None → Any (λ m. m.left ≡ slice_index_or (attrs_of q.atoms) i d) ls → IsMinRef q s (slice_index_or (attrs_of q.atoms) i d)
    min_ref_from e w = record {
      unbounded = unbounded_where_none _ _ here e;
      other = w.1.right;
      inequality = subst (λ (a : Attr). IsInequality q s a w.1.right) w.4 ((m.members w.1.left w.1.right).0 (w.0, w.2, w.3));
    }

    pub max_ref_from : slice_index_or rs i None ≡ None → Any (λ m. m.right ≡ slice_index_or (attrs_of q.atoms) i d) ls → IsMaxRef q s (slice_index_or (attrs_of q.atoms) i d)
    max_ref_from e w = record {
      unbounded = unbounded_where_none _ _ here e;
      other = w.1.left;
      inequality = subst (λ (a : Attr). IsInequality q s w.1.left a) w.4 ((m.members w.1.left w.1.right).0 (w.0, w.2, w.3));
    }

    pub none_of_min : IsMinRef q s (slice_index_or (attrs_of q.atoms) i d) → slice_index_or rs i None ≡ None
    none_of_min r = none_where_unbounded _ _ here r.unbounded

    pub none_of_max : IsMaxRef q s (slice_index_or (attrs_of q.atoms) i d) → slice_index_or rs i None ≡ None
    none_of_max r = none_where_unbounded _ _ here r.unbounded

    pub left_of_min : IsMinRef q s (slice_index_or (attrs_of q.atoms) i d) → Any (λ m. m.left ≡ slice_index_or (attrs_of q.atoms) i d) ls
    left_of_min r = any_of (λ m. m.left ≡ slice_index_or (attrs_of q.atoms) i d) ls (link (slice_index_or (attrs_of q.atoms) i d) r.other) ((m.members _ _).1 r.inequality) refl

    pub right_of_max : IsMaxRef q s (slice_index_or (attrs_of q.atoms) i d) → Any (λ m. m.right ≡ slice_index_or (attrs_of q.atoms) i d) ls
    right_of_max r = any_of (λ m. m.right ≡ slice_index_or (attrs_of q.atoms) i d) ls (link r.other (slice_index_or (attrs_of q.atoms) i d)) ((m.members _ _).1 r.inequality) refl

    attr_is : (xs : List Attr) (e : Attr) → xs ≡ attrs_of q.atoms → slice_index_or xs i e ≡ slice_index_or (attrs_of q.atoms) i d
    attr_is xs e h = ap (λ (w : List Attr). slice_index_or w i e) h ∙ any_default (attrs_of q.atoms) i e d l

    pub min_ref_answer : (xs : List Attr) (e : Attr) (b : Bool) → xs ≡ attrs_of q.atoms → slice_index_or rs i None ≡ None → (IsTrue b → Any (λ m. m.left ≡ slice_index_or xs i e) ls) → (Any (λ m. m.left ≡ slice_index_or xs i e) ls → IsTrue b) → (IsTrue b → IsMinRef q s (slice_index_or (attrs_of q.atoms) i d)) × (IsMinRef q s (slice_index_or (attrs_of q.atoms) i d) → IsTrue b)
    min_ref_answer xs e b h n f g = (
      (λ t. min_ref_from n (subst (λ (a : Attr). Any (λ m. m.left ≡ a) ls) (attr_is xs e h) (f t))),
      (λ r. g (subst (λ (a : Attr). Any (λ m. m.left ≡ a) ls) (sym (attr_is xs e h)) (left_of_min r))),
    )

    pub max_ref_answer : (xs : List Attr) (e : Attr) (b : Bool) → xs ≡ attrs_of q.atoms → slice_index_or rs i None ≡ None → (IsTrue b → Any (λ m. m.right ≡ slice_index_or xs i e) ls) → (Any (λ m. m.right ≡ slice_index_or xs i e) ls → IsTrue b) → (IsTrue b → IsMaxRef q s (slice_index_or (attrs_of q.atoms) i d)) × (IsMaxRef q s (slice_index_or (attrs_of q.atoms) i d) → IsTrue b)
    max_ref_answer xs e b h n f g = (
      (λ t. max_ref_from n (subst (λ (a : Attr). Any (λ m. m.right ≡ a) ls) (attr_is xs e h) (f t))),
      (λ r. g (subst (λ (a : Attr). Any (λ m. m.right ≡ a) ls) (sym (attr_is xs e h)) (right_of_max r))),
    )

  -- ---- all together

  pub refs_told : (r : Refs) → AllZip (IsRange q s) (attrs_of q.atoms) r.ranges.items → AllZip (IsClassPlace q s) (attrs_of q.atoms) r.class.items
      → Sifts (IsOrderedEquality q s) (links_among (attrs_of q.atoms) (attrs_of q.atoms)) r.equal.items → Sifts (IsOrderedInequality q s) (links_among (attrs_of q.atoms) (attrs_of q.atoms)) r.less.items
      → Sifts (IsMinRef q s) (attrs_of q.atoms) r.min_ref.items → Sifts (IsMaxRef q s) (attrs_of q.atoms) r.max_ref.items → AreRefs q s r
  refs_told r a b c d e f = record {
    ranges = a;
    class = b;
    equal = are_equalities r.equal.items c;
    equal_ascends = links_in_order _ r.equal.items c;
    less = (are_inequalities r.less.items d).members;
    less_ascends = links_in_order _ r.less.items d;
    min_ref = λ x. ((λ h. (member_from (IsMinRef q s) x e (Has-from_contains _ x h)).1), (λ i. Contains-from_has _ x (member_of (IsMinRef q s) x e (Has-from_contains _ x i.inequality.across.left) i)));
    min_ref_ascends = pairs_ascend attr_lt _ (sift_ascends (IsMinRef q s) attr_lt e (Ascends-attrs_of q.atoms));
    max_ref = λ x. ((λ h. (member_from (IsMaxRef q s) x f (Has-from_contains _ x h)).1), (λ i. Contains-from_has _ x (member_of (IsMaxRef q s) x f (Has-from_contains _ x i.inequality.across.right) i)));
    max_ref_ascends = pairs_ascend attr_lt _ (sift_ascends (IsMaxRef q s) attr_lt f (Ascends-attrs_of q.atoms));
  }
