-- What is told of columns, read.
use Rattle.std.proofs.Common.{◌≡◌, ◌≢◌, ◌↔◌, ℕ, zero, suc, ◌<◌, Bool, true, false, IsTrue, nat_eq, ◌⊎◌, inl, inr, List, [], ◌∷◌, length, Contains, Option, None, Some, slice_get, slice_index_or, refl, sym, ◌∙◌, subst, arith}
use Rattle.std.specs.List.{Any}
use Rattle.std.proofs.lemmas.Bool.Decides.{nat_tests}
use Rattle.sem_query.proofs.Ascending.{Ascends-attrs_of}
use Rattle.sem_query.specs.declared.atom.Attr.{Attr}
use Rattle.sem_query.specs.declared.part.Sign.{Sign}
use Rattle.sem_query.specs.declared.plan.Link.{Link}
use Rattle.sem_query.specs.Query.{QueryValue, attrs_of, attr_lt}
use Rattle.sem_query.specs.Order.{IsBounded}
use Rattle.sem_query.specs.Links.{IsEquality}
use Rattle.sem_query.specs.Plan.{link, AreOneClass}
use Rattle.plan_constraints.specs.Nodes.{place_of}
use Rattle.plan_links.specs.declared.range.Range.{Range}
use Rattle.plan_links.specs.declared.types.Refs.{Refs}
use Rattle.plan_links.specs.Refs.{IsRange, IsClassPlace, AreRefs}
use Rattle.plan_closure.proofs.Zips.{zip_at, zip_length}
use Rattle.plan_links.proofs.Extent.{place_is}
use Rattle.plan_conditions.specs.Deciding.{IsInEquality}

-- ---- tests

pub contains_from_any : (xs : List Attr) (a : Attr) → Any (λ b. b ≡ a) xs → Contains xs a
contains_from_any xs a w = (w.0, w.2, subst (λ (z : Attr). slice_index_or xs w.0 z ≡ z) w.4 w.3)

pub any_from_contains : (xs : List Attr) (a : Attr) → Contains xs a → Any (λ b. b ≡ a) xs
any_from_contains xs a w = (w.0, a, w.1, w.2, refl)

both_named : (xs : List Attr) (a b c : Attr) → (a ≡ b) ⊎ (Contains xs a × Contains xs b) → (b ≡ c) ⊎ (Contains xs b × Contains xs c) → (a ≡ c) ⊎ (Contains xs a × Contains xs c)
both_named xs a b c (inl e) (inl f) = inl (e ∙ f)
both_named xs a b c (inl e) (inr k) = inr (subst (λ z. Contains xs z) (sym e) k.0, k.1)
both_named xs a b c (inr h) (inl f) = inr (h.0, subst (λ z. Contains xs z) f h.1)
both_named xs a b c (inr h) (inr k) = inr (h.0, k.1)

module _ (q : QueryValue) (s : List Sign) where
  -- ---- bounded columns

  bounded_by : (a : Attr) (r : Option Range) (b : Bool) → IsRange q s a r → (IsTrue b → ¬ (r ≡ None)) → (¬ (r ≡ None) → IsTrue b) → IsTrue b ↔ IsBounded q s a
  bounded_by a None b h f g = ((λ t. absurd (f t refl)), (λ w. absurd (h w)))
  bounded_by a (Some r) b h f g = ((λ t. record { low = r.lo; high = r.hi; above = h.0.above; below = h.1.below }), (λ w. g (λ e. cc)))

  pub range_room : (refs : Refs) (xs : List Attr) (i : ℕ) → AreRefs q s refs → xs ≡ attrs_of q.atoms → i < length xs → i < length refs.ranges.items
  range_room refs xs i r e l =
      let m : i < length (attrs_of q.atoms) = subst (λ (z : List Attr). i < length z) e l in
      omega (arith, m, zip_length (IsRange q s) (attrs_of q.atoms) refs.ranges.items r.ranges)

  pub class_room : (refs : Refs) (xs : List Attr) (ys : List ℕ) (i : ℕ) → AreRefs q s refs → xs ≡ attrs_of q.atoms → ys ≡ refs.class.items → i < length xs → i < length ys
  class_room refs xs ys i r e f l =
      let m : i < length (attrs_of q.atoms) = subst (λ (z : List Attr). i < length z) e l in
      let n : length refs.class.items ≡ length (attrs_of q.atoms) = zip_length (IsClassPlace q s) (attrs_of q.atoms) refs.class.items r.class in
      subst (λ (z : List ℕ). i < length z) (sym f) (omega (arith, m, n))

  pub bounded_told : (refs : Refs) (xs : List Attr) (i : ℕ) (a : Attr) (b : Bool) → AreRefs q s refs → xs ≡ attrs_of q.atoms → i < length xs → ((d : Attr) → slice_index_or xs i d ≡ a)
      → (IsTrue b → ¬ (slice_index_or refs.ranges.items i None ≡ None)) → (¬ (slice_index_or refs.ranges.items i None ≡ None) → IsTrue b) → IsTrue b ↔ IsBounded q s a
  bounded_told refs xs i a b r e l h f g =
      let m : i < length (attrs_of q.atoms) = subst (λ (z : List Attr). i < length z) e l in
      let k : slice_index_or (attrs_of q.atoms) i a ≡ a = subst (λ (z : List Attr). slice_index_or z i a ≡ a) e (h a) in
      let t : IsRange q s (slice_index_or (attrs_of q.atoms) i a) (slice_index_or refs.ranges.items i None) = zip_at (IsRange q s) (attrs_of q.atoms) refs.ranges.items i a None r.ranges m in
      bounded_by a (slice_index_or refs.ranges.items i None) b (subst (λ (z : Attr). IsRange q s z (slice_index_or refs.ranges.items i None)) k t) f g

  -- ---- classes

  pub class_told : (refs : Refs) (xs : List Attr) (ys : List ℕ) (i d : ℕ) (a : Attr) → AreRefs q s refs → xs ≡ attrs_of q.atoms → ys ≡ refs.class.items → i < length xs → ((d : Attr) → slice_index_or xs i d ≡ a) → IsClassPlace q s a (slice_index_or ys i d)
  class_told refs xs ys i d a r e f l h =
      let m : i < length (attrs_of q.atoms) = subst (λ (z : List Attr). i < length z) e l in
      let k : slice_index_or (attrs_of q.atoms) i a ≡ a = subst (λ (z : List Attr). slice_index_or z i a ≡ a) e (h a) in
      let t : IsClassPlace q s (slice_index_or (attrs_of q.atoms) i a) (slice_index_or refs.class.items i d) = zip_at (IsClassPlace q s) (attrs_of q.atoms) refs.class.items i a d r.class m in
      subst (λ (z : List ℕ). IsClassPlace q s a (slice_index_or z i d)) (sym f) (subst (λ (z : Attr). IsClassPlace q s z (slice_index_or refs.class.items i d)) k t)

  other_named : (a b : Attr) → (a ≡ b) ⊎ (Contains (attrs_of q.atoms) a × Contains (attrs_of q.atoms) b) → (b ≡ a) ⊎ (Contains (attrs_of q.atoms) b × Contains (attrs_of q.atoms) a)
  other_named a b (inl e) = inl (sym e)
  other_named a b (inr h) = inr (h.1, h.0)

  pub turned : (a b : Attr) → AreOneClass q s a b → AreOneClass q s b a
  turned a b h = record { named = other_named a b h.named; stream = sym h.stream; equal = record { equal = λ v j. sym (h.equal.equal v j) } }

  pub joined : (a b c : Attr) → AreOneClass q s a b → AreOneClass q s b c → AreOneClass q s a c
  joined a b c h k = record { named = both_named (attrs_of q.atoms) a b c h.named k.named; stream = h.stream ∙ k.stream; equal = record { equal = λ v j. h.equal.equal v j ∙ k.equal.equal v j } }

  apart : (a b : Attr) → ¬ IsTrue (attr_lt a b) → ¬ IsTrue (attr_lt b a) → a ≡ b
  apart a b f g = both (attr_lt a b) (attr_lt b a) refl refl
    where
      separate : (x y : Attr) → attr_lt x y ≡ false → attr_lt y x ≡ false → x ≡ y
      separate x y h k = grind arith

      both : (t u : Bool) → attr_lt a b ≡ t → attr_lt b a ≡ u → a ≡ b
      both true u e h = absurd (f e)
      both false true e h = absurd (g h)
      both false false e h = separate a b e h

  index_of : (xs : List Attr) (n : ℕ) (a : Attr) → slice_get xs n ≡ Some a → (n < length xs) × (slice_index_or xs n a ≡ a)
  index_of [] n a e = absurd cc
  index_of (x ∷ xs) zero a e = (omega arith, cc)
  index_of (x ∷ xs) (suc n) a e = let r : (n < length xs) × (slice_index_or xs n a ≡ a) = index_of xs n a e in (omega (arith, r.0), r.1)

  place_at : (n : ℕ) (a : Attr) → slice_get (attrs_of q.atoms) n ≡ Some a → place_of (attrs_of q.atoms) a ≡ n
  place_at n a e =
      let r : (n < length (attrs_of q.atoms)) × (slice_index_or (attrs_of q.atoms) n a ≡ a) = index_of (attrs_of q.atoms) n a e in
      subst (λ (z : Attr). place_of (attrs_of q.atoms) z ≡ n) r.1 (place_is (attrs_of q.atoms) (Ascends-attrs_of q.atoms) n a r.0)

  same_place : (a b : Attr) (m n : ℕ) → IsClassPlace q s a m → IsClassPlace q s b n → AreOneClass q s a b → m ≡ n
  same_place a b m n h k o =
      let one : AreOneClass q s h.name k.name = joined h.name a k.name h.inside (joined a b k.name o (turned k.name b k.inside)) in
      let e : h.name ≡ k.name = apart h.name k.name (k.names.first h.name one) (h.names.first k.name (turned h.name k.name one)) in
      let x : place_of (attrs_of q.atoms) h.name ≡ m = place_at m h.name h.at in
      let y : place_of (attrs_of q.atoms) k.name ≡ n = place_at n k.name k.at in
      cc

  same_name : (a b : Attr) (m n : ℕ) → IsClassPlace q s a m → IsClassPlace q s b n → m ≡ n → AreOneClass q s a b
  same_name a b m n h k e =
      let f : slice_get (attrs_of q.atoms) m ≡ Some k.name = subst (λ (z : ℕ). slice_get (attrs_of q.atoms) z ≡ Some k.name) (sym e) k.at in
      let g : slice_get (attrs_of q.atoms) m ≡ Some h.name = h.at in
      let i : h.name ≡ k.name = cc in
      joined a h.name b (turned h.name a h.inside) (subst (λ (z : Attr). AreOneClass q s z b) (sym i) k.inside)

  pub one_class_told : (a b : Attr) (m n : ℕ) → IsClassPlace q s a m → IsClassPlace q s b n → IsTrue (nat_eq m n) ↔ AreOneClass q s a b
  one_class_told a b m n h k = (
    (λ e. same_name a b m n h k (from_test m n e)),
    (λ c. to_test m n (same_place a b m n h k c)),
  )
    where
      from_test : (m n : ℕ) → nat_eq m n ≡ true → m ≡ n
      from_test m n e = grind (arith, nat_tests)

      to_test : (m n : ℕ) → m ≡ n → nat_eq m n ≡ true
      to_test m n e = grind (arith, nat_tests)

  -- ---- equalities

  flipped : (x y : Attr) → IsEquality q s x y → IsEquality q s y x
  flipped x y e = record { across = record { left = e.across.right; right = e.across.left; across = λ h. e.across.across (sym h) }; equal = record { equal = λ v j. sym (e.equal.equal v j) } }

  ordered : (x y : Attr) → IsEquality q s x y → (attr_lt x y ≡ true) ⊎ (attr_lt y x ≡ true)
  ordered x y e = elim (pick x y e.across.across) [ inl h ↦ inl h | inr h ↦ inr h ]
    where
      pick : (x y : Attr) → x.stream ≢ y.stream → (attr_lt x y ≡ true) ⊎ (attr_lt y x ≡ true)
      pick x y n = grind (arith, nat_tests)

  module _ (refs : Refs) (r : AreRefs q s refs) (a : Attr) where
    pub by_left : (ls : List Link) → ls ≡ refs.equal.items → Any (λ l. l.left ≡ a) ls → IsInEquality q s a
    by_left ls e w =
        let c : Contains refs.equal.items w.1 = subst (λ (z : List Link). Contains z w.1) e (w.0, w.2, w.3) in
        (w.1.right, inl (subst (λ (z : Attr). IsEquality q s z w.1.right) w.4 ((r.equal w.1.left w.1.right).0 c).1))

    pub by_right : (ls : List Link) → ls ≡ refs.equal.items → Any (λ l. l.right ≡ a) ls → IsInEquality q s a
    by_right ls e w =
        let c : Contains refs.equal.items w.1 = subst (λ (z : List Link). Contains z w.1) e (w.0, w.2, w.3) in
        (w.1.left, inr (subst (λ (z : Attr). IsEquality q s w.1.left z) w.4 ((r.equal w.1.left w.1.right).0 c).1))

    side : (b : Attr) → IsEquality q s a b → (Any (λ l. l.left ≡ a) refs.equal.items) ⊎ (Any (λ l. l.right ≡ a) refs.equal.items)
    side b e = elim (ordered a b e) [
      | inl h ↦ (let c : Contains refs.equal.items (link a b) = (r.equal a b).1 (h, e) in inl (c.0, link a b, c.1, c.2, refl))
      | inr h ↦ (let c : Contains refs.equal.items (link b a) = (r.equal b a).1 (h, flipped a b e) in inr (c.0, link b a, c.1, c.2, refl))
    ]

    sides : IsInEquality q s a → (Any (λ l. l.left ≡ a) refs.equal.items) ⊎ (Any (λ l. l.right ≡ a) refs.equal.items)
    sides w = elim w.1 [ inl e ↦ side w.0 e | inr e ↦ side w.0 (flipped w.0 a e) ]

    pub right_if_not_left : (ls ms : List Link) → ls ≡ refs.equal.items → ms ≡ refs.equal.items → ¬ Any (λ l. l.left ≡ a) ls → IsInEquality q s a → Any (λ l. l.right ≡ a) ms
    right_if_not_left ls ms e f n w = elim (sides w) [
      | inl h ↦ absurd (n (subst (λ (z : List Link). Any (λ l. l.left ≡ a) z) (sym e) h))
      | inr h ↦ subst (λ (z : List Link). Any (λ l. l.right ≡ a) z) (sym f) h
    ]
