-- References that are not of one class on one side.
use Rattle.std.proofs.Common.{◌≡◌, ◌↔◌, Bool, true, false, IsTrue, List, Contains, refl, sym, subst}
use Rattle.std.specs.List.{Any}
use Rattle.sem_query.specs.declared.atom.Attr.{Attr}
use Rattle.sem_query.specs.declared.part.Sign.{Sign}
use Rattle.sem_query.specs.Query.{QueryValue}
use Rattle.sem_query.specs.Links.{AreOneClass, IsMinRef, IsMaxRef, HasTwoRefs, AreTwoRefs, two_mins, two_maxes, both}
use Rattle.plan_links.specs.declared.types.Refs.{Refs}
use Rattle.plan_links.specs.Refs.{AreRefs}
use Rattle.plan_conditions.proofs.Told.{contains_from_any, any_from_contains, turned, joined}
use Rattle.plan_conditions.specs.Deciding.{AreNamedAll, IsOther}

module _ (q : QueryValue) (s : List Sign) (refs : Refs) (r : AreRefs q s refs) where
  pub mins_named : (xs : List Attr) → xs ≡ refs.min_ref.items → AreNamedAll q xs
  mins_named xs e = record { named = λ a h. ((r.min_ref a).0 (subst (λ (z : List Attr). Contains z a) e h)).inequality.across.left }

  pub maxes_named : (xs : List Attr) → xs ≡ refs.max_ref.items → AreNamedAll q xs
  maxes_named xs e = record { named = λ a h. ((r.max_ref a).0 (subst (λ (z : List Attr). Contains z a) e h)).inequality.across.right }

  pub min_from : (a : Attr) (xs : List Attr) → xs ≡ refs.min_ref.items → Any (λ b. b ≡ a) xs → IsMinRef q s a
  min_from a xs e w = (r.min_ref a).0 (subst (λ (z : List Attr). Contains z a) e (contains_from_any xs a w))

  pub max_from : (a : Attr) (xs : List Attr) → xs ≡ refs.max_ref.items → Any (λ b. b ≡ a) xs → IsMaxRef q s a
  max_from a xs e w = (r.max_ref a).0 (subst (λ (z : List Attr). Contains z a) e (contains_from_any xs a w))

  pub any_from_min : (a : Attr) (xs : List Attr) → xs ≡ refs.min_ref.items → IsMinRef q s a → Any (λ b. b ≡ a) xs
  any_from_min a xs e m = any_from_contains xs a (subst (λ (z : List Attr). Contains z a) (sym e) ((r.min_ref a).1 m))

  pub any_from_max : (a : Attr) (xs : List Attr) → xs ≡ refs.max_ref.items → IsMaxRef q s a → Any (λ b. b ≡ a) xs
  any_from_max a xs e m = any_from_contains xs a (subst (λ (z : List Attr). Contains z a) (sym e) ((r.max_ref a).1 m))

  -- what is not apart from one is not apart from another
  not_apart : (a b c : Attr) → ¬ (¬ AreOneClass q s a b) → ¬ (¬ AreOneClass q s a c) → ¬ AreOneClass q s b c → ⊥
  not_apart a b c f g n = f (λ h. g (λ k. n (joined q s b a c (turned q s a b h) k)))

  module _ (a : Attr) (mins maxes : List Attr) (e : mins ≡ refs.min_ref.items) (f : maxes ≡ refs.max_ref.items) where
    is_min : (b : Attr) → Contains mins b → IsMinRef q s b
    is_min b h = (r.min_ref b).0 (subst (λ (z : List Attr). Contains z b) e h)

    is_max : (b : Attr) → Contains maxes b → IsMaxRef q s b
    is_max b h = (r.max_ref b).0 (subst (λ (z : List Attr). Contains z b) f h)

    among_mins : (b : Attr) → IsMinRef q s b → Contains mins b
    among_mins b h = subst (λ (z : List Attr). Contains z b) (sym e) ((r.min_ref b).1 h)

    among_maxes : (b : Attr) → IsMaxRef q s b → Contains maxes b
    among_maxes b h = subst (λ (z : List Attr). Contains z b) (sym f) ((r.max_ref b).1 h)

    pub min_and_max : IsMinRef q s a → Any (λ b. b.stream ≡ a.stream) maxes → HasTwoRefs q s a.stream
    min_and_max m w = record { first = a; second = w.1; here = refl; there = w.4; two = both m (is_max w.1 (w.0, w.2, w.3)) }

    pub max_and_min : IsMaxRef q s a → Any (λ b. b.stream ≡ a.stream) mins → HasTwoRefs q s a.stream
    max_and_min m w = record { first = w.1; second = a; here = w.4; there = refl; two = both (is_min w.1 (w.0, w.2, w.3)) m }

    pub min_and_min : IsMinRef q s a → Any (IsOther q s a) mins → HasTwoRefs q s a.stream
    min_and_min m w = record { first = a; second = w.1; here = refl; there = sym w.4.0; two = two_mins m (is_min w.1 (w.0, w.2, w.3)) w.4.1 }

    pub max_and_max : IsMaxRef q s a → Any (IsOther q s a) maxes → HasTwoRefs q s a.stream
    max_and_max m w = record { first = a; second = w.1; here = refl; there = sym w.4.0; two = two_maxes m (is_max w.1 (w.0, w.2, w.3)) w.4.1 }

    other_in : (xs : List Attr) (b : Attr) → Contains xs b → b.stream ≡ a.stream → ¬ Any (IsOther q s a) xs → ¬ (¬ AreOneClass q s a b)
    other_in xs b c h n g = n (c.0, b, c.1, c.2, (sym h, g))

    two_with_min : (b c : Attr) → b.stream ≡ a.stream → c.stream ≡ a.stream → AreTwoRefs q s b c → ¬ Any (λ z. z.stream ≡ a.stream) maxes → ¬ Any (IsOther q s a) mins → ⊥
    two_with_min b c h k (two_mins l m g) n o = not_apart a b c (other_in mins b (among_mins b l) h o) (other_in mins c (among_mins c m) k o) g
    two_with_min b c h k (two_maxes l m g) n o = let i = among_maxes b l in n (i.0, b, i.1, i.2, h)
    two_with_min b c h k (both l m) n o = let i = among_maxes c m in n (i.0, c, i.1, i.2, k)

    two_with_max : (b c : Attr) → b.stream ≡ a.stream → c.stream ≡ a.stream → AreTwoRefs q s b c → ¬ Any (λ z. z.stream ≡ a.stream) mins → ¬ Any (IsOther q s a) maxes → ⊥
    two_with_max b c h k (two_maxes l m g) n o = not_apart a b c (other_in maxes b (among_maxes b l) h o) (other_in maxes c (among_maxes c m) k o) g
    two_with_max b c h k (two_mins l m g) n o = let i = among_mins b l in n (i.0, b, i.1, i.2, h)
    two_with_max b c h k (both l m) n o = let i = among_mins b l in n (i.0, b, i.1, i.2, h)

    true_or : (t : Bool) {R : Type 0} → (R → IsTrue t) → (¬ R → ⊥) → IsTrue t
    true_or true f n = refl
    true_or false f n = absurd (n (λ x. let h = f x in absurd cc))

    pub min_told : (t : Bool) → IsMinRef q s a → ¬ Any (λ z. z.stream ≡ a.stream) maxes → (IsTrue t → Any (IsOther q s a) mins) → (Any (IsOther q s a) mins → IsTrue t) → IsTrue t ↔ HasTwoRefs q s a.stream
    min_told t m n g h = ((λ x. min_and_min m (g x)), (λ w. true_or t h (λ o. two_with_min w.first w.second w.here w.there w.two n o)))

    pub max_told : (t : Bool) → IsMaxRef q s a → ¬ Any (λ z. z.stream ≡ a.stream) mins → (IsTrue t → Any (IsOther q s a) maxes) → (Any (IsOther q s a) maxes → IsTrue t) → IsTrue t ↔ HasTwoRefs q s a.stream
    max_told t m n g h = ((λ x. max_and_max m (g x)), (λ w. true_or t h (λ o. two_with_max w.first w.second w.here w.there w.two n o)))
