-- The columns that answers read, and the dims that they make.
use Rattle.std.proofs.Common.{◌≡◌, ◌↔◌, ℕ, ◌≤◌, ◌⊎◌, inl, inr, Bool, true, false, ◌||◌, IsTrue, List, length, take, All, Contains, Option, None, slice_index_or, sym, ◌∙◌, subst, arith}
use Rattle.std.specs.List.{list_any, Any}
use Rattle.sem_query.proofs.Has.{Has-from_contains, Contains-from_has}
use Rattle.sem_laws.proofs.Tests.{or-cases, or-left, or-right, any_from, any_if, attr_eq-is, attr_eq-itself}
use Rattle.sem_laws.proofs.Admission.{one_first, equality_turned}
use Rattle.sem_query.specs.declared.atom.Attr.{Attr}
use Rattle.sem_query.specs.declared.part.Sign.{Sign}
use Rattle.sem_query.specs.declared.plan.Dim.{Dim}
use Rattle.sem_query.specs.declared.plan.Link.{Link}
use Rattle.sem_query.specs.Query.{QueryValue, attrs_of, attr_eq}
use Rattle.sem_query.specs.Links.{IsEquality, IsInequality}
use Rattle.sem_query.specs.Plan.{IsWanted, selected, left_equal, right_equal, left_less, right_less, link}
use Rattle.plan_links.specs.declared.types.Refs.{Refs}
use Rattle.plan_links.specs.Refs.{IsRange, AreRefs}
use Rattle.sem_query.specs.Order.{IsBounded}
use Rattle.plan_links.proofs.Searching.{not_any}
use Rattle.plan_layout.specs.ColumnPlaces.{attr_at, is_side}
use Rattle.plan_layout.specs.Classes.{IsWantedMember, HasWanted, IsDimAt}
use Rattle.plan_layout.proofs.Ranging.{enclosed}

module _ (q : QueryValue) (s : List Sign) where
  module _ (refs : Refs) (r : AreRefs q s refs) (a : Attr) where
    selected_told : list_any (λ b. attr_eq b a) q.select ≡ true → IsWanted q s a
    selected_told h =
        let o = any_from (λ b. attr_eq b a) q.select h in
        selected (subst (Contains q.select) (attr_eq-is o.0 a o.2) (Contains-from_has q.select o.0 o.1))

    equal_told : is_side refs.equal.items a ≡ true → IsWanted q s a
    equal_told h =
        let o = any_from (λ (l : Link). attr_eq l.left a || attr_eq l.right a) refs.equal.items h in
        let e : IsEquality q s o.0.left o.0.right = ((r.equal o.0.left o.0.right).0 (Contains-from_has refs.equal.items o.0 o.1)).1 in
        elim (or-cases (attr_eq o.0.left a) (attr_eq o.0.right a) o.2) [
          | inl g ↦ left_equal o.0.right (subst (λ x. IsEquality q s x o.0.right) (attr_eq-is o.0.left a g) e)
          | inr g ↦ right_equal o.0.left (subst (λ x. IsEquality q s o.0.left x) (attr_eq-is o.0.right a g) e)
        ]

    less_told : is_side refs.less.items a ≡ true → IsWanted q s a
    less_told h =
        let o = any_from (λ (l : Link). attr_eq l.left a || attr_eq l.right a) refs.less.items h in
        let e : IsInequality q s o.0.left o.0.right = (r.less o.0.left o.0.right).0 (Contains-from_has refs.less.items o.0 o.1) in
        elim (or-cases (attr_eq o.0.left a) (attr_eq o.0.right a) o.2) [
          | inl g ↦ left_less o.0.right (subst (λ x. IsInequality q s x o.0.right) (attr_eq-is o.0.left a g) e)
          | inr g ↦ right_less o.0.left (subst (λ x. IsInequality q s o.0.left x) (attr_eq-is o.0.right a g) e)
        ]

    side_left : (ls : List Link) (b : Attr) → Contains ls (link a b) → is_side ls a ≡ true
    side_left ls b c = any_if (λ (l : Link). attr_eq l.left a || attr_eq l.right a) ls (link a b) (Has-from_contains ls (link a b) c) (or-left (attr_eq a a) (attr_eq b a) (attr_eq-itself a))

    side_right : (ls : List Link) (b : Attr) → Contains ls (link b a) → is_side ls a ≡ true
    side_right ls b c = any_if (λ (l : Link). attr_eq l.left a || attr_eq l.right a) ls (link b a) (Has-from_contains ls (link b a) c) (or-right (attr_eq b a) (attr_eq a a) (attr_eq-itself a))

    side_equal : (b : Attr) → IsEquality q s a b → is_side refs.equal.items a ≡ true
    side_equal b e = elim (one_first a b e.across.across) [
      | inl l ↦ side_left refs.equal.items b ((r.equal a b).1 (l, e))
      | inr l ↦ side_right refs.equal.items b ((r.equal b a).1 (l, equality_turned q s a b e))
    ]

    wanted_if : IsWanted q s a → (list_any (λ b. attr_eq b a) q.select || (is_side refs.equal.items a || is_side refs.less.items a)) ≡ true
    wanted_if (selected c) = or-left _ _ (any_if (λ b. attr_eq b a) q.select a (Has-from_contains q.select a c) (attr_eq-itself a))
    wanted_if (left_equal b e) = or-right (list_any (λ b. attr_eq b a) q.select) _ (or-left _ _ (side_equal b e))
    wanted_if (right_equal b e) = or-right (list_any (λ b. attr_eq b a) q.select) _ (or-left _ _ (side_equal b (equality_turned q s b a e)))
    wanted_if (left_less b e) = or-right (list_any (λ b. attr_eq b a) q.select) _ (or-right (is_side refs.equal.items a) _ (side_left refs.less.items b ((r.less a b).1 e)))
    wanted_if (right_less b e) = or-right (list_any (λ b. attr_eq b a) q.select) _ (or-right (is_side refs.equal.items a) _ (side_right refs.less.items b ((r.less b a).1 e)))

    wanted_from : (list_any (λ b. attr_eq b a) q.select || (is_side refs.equal.items a || is_side refs.less.items a)) ≡ true → IsWanted q s a
    wanted_from h = elim (or-cases (list_any (λ b. attr_eq b a) q.select) _ h) [
      | inl g ↦ selected_told g
      | inr g ↦ elim (or-cases (is_side refs.equal.items a) (is_side refs.less.items a) g) [ inl k ↦ equal_told k | inr k ↦ less_told k ]
    ]

    -- answers read a column that is selected
    pub wanted_then : (t : Bool) (xs : List Attr) → xs ≡ q.select → t ≡ list_any (λ b. attr_eq b a) xs → t ≡ true → IsTrue t ↔ IsWanted q s a
    wanted_then t xs e f g = ((λ h. selected_told (subst (λ z. list_any (λ b. attr_eq b a) z ≡ true) e (sym f ∙ g))), (λ w. g))

    -- answers read a column that is not selected exactly where it is a side of a link
    pub wanted_else : (t u : Bool) (xs : List Attr) → xs ≡ q.select → t ≡ list_any (λ b. attr_eq b a) xs → t ≡ false → u ≡ (is_side refs.equal.items a || is_side refs.less.items a) → IsTrue u ↔ IsWanted q s a
    wanted_else t u xs e f g h =
        let n : list_any (λ b. attr_eq b a) q.select ≡ false = subst (λ z. list_any (λ b. attr_eq b a) z ≡ false) e (sym f ∙ g) in
        ((λ k. wanted_from (or-right (list_any (λ b. attr_eq b a) q.select) _ (sym h ∙ k))), (λ w. h ∙ or_rest _ _ (wanted_if w) n))
      where
        or_rest : (x y : Bool) → (x || y) ≡ true → x ≡ false → y ≡ true
        or_rest true y h n = absurd cc
        or_rest false y h n = h

  -- ---- dims

  pub no_range : (place : ℕ) (a : Attr) → IsRange q s a None → IsDimAt q s place a None
  no_range place a n d e h = n (subst (IsBounded q s) e (enclosed q s d.attr d.lo d.hi h.low h.high))

  pub dim_found : (place : ℕ) (xs : List Attr) (i : ℕ) (a : Attr) (o : Option Dim) → xs ≡ attrs_of q.atoms → ((d : Attr) → slice_index_or xs i d ≡ a) → IsDimAt q s place (attr_at q i) o → IsDimAt q s place a o
  dim_found place xs i a o e h k =
      subst (λ (z : Attr). IsDimAt q s place z o) (subst (λ (z : List Attr). slice_index_or z i record { stream = 0; column = 0 } ≡ a) e (h record { stream = 0; column = 0 })) k

  -- ---- loops over the attributes

  -- no member of the class of the attribute was found among the first ones
  pub has_told : (a : Attr) → Contains (attrs_of q.atoms) a → (n i : ℕ) → n ≡ length (attrs_of q.atoms) → n ≤ i → All (λ m. ¬ IsWantedMember q s a m) (take i (attrs_of q.atoms)) → ¬ HasWanted q s a
  has_told a there n i e l h w =
      not_any (IsWantedMember q s a) (attrs_of q.atoms) i (omega (arith, e, l)) h
      (any_from_contains (member_there w.wanted.0.named))
    where
      any_from_contains : Contains (attrs_of q.atoms) w.member → Any (IsWantedMember q s a) (attrs_of q.atoms)
      any_from_contains c = (c.0, w.member, c.1, c.2, w.wanted)

      member_there : (a ≡ w.member) ⊎ (Contains (attrs_of q.atoms) a × Contains (attrs_of q.atoms) w.member) → Contains (attrs_of q.atoms) w.member
      member_there (inl e) = subst (Contains (attrs_of q.atoms)) e there
      member_there (inr k) = k.1
