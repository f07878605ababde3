-- Columns that are equal in each part.
use Rattle.std.proofs.Common.{◌≡◌, ℕ, ◌+◌, ◌<◌, ◌≤◌, ℤ, pos, ◌≤ℤ◌, List, length, take, get_or, slice_index_or, All, Contains, refl, sym, subst, arith}
use Rattle.std.proofs.lemmas.List.{take_more, take_all}
use Rattle.std.proofs.lemmas.List.Elements.{Contains-get_or, All-contains, All-push}
use Rattle.sem_query.proofs.Has.{Has-from_contains, Contains-from_has, Has-map, Has-map_from}
use Rattle.sem_query.specs.declared.atom.Attr.{Attr}
use Rattle.sem_query.specs.declared.atom.Element.TheVariants as element
use Rattle.sem_query.specs.declared.part.Part.{Part}
use Rattle.sem_query.specs.declared.part.Sign.{Sign}
use Rattle.sem_query.specs.Query.{QueryValue, attrs_of}
use Rattle.sem_query.specs.Parts.{IsPart, AreParts, sign_lists}
use Rattle.sem_query.specs.Order.{IsEqual}
use Rattle.plan_constraints.specs.Nodes.{node_of, IsAlwaysAbove}
use Rattle.plan_constraints.specs.PartConstraints.{of_prefix}
use Rattle.plan_constraints.specs.Solutions.{IsUpper, HasNoUpper}
use Rattle.plan_closure.specs.declared.distances.Distances.{Distances}
use Rattle.plan_links.specs.declared.placed.Placed.{Placed}
use Rattle.plan_links.specs.Known.{AreKnown}
use Rattle.plan_links.specs.Placed.{IsPlaced}
use Rattle.plan_links.proofs.AtNodes.{node_below, above_some, above_none, equal_when, above_when_equal, above_when_equal_turned}
use Rattle.plan_links.proofs.InPartFacts.{bounds_in, as_known}
use Rattle.sem_sharding.proofs.ByKeys.{equal-in-parts}
use Rattle.adv_key_decision.specs.Equal.{AreEqual}

pub one-more : {X : Type 0} (P : X → Type 0) (xs : List X) (i : ℕ) (d : X) → i < length xs → All P (take i xs) → P (slice_index_or xs i d) → All P (take (i + 1) xs)
one-more P xs i d l a p = subst (All P) (sym (take_more xs i d l)) (All-push P (take i xs) (get_or xs i d) a p)

-- two columns are equal in a part
abbrev pub AreEqualIn : QueryValue → Attr → Attr → Part → Type 0
AreEqualIn q a b p = IsEqual q p.signs.items (element.Attr a) (element.Attr b)

module _ (q : QueryValue) (parts : List Part) (are : AreParts q (sign_lists parts)) where
  pub part-at : (i : ℕ) (d : Part) → i < length parts → IsPart q (slice_index_or parts i d).signs.items
  part-at i d l =
      All-contains (IsPart q) (sign_lists parts) (slice_index_or parts i d).signs.items are.each
      (Contains-from_has (sign_lists parts) _ (Has-map (λ (p : Part). p.signs.items) (Has-from_contains parts _ (Contains-get_or parts i d l))))

  pub everywhere : (a b : Attr) (i : ℕ) → length parts ≤ i → All (AreEqualIn q a b) (take i parts) → AreEqual q a b
  everywhere a b i l h = (equal-in-parts q (sign_lists parts) are a b).1 (λ s k.
      (let r = Has-map_from (λ (p : Part). p.signs.items) parts s (Has-from_contains (sign_lists parts) s k) in
      let all : All (AreEqualIn q a b) parts = subst (All (AreEqualIn q a b)) (take_all i parts l) h in
      subst (λ (z : List Sign). IsEqual q z (element.Attr a) (element.Attr b)) r.2 (All-contains (AreEqualIn q a b) parts r.0 all (Contains-from_has parts r.0 r.1))))

  pub in-part : (a b : Attr) (i : ℕ) (d : Part) → i < length parts → AreEqual q a b → AreEqualIn q a b (slice_index_or parts i d)
  in-part a b i d l e =
      (equal-in-parts q (sign_lists parts) are a b).0 e (slice_index_or parts i d).signs.items
      (Contains-from_has (sign_lists parts) _ (Has-map (λ (p : Part). p.signs.items) (Has-from_contains parts _ (Contains-get_or parts i d l))))

-- two columns that comparisons name, in a part whose distances are known
module _ (q : QueryValue) (s : List Sign) (d : Distances) (known : AreKnown q s d) where
  abbrev at : Attr → Placed
  at a = record { element = element.Attr a; node = node_of (attrs_of q.atoms) (element.Attr a) }

  is-placed : (a : Attr) → Contains (attrs_of q.atoms) a → IsPlaced q (at a)
  is-placed a h = record { known = h; node = refl }

  abbrev pub IsAtMost : Attr → Attr → Type 0
  IsAtMost a b = IsAlwaysAbove (attrs_of q.atoms) (of_prefix q s) (element.Attr a) (element.Attr b) (pos 0)

  pub node-within : (n : ℕ) (a : Attr) → Contains (attrs_of q.atoms) a → n ≡ node_of (attrs_of q.atoms) (element.Attr a) → n ≤ d.attrs
  node-within n a h e = let l = node_below q s (bounds_in q s) (as_known q s d known) (at a) (is-placed a h) in omega (arith, l, e, known.distances.attrs)

  module _ (a b : Attr) (ha : Contains (attrs_of q.atoms) a) (hb : Contains (attrs_of q.atoms) b) where
    pub at-most-some : (i j : ℕ) → i ≡ node_of (attrs_of q.atoms) (element.Attr a) → j ≡ node_of (attrs_of q.atoms) (element.Attr b)
        → (u : ℤ) → IsUpper (of_prefix q s) i j u → (u ≤ℤ pos 0 → IsAtMost a b) × (IsAtMost a b → u ≤ℤ pos 0)
    at-most-some i j e f u h =
        above_some q s (bounds_in q s) (as_known q s d known) (at a) (at b) (is-placed a ha) (is-placed b hb) (pos 0) u (pos 0)
        (subst (λ (n : ℕ). IsUpper (of_prefix q s) (node_of (attrs_of q.atoms) (element.Attr a)) n u) f (subst (λ (n : ℕ). IsUpper (of_prefix q s) n j u) e h)) refl

    pub at-most-none : (i j : ℕ) → i ≡ node_of (attrs_of q.atoms) (element.Attr a) → j ≡ node_of (attrs_of q.atoms) (element.Attr b)
        → HasNoUpper (of_prefix q s) i j → IsAtMost a b → ⊥
    at-most-none i j e f h =
        above_none q s (bounds_in q s) (as_known q s d known) (at a) (at b) (is-placed a ha) (is-placed b hb) (pos 0)
        (subst (λ (n : ℕ). HasNoUpper (of_prefix q s) (node_of (attrs_of q.atoms) (element.Attr a)) n) f (subst (λ (n : ℕ). HasNoUpper (of_prefix q s) n j) e h))

    pub equal-when : IsAtMost a b → IsAtMost b a → IsEqual q s (element.Attr a) (element.Attr b)
    equal-when h g = equal_when q s (bounds_in q s) (as_known q s d known) (at a) (at b) (is-placed a ha) (is-placed b hb) h g

    pub at-most-when : IsEqual q s (element.Attr a) (element.Attr b) → IsAtMost a b
    at-most-when e = above_when_equal q s (bounds_in q s) (as_known q s d known) (at a) (at b) (is-placed a ha) (is-placed b hb) e

    pub at-most-turned : IsEqual q s (element.Attr a) (element.Attr b) → IsAtMost b a
    at-most-turned e = above_when_equal_turned q s (bounds_in q s) (as_known q s d known) (at a) (at b) (is-placed a ha) (is-placed b hb) e
