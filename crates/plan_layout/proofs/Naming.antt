-- The classes of attributes, by the places of their names.
use Rattle.std.proofs.Common.{◌≡◌, ◌↔◌, ℕ, zero, suc, ◌<◌, true, IsTrue, nat_eq, List, [], ◌∷◌, length, Some, slice_get, slice_index_or, Contains, ◌⊎◌, inl, inr, refl, sym, ap, ◌∙◌, subst, arith}
use Rattle.std.proofs.lemmas.Bool.Decides.{nat_tests}
use Rattle.sem_query.proofs.Has.{Has, first, later}
use Rattle.sem_query.proofs.Unique.{Ascends, more}
use Rattle.sem_query.proofs.Ascending.{Ascends-attrs_of}
use Rattle.sem_laws.proofs.PlanMembers.{name-same}
use Rattle.sem_query.specs.declared.atom.Attr.{Attr}
use Rattle.sem_query.specs.declared.part.Sign.{Sign}
use Rattle.sem_query.specs.Query.{QueryValue, attrs_of, attr_lt}
use Rattle.sem_query.specs.Plan.{AreOneClass, NamesClass}
use Rattle.plan_links.specs.declared.types.Refs.{Refs}
use Rattle.plan_links.specs.Refs.{IsClassPlace, AreRefs}
use Rattle.plan_links.proofs.AllLinks.{attr_lt-irreflexive}
use Rattle.plan_closure.proofs.Zips.{zip_at, zip_length}
use Rattle.plan_layout.specs.ColumnPlaces.{attr_at}

-- what a list has at a place
get_there : {X : Type 0} (xs : List X) (i : ℕ) (d : X) → i < length xs → slice_get xs i ≡ Some (slice_index_or xs i d)
get_there [] i d l = absurd (omega arith)
get_there (x ∷ xs) zero d l = refl
get_there (x ∷ xs) (suc i) d l = get_there xs i d (omega arith)

has_there : (xs : List Attr) (i : ℕ) (a : Attr) → slice_get xs i ≡ Some a → Has xs a
has_there [] i a e = absurd cc
has_there (x ∷ xs) zero a e = let f : x ≡ a = cc in subst (Has (x ∷ xs)) f first
has_there (x ∷ xs) (suc i) a e = later (has_there xs i a e)

not_later : (x a : Attr) (xs : List Attr) → ((z : Attr) → Has xs z → attr_lt x z ≡ true) → x ≡ a → Has xs a → ⊥
not_later x a xs f e h =
    let l : attr_lt x x ≡ true = subst (λ z. attr_lt x z ≡ true) (sym e) (f a h) in
    let n = attr_lt-irreflexive x in
    cc

-- an ascending list has an element at one place
place_once : (xs : List Attr) → Ascends attr_lt xs → (i j : ℕ) (a : Attr) → slice_get xs i ≡ Some a → slice_get xs j ≡ Some a → i ≡ j
place_once [] s i j a e f = absurd cc
place_once (x ∷ xs) s zero zero a e f = refl
place_once (x ∷ xs) (more g s) zero (suc j) a e f = absurd (not_later x a xs g (cc) (has_there xs j a f))
place_once (x ∷ xs) (more g s) (suc i) zero a e f = absurd (not_later x a xs g (cc) (has_there xs i a e))
place_once (x ∷ xs) (more g s) (suc i) (suc j) a e f = ap suc (place_once xs s i j a e f)

from_test : (m n : ℕ) → nat_eq m n ≡ true → m ≡ n
from_test m n e = grind (arith, nat_tests)

to_test : (m n : ℕ) → m ≡ n → nat_eq m n ≡ true
to_test m n e = grind (arith, nat_tests)

module _ (q : QueryValue) (s : List Sign) where
  abbrev Named : Attr → Attr → Type 0
  Named a b = (a ≡ b) ⊎ (Contains (attrs_of q.atoms) a × Contains (attrs_of q.atoms) b)

  other_named : (a b : Attr) → Named a b → Named b a
  other_named a b (inl e) = inl (sym e)
  other_named a b (inr h) = inr (h.1, h.0)

  both_named : (a b c : Attr) → Named a b → Named b c → Named a c
  both_named a b c (inl e) (inl f) = inl (e ∙ f)
  both_named a b c (inl e) (inr k) = inr (subst (λ z. Contains (attrs_of q.atoms) z) (sym e) k.0, k.1)
  both_named a b c (inr h) (inl f) = inr (h.0, subst (λ z. Contains (attrs_of q.atoms) z) f h.1)
  both_named a b c (inr h) (inr k) = inr (h.0, k.1)

  class_turned : (a b : Attr) → AreOneClass q s a b → AreOneClass q s b a
  class_turned a b h = record { named = other_named a b h.named; stream = sym h.stream; equal = record { equal = λ v j. sym (h.equal.equal v j) } }

  class_then : (a b c : Attr) → AreOneClass q s a b → AreOneClass q s b c → AreOneClass q s a c
  class_then a b c h k = record { named = both_named a b c h.named k.named; stream = h.stream ∙ k.stream; equal = record { equal = λ v j. h.equal.equal v j ∙ k.equal.equal v j } }

  same_place : (a b : Attr) (m n : ℕ) → IsClassPlace q s a m → IsClassPlace q s b n → AreOneClass q s a b → m ≡ n
  same_place a b m n h k o =
      let one : AreOneClass q s h.name k.name = class_then h.name a k.name h.inside (class_then a b k.name o (class_turned k.name b k.inside)) in
      let e : h.name ≡ k.name = name-same q s h.name k.name h.names k.names one in
      place_once (attrs_of q.atoms) (Ascends-attrs_of q.atoms) m n k.name (h.at ∙ ap (λ z. Some z) e) k.at

  same_class : (a b : Attr) (m n : ℕ) → IsClassPlace q s a m → IsClassPlace q s b n → m ≡ n → AreOneClass q s a b
  same_class a b m n h k e =
      let f : slice_get (attrs_of q.atoms) m ≡ Some k.name = subst (λ (z : ℕ). slice_get (attrs_of q.atoms) z ≡ Some k.name) (sym e) k.at in
      let g : slice_get (attrs_of q.atoms) m ≡ Some h.name = h.at in
      let i : k.name ≡ h.name = cc in
      class_then a h.name b (class_turned h.name a h.inside) (subst (λ (z : Attr). AreOneClass q s z b) i k.inside)

  named_here : (i m : ℕ) (a : Attr) → slice_get (attrs_of q.atoms) i ≡ Some a → IsClassPlace q s a m → m ≡ i → NamesClass q s a
  named_here i m a g h e =
      let f : slice_get (attrs_of q.atoms) i ≡ Some h.name = subst (λ (z : ℕ). slice_get (attrs_of q.atoms) z ≡ Some h.name) e h.at in
      let k : h.name ≡ a = cc in
      subst (NamesClass q s) k h.names

  here_if_named : (i m : ℕ) (a : Attr) → slice_get (attrs_of q.atoms) i ≡ Some a → IsClassPlace q s a m → NamesClass q s a → m ≡ i
  here_if_named i m a g h n =
      let e : h.name ≡ a = name-same q s h.name a h.names n h.inside in
      place_once (attrs_of q.atoms) (Ascends-attrs_of q.atoms) m i a (h.at ∙ ap (λ z. Some z) e) g

  module _ (refs : Refs) (r : AreRefs q s refs) where
    pub class_room : (ys : List ℕ) (i : ℕ) → ys ≡ refs.class.items → i < length (attrs_of q.atoms) → i < length ys
    class_room ys i f l =
        let n : length refs.class.items ≡ length (attrs_of q.atoms) = zip_length (IsClassPlace q s) (attrs_of q.atoms) refs.class.items r.class in
        subst (λ (z : List ℕ). i < length z) (sym f) (omega (arith, l, n))

    -- the place of the name of the class of the attribute at a place
    class_told : (ys : List ℕ) (i : ℕ) → ys ≡ refs.class.items → i < length (attrs_of q.atoms) → IsClassPlace q s (attr_at q i) (slice_index_or ys i 0)
    class_told ys i f l =
        subst (λ (z : List ℕ). IsClassPlace q s (attr_at q i) (slice_index_or z i 0)) (sym f) (zip_at (IsClassPlace q s) (attrs_of q.atoms) refs.class.items i _ 0 r.class l)

    pub one_class_told : (ys zs : List ℕ) (i j : ℕ) → ys ≡ refs.class.items → zs ≡ refs.class.items → i < length (attrs_of q.atoms) → j < length (attrs_of q.atoms)
        → IsTrue (nat_eq (slice_index_or ys i 0) (slice_index_or zs j 0)) ↔ AreOneClass q s (attr_at q i) (attr_at q j)
    one_class_told ys zs i j e f l m = (
      (λ t. same_class (attr_at q i) (attr_at q j) _ _ (class_told ys i e l) (class_told zs j f m) (from_test _ _ t)),
      (λ o. to_test _ _ (same_place (attr_at q i) (attr_at q j) _ _ (class_told ys i e l) (class_told zs j f m) o)),
    )

    pub name_told : (ys : List ℕ) (i n : ℕ) → ys ≡ refs.class.items → i < length (attrs_of q.atoms) → n ≡ slice_index_or ys i 0
        → IsTrue (nat_eq n i) ↔ NamesClass q s (attr_at q i)
    name_told ys i n e l f = (
      (λ t. named_here i n (attr_at q i) there here (from_test n i t)),
      (λ o. to_test n i (here_if_named i n (attr_at q i) there here o)),
    )
      where
        there : slice_get (attrs_of q.atoms) i ≡ Some (attr_at q i)
        there = get_there (attrs_of q.atoms) i _ l

        here : IsClassPlace q s (attr_at q i) n
        here = subst (IsClassPlace q s (attr_at q i)) (sym f) (class_told ys i e l)
