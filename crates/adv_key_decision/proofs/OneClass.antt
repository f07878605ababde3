-- Columns of one class are equal, and equal columns are of one class.
use Rattle.std.proofs.Common.{◌≡◌, ◌↔◌, ℕ, zero, suc, ◌+◌, ◌<◌, ◌⊎◌, inl, inr, List, [], ◌∷◌, Bool, IsTrue, nat_eq, length, take, slice_index_or, All, Contains, Some, refl, sym, ap, ◌∙◌, subst, arith}
use Rattle.std.specs.List.{AllZip}
use Rattle.std.proofs.lemmas.Bool.Decides.{nat_tests}
use Rattle.std.proofs.lemmas.List.Elements.{Contains-get_or}
use Rattle.plan_closure.proofs.Zips.{zip_at}
use Rattle.sem_query.specs.declared.atom.Attr.{Attr}
use Rattle.sem_query.specs.Query.{QueryValue, attrs_of}
use Rattle.adv_key_decision.specs.Equal.{AreEqual, AreSeenEqual, NamesClass, IsClassOf}
use Rattle.adv_key_decision.specs.Judged.{IsSeenSelected}
use Rattle.adv_key_decision.proofs.AllParts.{one-more}

-- what holds of the first n elements holds of each
among-first : {X : Type 0} (P : X → Type 0) (xs : List X) (n k : ℕ) (d : X) → k < n → k < length xs → All P (take n xs) → P (slice_index_or xs k d)
among-first P [] n k d l m a = absurd (omega (arith, m))
among-first P (x ∷ xs) zero k d l m a = absurd (omega (arith, l))
among-first P (x ∷ xs) (suc n) zero d l m a = a 0 d (omega arith)
among-first P (x ∷ xs) (suc n) (suc k) d l m a = among-first P xs n k d (omega (arith, l)) (omega (arith, m)) (λ j e o. a (suc j) e (omega (arith, o)))

one-of-three : (i j : ℕ) → ((i ≡ j) ⊎ ((i < j) ⊎ (j < i)))
one-of-three i j = grind arith

abbrev pub no-attr : Attr
no-attr = record { stream = 0; column = 0 }

module _ (q : QueryValue) (a b : Attr) (x y : ℕ) (of : NamesClass q a x) (with : NamesClass q b y) where
  same-names : x ≡ y → AreEqual q a b
  same-names e v f = sym (of.equal no-attr v f) ∙ ap (λ (n : ℕ). v (slice_index_or (attrs_of q.atoms) n no-attr)) e ∙ with.equal no-attr v f

  same-places : AreEqual q a b → x ≡ y
  same-places e = elim (one-of-three x y) [
    | inl k ↦ k
    | inr o ↦ elim o [
      | inl l ↦ absurd (among-first (λ c. ¬ AreEqual q c b) (attrs_of q.atoms) y x no-attr l of.inside with.first (λ v f. of.equal no-attr v f ∙ e v f))
      | inr l ↦ absurd (among-first (λ c. ¬ AreEqual q c a) (attrs_of q.atoms) x y no-attr l with.inside of.first (λ v f. with.equal no-attr v f ∙ sym (e v f)))
    ]
  ]

-- classes with one place are those of columns that are equal
pub one-class : (q : QueryValue) (a b : Attr) (x y : ℕ) → IsClassOf q a (Some x) → IsClassOf q b (Some y)
    → (t : Bool) → (IsTrue t → x ≡ y) → (x ≡ y → IsTrue t)
    → IsTrue t ↔ (Contains (attrs_of q.atoms) a × Contains (attrs_of q.atoms) b × AreEqual q a b)
one-class q a b x y h k t to from = ((λ s. (h.0, k.0, same-names q a b x y h.1 k.1 (to s))), (λ w. from (same-places q a b x y h.1 k.1 w.2)))

pub same-number : (x y : ℕ) → (IsTrue (nat_eq x y) → x ≡ y) × (x ≡ y → IsTrue (nat_eq x y))
same-number x y = ((λ h. grind (arith, nat_tests, h)), (λ e. grind (arith, nat_tests, e)))

-- columns that are not the same are seen to be equal where both are named and equal
pub seen-equal : (q : QueryValue) (a b : Attr) (t : Bool) → ¬ (a ≡ b)
    → (IsTrue t → Contains (attrs_of q.atoms) a × Contains (attrs_of q.atoms) b × AreEqual q a b)
    → (Contains (attrs_of q.atoms) a × Contains (attrs_of q.atoms) b × AreEqual q a b → IsTrue t)
    → IsTrue t ↔ AreSeenEqual q a b
seen-equal q a b t n to from = ((λ h. inr (to h)), (λ s. elim s [ inl e ↦ absurd (n e) | inr w ↦ from w ]))

-- ---- classes, found one after the other

module _ (q : QueryValue) (xs : List Attr) (is : xs ≡ attrs_of q.atoms) where
  -- none of the first columns is equal to the one at a place
  abbrev pub NoneEqual : ℕ → ℕ → Type 0
  NoneEqual i n = All (λ b. ¬ AreEqual q b (slice_index_or (attrs_of q.atoms) i no-attr)) (take n (attrs_of q.atoms))

  any-default : (ys : List Attr) (i : ℕ) (d e : Attr) → i < length ys → slice_index_or ys i d ≡ slice_index_or ys i e
  any-default [] i d e l = absurd (omega (arith, l))
  any-default (y ∷ ys) zero d e l = refl
  any-default (y ∷ ys) (suc i) d e l = any-default ys i d e (omega (arith, l))

  -- the element at a place of a list that is known by an equation
  pub at-is : (i : ℕ) (d e : Attr) → i < length (attrs_of q.atoms) → slice_index_or xs i d ≡ slice_index_or (attrs_of q.atoms) i e
  at-is i d e l = ap (λ (z : List Attr). slice_index_or z i d) is ∙ any-default (attrs_of q.atoms) i d e l

  pub among-attrs : (i : ℕ) (d : Attr) → i < length (attrs_of q.atoms) → Contains (attrs_of q.atoms) (slice_index_or xs i d)
  among-attrs i d l = subst (Contains (attrs_of q.atoms)) (sym (at-is i d d l)) (Contains-get_or (attrs_of q.atoms) i d l)

  pub none-more : (i j : ℕ) (d e : Attr) → i < length (attrs_of q.atoms) → j < length (attrs_of q.atoms) → NoneEqual i j
      → ¬ AreEqual q (slice_index_or xs j d) (slice_index_or xs i e) → NoneEqual i (j + 1)
  none-more i j d e l m n w =
      one-more (λ b. ¬ AreEqual q b (slice_index_or (attrs_of q.atoms) i no-attr)) (attrs_of q.atoms) j no-attr m n
      (λ f. w (λ v g. ap v (at-is j d no-attr m) ∙ f v g ∙ sym (ap v (at-is i e no-attr l))))

  -- the first that is
  pub class-found : (i j : ℕ) (d e : Attr) → i < length (attrs_of q.atoms) → j < length (attrs_of q.atoms) → NoneEqual i j
      → AreEqual q (slice_index_or xs j d) (slice_index_or xs i e) → (f : Attr) → NamesClass q (slice_index_or (attrs_of q.atoms) i f) j
  class-found i j d e l m n w f = record {
    inside = m;
    equal = λ g v fits. ap v (any-default (attrs_of q.atoms) j g d m) ∙ sym (ap v (at-is j d d m)) ∙ w v fits ∙ ap v (at-is i e f l);
    first = subst (λ (z : Attr). All (λ b. ¬ AreEqual q b z) (take j (attrs_of q.atoms))) (any-default (attrs_of q.atoms) i no-attr f l) n;
  }

  pub class-itself : (i : ℕ) → i < length (attrs_of q.atoms) → NoneEqual i i → (f : Attr) → NamesClass q (slice_index_or (attrs_of q.atoms) i f) i
  class-itself i l n f = record {
    inside = l;
    equal = λ g v fits. ap v (any-default (attrs_of q.atoms) i g f l);
    first = subst (λ (z : Attr). All (λ b. ¬ AreEqual q b z) (take i (attrs_of q.atoms))) (any-default (attrs_of q.atoms) i no-attr f l) n;
  }

  -- the class of a column that stands at a place
  pub class-at : (classes : List ℕ) (a : Attr) (i : ℕ) (d : Attr) (e : ℕ) → AllZip (NamesClass q) (attrs_of q.atoms) classes → i < length (attrs_of q.atoms)
      → slice_index_or xs i d ≡ a → IsClassOf q a (Some (slice_index_or classes i e))
  class-at classes a i d e z l s = (
    subst (Contains (attrs_of q.atoms)) s (among-attrs i d l),
    subst (λ (b : Attr). NamesClass q b (slice_index_or classes i e)) (sym (at-is i d d l) ∙ s) (zip_at (NamesClass q) (attrs_of q.atoms) classes i d e z l),
  )

-- a selected column that is seen to be equal
pub selected-at : (q : QueryValue) (a : Attr) (xs : List Attr) (i : ℕ) (d : Attr) → xs ≡ q.select → i < length xs → AreSeenEqual q a (slice_index_or xs i d) → IsSeenSelected q a
selected-at q a xs i d e l s = record { column = slice_index_or xs i d; selected = subst (λ (z : List Attr). Contains z (slice_index_or xs i d)) e (Contains-get_or xs i d l); equal = s }
