-- The first attribute of a class names it.
use Rattle.std.proofs.Common.{◌≡◌, ◌⊎◌, inl, inr, sym, ℕ, zero, suc, ◌<◌, ◌≤◌, true, List, [], ◌∷◌, length, take, slice_index_or, slice_get, Some, All, Contains, refl, ◌∙◌, subst, arith}
use Rattle.std.proofs.lemmas.List.{take_all}
use Rattle.std.proofs.lemmas.List.Elements.{All-contains, Contains-get_or}
use Rattle.sem_query.proofs.Has.{Has, first, later, Has-from_contains, Contains-from_has}
use Rattle.sem_query.proofs.Unique.{Ascends, more}
use Rattle.sem_query.proofs.Ascending.{Ascends-attrs_of}
use Rattle.sem_query.specs.declared.atom.Attr.{Attr}
use Rattle.sem_query.specs.declared.part.Sign.{Sign}
use Rattle.sem_query.specs.Query.{QueryValue, attrs_of, attr_lt}
use Rattle.sem_query.specs.Plan.{AreOneClass}
use Rattle.plan_links.specs.Refs.{IsClassPlace}
use Rattle.plan_links.proofs.AllLinks.{attr_lt-irreflexive, attr_lt-apart}

attr_at : (xs : List Attr) (i : ℕ) (d : Attr) → i < length xs → slice_get xs i ≡ Some (slice_index_or xs i d)
attr_at [] i d l = absurd (omega arith)
attr_at (x ∷ xs) zero d l = refl
attr_at (x ∷ xs) (suc i) d l = attr_at xs i d (omega arith)

-- what is below the element at a place stands before it
stands_before : (xs : List Attr) → Ascends attr_lt xs → (i : ℕ) (d b : Attr) → i < length xs → Has xs b → attr_lt b (slice_index_or xs i d) ≡ true → Has (take i xs) b
stands_before [] a i d b l h m = elim h [ ]
stands_before (x ∷ xs) a zero d b l first m = let e = attr_lt-irreflexive x in absurd (attr_lt-apart x x m m)
stands_before (x ∷ xs) (more f a) zero d b l (later h) m = absurd (attr_lt-apart x b (f b h) m)
stands_before (x ∷ xs) a (suc i) d b l first m = first
stands_before (x ∷ xs) (more f a) (suc i) d b l (later h) m = later (stands_before xs a i d b (omega arith) h m)

both_named : (xs : List Attr) (a b c : Attr) → (a ≡ b) ⊎ (Contains xs a × Contains xs b) → (b ≡ c) ⊎ (Contains xs b × Contains xs c) → (a ≡ c) ⊎ (Contains xs a × Contains xs c)
both_named xs a b c (inl e) (inl f) = inl (e ∙ f)
both_named xs a b c (inl e) (inr k) = inr (subst (λ z. Contains xs z) (sym e) k.0, k.1)
both_named xs a b c (inr h) (inl f) = inr (h.0, subst (λ z. Contains xs z) f h.1)
both_named xs a b c (inr h) (inr k) = inr (h.0, k.1)

attr_there : (xs : List Attr) (i : ℕ) (d : Attr) → i < length xs → Contains xs (slice_index_or xs i d)
attr_there xs i d l = Contains-get_or xs i d l

named_here : (xs : List Attr) (a b : Attr) → Contains xs b → (a ≡ b) ⊎ (Contains xs a × Contains xs b) → Contains xs a
named_here xs a b h (inl e) = subst (λ z. Contains xs z) (sym e) h
named_here xs a b h (inr k) = k.0

module _ (q : QueryValue) (s : List Sign) where
  joined : (a b c : Attr) → AreOneClass q s a b → AreOneClass q s b c → AreOneClass q s a c
  joined a b c h k = record {
    named = both_named (attrs_of q.atoms) a b c h.named k.named;
    stream = h.stream ∙ k.stream;
    equal = record { equal = λ v j. h.equal.equal v j ∙ k.equal.equal v j };
  }

  pub class_place : (xs : List Attr) (a : Attr) (i : ℕ) (d : Attr) → xs ≡ attrs_of q.atoms → i < length xs → AreOneClass q s (slice_index_or xs i d) a → All (λ b. ¬ AreOneClass q s b a) (take i (attrs_of q.atoms)) → IsClassPlace q s a i
  class_place xs a i d e l h n = at_place l h
    where
      ys : List Attr
      ys = attrs_of q.atoms

      at_attrs : i < length (attrs_of q.atoms) → AreOneClass q s (slice_index_or (attrs_of q.atoms) i d) a → IsClassPlace q s a i
      at_attrs m k = record {
        name = slice_index_or (attrs_of q.atoms) i d;
        at = attr_at (attrs_of q.atoms) i d m;
        names = record {
          named = inl (attr_there (attrs_of q.atoms) i d m);
          first = λ b o t.
              let c : Has (take i (attrs_of q.atoms)) b = stands_before (attrs_of q.atoms) (Ascends-attrs_of q.atoms) i d b m (Has-from_contains _ b (named_here (attrs_of q.atoms) b (slice_index_or (attrs_of q.atoms) i d) (attr_there (attrs_of q.atoms) i d m) o.named)) t in
              All-contains (λ b. ¬ AreOneClass q s b a) (take i (attrs_of q.atoms)) b n (Contains-from_has _ b c) (joined b (slice_index_or (attrs_of q.atoms) i d) a o k);
        };
        inside = k;
      }

      at_place : i < length xs → AreOneClass q s (slice_index_or xs i d) a → IsClassPlace q s a i
      at_place m k = at_attrs (subst (λ (z : List Attr). i < length z) e m) (subst (λ (z : List Attr). AreOneClass q s (slice_index_or z i d) a) e k)

  -- an attribute is of its own class
  pub has_class : (a : Attr) (i : ℕ) → Contains (attrs_of q.atoms) a → length (attrs_of q.atoms) ≤ i → All (λ b. ¬ AreOneClass q s b a) (take i (attrs_of q.atoms)) → ⊥
  has_class a i h l n =
      let m : All (λ b. ¬ AreOneClass q s b a) (attrs_of q.atoms) = subst (All (λ b. ¬ AreOneClass q s b a)) (take_all i (attrs_of q.atoms) l) n in
      All-contains (λ b. ¬ AreOneClass q s b a) (attrs_of q.atoms) a m h record { named = inl refl; stream = refl; equal = record { equal = λ v j. refl } }
