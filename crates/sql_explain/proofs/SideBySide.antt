-- Two lists of one length, whose items are written side by side.
use Rattle.std.proofs.Common.{◌≡◌, ℕ, suc, ◌+◌, ◌<◌, ◌≤◌, ◌==◌, true, false, List, [], ◌∷◌, length, get_or, take, flat_map, Result, arith, refl, sym, subst}
use Rattle.std.proofs.lemmas.Bool.Decides.{nat_tests}
use Rattle.std.proofs.lemmas.Slice.Zip.{length-zip, get_or-zip}
use Rattle.std.specs.List.{zip}
use Rattle.std.specs.Result.{IsErr}
use Rattle.io_streams.specs.Sink.{SinkState, Wrote, BrokeOff, Writes}
use Rattle.io_streams.proofs.Writing.{Wrote-nil}
use Rattle.sql_explain.proofs.Writers.{item_broke, item_wrote, all_wrote}

-- the place is one of both lists side by side
inside : {A B : Type 0} (ks : List A) (vs : List B) (i : ℕ) → length ks ≡ length vs → i < length ks → i < length (zip ks vs)
inside ks vs i e lt = rw length-zip (omega arith)

-- the text of two items broke off
pub pair_broke : {T E A B : Type 0} (f : A → B → List ℕ) (ks : List A) (vs : List B) (i : ℕ) (k : A) (v : B) (r : Result T E) (a b c : SinkState) → length ks ≡ length vs → IsErr r → i < length ks → Wrote a b (flat_map (λ x. f x.0 x.1) (take i (zip ks vs))) → BrokeOff b c (f (get_or ks i k) (get_or vs i v)) → Writes r a c (flat_map (λ x. f x.0 x.1) (zip ks vs))
pair_broke {A = A} {B = B} f ks vs i k v r a b c same e lt p q =
    let P : A × B → Type 0 = λ x. BrokeOff b c (f x.0 x.1) in
    item_broke (λ x. f x.0 x.1) (zip ks vs) i (k, v) r a b c e (inside ks vs i same lt) p (subst P (sym (get_or-zip ks vs i (k, v) lt (omega arith))) q)

-- the text of two more items was written
pub pair_wrote : {A B : Type 0} (f : A → B → List ℕ) (ks : List A) (vs : List B) (i : ℕ) (k : A) (v : B) (a b c : SinkState) → length ks ≡ length vs → i < length ks → Wrote a b (flat_map (λ x. f x.0 x.1) (take i (zip ks vs))) → Wrote b c (f (get_or ks i k) (get_or vs i v)) → Wrote a c (flat_map (λ x. f x.0 x.1) (take (i + 1) (zip ks vs)))
pair_wrote {A = A} {B = B} f ks vs i k v a b c same lt p q =
    let P : A × B → Type 0 = λ x. Wrote b c (f x.0 x.1) in
    item_wrote (λ x. f x.0 x.1) (zip ks vs) i (k, v) a b c (inside ks vs i same lt) p (subst P (sym (get_or-zip ks vs i (k, v) lt (omega arith))) q)

-- the texts of all were written
pub pairs_wrote : {A B : Type 0} (f : A → B → List ℕ) (ks : List A) (vs : List B) (i : ℕ) (a b : SinkState) → length ks ≡ length vs → length ks ≤ i → Wrote a b (flat_map (λ x. f x.0 x.1) (take i (zip ks vs))) → Wrote a b (flat_map (λ x. f x.0 x.1) (zip ks vs))
pairs_wrote f ks vs i a b same le p = let short : length (zip ks vs) ≤ i = rw length-zip (omega arith) in all_wrote (λ x. f x.0 x.1) (zip ks vs) i a b short p

-- a list of no items is empty
pub no_items : {X : Type 0} (xs : List X) → (length xs == 0) ≡ true → xs ≡ []
no_items [] e = refl
no_items (x ∷ xs) e = absurd (one_more (length xs) e)
  where
    one_more : (n : ℕ) → (suc n == 0) ≡ true → ⊥
    one_more n e = grind (arith, nat_tests, e)

-- no texts where the second list is empty
pub no_pairs : {A B : Type 0} (f : A → B → List ℕ) (ks : List A) (vs : List B) (a : SinkState) → vs ≡ [] → Wrote a a (flat_map (λ x. f x.0 x.1) (zip ks vs))
no_pairs {A} {B} f ks vs a e = subst (λ (l : List B). Wrote a a (flat_map (λ x. f x.0 x.1) (zip ks l))) (sym e) (none ks)
  where
    none : (l : List A) → Wrote a a (flat_map (λ x. f x.0 x.1) (zip l []))
    none [] = Wrote-nil a
    none (x ∷ l) = Wrote-nil a

-- and one that is empty has none
pub is_empty : {X : Type 0} (xs : List X) → xs ≡ [] → (length xs == 0) ≡ false → ⊥
is_empty [] e f = cc
is_empty (x ∷ xs) e f = cc
