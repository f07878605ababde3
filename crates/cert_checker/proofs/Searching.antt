-- Loops that look for an element with a property.
use Rattle.std.proofs.Common.{◌≡◌, ℕ, ◌+◌, ◌<◌, ◌≤◌, Bool, true, false, not, IsTrue, List, length, take, get_or, slice_index_or, All, Contains, refl, sym, subst}
use Rattle.std.specs.List.{Any}
use Rattle.std.proofs.lemmas.List.{take_more, take_all}
use Rattle.std.proofs.lemmas.List.Elements.{Contains-get_or, All-contains, All-push}

module _ {X : Type 0} (P : X → Type 0) where
  pub any_at : (xs : List X) (i : ℕ) (d : X) → i < length xs → P (slice_index_or xs i d) → Any P xs
  any_at xs i d l p = let c : Contains xs (slice_index_or xs i d) = Contains-get_or xs i d l in (c.0, slice_index_or xs i d, c.1, c.2, p)

  pub no_more : (xs : List X) (i : ℕ) (d : X) → i < length xs → All (λ x. ¬ P x) (take i xs) → ¬ P (slice_index_or xs i d) → All (λ x. ¬ P x) (take (i + 1) xs)
  no_more xs i d l a n = subst (All (λ x. ¬ P x)) (sym (take_more xs i d l)) (All-push (λ x. ¬ P x) (take i xs) (get_or xs i d) a n)

  pub not_any : (xs : List X) (i : ℕ) → length xs ≤ i → All (λ x. ¬ P x) (take i xs) → ¬ Any P xs
  not_any xs i l a w = let b : All (λ x. ¬ P x) xs = subst (All (λ x. ¬ P x)) (take_all i xs l) a in All-contains (λ x. ¬ P x) xs w.1 b (w.0, w.2, w.3) w.4

  -- the same of a list that is known by an equation
  pub any_at_in : (xs ls : List X) (i : ℕ) (d : X) → ls ≡ xs → i < length ls → P (slice_index_or ls i d) → Any P xs
  any_at_in xs ls i d e l p = subst (Any P) e (any_at ls i d l p)

  pub no_more_at : (xs ls : List X) (i : ℕ) (d : X) → ls ≡ xs → i < length ls → All (λ x. ¬ P x) (take i xs) → ¬ P (slice_index_or ls i d) → All (λ x. ¬ P x) (take (i + 1) xs)
  no_more_at xs ls i d e l a n =
      let b : All (λ x. ¬ P x) (take i ls) = subst (λ (z : List X). All (λ x. ¬ P x) (take i z)) (sym e) a in
      subst (λ (z : List X). All (λ x. ¬ P x) (take (i + 1) z)) e (no_more ls i d l b n)

  pub not_any_at : (xs ls : List X) (i : ℕ) → ls ≡ xs → length ls ≤ i → All (λ x. ¬ P x) (take i xs) → ¬ Any P xs
  not_any_at xs ls i e l a = not_any xs i (subst (λ (z : List X). length z ≤ i) e l) a

  pub any_of : (xs : List X) (x : X) → Contains xs x → P x → Any P xs
  any_of xs x h p = (h.0, x, h.1, h.2, p)

-- ---- tests

pub not_from : (b : Bool) {R : Type 0} → (R → IsTrue b) → b ≡ false → ¬ R
not_from b f e r = let t : b ≡ true = f r in cc

pub not_iff : {R : Type 0} (b : Bool) → (IsTrue b → R) → (R → IsTrue b) → (IsTrue (not b) → ¬ R) × (¬ R → IsTrue (not b))
not_iff true f g = ((λ h. cc), (λ n. absurd (n (f refl))))
not_iff false f g = ((λ h r. let z = g r in cc), (λ n. refl))
