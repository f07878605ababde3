-- Lists that grow at their end, and one place of a list that is set.
use Rattle.std.proofs.Common.{◌≡◌, ℕ, zero, suc, ◌+◌, ◌<◌, ◌≤◌, ◌⊎◌, inl, inr, List, [], ◌∷◌, ◌++◌, length, take, get_or, slice_index_or, All, Contains, refl, sym, ap, subst, arith}
use Rattle.std.specs.Prelude.{slice_set}
use Rattle.std.proofs.lemmas.List.{take_more, take_all}
use Rattle.std.proofs.lemmas.List.Elements.{All-push}
use Rattle.sem_query.proofs.Has.{Has, first, later, Has-from_contains, Contains-from_has, Has-append_left, Has-append_right, Has-append_cases}

one-element : {X : Type 0} (x c : X) → Has (x ∷ []) c → c ≡ x
one-element x c first = refl
one-element x c (later h) = elim h [ ]

pub last-or-before : (k i : ℕ) → k < i + 1 → (k < i) ⊎ (k ≡ i)
last-or-before k i l = grind arith

module _ {X : Type 0} where
  pub stays : (old new : List X) (x c : X) → new ≡ old ++ x ∷ [] → Contains old c → Contains new c
  stays old new x c e h = subst (λ (z : List X). Contains z c) (sym e) (Contains-from_has (old ++ x ∷ []) c (Has-append_left (x ∷ []) (Has-from_contains old c h)))

  pub stands-last : (old new : List X) (x : X) → new ≡ old ++ x ∷ [] → Contains new x
  stands-last old new x e = subst (λ (z : List X). Contains z x) (sym e) (Contains-from_has (old ++ x ∷ []) x (Has-append_right old first))

  pub old-or-last : (old new : List X) (x c : X) → new ≡ old ++ x ∷ [] → Contains new c → Contains old c ⊎ (c ≡ x)
  old-or-last old new x c e h = elim (Has-append_cases old (x ∷ []) c (Has-from_contains (old ++ x ∷ []) c (subst (λ (z : List X). Contains z c) e h))) [
    | inl k ↦ inl (Contains-from_has old c k)
    | inr k ↦ inr (one-element x c k)
  ]

  -- the first i and 1 elements
  pub among-more : (xs : List X) (i : ℕ) (d c : X) → i < length xs → Contains (take (i + 1) xs) c → Contains (take i xs) c ⊎ (c ≡ slice_index_or xs i d)
  among-more xs i d c l h = old-or-last (take i xs) (take (i + 1) xs) (get_or xs i d) c (take_more xs i d l) h

  pub among-all : (xs : List X) (i : ℕ) (c : X) → length xs ≤ i → Contains xs c → Contains (take i xs) c
  among-all xs i c l h = subst (λ (z : List X). Contains z c) (sym (take_all i xs l)) h

  pub one-more : (P : X → Type 0) (xs : List X) (i : ℕ) (d : X) → i < length xs → All P (take i xs) → P (slice_index_or xs i d) → All P (take (i + 1) xs)
  one-more P xs i d l a p = subst (All P) (sym (take_more xs i d l)) (All-push P (take i xs) (get_or xs i d) a p)

  pub all-of : (P : X → Type 0) (xs : List X) (i : ℕ) → length xs ≤ i → All P (take i xs) → All P xs
  all-of P xs i l a = subst (All P) (take_all i xs l) a

  -- a place that is set and set back
  pub set-back : (xs : List X) (n : ℕ) (a d : X) → n < length xs → slice_set (slice_set xs n a) n (slice_index_or xs n d) ≡ xs
  set-back [] n a d l = absurd (omega (arith, l))
  set-back (x ∷ xs) zero a d l = refl
  set-back (x ∷ xs) (suc n) a d l = ap (λ (z : List X). x ∷ z) (set-back xs n a d (omega (arith, l)))
