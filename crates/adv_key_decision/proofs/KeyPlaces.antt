-- The keys at the places of FROM.
use Rattle.std.proofs.Common.{◌≡◌, ℕ, ◌+◌, ◌<◌, ◌≤◌, ◌⊎◌, inl, inr, length, slice_index_or, Option, None, Some, refl, sym, ap, ◌∙◌, subst, arith}
use Rattle.sem_query.specs.declared.atom.Attr.{Attr}
use Rattle.sem_query.specs.Query.{QueryValue}
use Rattle.sem_sharding.specs.Keys.{Keys, IsKey}
use Rattle.adv_key_decision.specs.Equal.{AreSeenEqual}
use Rattle.adv_key_decision.specs.Judged.{key_of_place, AreAllSeenEqual, IsEqualAt, IsOneUnequal}

of-place : (n : ℕ) (o : Option ℕ) (a : Attr) → key_of_place n o ≡ Some a → (a.stream ≡ n) × (o ≡ Some a.column)
of-place n None a e = absurd cc
of-place n (Some column) a e =
    let f : record { stream = n; column = column } ≡ a = cc in
    (ap (λ (b : Attr). b.stream) (sym f), ap (λ (b : Attr). Some b.column) f)

module _ (q : QueryValue) (keys : Keys) (place : ℕ) (o : Option Attr) (e : o ≡ key_of_place place (keys (slice_index_or q.from place 0))) where
  -- a key at the place is the one that is told
  pub key-is : (b : Attr) → b.stream ≡ place → IsKey q keys b → o ≡ Some b
  key-is b m k =
      let f : keys (slice_index_or q.from place 0) ≡ Some b.column = ap (λ n. keys (slice_index_or q.from n 0)) (sym m) ∙ k.key in
      let g : Some record { stream = place; column = b.column } ≡ Some b = (λ t. Some record { stream = sym m t; column = b.column }) in
      e ∙ ap (key_of_place place) f ∙ g

  -- and the one that is told is a key
  pub is-key : place < length q.from → (a : Attr) → o ≡ Some a → (a.stream ≡ place) × IsKey q keys a
  is-key l a s =
      let p = of-place place (keys (slice_index_or q.from place 0)) a (sym e ∙ s) in
      (p.0, record { place = omega (arith, p.0, l); key = ap (λ n. keys (slice_index_or q.from n 0)) p.0 ∙ p.1 })

  pub no-key : o ≡ None → (b : Attr) → b.stream ≡ place → IsKey q keys b → {R : Type 0} → R
  no-key n b m k = let f : None ≡ Some b = sym n ∙ key-is b m k in absurd cc

  pub equal-at : (a b : Attr) → o ≡ Some b → AreSeenEqual q a b → IsEqualAt q keys a place
  equal-at a b s w c m k = let f : b ≡ c = (let g : Some b ≡ Some c = sym s ∙ key-is c m k in cc) in subst (AreSeenEqual q a) f w

  pub unequal-at : place < length q.from → (a b : Attr) → o ≡ Some b → IsEqualAt q keys a place → AreSeenEqual q a b
  unequal-at l a b s w = let k = is-key l b s in w b k.0 k.1

-- the next place, or one before
last-or-before : (k i : ℕ) → k < i + 1 → (k < i) ⊎ (k ≡ i)
last-or-before k i l = grind arith

module _ (q : QueryValue) (keys : Keys) where
  -- none of the first places has a key
  abbrev pub NoneBefore : ℕ → Type 0
  NoneBefore n = (a : Attr) → a.stream < n → ¬ IsKey q keys a

  pub none-more : (n : ℕ) (o : Option Attr) → o ≡ key_of_place n (keys (slice_index_or q.from n 0)) → o ≡ None → NoneBefore n → NoneBefore (n + 1)
  none-more n o e s h a l k = elim (last-or-before a.stream n l) [
    | inl m ↦ h a m k
    | inr m ↦ no-key q keys n o e s a m k
  ]

  pub none-all : (n : ℕ) → length q.from ≤ n → NoneBefore n → (a : Attr) → ¬ IsKey q keys a
  none-all n l h a k = h a (omega (arith, l, k.place)) k

  -- the keys of the first places are seen to be equal to a column
  abbrev pub EqualBefore : Attr → ℕ → Type 0
  EqualBefore a n = (b : Attr) → b.stream < n → IsKey q keys b → AreSeenEqual q a b

  pub equal-more : (a : Attr) (n : ℕ) → EqualBefore a n → IsEqualAt q keys a n → EqualBefore a (n + 1)
  equal-more a n h w b l k = elim (last-or-before b.stream n l) [
    | inl m ↦ h b m k
    | inr m ↦ w b m k
  ]

  pub equal-all : (a : Attr) (n : ℕ) → length q.from ≤ n → EqualBefore a n → AreAllSeenEqual q keys a
  equal-all a n l h b k = h b (omega (arith, l, k.place)) k

  pub one-unequal : (a : Attr) (n : ℕ) → n < length q.from → ¬ IsEqualAt q keys a n → IsOneUnequal q keys a
  one-unequal a n l w = by (key_of_place n (keys (slice_index_or q.from n 0))) refl
    where
      by : (o : Option Attr) → o ≡ key_of_place n (keys (slice_index_or q.from n 0)) → IsOneUnequal q keys a
      by None e = absurd (w (λ b m k. no-key q keys n None e refl b m k))
      by (Some b) e = record { key = b; is = (is-key q keys n (Some b) e l b refl).1; unequal = λ s. w (equal-at q keys n (Some b) e a b refl s) }
