-- The first of one more column.
use Rattle.std.proofs.Common.{◌≡◌, ℕ, ◌+◌, ◌<◌, ◌≤◌, Bool, true, false, cond, ◌⊎◌, inl, inr, List, [], ◌∷◌, ◌++◌, length, take, get_or, Contains, Option, None, Some, refl, sym, subst, arith}
use Rattle.std.proofs.lemmas.List.{take_more, take_all}
use Rattle.std.proofs.lemmas.Bool.Decides.{nat_tests}
use Rattle.sem_query.proofs.Has.{Has, first, later, Has-append_left, Has-append_right, Has-append_cases, Has-from_contains, Contains-from_has}
use Rattle.sem_query.specs.declared.atom.Attr.{Attr}
use Rattle.sem_query.specs.Query.{attr_lt}
use Rattle.sem_query.specs.FirstBreak.{sooner_if, IsFirst, IsFirstAmong}

pub attr_lt-irreflexive : (a : Attr) → attr_lt a a ≡ false
attr_lt-irreflexive a = grind (arith, nat_tests)

attr_lt-trans : (a b c : Attr) → attr_lt a b ≡ true → attr_lt b c ≡ true → attr_lt a c ≡ true
attr_lt-trans a b c h k = grind (arith, nat_tests)

not_self : (a : Attr) → attr_lt a a ≡ true → ⊥
not_self a h = let e = attr_lt-irreflexive a in cc

module _ (P : Attr → Type 0) where
  in_more : (ys : List Attr) (x a : Attr) → Contains ys a → Contains (ys ++ x ∷ []) a
  in_more ys x a h = Contains-from_has _ a (Has-append_left _ (Has-from_contains ys a h))

  at_end : (ys : List Attr) (x : Attr) → Contains (ys ++ x ∷ []) x
  at_end ys x = Contains-from_has _ x (Has-append_right ys first)

  is_head : (x a : Attr) → Has (x ∷ []) a → x ≡ a
  is_head x a first = refl
  is_head x a (later h) = elim h [ ]

  cases : (ys : List Attr) (x a : Attr) → Contains (ys ++ x ∷ []) a → Contains ys a ⊎ (x ≡ a)
  cases ys x a h = elim (Has-append_cases ys (x ∷ []) a (Has-from_contains _ a h)) [ inl k ↦ inl (Contains-from_has ys a k) | inr k ↦ inr (is_head x a k) ]

  none_more : (ys : List Attr) (x : Attr) → ((a : Attr) → ¬ (Contains ys a × P a)) → ¬ P x → (a : Attr) → ¬ (Contains (ys ++ x ∷ []) a × P a)
  none_more ys x n m a w = elim (cases ys x a w.0) [ inl k ↦ n a (k, w.1) | inr e ↦ m (subst P (sym e) w.1) ]

  less_none : (ys : List Attr) (x : Attr) → ((a : Attr) → ¬ (Contains ys a × P a)) → (a : Attr) → attr_lt a x ≡ true → ¬ (Contains (ys ++ x ∷ []) a × P a)
  less_none ys x n a l w = elim (cases ys x a w.0) [ inl k ↦ n a (k, w.1) | inr e ↦ not_self x (subst (λ (z : Attr). attr_lt z x ≡ true) (sym e) l) ]

  less_skip : (ys : List Attr) (x c : Attr) → ((a : Attr) → attr_lt a c ≡ true → ¬ (Contains ys a × P a)) → ¬ P x → (a : Attr) → attr_lt a c ≡ true → ¬ (Contains (ys ++ x ∷ []) a × P a)
  less_skip ys x c n m a l w = elim (cases ys x a w.0) [ inl k ↦ n a l (k, w.1) | inr e ↦ m (subst P (sym e) w.1) ]

  less_keep : (ys : List Attr) (x c : Attr) → ((a : Attr) → attr_lt a c ≡ true → ¬ (Contains ys a × P a)) → attr_lt x c ≡ false → (a : Attr) → attr_lt a c ≡ true → ¬ (Contains (ys ++ x ∷ []) a × P a)
  less_keep ys x c n m a l w = elim (cases ys x a w.0) [ inl k ↦ n a l (k, w.1) | inr e ↦ (let t : attr_lt x c ≡ true = subst (λ (z : Attr). attr_lt z c ≡ true) (sym e) l in absurd cc) ]

  less_new : (ys : List Attr) (x c : Attr) → ((a : Attr) → attr_lt a c ≡ true → ¬ (Contains ys a × P a)) → attr_lt x c ≡ true → (a : Attr) → attr_lt a x ≡ true → ¬ (Contains (ys ++ x ∷ []) a × P a)
  less_new ys x c n m a l w = elim (cases ys x a w.0) [ inl k ↦ n a (attr_lt-trans a x c l m) (k, w.1) | inr e ↦ not_self x (subst (λ (z : Attr). attr_lt z x ≡ true) (sym e) l) ]

  picked : (t : Bool) (ys : List Attr) (x c : Attr) → attr_lt x c ≡ t → (Contains ys c × P c) → ((a : Attr) → attr_lt a c ≡ true → ¬ (Contains ys a × P a)) → P x → IsFirstAmong P (ys ++ x ∷ []) (cond t (Some x) (Some c))
  picked true ys x c e h n p = ((at_end ys x, p), less_new ys x c n e)
  picked false ys x c e h n p = ((in_more ys x c h.0, h.1), less_keep ys x c n e)

  pushed : (b : Bool) (ys : List Attr) (x : Attr) (r : Option Attr) → IsFirstAmong P ys r → (b ≡ true → P x) → (P x → b ≡ true) → IsFirstAmong P (ys ++ x ∷ []) (sooner_if b r x)
  pushed true ys x None n f g = ((at_end ys x, f refl), less_none ys x n)
  pushed true ys x (Some c) h f g = picked (attr_lt x c) ys x c refl h.0 h.1 (f refl)
  pushed false ys x None n f g = none_more ys x n (λ p. let e : false ≡ true = g p in absurd cc)
  pushed false ys x (Some c) h f g = ((in_more ys x c h.0.0, h.0.1), less_skip ys x c h.1 (λ p. let e : false ≡ true = g p in absurd cc))

  -- one more column
  pub first_more : (xs : List Attr) (i : ℕ) (d : Attr) (b : Bool) (r s : Option Attr) → i < length xs → IsFirstAmong P (take i xs) r → (b ≡ true → P (get_or xs i d)) → (P (get_or xs i d) → b ≡ true) → s ≡ sooner_if b r (get_or xs i d) → IsFirstAmong P (take (i + 1) xs) s
  first_more xs i d b r s l h f g e = subst (IsFirstAmong P (take (i + 1) xs)) (sym e) (subst (λ (z : List Attr). IsFirstAmong P z (sooner_if b r (get_or xs i d))) (sym (take_more xs i d l)) (pushed b (take i xs) (get_or xs i d) r h f g))

  pub first_end : (xs : List Attr) (i : ℕ) (r : Option Attr) → length xs ≤ i → IsFirstAmong P (take i xs) r → IsFirstAmong P xs r
  first_end xs i r l h = subst (λ (z : List Attr). IsFirstAmong P z r) (take_all i xs l) h

  -- the same of a list that is known by an equation
  pub first_more_at : (xs ls : List Attr) (i : ℕ) (d : Attr) (b : Bool) (r s : Option Attr) → ls ≡ xs → i < length ls → IsFirstAmong P (take i xs) r → (b ≡ true → P (get_or ls i d)) → (P (get_or ls i d) → b ≡ true) → s ≡ sooner_if b r (get_or ls i d) → IsFirstAmong P (take (i + 1) xs) s
  first_more_at xs ls i d b r s e l h f g k =
      let t : IsFirstAmong P (take i ls) r = subst (λ (z : List Attr). IsFirstAmong P (take i z) r) (sym e) h in
      subst (λ (z : List Attr). IsFirstAmong P (take (i + 1) z) s) e (first_more ls i d b r s l t f g k)

  pub first_end_at : (xs ls : List Attr) (i : ℕ) (r : Option Attr) → ls ≡ xs → length ls ≤ i → IsFirstAmong P (take i xs) r → IsFirstAmong P xs r
  first_end_at xs ls i r e l h = first_end xs i r (subst (λ (z : List Attr). length z ≤ i) e l) h

  pub none_among : IsFirstAmong P [] None
  none_among a w = elim (Has-from_contains [] a w.0) [ ]

  -- where each column with the property is among them, the first of them is the first of all
  pub first_of_all : (xs : List Attr) (r : Option Attr) → ((a : Attr) → P a → Contains xs a) → IsFirstAmong P xs r → IsFirst P r
  first_of_all xs None f h = λ a p. h a (f a p, p)
  first_of_all xs (Some c) f h = (h.0.1, λ a l p. h.1 a l (f a p, p))
