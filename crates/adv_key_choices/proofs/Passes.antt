-- Passes over choices: one keeps those that no one before is at most, and two leave the least ones.
use Rattle.std.proofs.Common.{◌≡◌, ℕ, zero, suc, ◌+◌, ◌<◌, ◌≤◌, inl, inr, List, [], ◌∷◌, ◌++◌, length, take, get_or, slice_index_or, AllPairs, Contains, refl, sym, subst, arith}
use Rattle.std.specs.Prelude.{reverse}
use Rattle.std.specs.List.{Any}
use Rattle.std.proofs.lemmas.List.{take_more, take_all, reverse-append}
use Rattle.std.proofs.lemmas.List.Elements.{Contains-get_or}
use Rattle.std.proofs.lemmas.List.Kept.{AllPairs-cons}
use Rattle.sem_query.proofs.Has.{Has, first, later, Has-from_contains, Contains-from_has, Has-append_left, Has-append_right, Has-append_cases}
use Rattle.adv_key_choices.specs.declared.choice.Choice.{Choice}
use Rattle.adv_key_choices.specs.declared.choice.KeyedQuery.{KeyedQuery}
use Rattle.adv_key_choices.specs.Choices.{IsChoice, IsExact, IsAtMost, AreLeast}
use Rattle.adv_key_choices.specs.Extending.{AreExactUpTo}
use Rattle.adv_key_choices.specs.Sifting.{IsSublist, none, kept, left, InOrder, alone, before, AddsUncovered, put, covered, IsPassed}
use Rattle.adv_key_choices.proofs.Listed.{stays, stands-last, old-or-last, among-more}

module _ {A : Type 0} where
  sublist-kept : {xs ys : List A} (z : A) → IsSublist xs ys → IsSublist (xs ++ z ∷ []) (ys ++ z ∷ [])
  sublist-kept z none = kept none
  sublist-kept z (kept s) = kept (sublist-kept z s)
  sublist-kept z (left s) = left (sublist-kept z s)

  sublist-left : {xs ys : List A} (z : A) → IsSublist xs ys → IsSublist xs (ys ++ z ∷ [])
  sublist-left z none = left none
  sublist-left z (kept s) = kept (sublist-left z s)
  sublist-left z (left s) = left (sublist-left z s)

  sublist-has : {xs ys : List A} (z : A) → IsSublist xs ys → Has xs z → Has ys z
  sublist-has z none h = h
  sublist-has z (kept s) first = first
  sublist-has z (kept s) (later h) = later (sublist-has z s h)
  sublist-has z (left s) h = later (sublist-has z s h)

  pub sublist-contains : (xs ys : List A) (z : A) → IsSublist xs ys → Contains xs z → Contains ys z
  sublist-contains xs ys z s h = Contains-from_has ys z (sublist-has z s (Has-from_contains xs z h))

  reverse-more : (x : A) (xs : List A) → reverse (x ∷ xs) ≡ reverse xs ++ x ∷ []
  reverse-more x xs = reverse-append (x ∷ []) xs

  pub reverse-contains : (xs : List A) (z : A) → Contains xs z → Contains (reverse xs) z
  reverse-contains xs z h = Contains-from_has (reverse xs) z (has xs (Has-from_contains xs z h))
    where
      has : (ys : List A) → Has ys z → Has (reverse ys) z
      has [] h = elim h [ ]
      has (y ∷ ys) first = subst (λ (w : List A). Has w z) (sym (reverse-more z ys)) (Has-append_right (reverse ys) first)
      has (y ∷ ys) (later h) = subst (λ (w : List A). Has w z) (sym (reverse-more y ys)) (Has-append_left (y ∷ []) (has ys h))

  later-one : (y z : A) (ys : List A) → Has (y ∷ []) z → Has (y ∷ ys) z
  later-one y z ys first = first
  later-one y z ys (later k) = elim k [ ]

  reverse-has : (ys : List A) (z : A) → Has (reverse ys) z → Has ys z
  reverse-has [] z h = h
  reverse-has (y ∷ ys) z h = elim (Has-append_cases (reverse ys) (y ∷ []) z (subst (λ (w : List A). Has w z) (reverse-more y ys) h)) [
    | inl k ↦ later (reverse-has ys z k)
    | inr k ↦ later-one y z ys k
  ]

  pub reverse-from : (xs : List A) (z : A) → Contains (reverse xs) z → Contains xs z
  reverse-from xs z h = Contains-from_has xs z (reverse-has xs z (Has-from_contains (reverse xs) z h))

  module _ (R : A → A → Type 0) where
    order-more : (xs : List A) (z : A) → InOrder R xs → ((x : A) → Contains xs x → R x z) → InOrder R (xs ++ z ∷ [])
    order-more [] z alone f = before (λ y h. absurd (omega (arith, h.1))) alone
    order-more (x ∷ xs) z (before g o) f =
        before (λ y h. elim (old-or-last xs (xs ++ z ∷ []) z y refl h) [ inl k ↦ g y k | inr e ↦ subst (R x) (sym e) (f x (Contains-from_has (x ∷ xs) x first)) ])
        (order-more xs z o (λ y h. f y (Contains-from_has (x ∷ xs) y (later (Has-from_contains xs y h)))))

    pub order-sublist : {xs ys : List A} → IsSublist xs ys → InOrder R ys → InOrder R xs
    order-sublist none o = alone
    order-sublist (kept s) (before g o) = before (λ z h. g z (Contains-from_has _ z (sublist-has z s (Has-from_contains _ z h)))) (order-sublist s o)
    order-sublist (left s) (before g o) = order-sublist s o

    pub order-pairs : (xs : List A) → InOrder R xs → AllPairs R xs
    order-pairs [] alone = λ i j d l m. absurd (omega (arith, m))
    order-pairs (x ∷ xs) (before g o) = AllPairs-cons R x xs (λ k d l. g (get_or xs k d) (Contains-get_or xs k d l)) (order-pairs xs o)

  pub order-reverse : (R : A → A → Type 0) (xs : List A) → InOrder R xs → InOrder (λ x y. R y x) (reverse xs)
  order-reverse R [] alone = alone
  order-reverse R (x ∷ xs) (before g o) =
      subst (InOrder (λ x y. R y x)) (sym (reverse-more x xs))
      (order-more (λ x y. R y x) (reverse xs) x (order-reverse R xs o) (λ y h. g y (reverse-from xs y h)))

  pub order-both : (R S : A → A → Type 0) (xs : List A) → InOrder R xs → InOrder S xs → InOrder (λ x y. R x y × S x y) xs
  order-both R S [] alone alone = alone
  order-both R S (x ∷ xs) (before f o) (before g p) = before (λ y h. (f y h, g y h)) (order-both R S xs o p)

module _ (queries : List KeyedQuery) where
  itself : (c : Choice) → IsAtMost queries c c
  itself c = ((λ k d l. record { home = λ j. j; deduped = λ j. inl j }), (λ s l e. e))

  onward : (c d e : Choice) → IsAtMost queries c d → IsAtMost queries d e → IsAtMost queries c e
  onward c d e f g = ((λ k x l. record { home = λ j. (g.0 k x l).home ((f.0 k x l).home j); deduped = λ j. (elim ((f.0 k x l).deduped j) [ inl m ↦ (g.0 k x l).deduped m | inr m ↦ inr ((g.0 k x l).home m) ]) }), (λ s l n. g.1 s l (f.1 s l n)))

  -- some of a list is at most a choice
  abbrev pub Covers : List Choice → Choice → Type 0
  Covers list d = Any (λ c. IsAtMost queries c d) list

  covers-at : (list : List Choice) (c d : Choice) → Contains list c → IsAtMost queries c d → Covers list d
  covers-at list c d h a = (h.0, c, h.1, h.2, a)

  stays-covered : (old new : List Choice) (x d : Choice) → new ≡ old ++ x ∷ [] → Covers old d → Covers new d
  stays-covered old new x d e w = covers-at new w.1 d (stays old new x w.1 e (w.0, w.2, w.3)) w.4

  pub passed-none : IsPassed queries [] []
  passed-none = record { sublist = none; covers = λ d h. absurd (omega (arith, h.1)); forward = alone }

  pub passed-more : (choices old new : List Choice) (i : ℕ) (e : Choice) → i < length choices → IsPassed queries (take i choices) old
      → AddsUncovered queries (slice_index_or choices i e) old new → IsPassed queries (take (i + 1) choices) new
  passed-more choices old new i e l p (put n is) = record {
    sublist = subst (IsSublist new) (sym (take_more choices i e l)) (subst (λ (w : List Choice). IsSublist w (take i choices ++ get_or choices i e ∷ [])) (sym is) (sublist-kept (get_or choices i e) p.sublist));
    covers = λ d h. elim (among-more choices i e d l h) [
      | inl k ↦ stays-covered old new (get_or choices i e) d is (p.covers d k)
      | inr m ↦ covers-at new (get_or choices i e) d (stands-last old new (get_or choices i e) is) (subst (IsAtMost queries (get_or choices i e)) (sym m) (itself (get_or choices i e)))
    ];
    forward = subst (InOrder (λ c d. ¬ IsAtMost queries c d)) (sym is) (order-more (λ c d. ¬ IsAtMost queries c d) old (get_or choices i e) p.forward (λ x h a. n (covers-at old x (get_or choices i e) h a)));
  }
  passed-more choices old new i e l p (covered w is) = record {
    sublist = subst (IsSublist new) (sym (take_more choices i e l)) (subst (λ (w : List Choice). IsSublist w (take i choices ++ get_or choices i e ∷ [])) (sym is) (sublist-left (get_or choices i e) p.sublist));
    covers = λ d h. subst (λ (z : List Choice). Covers z d) (sym is) (elim (among-more choices i e d l h) [
      | inl k ↦ p.covers d k
      | inr m ↦ subst (Covers old) (sym m) w
    ]);
    forward = subst (InOrder (λ c d. ¬ IsAtMost queries c d)) (sym is) p.forward;
  }

  pub passed-all : (choices list : List Choice) (i : ℕ) → length choices ≤ i → IsPassed queries (take i choices) list → IsPassed queries choices list
  passed-all choices list i l p = subst (λ (z : List Choice). IsPassed queries z list) (take_all i choices l) p

  pub passed-same : (xs ys list : List Choice) → xs ≡ ys → IsPassed queries xs list → IsPassed queries ys list
  passed-same xs ys list e p = subst (λ (z : List Choice). IsPassed queries z list) e p

  pub least-same : (widths : List ℕ) (xs ys : List Choice) → xs ≡ ys → AreLeast queries widths xs → AreLeast queries widths ys
  least-same widths xs ys e p = subst (AreLeast queries widths) e p

  -- a stream that has columns is one of them
  is-stream : (widths : List ℕ) (t column : ℕ) → column < slice_index_or widths t 0 → t < length widths
  is-stream [] t column l = absurd (omega (arith, l))
  is-stream (w ∷ ws) zero column l = omega arith
  is-stream (w ∷ ws) (suc t) column l = let r = is-stream ws t column l in omega (arith, r)

  module _ (widths : List ℕ) (all one two : List Choice) (are : AreExactUpTo queries widths (length widths) all) (p : IsPassed queries all one)
      (s : IsPassed queries (reverse one) two) where
    from-all : (c : Choice) → Contains (reverse two) c → Contains all c
    from-all c h = sublist-contains one all c p.sublist (reverse-from one c (sublist-contains two (reverse one) c s.sublist (reverse-from two c h)))

    one-below : (d : Choice) → IsChoice widths d → IsExact queries d → Covers (reverse two) d
    one-below d c x =
        let w = p.covers d (are.all d (record { choice = c; later = λ t column e. is-stream widths t column (c.inside t column e); exact = x })) in
        let y = s.covers w.1 (reverse-contains one w.1 (w.0, w.2, w.3)) in
        covers-at (reverse two) y.1 d (reverse-contains two y.1 (y.0, y.2, y.3)) (onward y.1 w.1 d y.4 w.4)

    -- what two passes leave, the second one from behind
    pub least-left : AreLeast queries widths (reverse two)
    least-left = record {
      exact = λ k d l. (let u = are.each _ (from-all (get_or (reverse two) k d) (Contains-get_or (reverse two) k d l)) in (u.choice, u.exact));
      below = one-below;
      apart = order-pairs (λ c d. (¬ IsAtMost queries c d) × (¬ IsAtMost queries d c)) (reverse two)
          (order-reverse (λ c d. (¬ IsAtMost queries d c) × (¬ IsAtMost queries c d)) two
          (order-both (λ c d. ¬ IsAtMost queries d c) (λ c d. ¬ IsAtMost queries c d) two
          (order-sublist (λ c d. ¬ IsAtMost queries d c) s.sublist (order-reverse (λ c d. ¬ IsAtMost queries c d) one p.forward))
          s.forward));
    }
