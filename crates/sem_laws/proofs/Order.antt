-- Ascending lists of tuples: what sorting, taking away and keeping once do to counts.
use Rattle.std.proofs.Common.{◌≡◌, ℕ, ◌+◌, ◌-◌, ◌*◌, min, ◌<◌, ◌≤◌, ◌⊎◌, inl, inr, List, [], ◌∷◌, filter, cond, not, Bool, true, false, ◌||◌, refl, sym, ap, ◌∙◌, subst, arith, ℤ, int_lt, ◌<ℤ◌}
use Rattle.std.proofs.lemmas.Int.{ints, by_lt_z}
use Rattle.std.proofs.lemmas.Bool.Decides.{Decides-int_eq}
use Rattle.std.specs.List.{list_any}
use Rattle.std.specs.Ordering.{int_eq}
use Rattle.sem_query.proofs.Has.{Has, later, Has-head}
use Rattle.sem_laws.proofs.OnePartFits.{has_cases}
use Rattle.sem_laws.proofs.Sums.{sums, bit}
use Rattle.sem_laws.proofs.Counts.{times}
use Rattle.sem_laws.proofs.Tests.{and-left, and-right, not_both, false_if, or-cases}
use Rattle.sem_query.specs.Tuples.{is_before, is_same, insert_sorted, sorted, remove_one, bag_minus, distinct_tuples, new_tuples}

pub same-itself : (t : List ℤ) → is_same t t ≡ true
same-itself [] = refl
same-itself (x ∷ t) = rw ((Decides-int_eq x x).1 refl) (same-itself t)

pub same-is : (t u : List ℤ) → is_same t u ≡ true → t ≡ u
same-is [] [] h = refl
same-is [] (y ∷ u) h = absurd cc
same-is (x ∷ t) [] h = absurd cc
same-is (x ∷ t) (y ∷ u) h =
    let e : x ≡ y = (Decides-int_eq x y).0 (and-left _ _ h) in
    let f : t ≡ u = same-is t u (and-right (int_eq x y) _ h) in
    cc

-- t is not after u
abbrev pub up_to : List ℤ → List ℤ → Bool
up_to t u = not (is_before u t)

pub before-itself : (t : List ℤ) → is_before t t ≡ false
before-itself [] = refl
before-itself (x ∷ t) = let e : int_lt x x ≡ false = grind (arith, ints) in rw e (before-itself t)

-- one step of comparing
step_before : (x y : ℤ) (b : Bool) → cond (int_lt x y) true (cond (int_lt y x) false b) ≡ true → (x <ℤ y) ⊎ ((x ≡ y) × (b ≡ true))
step_before x y b h =
    by_lt_z x y (λ l. inl l) (λ l. by_lt_z y x (λ m. absurd (grind (arith, ints, h, m))) (λ m. inr (omega (arith, ints, l, m), grind (arith, ints, h, l, m))))

before_less : (x y : ℤ) (b : Bool) → x <ℤ y → cond (int_lt x y) true (cond (int_lt y x) false b) ≡ true
before_less x y b l = grind (arith, ints)

before_equal : (x y : ℤ) (b : Bool) → x ≡ y → cond (int_lt x y) true (cond (int_lt y x) false b) ≡ b
before_equal x y b e = grind (arith, ints)

pub before-trans : (t u w : List ℤ) → is_before t u ≡ true → is_before u w ≡ true → is_before t w ≡ true
before-trans [] [] w h k = absurd cc
before-trans [] (y ∷ u) [] h k = absurd cc
before-trans [] (y ∷ u) (z ∷ w) h k = refl
before-trans (x ∷ t) [] w h k = absurd cc
before-trans (x ∷ t) (y ∷ u) [] h k = absurd cc
before-trans (x ∷ t) (y ∷ u) (z ∷ w) h k =
    elim (step_before x y (is_before t u) h) [
      | inl l ↦ elim (step_before y z (is_before u w) k) [
        | inl m ↦ before_less x z _ (omega (arith, ints, l, m))
        | inr m ↦ before_less x z _ (omega (arith, ints, l, m.0))
      ]
      | inr l ↦ elim (step_before y z (is_before u w) k) [
        | inl m ↦ before_less x z _ (omega (arith, ints, l.0, m))
        | inr m ↦ before_equal x z _ (l.0 ∙ m.0) ∙ before-trans t u w l.1 m.1
      ]
    ]

-- of two tuples one is before the other, or they are equal
pub before-three : (t u : List ℤ) → (is_before t u ≡ true) ⊎ ((is_before u t ≡ true) ⊎ (t ≡ u))
before-three [] [] = inr (inr refl)
before-three [] (y ∷ u) = inl refl
before-three (x ∷ t) [] = inr (inl refl)
before-three (x ∷ t) (y ∷ u) =
    by_lt_z x y (λ l. inl (before_less x y _ l)) (λ l. by_lt_z y x (λ m. inr (inl (before_less y x _ m))) (λ m.
    let e : x ≡ y = omega (arith, ints, l, m) in
    elim (before-three t u) [
      | inl b ↦ inl (before_equal x y _ e ∙ b)
      | inr o ↦ elim o [
        | inl b ↦ inr (inl (before_equal y x _ (sym e) ∙ b))
        | inr f ↦ inr (inr (let g : (x ∷ t) ≡ (y ∷ u) = cc in g))
      ]
    ]))

not_false : (b : Bool) → not b ≡ true → b ≡ false
not_false true h = absurd cc
not_false false h = refl

not_true : (b : Bool) → b ≡ false → not b ≡ true
not_true b h = rw h refl

pub up_to-itself : (t : List ℤ) → up_to t t ≡ true
up_to-itself t = not_true _ (before-itself t)

pub up_to-both : (t u : List ℤ) → up_to t u ≡ true → up_to u t ≡ true → t ≡ u
up_to-both t u h k = elim (before-three t u) [
  | inl b ↦ absurd (not_both _ b (not_false _ k))
  | inr o ↦ elim o [ inl b ↦ absurd (not_both _ b (not_false _ h)) | inr e ↦ e ]
]

before-not : (t u : List ℤ) → is_before t u ≡ true → is_before u t ≡ false
before-not t u h = false_if _ (λ k. not_both _ (before-trans t u t h k) (before-itself t))

pub up_to-trans : (t u w : List ℤ) → up_to t u ≡ true → up_to u w ≡ true → up_to t w ≡ true
up_to-trans t u w h k = not_true _ (false_if _ (λ b. elim (before-three u t) [
  | inl c ↦ not_both _ c (not_false _ h)
  | inr o ↦ elim o [
    | inl c ↦ not_both _ (before-trans w t u b c) (not_false _ k)
    | inr e ↦ not_both _ (subst (λ x. is_before w x ≡ true) (sym e) b) (not_false _ k)
  ]
]))

-- each is not after what follows
pub data Rises : List (List ℤ) → Type 0 where
  rises_nil : Rises []
  rises_more : {t : List ℤ} {ts : List (List ℤ)} → ((u : List ℤ) → Has ts u → up_to t u ≡ true) → Rises ts → Rises (t ∷ ts)

pub cond_has : {A : Type 0} (b : Bool) (xs ys : List A) (u : A) → Has (cond b xs ys) u
    → ((b ≡ true) × Has xs u) ⊎ ((b ≡ false) × Has ys u)
cond_has true xs ys u h = inl (refl, h)
cond_has false xs ys u h = inr (refl, h)

placed-has : (t : List ℤ) (us : List (List ℤ)) (u : List ℤ) → Has (insert_sorted t us) u → (t ≡ u) ⊎ Has us u
placed-has t [] u h = has_cases t u [] h
placed-has t (w ∷ us) u h =
    elim (cond_has (is_before w t) (w ∷ insert_sorted t us) (t ∷ w ∷ us) u h) [
      | inl k ↦ elim (has_cases w u (insert_sorted t us) k.1) [
        | inl e ↦ inr (Has-head u w us e)
        | inr l ↦ elim (placed-has t us u l) [ inl e ↦ inl e | inr m ↦ inr (later m) ]
      ]
      | inr k ↦ has_cases t u (w ∷ us) k.1
    ]

placed-rises : (t : List ℤ) (us : List (List ℤ)) → Rises us → Rises (insert_sorted t us)
placed-rises t [] r = rises_more (λ u h. elim h [ ]) rises_nil
placed-rises t (w ∷ us) (rises_more f r) = by (is_before w t) refl (placed-rises t us r)
  where
    by : (b : Bool) → is_before w t ≡ b → Rises (insert_sorted t us) → Rises (cond b (w ∷ insert_sorted t us) (t ∷ w ∷ us))
    by true e g = rises_more (λ u h. elim (placed-has t us u h) [
      | inl k ↦ subst (λ x. up_to w x ≡ true) k (not_true _ (before-not w t e))
      | inr k ↦ f u k
    ]) g
    by false e g = rises_more (λ u h. elim (has_cases w u us h) [
      | inl k ↦ subst (λ x. up_to t x ≡ true) k (not_true _ e)
      | inr k ↦ up_to-trans t w u (not_true _ e) (f u k)
    ]) (rises_more f r)

pub ascending-rises : (ts : List (List ℤ)) → Rises (sorted ts)
ascending-rises [] = rises_nil
ascending-rises (t ∷ ts) = placed-rises t (sorted ts) (ascending-rises ts)

times-placed : (z t : List ℤ) (us : List (List ℤ)) → times z (insert_sorted t us) ≡ bit (is_same z t) + times z us
unfolding sums
times-placed z t [] = refl
times-placed z t (w ∷ us) = by (is_before w t) (times-placed z t us)
  where
    by : (b : Bool) → times z (insert_sorted t us) ≡ bit (is_same z t) + times z us
        → times z (cond b (w ∷ insert_sorted t us) (t ∷ w ∷ us)) ≡ bit (is_same z t) + times z (w ∷ us)
    by true e = omega (arith, e)
    by false e = refl

pub times-ascending : (z : List ℤ) (ts : List (List ℤ)) → times z (sorted ts) ≡ times z ts
unfolding sums
times-ascending z [] = refl
times-ascending z (t ∷ ts) = omega (arith, times-placed z t (sorted ts), times-ascending z ts)

not_two : (z t u : List ℤ) → is_same t u ≡ false → bit (is_same z t) + bit (is_same z u) ≤ 1
not_two z t u e = by (is_same z t) (is_same z u) refl refl
  where
    by : (a b : Bool) → is_same z t ≡ a → is_same z u ≡ b → bit a + bit b ≤ 1
    by true true f g = absurd (not_both _ (subst (λ x. is_same x u ≡ true) (same-is z t f) g) e)
    by true false f g = omega arith
    by false true f g = omega arith
    by false false f g = omega arith

times-without : (z u : List ℤ) (ts : List (List ℤ)) → times z (remove_one u ts) ≡ times z ts - bit (is_same z u)
unfolding sums
times-without z u [] = omega arith
times-without z u (t ∷ ts) = by (is_same t u) refl (times-without z u ts)
  where
    by : (b : Bool) → is_same t u ≡ b → times z (remove_one u ts) ≡ times z ts - bit (is_same z u)
        → times z (cond b ts (t ∷ remove_one u ts)) ≡ (bit (is_same z t) + times z ts) - bit (is_same z u)
    by true e f =
        let g : bit (is_same z u) ≡ bit (is_same z t) = ap (λ x. bit (is_same z x)) (sym (same-is t u e)) in omega (arith, g)
    by false e f = omega (arith, f, not_two z t u e)

pub times-minus : (z : List ℤ) (ts us : List (List ℤ)) → times z (bag_minus ts us) ≡ times z ts - times z us
unfolding sums
times-minus z ts [] = omega arith
times-minus z ts (u ∷ us) = omega (arith, times-minus z (remove_one u ts) us, times-without z u ts)

head_counts : (s n m k : ℕ) → k ≡ 1 → s ≡ 1 → n ≡ k * m → s + n ≡ k * (1 + m)
head_counts s n m k e f g =
    let x : k * m ≡ 1 * m = ap (λ y. y * m) e in let y : k * (1 + m) ≡ 1 * (1 + m) = ap (λ w. w * (1 + m)) e in omega (arith, x, y, f, g)

times-filter : (p : List ℤ → Bool) (z : List ℤ) (ts : List (List ℤ)) → times z (filter p ts) ≡ bit (p z) * times z ts
unfolding sums
times-filter p z [] = omega arith
times-filter p z (t ∷ ts) = by (p t) (is_same z t) refl refl (times-filter p z ts)
  where
    by : (a b : Bool) → p t ≡ a → is_same z t ≡ b → times z (filter p ts) ≡ bit (p z) * times z ts
        → times z (cond a (t ∷ filter p ts) (filter p ts)) ≡ bit (p z) * (bit b + times z ts)
    by true true e f g =
        let k : bit (p z) ≡ 1 = ap (λ x. bit (p x)) (same-is z t f) ∙ ap bit e in let h : bit (is_same z t) ≡ 1 = ap bit f in head_counts _ _ _ _ k h g
    by true false e f g = let h : bit (is_same z t) ≡ 0 = ap bit f in omega (arith, h, g)
    by false true e f g = let k : bit (p z) ≡ 0 = ap (λ x. bit (p x)) (same-is z t f) ∙ ap bit e in
        let x : bit (p z) * times z ts ≡ 0 * times z ts
        = ap (λ y. y * times z ts) k in let y : bit (p z) * (1 + times z ts) ≡ 0 * (1 + times z ts) = ap (λ w. w * (1 + times z ts)) k in omega (arith, g, x, y)
    by false false e f g = g ∙ omega arith

pub times-once : (z : List ℤ) (ts : List (List ℤ)) → times z (distinct_tuples ts) ≡ min 1 (times z ts)
unfolding sums
times-once z [] = omega arith
times-once z (t ∷ ts) = by (is_same z t) (times-filter (λ u. not (is_same u t)) z (distinct_tuples ts)) (times-once z ts)
  where
    by : (b : Bool) → times z (filter (λ u. not (is_same u t)) (distinct_tuples ts)) ≡ bit (not b) * times z (distinct_tuples ts)
        → times z (distinct_tuples ts) ≡ min 1 (times z ts)
        → bit b + times z (filter (λ u. not (is_same u t)) (distinct_tuples ts)) ≡ min 1 (bit b + times z ts)
    by true e f = omega (arith, e)
    by false e f = omega (arith, e, f)

pub any-times : (z : List ℤ) (ts : List (List ℤ)) → list_any (is_same z) ts ≡ true → 0 < times z ts
unfolding sums
any-times z [] h = absurd cc
any-times z (t ∷ ts) h = elim (or-cases (is_same z t) _ h) [
  | inl e ↦ (let f : bit (is_same z t) ≡ 1 = ap bit e in omega (arith, f))
  | inr e ↦ omega (arith, any-times z ts e)
]

pub times-any : (z : List ℤ) (ts : List (List ℤ)) → 0 < times z ts → list_any (is_same z) ts ≡ true
unfolding sums
times-any z [] h = absurd (omega (arith, h))
times-any z (t ∷ ts) h = by (is_same z t) h (times-any z ts)
  where
    by : (b : Bool) → 0 < bit b + times z ts → (0 < times z ts → list_any (is_same z) ts ≡ true)
        → (b || list_any (is_same z) ts) ≡ true
    by true h f = refl
    by false h f = f (omega (arith, h))

pub times-fresh : (z : List ℤ) (table ts : List (List ℤ))
    → times z (new_tuples table ts) ≡ bit (not (list_any (is_same z) table)) * min 1 (times z ts)
times-fresh z table ts =
    times-filter (λ t. not (list_any (is_same t) table)) z (distinct_tuples ts)
    ∙ ap (λ n. bit (not (list_any (is_same z) table)) * n) (times-once z ts)

-- a rising list is determined by its counts
is_in : (z : List ℤ) (ts : List (List ℤ)) → 0 < times z ts → Has ts z
unfolding sums
is_in z [] h = absurd (omega (arith, h))
is_in z (t ∷ ts) h = by (is_same z t) refl (is_in z ts)
  where
    by : (b : Bool) → is_same z t ≡ b → (0 < times z ts → Has ts z) → Has (t ∷ ts) z
    by true e f = Has-head z t ts (sym (same-is z t e))
    by false e f = later (f (let g : bit (is_same z t) ≡ 0 = ap bit e in omega (arith, h, g)))

least : (y x : List ℤ) (ys : List (List ℤ)) → ((u : List ℤ) → Has ys u → up_to y u ≡ true) → Has (y ∷ ys) x → up_to y x ≡ true
least y x ys r h = elim (has_cases y x ys h) [
  | inl e ↦ subst (λ u. up_to y u ≡ true) e (up_to-itself y)
  | inr k ↦ r x k
]

counts_itself : (x : List ℤ) (xs : List (List ℤ)) → 0 < times x (x ∷ xs)
unfolding sums
counts_itself x xs = let e : bit (is_same x x) ≡ 1 = ap bit (same-itself x) in omega (arith, e)

pub same-counts : (xs ys : List (List ℤ)) → Rises xs → Rises ys → ((z : List ℤ) → times z xs ≡ times z ys) → xs ≡ ys
unfolding sums
same-counts [] [] a b h = refl
same-counts [] (y ∷ ys) a b h = absurd (omega (arith, h y, counts_itself y ys))
same-counts (x ∷ xs) [] a b h = absurd (omega (arith, h x, counts_itself x xs))
same-counts (x ∷ xs) (y ∷ ys) (rises_more f a) (rises_more g b) h =
    let p : up_to y x ≡ true = least y x ys g (is_in x (y ∷ ys) (omega (arith, h x, counts_itself x xs))) in
    let o : up_to x y ≡ true = least x y xs f (is_in y (x ∷ xs) (omega (arith, h y, counts_itself y ys))) in
    let e : x ≡ y = up_to-both x y o p in
    let t : xs ≡ ys = same-counts xs ys a b (λ z. omega (arith, h z, ap (λ u. bit (is_same z u)) e)) in
    cc
