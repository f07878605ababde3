-- What an inequality with a known column excludes, breaks it; so a walk may leave it out.
use Rattle.std.proofs.Common.{◌≡◌, ℕ, zero, suc, ◌+◌, ◌-◌, ◌≤◌, Bool, true, false, not, cond, List, [], ◌∷◌, ◌++◌, refl, sym, ap, ◌∙◌, arith, ℤ, pos, ◌+ℤ◌, ◌≤ℤ◌, ◌<ℤ◌, ◌-ℤ◌, int_lt, if◌then◌else◌, ◌&&◌, ◌||◌}
use Rattle.std.specs.Prelude.{flat_map, nat_abs}
use Rattle.std.specs.List.{list_all}
use Rattle.std.proofs.lemmas.Bool.Decides.{nat_tests}
use Rattle.std.proofs.lemmas.Int.{ints}
use Rattle.sem_query.specs.Boxes.{dim_size, range_size, values_from}
use Rattle.sem_query.specs.declared.atom.Attr.{Attr}
use Rattle.sem_query.specs.declared.plan.Dim.{Dim}
use Rattle.sem_query.specs.declared.plan.Link.{Link}
use Rattle.sem_query.specs.Query.{attr_eq}
use Rattle.sem_query.specs.Combinations.{Found}
use Rattle.sem_query.specs.Probing.{is_known}
use Rattle.exec_synopsis.specs.Narrowing.{below, above, clip_by, clip}

-- the value meets the inequality with a known column, if this is one
abbrev pub is_allowed_by : ℕ → ℕ → Attr → (Attr → ℤ) → ℤ → Link → Bool
is_allowed_by arriving place a values x l =
    (not (attr_eq l.left a && is_known arriving place l.right) || int_lt x (values l.right))
    && (not (attr_eq l.right a && is_known arriving place l.left) || int_lt (values l.left) x)

-- the value meets all inequalities with known columns
abbrev pub is_allowed : ℕ → ℕ → List Link → (Attr → ℤ) → Attr → ℤ → Bool
is_allowed arriving place links values a x = list_all (is_allowed_by arriving place a values x) links

not-less : (x v : ℤ) → v ≤ℤ x → int_lt x v ≡ false
not-less x v l = by (int_lt x v) refl
  where
    by : (t : Bool) → int_lt x v ≡ t → t ≡ false
    by true e = absurd (omega (arith, ints, e, l))
    by false e = refl

module _ (H : ℤ → List Found) where
  none-in : (lo : ℤ) (n : ℕ) → ((v : ℤ) → lo ≤ℤ v → v <ℤ (lo +ℤ pos n) → H v ≡ []) → flat_map H (values_from lo n) ≡ []
  none-in lo zero h = refl
  none-in lo (suc n) h =
      let e : H lo ≡ [] = h lo (omega (arith, ints)) (omega (arith, ints)) in
      let f : flat_map H (values_from (lo +ℤ pos 1) n) ≡ [] = none-in (lo +ℤ pos 1) n (λ v a b. h v (omega (arith, ints, a)) (omega (arith, ints, b))) in
      λ k. e k ++ f k

  -- values left out at the end
  end-off : (lo : ℤ) (m n : ℕ) → m ≤ n → ((v : ℤ) → (lo +ℤ pos m) ≤ℤ v → v <ℤ (lo +ℤ pos n) → H v ≡ []) → flat_map H (values_from lo m) ≡ flat_map H (values_from lo n)
  end-off lo zero n l h = sym (none-in lo n (λ v a b. h v (omega (arith, ints, a)) b))
  end-off lo (suc m) zero l h = absurd (omega (arith, l))
  end-off lo (suc m) (suc n) l h =
      ap (λ fs. H lo ++ fs) (end-off (lo +ℤ pos 1) m n (omega (arith, l)) (λ v a b. h v (omega (arith, ints, a)) (omega (arith, ints, b))))

  -- values left out at the start
  start-off : (lo : ℤ) (m n : ℕ) → m ≤ n → ((v : ℤ) → lo ≤ℤ v → v <ℤ (lo +ℤ pos m) → H v ≡ []) → flat_map H (values_from (lo +ℤ pos m) (n - m)) ≡ flat_map H (values_from lo n)
  start-off lo zero n l h = λ k. flat_map H (values_from (same k) (less k))
    where
      same : (lo +ℤ pos 0) ≡ lo
      same = omega (arith, ints)

      less : n - 0 ≡ n
      less = omega arith
  start-off lo (suc m) zero l h = absurd (omega (arith, l))
  start-off lo (suc m) (suc n) l h =
      let e : H lo ≡ [] = h lo (omega (arith, ints)) (omega (arith, ints)) in
      let same : (lo +ℤ pos (suc m)) ≡ ((lo +ℤ pos 1) +ℤ pos m) = omega (arith, ints) in
      let less : suc n - suc m ≡ n - m = omega arith in
      (λ k. flat_map H (values_from (same k) (less k)))
      ∙ start-off (lo +ℤ pos 1) m n (omega (arith, l)) (λ v a b. h v (omega (arith, ints, a)) (omega (arith, ints, b)))
      ∙ ap (λ xs. xs ++ flat_map H (values_from (lo +ℤ pos 1) n)) (sym e)

  range-none : (d : Dim) → ((v : ℤ) → d.lo ≤ℤ v → v ≤ℤ d.hi → H v ≡ []) → flat_map H (values_from d.lo (dim_size d)) ≡ []
  range-none d h = by (int_lt d.hi d.lo) refl
    where
      by : (t : Bool) → int_lt d.hi d.lo ≡ t → flat_map H (values_from d.lo (cond t 0 (nat_abs (d.hi -ℤ d.lo) + 1))) ≡ []
      by true e = refl
      by false e = none-in d.lo (nat_abs (d.hi -ℤ d.lo) + 1) (λ v a b. h v a (omega (arith, ints, e, b)))

  range-below : (lo hi v : ℤ) → lo <ℤ v → v ≤ℤ hi → ((x : ℤ) → v ≤ℤ x → H x ≡ []) → flat_map H (values_from lo (range_size lo (v -ℤ pos 1))) ≡ flat_map H (values_from lo (range_size lo hi))
  range-below lo hi v a b h = by (int_lt (v -ℤ pos 1) lo) (int_lt hi lo) refl refl
    where
      by : (s t : Bool) → int_lt (v -ℤ pos 1) lo ≡ s → int_lt hi lo ≡ t → flat_map H (values_from lo (cond s 0 (nat_abs ((v -ℤ pos 1) -ℤ lo) + 1))) ≡ flat_map H (values_from lo (cond t 0 (nat_abs (hi -ℤ lo) + 1)))
      by true t e f = absurd (omega (arith, ints, e, a))
      by false true e f = absurd (omega (arith, ints, f, a, b))
      by false false e f = end-off lo (nat_abs ((v -ℤ pos 1) -ℤ lo) + 1) (nat_abs (hi -ℤ lo) + 1) (omega (arith, ints, a, b, e, f)) (λ x c d. h x (omega (arith, ints, a, c, e)))

  range-above : (lo hi v : ℤ) → lo ≤ℤ v → v <ℤ hi → ((x : ℤ) → x ≤ℤ v → H x ≡ []) → flat_map H (values_from (v +ℤ pos 1) (range_size (v +ℤ pos 1) hi)) ≡ flat_map H (values_from lo (range_size lo hi))
  range-above lo hi v a b h = by (int_lt hi (v +ℤ pos 1)) (int_lt hi lo) refl refl
    where
      by : (s t : Bool) → int_lt hi (v +ℤ pos 1) ≡ s → int_lt hi lo ≡ t → flat_map H (values_from (v +ℤ pos 1) (cond s 0 (nat_abs (hi -ℤ (v +ℤ pos 1)) + 1))) ≡ flat_map H (values_from lo (cond t 0 (nat_abs (hi -ℤ lo) + 1)))
      by true t e f = absurd (omega (arith, ints, e, b))
      by false true e f = absurd (omega (arith, ints, f, a, b))
      by false false e f =
          let m = nat_abs (v -ℤ lo) + 1 in
          let same : (v +ℤ pos 1) ≡ (lo +ℤ pos m) = omega (arith, ints, a) in
          let less : nat_abs (hi -ℤ (v +ℤ pos 1)) + 1 ≡ nat_abs (hi -ℤ lo) + 1 - m = omega (arith, ints, a, b, e, f) in
          (λ k. flat_map H (values_from (same k) (less k)))
          ∙ start-off lo m (nat_abs (hi -ℤ lo) + 1) (omega (arith, ints, a, b, f)) (λ x c d. h x (omega (arith, ints, a, d)))

  below-same : (d : Dim) (v : ℤ) → ((x : ℤ) → int_lt x v ≡ false → H x ≡ []) → flat_map H (values_from (below d v).lo (dim_size (below d v))) ≡ flat_map H (values_from d.lo (dim_size d))
  below-same d v h = by (int_lt d.lo v) (int_lt d.hi v) refl refl (below d v) refl
    where
      off : (x : ℤ) → v ≤ℤ x → H x ≡ []
      off x l = h x (not-less x v l)

      by : (s t : Bool) → int_lt d.lo v ≡ s → int_lt d.hi v ≡ t → (n : Dim) → n ≡ (if s then (if t then d else record { attr = d.attr; lo = d.lo; hi = v -ℤ pos 1 }) else record { attr = d.attr; lo = pos 1; hi = pos 0 })
          → flat_map H (values_from n.lo (dim_size n)) ≡ flat_map H (values_from d.lo (dim_size d))
      by true true e f n i = λ k. flat_map H (values_from (i k).lo (dim_size (i k)))
      by true false e f n i = (λ k. flat_map H (values_from (i k).lo (dim_size (i k)))) ∙ range-below d.lo d.hi v (omega (arith, ints, e)) (omega (arith, ints, f)) off
      by false t e f n i = (λ k. flat_map H (values_from (i k).lo (dim_size (i k)))) ∙ sym (range-none d (λ x a b. off x (omega (arith, ints, e, a))))

  above-same : (d : Dim) (v : ℤ) → ((x : ℤ) → int_lt v x ≡ false → H x ≡ []) → flat_map H (values_from (above d v).lo (dim_size (above d v))) ≡ flat_map H (values_from d.lo (dim_size d))
  above-same d v h = by (int_lt v d.hi) (int_lt v d.lo) refl refl (above d v) refl
    where
      off : (x : ℤ) → x ≤ℤ v → H x ≡ []
      off x l = h x (not-less v x l)

      by : (s t : Bool) → int_lt v d.hi ≡ s → int_lt v d.lo ≡ t → (n : Dim) → n ≡ (if s then (if t then d else record { attr = d.attr; lo = v +ℤ pos 1; hi = d.hi }) else record { attr = d.attr; lo = pos 1; hi = pos 0 })
          → flat_map H (values_from n.lo (dim_size n)) ≡ flat_map H (values_from d.lo (dim_size d))
      by true true e f n i = λ k. flat_map H (values_from (i k).lo (dim_size (i k)))
      by true false e f n i = (λ k. flat_map H (values_from (i k).lo (dim_size (i k)))) ∙ range-above d.lo d.hi v (omega (arith, ints, f)) (omega (arith, ints, e)) off
      by false t e f n i = (λ k. flat_map H (values_from (i k).lo (dim_size (i k)))) ∙ sym (range-none d (λ x a b. off x (omega (arith, ints, e, b))))

-- leaving out what the inequalities exclude changes nothing where it gives nothing
left-fails : (s t : Bool) → s ≡ false → s && t ≡ false
left-fails true t e = absurd cc
left-fails false t e = refl

right-fails : (s t : Bool) → t ≡ false → s && t ≡ false
right-fails true t e = e
right-fails false t e = refl

module _ (arriving place : ℕ) (values : Attr → ℤ) (a : Attr) where
  clip-by-attr : (l : Link) (d : Dim) → d.attr ≡ a → (clip_by arriving place l values d).attr ≡ a
  clip-by-attr l d e = by (attr_eq l.left d.attr && is_known arriving place l.right) (attr_eq l.right d.attr && is_known arriving place l.left)
    where
      below-attr : (v : ℤ) (s t : Bool) → (if s then (if t then d else record { attr = d.attr; lo = d.lo; hi = v -ℤ pos 1 }) else record { attr = d.attr; lo = pos 1; hi = pos 0 }).attr ≡ a
      below-attr v true true = e
      below-attr v true false = e
      below-attr v false t = e

      above-attr : (v : ℤ) (s t : Bool) → (if s then (if t then d else record { attr = d.attr; lo = v +ℤ pos 1; hi = d.hi }) else record { attr = d.attr; lo = pos 1; hi = pos 0 }).attr ≡ a
      above-attr v true true = e
      above-attr v true false = e
      above-attr v false t = e

      by : (s t : Bool) → (if s then below d (values l.right) else (if t then above d (values l.left) else d)).attr ≡ a
      by true t = below-attr (values l.right) (int_lt d.lo (values l.right)) (int_lt d.hi (values l.right))
      by false true = above-attr (values l.left) (int_lt (values l.left) d.hi) (int_lt (values l.left) d.lo)
      by false false = e

  clip-by-same : (H : ℤ → List Found) (l : Link) (d : Dim) → d.attr ≡ a → ((x : ℤ) → is_allowed_by arriving place a values x l ≡ false → H x ≡ [])
      → flat_map H (values_from (clip_by arriving place l values d).lo (dim_size (clip_by arriving place l values d))) ≡ flat_map H (values_from d.lo (dim_size d))
  clip-by-same H l d e h =
      by (attr_eq l.left a && is_known arriving place l.right) (attr_eq l.right a && is_known arriving place l.left) h (clip_by arriving place l values d)
      (λ k. if attr_eq l.left (e k) && is_known arriving place l.right then below d (values l.right) else (if attr_eq l.right (e k) && is_known arriving place l.left then above d (values l.left) else d))
    where
      by : (s t : Bool) → ((x : ℤ) → (not s || int_lt x (values l.right)) && (not t || int_lt (values l.left) x) ≡ false → H x ≡ []) → (n : Dim) → n ≡ (if s then below d (values l.right) else (if t then above d (values l.left) else d))
          → flat_map H (values_from n.lo (dim_size n)) ≡ flat_map H (values_from d.lo (dim_size d))
      by true t h n i = (λ k. flat_map H (values_from (i k).lo (dim_size (i k)))) ∙ below-same H d (values l.right) (λ x f. h x (left-fails (int_lt x (values l.right)) _ f))
      by false true h n i = (λ k. flat_map H (values_from (i k).lo (dim_size (i k)))) ∙ above-same H d (values l.left) (λ x f. h x f)
      by false false h n i = λ k. flat_map H (values_from (i k).lo (dim_size (i k)))

  pub clip-same : (H : ℤ → List Found) (links : List Link) (d : Dim) → d.attr ≡ a → ((x : ℤ) → is_allowed arriving place links values a x ≡ false → H x ≡ [])
      → flat_map H (values_from (clip arriving place links values d).lo (dim_size (clip arriving place links values d))) ≡ flat_map H (values_from d.lo (dim_size d))
  clip-same H [] d e h = refl
  clip-same H (l ∷ ls) d e h =
      clip-same H ls (clip_by arriving place l values d) (clip-by-attr l d e) (λ x f. h x (right-fails (is_allowed_by arriving place a values x l) _ f))
      ∙ clip-by-same H l d e (λ x f. h x (left-fails _ _ f))

-- an excluded value breaks an inequality, whatever is chosen later
module _ (arriving place : ℕ) (a : Attr) (U V : Attr → ℤ) (kept : (y : Attr) → is_known arriving place y ≡ true → V y ≡ U y) (x : ℤ) (own : V a ≡ x) where
  same-attr : (b c : Attr) → attr_eq b c ≡ true → b ≡ c
  same-attr b c e =
      let s : b.stream ≡ c.stream = grind (arith, nat_tests) in
      let t : b.column ≡ c.column = grind (arith, nat_tests) in
      λ k. record { stream = s k; column = t k }

  both-true : (s t : Bool) → s && t ≡ true → (s ≡ true) × (t ≡ true)
  both-true true t e = (refl, e)
  both-true false t e = absurd cc

  breaks-one : (l : Link) → is_allowed_by arriving place a U x l ≡ false → int_lt (V l.left) (V l.right) ≡ false
  breaks-one l = by (attr_eq l.left a && is_known arriving place l.right) (attr_eq l.right a && is_known arriving place l.left) refl refl
    where
      left-broken : (attr_eq l.left a && is_known arriving place l.right) ≡ true → int_lt x (U l.right) ≡ false → int_lt (V l.left) (V l.right) ≡ false
      left-broken g f =
          let b = both-true (attr_eq l.left a) (is_known arriving place l.right) g in
          (λ k. int_lt ((ap V (same-attr l.left a b.0) ∙ own) k) (kept l.right b.1 k)) ∙ f

      right-broken : (attr_eq l.right a && is_known arriving place l.left) ≡ true → int_lt (U l.left) x ≡ false → int_lt (V l.left) (V l.right) ≡ false
      right-broken g f =
          let b = both-true (attr_eq l.right a) (is_known arriving place l.left) g in
          (λ k. int_lt (kept l.left b.1 k) ((ap V (same-attr l.right a b.0) ∙ own) k)) ∙ f

      by : (s t : Bool) → (attr_eq l.left a && is_known arriving place l.right) ≡ s → (attr_eq l.right a && is_known arriving place l.left) ≡ t
          → (not s || int_lt x (U l.right)) && (not t || int_lt (U l.left) x) ≡ false → int_lt (V l.left) (V l.right) ≡ false
      by true true e g f = both (int_lt x (U l.right)) refl f
        where
          both : (u : Bool) → int_lt x (U l.right) ≡ u → u && int_lt (U l.left) x ≡ false → int_lt (V l.left) (V l.right) ≡ false
          both true p q = right-broken g q
          both false p q = left-broken e p
      by true false e g f = left-broken e (whole (int_lt x (U l.right)) f)
        where
          whole : (u : Bool) → u && true ≡ false → u ≡ false
          whole true q = q
          whole false q = refl
      by false true e g f = right-broken g f
      by false false e g f = absurd cc

  pub breaks-less : (links : List Link) → is_allowed arriving place links U a x ≡ false → list_all (λ l. int_lt (V l.left) (V l.right)) links ≡ false
  breaks-less [] e = absurd cc
  breaks-less (l ∷ ls) e = by (is_allowed_by arriving place a U x l) refl e (λ g. breaks-less ls g)
    where
      by : (t : Bool) → is_allowed_by arriving place a U x l ≡ t → t && is_allowed arriving place ls U a x ≡ false → (is_allowed arriving place ls U a x ≡ false → list_all (λ m. int_lt (V m.left) (V m.right)) ls ≡ false)
          → int_lt (V l.left) (V l.right) && list_all (λ m. int_lt (V m.left) (V m.right)) ls ≡ false
      by true f g later = right-fails (int_lt (V l.left) (V l.right)) _ (later g)
      by false f g later = left-fails _ _ (breaks-one l f)
