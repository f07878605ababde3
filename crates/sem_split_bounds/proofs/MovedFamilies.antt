-- A set of columns without an end, with all that differences lead to, is moved step by step: families of solutions of a part.
use Rattle.std.proofs.Common.{◌≡◌, ◌≢◌, ℕ, zero, suc, ◌+◌, ◌*◌, ◌<◌, ◌≤◌, ◌⊎◌, inl, inr, List, length, not, Bool, true, false, ◌&&◌, refl, sym, ap, ◌∙◌, subst, arith, nat_eq, nat_abs, ℤ, pos, neg_ℤ, ◌+ℤ◌, ◌<ℤ◌, ◌≤ℤ◌, Contains}
use Rattle.std.specs.Prelude.{IsFalse}
use Rattle.std.proofs.lemmas.Int.{ints}
use Rattle.std.proofs.lemmas.List.Elements.{All-contains, Contains-get_or}
use Rattle.sem_query.specs.declared.atom.Attr.{Attr}
use Rattle.sem_query.specs.declared.atom.Domain.{Domain}
use Rattle.sem_query.specs.declared.part.Pair.{Pair}
use Rattle.sem_query.specs.declared.part.Sign.{Sign}
use Rattle.sem_query.specs.Query.{QueryValue, IsColumn, IsDomain, IsWithinLimits, attrs_of, is_filter}
use Rattle.sem_query.specs.Assignment.{Assignment}
use Rattle.sem_query.proofs.Has.{Has, Has-from_contains, Contains-from_has, same_at}
use Rattle.sem_whole.specs.System.{Difference, system, Solves}
use Rattle.sem_whole.specs.Signed.{with_signs}
use Rattle.sem_lower_bounds.specs.States.{NeedsStates}
use Rattle.sem_lower_bounds.specs.Within.{written}
use Rattle.sem_lower_bounds.proofs.Families.{IsFamily, single-needs, alone-needs, upward-needs, downward-needs}
use Rattle.sem_lower_bounds.proofs.Formed.{IsFormed}
use Rattle.sem_lower_bounds.proofs.Mixing.{score, score-fails, score-other, mixed-here, mixed-other}
use Rattle.sem_lower_bounds.proofs.OneLong.{mixed}
use Rattle.sem_lower_bounds.proofs.Ranges.{IsNear}
use Rattle.sem_lower_bounds.proofs.Sides.{written-attrs}
use Rattle.sem_lower_bounds.proofs.TwoLinks.{times_more, gone-small}
use Rattle.sem_split_bounds.proofs.Paths.{here, Step, step_leads, system_tight}
use Rattle.sem_split_bounds.proofs.Ends.{NoTop, NoBottom, Free, up, down}
use Rattle.sem_split_bounds.proofs.Reach.{IsAhead, IsBehind, raised_with, lowered_with}
use Rattle.sem_split_bounds.proofs.Motions.{moved, moved_solves, moved_near, two_blocks, blocks_either, blocks_ahead, blocks_behind}
use Rattle.sem_split_bounds.proofs.Parts.{IsBase}
use Rattle.sem_split_bounds.proofs.PartSolutions.{KeepsApart, holds_apart, base_solves, part_written, step_named, step_fails}
use Rattle.sem_split_bounds.proofs.Spacing.{span, spread_of, stride, step_within, AreSpaced, steps_or_none, up_spaced, down_spaced, moved_apart}
use Rattle.sem_split_bounds.proofs.FreeSteps.{AreOfQuery}

-- ---- the written query is well formed

pub written_formed : (q : QueryValue) → IsWithinLimits q → IsFormed (written q)
written_formed q within = record {
  some = within.streams.0;
  different = within.different;
  select = within.select;
  attrs = λ k d l. column _ (Has-from_contains _ _ (Contains-get_or (attrs_of (written q).atoms) k d l));
  placed = λ d i. elim i [ ];
}
  where
    of_domain : (a : Attr) (d : Domain) → Has q.domains d → d.attr ≡ a → IsColumn (length q.from) a
    of_domain a d i e = subst (IsColumn (length q.from)) e (elim (All-contains (IsDomain q) q.domains d within.domains (Contains-from_has q.domains d i)).column [
      | inl k ↦ All-contains (IsColumn (length q.from)) (attrs_of q.atoms) d.attr within.attrs k
      | inr k ↦ All-contains (IsColumn (length q.from)) q.select d.attr within.select k
    ])

    column : (a : Attr) → Has (attrs_of (written q).atoms) a → IsColumn (length q.from) a
    column a h = elim (written-attrs q a h) [
      | inl k ↦ All-contains (IsColumn (length q.from)) (attrs_of q.atoms) a within.attrs (Contains-from_has _ a k)
      | inr o ↦ of_domain a o.0 o.1 o.2
    ]

-- ---- numbers

pub two_places : (a b n : ℕ) → a ≢ b → a < n → b < n → 1 < n
two_places a b n d l m = grind (arith, d, l, m)

few_or_more : (n : ℕ) → 0 < n → (n ≡ 1) ⊎ (1 < n)
few_or_more zero l = absurd (omega (arith, l))
few_or_more (suc zero) l = inl refl
few_or_more (suc (suc n)) l = inr (omega arith)

not_filter : (d : Bool) (n : ℕ) → (not d && nat_eq n 1) ≡ false → n ≡ 1 → d ≡ true
not_filter true n h e = refl
not_filter false n h e = absurd (grind (arith, h, e))

-- the one raised by more, or lowered by less, is above the other
above_up : (a b x y : ℤ) (d m n : ℕ) → x ≡ a +ℤ pos n → y ≡ b +ℤ pos m → span a b < d → m + d ≤ n → y <ℤ x
above_up a b x y d m n e f s l = omega (arith, ints, e, f, s, l)

above_down : (a b x y : ℤ) (d m n : ℕ) → x ≡ a +ℤ neg_ℤ (pos m) → y ≡ b +ℤ neg_ℤ (pos n) → span a b < d → m + d ≤ n → y <ℤ x
above_down a b x y d m n e f s l = omega (arith, ints, e, f, s, l)

-- raised by more, or lowered by more, it is not the same
other_up : (z x y : ℤ) (d m n : ℕ) → x ≡ z +ℤ pos m → y ≡ z +ℤ pos n → m + suc d ≤ n → x ≢ y
other_up z x y d m n e f l g = omega (arith, ints, e, f, l, g)

other_down : (z x y : ℤ) (d m n : ℕ) → x ≡ z +ℤ neg_ℤ (pos m) → y ≡ z +ℤ neg_ℤ (pos n) → m + suc d ≤ n → x ≢ y
other_down z x y d m n e f l g = omega (arith, ints, e, f, l, g)

size_down : (n : ℕ) → nat_abs (neg_ℤ (pos n)) ≤ n
size_down n = omega (arith, ints)

near_all : (x z k : ℕ) (d n i : ℕ) → x ≤ z + (k + k) → k ≤ i * d → i < n → x ≤ z + (2 * d) * n
near_all x z k d n i h s l = let g : i * d ≤ n * d = gone-small d n i l in let e : (2 * d) * n ≡ n * d + n * d = twice d n in omega (arith, h, s, g, e)
  where
    twice : (d n : ℕ) → (2 * d) * n ≡ n * d + n * d
    twice d n = grind arith

-- what a difference that is not positive refuses
refuted : (by a b v w : ℤ) → by ≤ℤ pos 0 → a ≡ v → b ≡ w → w <ℤ v → (by +ℤ b) <ℤ a
refuted by a b v w t e f l = omega (arith, ints, t, e, f, l)

-- ---- families of solutions of a part

-- a later assignment has x above y of an earlier one
abbrev pub Rise : (ℕ → Assignment) → Attr → Attr → Type 0
Rise w x y = (i j : ℕ) → i < j → w i y <ℤ w j x

-- an earlier one has x above y of a later one
abbrev pub Fall : (ℕ → Assignment) → Attr → Attr → Type 0
Fall w x y = (i j : ℕ) → i < j → w j y <ℤ w i x

module _ (q : QueryValue) (within : IsWithinLimits q) where
  pub place_of : (a : Attr) → Has (attrs_of q.atoms) a → a.stream < length q.from
  place_of a h = (All-contains (IsColumn (length q.from)) (attrs_of q.atoms) a within.attrs (Contains-from_has (attrs_of q.atoms) a h)).stream

  pub step_two : (x y : Attr) → Step (system q) x y → 1 < length q.from
  step_two x y s = let n = step_named q x y s in two_places x.stream y.stream (length q.from) s.across (place_of x n.0) (place_of y n.1)

-- a mixture in which x is above y, which a difference between them refuses, scores nothing
pub left_fails : (q : QueryValue) (place : ℕ) (x y : Attr) → Step (system q) x y → x.stream ≡ place → (v w : Assignment) → w y <ℤ v x → score (written q) place v w ≡ 0
left_fails q place x y s e v w l =
    score-fails (written q) place v w (step_fails q (mixed place v w) x y s
    (refuted s.of.by (mixed place v w x) (mixed place v w y) (v x) (w y) (system_tight q s.of s.among)
    (mixed-here place v w x e) (mixed-other place v w y (λ f. s.across (e ∙ sym f))) l))

pub right_fails : (q : QueryValue) (place : ℕ) (x y : Attr) → Step (system q) x y → y.stream ≡ place → (v w : Assignment) → v y <ℤ w x → score (written q) place v w ≡ 0
right_fails q place x y s e v w l =
    score-fails (written q) place v w (step_fails q (mixed place v w) x y s
    (refuted s.of.by (mixed place v w x) (mixed place v w y) (w x) (v y) (system_tight q s.of s.among)
    (mixed-other place v w x (λ f. s.across (f ∙ sym e))) (mixed-here place v w y e) l))

module _ (q : QueryValue) (within : IsWithinLimits q) (ps : List Pair) (ss : List Sign) (is : IsBase q ps ss) where
  abbrev ds : List Difference
  ds = system (with_signs ps ss q)

  -- longer than the sides of any comparison are apart
  abbrev far : ℕ
  far = stride q is.one

  -- solutions that meet each `<>` between streams and go no farther than so much with each step
  pub record IsDrift (w : ℕ → Assignment) (c : ℕ) : Type 0 where
    pub solves : (i : ℕ) → Solves ds (w i)
    pub apart : (i : ℕ) → KeepsApart q (w i)
    pub near : (n : ℕ) → IsNear is.one c n w

  pub drift_family : (w : ℕ → Assignment) (c : ℕ) → IsDrift w c → (place : ℕ) → place < length q.from → IsFamily (written q) place w
  drift_family w c g place l = record { at = l; each = λ i. part_written q within ps ss is (w i) (g.solves i) (g.apart i) }

  -- two sets of columns moved alike
  abbrev pub drift : (Attr → Bool) → (Attr → Bool) → (ℕ → ℤ) → ℕ → Assignment
  drift f g k i = moved is.one (two_blocks f g (k i) (k i))

  drift_at : (f g : Attr → Bool) (k : ℕ → ℤ) (i : ℕ) (a : Attr) → (f a ≡ true) ⊎ (g a ≡ true) → drift f g k i a ≡ is.one a +ℤ k i
  drift_at f g k i a o = ap (λ z. is.one a +ℤ z) (blocks_either f g (k i) a o)

  drift_near : (f g : Attr → Bool) (k : ℕ → ℤ) (d : ℕ) → ((i : ℕ) → nat_abs (k i) ≤ i * d) → (n : ℕ) → IsNear is.one (2 * d) n (drift f g k)
  drift_near f g k d s n = record {
    near = λ i l a. near_all (nat_abs (drift f g k i a)) (nat_abs (is.one a)) (nat_abs (k i)) d n i (moved_near is.one f g (k i) (k i) a) (s i) l;
  }

  drift_apart : (f g : Attr → Bool) (k : ℕ → ℤ) → ((i : ℕ) → AreSpaced far (k i) (pos 0)) → (i : ℕ) → KeepsApart q (drift f g k i)
  drift_apart f g k s i = moved_apart q is.one (holds_apart q is.one is.holds) f g (k i) (k i) (s i) (s i) (inl refl)

  -- upward and downward with each step
  abbrev pub rising : (Attr → Bool) → (Attr → Bool) → ℕ → Assignment
  rising f g = drift f g (λ i. pos (i * far))

  abbrev pub falling : (Attr → Bool) → (Attr → Bool) → ℕ → Assignment
  falling f g = drift f g (λ i. neg_ℤ (pos (i * far)))

  rising_drift : (f g : Attr → Bool) → IsAhead ds f → IsAhead ds g → IsDrift (rising f g) (2 * far)
  rising_drift f g p r = record {
    solves = λ i. moved_solves ds is.one (two_blocks f g (pos (i * far)) (pos (i * far))) (base_solves q within ps ss is)
        (blocks_ahead ds f g (pos (i * far)) (pos (i * far)) p r (omega (arith, ints)) (omega (arith, ints)));
    apart = drift_apart f g (λ i. pos (i * far)) (λ i. up_spaced far (i * far) (steps_or_none far i));
    near = drift_near f g (λ i. pos (i * far)) far (λ i. omega (arith, ints));
  }

  falling_drift : (f g : Attr → Bool) → IsBehind ds f → IsBehind ds g → IsDrift (falling f g) (2 * far)
  falling_drift f g p r = record {
    solves = λ i. moved_solves ds is.one (two_blocks f g (neg_ℤ (pos (i * far))) (neg_ℤ (pos (i * far)))) (base_solves q within ps ss is)
        (blocks_behind ds f g (neg_ℤ (pos (i * far))) (neg_ℤ (pos (i * far))) p r (omega (arith, ints)) (omega (arith, ints)));
    apart = drift_apart f g (λ i. neg_ℤ (pos (i * far))) (λ i. down_spaced far (i * far) (steps_or_none far i));
    near = drift_near f g (λ i. neg_ℤ (pos (i * far))) far (λ i. size_down (i * far));
  }

  -- with steps longer than two columns are apart, x of one is above y of another
  rising_rise : (f g : Attr → Bool) (x y : Attr) → (f x ≡ true) ⊎ (g x ≡ true) → (f y ≡ true) ⊎ (g y ≡ true) → span (is.one x) (is.one y) < far → Rise (rising f g) x y
  rising_rise f g x y o r s i j l =
      above_up (is.one x) (is.one y) (rising f g j x) (rising f g i y) far (i * far) (j * far)
      (drift_at f g (λ i. pos (i * far)) j x o) (drift_at f g (λ i. pos (i * far)) i y r) s (times_more far i j l)

  falling_fall : (f g : Attr → Bool) (x y : Attr) → (f x ≡ true) ⊎ (g x ≡ true) → (f y ≡ true) ⊎ (g y ≡ true) → span (is.one x) (is.one y) < far → Fall (falling f g) x y
  falling_fall f g x y o r s i j l =
      above_down (is.one x) (is.one y) (falling f g i x) (falling f g j y) far (i * far) (j * far)
      (drift_at f g (λ i. neg_ℤ (pos (i * far))) i x o) (drift_at f g (λ i. neg_ℤ (pos (i * far))) j y r) s (times_more far i j l)

  -- ---- a selected column

  column_needs : IsFalse (is_filter q) → (a : Attr) → Contains q.select a → (w : ℕ → Assignment) (c : ℕ) → IsDrift w c
      → ((i j : ℕ) → i < j → w i a ≢ w j a) → NeedsStates (written q)
  column_needs joins a h w c g other = elim (few_or_more (length q.from) within.streams.0) [
    | inl e ↦ single-needs (written q) (written_formed q within) a.stream w family e (not_filter q.distinct (length q.from) joins e) is.one c g.near
        (λ i j l. off i j (other i j l)) (λ i j l. off i j (λ e. other j i l (sym e)))
    | inr l ↦ alone-needs (written q) (written_formed q within) a.stream w family l is.one c g.near
        (λ i j l. off i j (other i j l)) (λ i j l. off i j (λ e. other j i l (sym e)))
  ]
    where
      family : IsFamily (written q) a.stream w
      family = drift_family w c g a.stream (All-contains (IsColumn (length q.from)) q.select a within.select h).stream

      off : (i j : ℕ) → w i a ≢ w j a → score (written q) a.stream (w j) (w i) ≡ 0
      off i j d = score-other (written q) a.stream (w j) (w i) (λ e.
          d (same_at (w i) (mixed a.stream (w j) (w i)) e (Has-from_contains q.select a h) ∙ mixed-here a.stream (w j) (w i) a refl))

  pub open_column_needs : IsFalse (is_filter q) → (a : Attr) → Contains q.select a → NoTop ds a ⊎ NoBottom ds a → NeedsStates (written q)
  open_column_needs joins a h (inl t) n = raised_with (with_signs ps ss q) a t (λ r.
      column_needs joins a h (rising r.0 r.0) (2 * far) (rising_drift r.0 r.0 r.1.ahead r.1.ahead)
      (λ i j l. other_up (is.one a) (rising r.0 r.0 i a) (rising r.0 r.0 j a) (spread_of is.one q.atoms) (i * far) (j * far)
      (drift_at r.0 r.0 (λ i. pos (i * far)) i a (inl (r.1.all a here))) (drift_at r.0 r.0 (λ i. pos (i * far)) j a (inl (r.1.all a here))) (times_more far i j l)) n)
  open_column_needs joins a h (inr t) n = lowered_with (with_signs ps ss q) a t (λ r.
      column_needs joins a h (falling r.0 r.0) (2 * far) (falling_drift r.0 r.0 r.1.behind r.1.behind)
      (λ i j l. other_down (is.one a) (falling r.0 r.0 i a) (falling r.0 r.0 j a) (spread_of is.one q.atoms) (i * far) (j * far)
      (drift_at r.0 r.0 (λ i. neg_ℤ (pos (i * far))) i a (inl (r.1.all a here))) (drift_at r.0 r.0 (λ i. neg_ℤ (pos (i * far))) j a (inl (r.1.all a here))) (times_more far i j l)) n)

  -- ---- differences between streams

  -- one with its left side at a place, and one with its right side there
  pub rise_needs : (w : ℕ → Assignment) (c : ℕ) → IsDrift w c → (place : ℕ) (x1 y1 x2 y2 : Attr) → Step (system q) x1 y1 → Step (system q) x2 y2 → x1.stream ≡ place → y2.stream ≡ place
      → Rise w x1 y1 → Rise w x2 y2 → NeedsStates (written q)
  rise_needs w c g place x1 y1 x2 y2 s1 s2 e1 e2 r1 r2 =
      alone-needs (written q) (written_formed q within) place w
      (drift_family w c g place (subst (λ k. k < length q.from) e1 (place_of q within x1 (step_named q x1 y1 s1).0))) (step_two q within x1 y1 s1) is.one c g.near
      (λ i j l. left_fails q place x1 y1 s1 e1 (w j) (w i) (r1 i j l))
      (λ i j l. right_fails q place x2 y2 s2 e2 (w j) (w i) (r2 j i l))

  pub fall_needs : (w : ℕ → Assignment) (c : ℕ) → IsDrift w c → (place : ℕ) (x1 y1 x2 y2 : Attr) → Step (system q) x1 y1 → Step (system q) x2 y2 → x1.stream ≡ place → y2.stream ≡ place
      → Fall w x1 y1 → Fall w x2 y2 → NeedsStates (written q)
  fall_needs w c g place x1 y1 x2 y2 s1 s2 e1 e2 r1 r2 =
      alone-needs (written q) (written_formed q within) place w
      (drift_family w c g place (subst (λ k. k < length q.from) e1 (place_of q within x1 (step_named q x1 y1 s1).0))) (step_two q within x1 y1 s1) is.one c g.near
      (λ i j l. right_fails q place x2 y2 s2 e2 (w j) (w i) (r2 i j l))
      (λ i j l. left_fails q place x1 y1 s1 e1 (w j) (w i) (r1 j i l))

  -- without DISTINCT one difference that is one of the query is enough
  pub open_step_needs : q.distinct ≡ false → (x y : Attr) → Step ds x y → Step (system q) x y → Free ds x y → NeedsStates (written q)
  open_step_needs d x y s t o n = by o
    where
      at : x.stream < length q.from
      at = place_of q within x (step_named q x y t).0

      by : Free ds x y → ⊥
      by (up h) = raised_with (with_signs ps ss q) x h (λ f.
          (let g : IsDrift (rising f.0 f.0) (2 * far) = rising_drift f.0 f.0 f.1.ahead f.1.ahead in
          let r : Rise (rising f.0 f.0) x y = rising_rise f.0 f.0 x y (inl (f.1.all x here)) (inl (f.1.all y (step_leads ds x y s))) (step_within q is.one x y t) in
          upward-needs (written q) (written_formed q within) x.stream (rising f.0 f.0) (drift_family (rising f.0 f.0) (2 * far) g x.stream at) (step_two q within x y t) d is.one (2 * far) g.near
          (λ i j l. left_fails q x.stream x y t refl (rising f.0 f.0 j) (rising f.0 f.0 i) (r i j l)) n))
      by (down h) = lowered_with (with_signs ps ss q) y h (λ f.
          (let g : IsDrift (falling f.0 f.0) (2 * far) = falling_drift f.0 f.0 f.1.behind f.1.behind in
          let r : Fall (falling f.0 f.0) x y = falling_fall f.0 f.0 x y (inl (f.1.all x (step_leads ds x y s))) (inl (f.1.all y here)) (step_within q is.one x y t) in
          downward-needs (written q) (written_formed q within) x.stream (falling f.0 f.0) (drift_family (falling f.0 f.0) (2 * far) g x.stream at) (step_two q within x y t) d is.one (2 * far) g.near
          (λ i j l. left_fails q x.stream x y t refl (falling f.0 f.0 j) (falling f.0 f.0 i) (r j i l)) n))

  -- with a free difference on each side of a stream, without an end at the same side
  pub both_sides_need : AreOfQuery q ps ss → (place : ℕ) (x1 y1 x2 y2 : Attr) → Step ds x1 y1 → Step ds x2 y2 → x1.stream ≡ place → y2.stream ≡ place
      → (NoTop ds x1 × NoTop ds x2) ⊎ (NoBottom ds y1 × NoBottom ds y2) → NeedsStates (written q)
  both_sides_need steps place x1 y1 x2 y2 s1 s2 e1 e2 o n = by o
    where
      free : Free ds x1 y1 × Free ds x2 y2
      free = elim o [ inl t ↦ (up t.0, up t.1) | inr t ↦ (down t.0, down t.1) ]

      t1 : Step (system q) x1 y1
      t1 = steps x1 y1 s1 free.0

      t2 : Step (system q) x2 y2
      t2 = steps x2 y2 s2 free.1

      by : (NoTop ds x1 × NoTop ds x2) ⊎ (NoBottom ds y1 × NoBottom ds y2) → ⊥
      by (inl t) = raised_with (with_signs ps ss q) x1 t.0 (λ f. raised_with (with_signs ps ss q) x2 t.1 (λ g.
          rise_needs (rising f.0 g.0) (2 * far) (rising_drift f.0 g.0 f.1.ahead g.1.ahead) place x1 y1 x2 y2 t1 t2 e1 e2
          (rising_rise f.0 g.0 x1 y1 (inl (f.1.all x1 here)) (inl (f.1.all y1 (step_leads ds x1 y1 s1))) (step_within q is.one x1 y1 t1))
          (rising_rise f.0 g.0 x2 y2 (inr (g.1.all x2 here)) (inr (g.1.all y2 (step_leads ds x2 y2 s2))) (step_within q is.one x2 y2 t2)) n))
      by (inr t) = lowered_with (with_signs ps ss q) y1 t.0 (λ f. lowered_with (with_signs ps ss q) y2 t.1 (λ g.
          fall_needs (falling f.0 g.0) (2 * far) (falling_drift f.0 g.0 f.1.behind g.1.behind) place x1 y1 x2 y2 t1 t2 e1 e2
          (falling_fall f.0 g.0 x1 y1 (inl (f.1.all x1 (step_leads ds x1 y1 s1))) (inl (f.1.all y1 here)) (step_within q is.one x1 y1 t1))
          (falling_fall f.0 g.0 x2 y2 (inr (g.1.all x2 (step_leads ds x2 y2 s2))) (inr (g.1.all y2 here)) (step_within q is.one x2 y2 t2)) n))
