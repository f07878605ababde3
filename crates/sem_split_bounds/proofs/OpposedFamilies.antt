-- With DISTINCT: two differences between streams, of which one fails upward and the other downward, in families of solutions of a part.
use Rattle.std.proofs.Common.{◌≡◌, ℕ, suc, ◌+◌, ◌-◌, ◌*◌, ◌<◌, ◌≤◌, ◌⊎◌, inl, inr, List, length, Bool, true, false, ap, subst, arith, nat_abs, ℤ, pos, neg_ℤ, ◌+ℤ◌, ◌<ℤ◌, ◌≤ℤ◌}
use Rattle.std.proofs.lemmas.Int.{ints}
use Rattle.sem_query.specs.declared.atom.Attr.{Attr}
use Rattle.sem_query.specs.declared.part.Pair.{Pair}
use Rattle.sem_query.specs.declared.part.Sign.{Sign}
use Rattle.sem_query.specs.Query.{QueryValue, IsWithinLimits}
use Rattle.sem_query.specs.Assignment.{Assignment}
use Rattle.sem_laws.proofs.Tests.{false_if}
use Rattle.sem_whole.specs.System.{Difference, system, Solves}
use Rattle.sem_whole.specs.Signed.{with_signs}
use Rattle.sem_lower_bounds.specs.States.{NeedsStates}
use Rattle.sem_lower_bounds.specs.Within.{written}
use Rattle.sem_lower_bounds.proofs.Families.{IsFamily, sets-need}
use Rattle.sem_lower_bounds.proofs.Ranges.{size, IsNear}
use Rattle.sem_lower_bounds.proofs.Separated.{NeedsAt, needs-all}
use Rattle.sem_lower_bounds.proofs.TwoLinks.{times_more, gone-small, left_of, left_less, left-small, falls_by, falls_less}
use Rattle.sem_split_bounds.proofs.Paths.{Leads, here, leads_more, Step, step_leads}
use Rattle.sem_split_bounds.proofs.Ends.{NoTop, NoBottom, Free, up, down}
use Rattle.sem_split_bounds.proofs.Reach.{Reach, ReachedBy, raised_with, lowered_with}
use Rattle.sem_split_bounds.proofs.Motions.{moved, moved_solves, moved_near, two_blocks, blocks_first, blocks_second, blocks_ahead, blocks_behind, blocks_apart}
use Rattle.sem_split_bounds.proofs.Parts.{IsBase}
use Rattle.sem_split_bounds.proofs.PartSolutions.{KeepsApart, holds_apart, base_solves, part_written, step_named}
use Rattle.sem_split_bounds.proofs.Spacing.{span, stride, step_within, IsNoneOr, steps_or_none, up_spaced, down_spaced, apart_spaced, twice_or_none, twice_up_spaced, twice_down_spaced, moved_apart}
use Rattle.sem_split_bounds.proofs.FreeSteps.{AreOfQuery}
pub use Rattle.sem_split_bounds.specs.Steps.{OneEnd}
use Rattle.sem_split_bounds.proofs.MovedFamilies.{written_formed, place_of, step_two, left_fails, right_fails}

-- ---- numbers

above : (a b x y k l : ℤ) (d : ℕ) → x ≡ a +ℤ l → y ≡ b +ℤ k → span a b < d → (k +ℤ pos d) ≤ℤ l → y <ℤ x
above a b x y k l d e f s h = omega (arith, ints, e, f, s, h)

up_more : (m n d : ℕ) → m + d ≤ n → (pos m +ℤ pos d) ≤ℤ pos n
up_more m n d h = omega (arith, ints, h)

down_more : (m n d : ℕ) → m + d ≤ n → (neg_ℤ (pos n) +ℤ pos d) ≤ℤ neg_ℤ (pos m)
down_more m n d h = omega (arith, ints, h)

from_zero : (n : ℕ) → pos 0 ≤ℤ pos n
from_zero n = omega (arith, ints)

to_zero : (n : ℕ) → neg_ℤ (pos n) ≤ℤ pos 0
to_zero n = omega (arith, ints)

size_up : (n m : ℕ) → n ≤ m → nat_abs (pos n) ≤ m
size_up n m h = omega (arith, ints, h)

size_down : (n m : ℕ) → n ≤ m → nat_abs (neg_ℤ (pos n)) ≤ m
size_down n m h = omega (arith, ints, h)

-- twice what is left and what is gone is no less than what is gone
falls_over : (m n : ℕ) → pos n ≤ℤ pos ((m + m) + n)
falls_over m n = omega (arith, ints)

falls_under : (m n : ℕ) → neg_ℤ (pos ((m + m) + n)) ≤ℤ neg_ℤ (pos n)
falls_under m n = omega (arith, ints)

within_three : (a n : ℕ) → a ≤ n → a ≤ n + n + n
within_three a n h = omega (arith, h)

falls_small : (n d i : ℕ) → i < n → falls_by n d i ≤ n * d + n * d + n * d
falls_small n d i l = let a = left-small n d i in let b = gone-small d n i l in omega (arith, a, b)

near_four : (x z a b d n : ℕ) → x ≤ z + (a + b) → a ≤ n * d + n * d + n * d → b ≤ n * d → x ≤ z + (4 * d) * n
near_four x z a b d n h k l = let e : (4 * d) * n ≡ n * d + n * d + n * d + n * d = four d n in omega (arith, h, k, l, e)
  where
    four : (d n : ℕ) → (4 * d) * n ≡ n * d + n * d + n * d + n * d
    four d n = grind arith

-- ---- families

-- of the first n assignments a later one has x above y of an earlier one
abbrev RiseTo : ℕ → (ℕ → Assignment) → Attr → Attr → Type 0
RiseTo n w x y = (i j : ℕ) → i < j → j < n → w i y <ℤ w j x

-- an earlier one has x above y of a later one
abbrev FallTo : ℕ → (ℕ → Assignment) → Attr → Attr → Type 0
FallTo n w x y = (i j : ℕ) → i < j → j < n → w j y <ℤ w i x

-- two sets of columns moved, the second where it is not in the first
abbrev course : Assignment → (Attr → Bool) → (Attr → Bool) → (ℕ → ℤ) → (ℕ → ℤ) → ℕ → Assignment
course u f g a b i = moved u (two_blocks f g (a i) (b i))

in_first : (u : Assignment) (f g : Attr → Bool) (a b : ℕ → ℤ) (i : ℕ) (z : Attr) → f z ≡ true → course u f g a b i z ≡ u z +ℤ a i
in_first u f g a b i z e = ap (λ k. u z +ℤ k) (blocks_first f g (a i) (b i) z e)

in_second : (u : Assignment) (f g : Attr → Bool) (a b : ℕ → ℤ) (i : ℕ) (z : Attr) → f z ≡ false → g z ≡ true → course u f g a b i z ≡ u z +ℤ b i
in_second u f g a b i z e h = ap (λ k. u z +ℤ k) (blocks_second f g (a i) (b i) z e h)

course_near : (u : Assignment) (f g : Attr → Bool) (a b : ℕ → ℤ) (n d : ℕ)
    → ((i : ℕ) → i < n → nat_abs (a i) ≤ n * d + n * d + n * d) → ((i : ℕ) → i < n → nat_abs (b i) ≤ n * d) → IsNear u (4 * d) n (course u f g a b)
course_near u f g a b n d h k = record {
  near = λ i l z. near_four (nat_abs (course u f g a b i z)) (nat_abs (u z)) (nat_abs (a i)) (nat_abs (b i)) d n (moved_near u f g (a i) (b i) z) (h i l) (k i l);
}

-- both columns moved by k, from values less than d apart
rises_by : (n d : ℕ) (u : Assignment) (w : ℕ → Assignment) (k : ℕ → ℤ) (x y : Attr) → ((i : ℕ) → w i x ≡ u x +ℤ k i) → ((i : ℕ) → w i y ≡ u y +ℤ k i)
    → span (u x) (u y) < d → ((i j : ℕ) → i < j → j < n → (k i +ℤ pos d) ≤ℤ k j) → RiseTo n w x y
rises_by n d u w k x y e f s h i j l m = above (u x) (u y) (w j x) (w i y) (k i) (k j) d (e j) (f i) s (h i j l m)

falls_to : (n d : ℕ) (u : Assignment) (w : ℕ → Assignment) (k : ℕ → ℤ) (x y : Attr) → ((i : ℕ) → w i x ≡ u x +ℤ k i) → ((i : ℕ) → w i y ≡ u y +ℤ k i)
    → span (u x) (u y) < d → ((i j : ℕ) → i < j → j < n → (k j +ℤ pos d) ≤ℤ k i) → FallTo n w x y
falls_to n d u w k x y e f s h i j l m = above (u x) (u y) (w i x) (w j y) (k j) (k i) d (e i) (f j) s (h i j l m)

-- ---- two differences at one stream

-- the stream at a place has the one side of a difference, or the other
pub data Side (place : ℕ) (x y : Attr) : Type 0 where
  at_left : x.stream ≡ place → Side place x y
  at_right : y.stream ≡ place → Side place x y

-- it has the left sides of two, or the right sides
pub data OneSide (place : ℕ) (x1 y1 x2 y2 : Attr) : Type 0 where
  lefts : x1.stream ≡ place → x2.stream ≡ place → OneSide place x1 y1 x2 y2
  rights : y1.stream ≡ place → y2.stream ≡ place → OneSide place x1 y1 x2 y2

-- it has the left side of one and the right side of the other
pub data OtherSides (place : ℕ) (x1 y1 x2 y2 : Attr) : Type 0 where
  left_right : x1.stream ≡ place → y2.stream ≡ place → OtherSides place x1 y1 x2 y2
  right_left : y1.stream ≡ place → x2.stream ≡ place → OtherSides place x1 y1 x2 y2

pub sides_of_both : (place : ℕ) (x1 y1 x2 y2 : Attr) → Side place x1 y1 → Side place x2 y2 → OneSide place x1 y1 x2 y2 ⊎ OtherSides place x1 y1 x2 y2
sides_of_both place x1 y1 x2 y2 (at_left e) (at_left f) = inl (lefts e f)
sides_of_both place x1 y1 x2 y2 (at_left e) (at_right f) = inr (left_right e f)
sides_of_both place x1 y1 x2 y2 (at_right e) (at_left f) = inr (right_left e f)
sides_of_both place x1 y1 x2 y2 (at_right e) (at_right f) = inl (rights e f)

module _ (q : QueryValue) (within : IsWithinLimits q) (ps : List Pair) (ss : List Sign) (is : IsBase q ps ss) (steps : AreOfQuery q ps ss) (distinct : q.distinct ≡ true) where
  abbrev ds : List Difference
  ds = system (with_signs ps ss q)

  -- longer than the sides of any comparison are apart
  abbrev far : ℕ
  far = stride q is.one

  -- solutions that meet each `<>` between streams, of which the first n go no farther than so much with each step
  record IsCourse (n : ℕ) (w : ℕ → Assignment) (c : ℕ) : Type 0 where
    pub solves : (i : ℕ) → Solves ds (w i)
    pub apart : (i : ℕ) → KeepsApart q (w i)
    pub near : IsNear is.one c n w

  course_family : (place n : ℕ) (w : ℕ → Assignment) (c : ℕ) → IsCourse n w c → place < length q.from → IsFamily (written q) place w
  course_family place n w c g l = record { at = l; each = λ i. part_written q within ps ss is (w i) (g.solves i) (g.apart i) }

  left_place : (place : ℕ) (x y : Attr) → Step (system q) x y → x.stream ≡ place → place < length q.from
  left_place place x y s e = subst (λ k. k < length q.from) e (place_of q within x (step_named q x y s).0)

  right_place : (place : ℕ) (x y : Attr) → Step (system q) x y → y.stream ≡ place → place < length q.from
  right_place place x y s e = subst (λ k. k < length q.from) e (place_of q within y (step_named q x y s).1)

  module _ (place n : ℕ) (w : ℕ → Assignment) (c : ℕ) (g : IsCourse n w c) (x1 y1 x2 y2 : Attr) (s1 : Step (system q) x1 y1) (s2 : Step (system q) x2 y2) where
    one_side_at : OneSide place x1 y1 x2 y2 → RiseTo n w x1 y1 → FallTo n w x2 y2 → NeedsAt (written q) n ((size place is.one + c) * suc n)
    one_side_at (lefts e f) r t =
        sets-need (written q) (written_formed q within) place w (course_family place n w c g (left_place place x1 y1 s1 e)) (step_two q within x1 y1 s1) distinct n is.one c g.near
        (λ i j l m. left_fails q place x1 y1 s1 e (w j) (w i) (r i j l m))
        (λ i j l m. left_fails q place x2 y2 s2 f (w j) (w i) (t j i l m))
    one_side_at (rights e f) r t =
        sets-need (written q) (written_formed q within) place w (course_family place n w c g (right_place place x1 y1 s1 e)) (step_two q within x1 y1 s1) distinct n is.one c g.near
        (λ i j l m. right_fails q place x2 y2 s2 f (w j) (w i) (t i j l m))
        (λ i j l m. right_fails q place x1 y1 s1 e (w j) (w i) (r j i l m))

    other_sides_at : OtherSides place x1 y1 x2 y2 → RiseTo n w x1 y1 → RiseTo n w x2 y2 → NeedsAt (written q) n ((size place is.one + c) * suc n)
    other_sides_at (left_right e f) r t =
        sets-need (written q) (written_formed q within) place w (course_family place n w c g (left_place place x1 y1 s1 e)) (step_two q within x1 y1 s1) distinct n is.one c g.near
        (λ i j l m. left_fails q place x1 y1 s1 e (w j) (w i) (r i j l m))
        (λ i j l m. right_fails q place x2 y2 s2 f (w j) (w i) (t j i l m))
    other_sides_at (right_left e f) r t =
        sets-need (written q) (written_formed q within) place w (course_family place n w c g (right_place place x1 y1 s1 e)) (step_two q within x1 y1 s1) distinct n is.one c g.near
        (λ i j l m. left_fails q place x2 y2 s2 f (w j) (w i) (t i j l m))
        (λ i j l m. right_fails q place x1 y1 s1 e (w j) (w i) (r j i l m))

  -- ---- the first free upward, the second downward

  module _ (x1 y1 x2 y2 : Attr) (s1 : Step ds x1 y1) (s2 : Step ds x2 y2) (free1 : Free ds x1 y1) (free2 : Free ds x2 y2) where
    t1 : Step (system q) x1 y1
    t1 = steps x1 y1 s1 free1

    t2 : Step (system q) x2 y2
    t2 = steps x2 y2 s2 free2

    near_first : span (is.one x1) (is.one y1) < far
    near_first = step_within q is.one x1 y1 t1

    near_second : span (is.one x2) (is.one y2) < far
    near_second = step_within q is.one x2 y2 t2

    -- what the first differences lead to is raised step by step, and what leads to the second is lowered
    module _ (f g : Attr → Bool) (rf : Reach ds x1 f) (rg : ReachedBy ds y2 g) (away : Leads ds x1 y2 → ⊥) (n : ℕ) (h : ℕ → ℕ) where
      abbrev parted : ℕ → Assignment
      parted = course is.one f g (λ i. pos (i * far)) (λ i. neg_ℤ (pos (h i)))

      parted_course : ((i : ℕ) → i < n → h i ≤ n * far) → ((i : ℕ) → IsNoneOr far (h i)) → IsCourse n parted (4 * far)
      parted_course small none = record {
        solves = λ i. moved_solves ds is.one (two_blocks f g (pos (i * far)) (neg_ℤ (pos (h i)))) (base_solves q within ps ss is)
            (blocks_apart ds f g (pos (i * far)) (neg_ℤ (pos (h i))) rf.ahead rg.behind (from_zero (i * far)) (to_zero (h i)));
        apart = λ i. moved_apart q is.one (holds_apart q is.one is.holds) f g (pos (i * far)) (neg_ℤ (pos (h i)))
            (up_spaced far (i * far) (steps_or_none far i)) (down_spaced far (h i) (none i)) (apart_spaced far (i * far) (h i) (steps_or_none far i) (none i));
        near = course_near is.one f g (λ i. pos (i * far)) (λ i. neg_ℤ (pos (h i))) n far
            (λ i l. size_up (i * far) (n * far + n * far + n * far) (within_three (i * far) (n * far) (gone-small far n i l)))
            (λ i l. size_down (h i) (n * far) (small i l));
      }

      -- no column is in both
      lowered_alone : (z : Attr) → Leads ds z y2 → f z ≡ false
      lowered_alone z p = false_if (f z) (λ e. away (leads_more ds x1 z y2 (rf.only z e) p))

      parted_rises : RiseTo n parted x1 y1
      parted_rises = rises_by n far is.one parted (λ i. pos (i * far)) x1 y1
          (λ i. in_first is.one f g (λ i. pos (i * far)) (λ i. neg_ℤ (pos (h i))) i x1 (rf.all x1 here))
          (λ i. in_first is.one f g (λ i. pos (i * far)) (λ i. neg_ℤ (pos (h i))) i y1 (rf.all y1 (step_leads ds x1 y1 s1)))
          near_first (λ i j l m. up_more (i * far) (j * far) far (times_more far i j l))

      second_left : (i : ℕ) → parted i x2 ≡ is.one x2 +ℤ neg_ℤ (pos (h i))
      second_left i = in_second is.one f g (λ i. pos (i * far)) (λ i. neg_ℤ (pos (h i))) i x2 (lowered_alone x2 (step_leads ds x2 y2 s2)) (rg.all x2 (step_leads ds x2 y2 s2))

      second_right : (i : ℕ) → parted i y2 ≡ is.one y2 +ℤ neg_ℤ (pos (h i))
      second_right i = in_second is.one f g (λ i. pos (i * far)) (λ i. neg_ℤ (pos (h i))) i y2 (lowered_alone y2 here) (rg.all y2 here)

      parted_falls : ((i j : ℕ) → i < j → j < n → h i + far ≤ h j) → FallTo n parted x2 y2
      parted_falls more = falls_to n far is.one parted (λ i. neg_ℤ (pos (h i))) x2 y2 second_left second_right near_second (λ i j l m. down_more (h i) (h j) far (more i j l m))

      parted_rises_too : ((i j : ℕ) → i < j → j < n → h j + far ≤ h i) → RiseTo n parted x2 y2
      parted_rises_too less = rises_by n far is.one parted (λ i. neg_ℤ (pos (h i))) x2 y2 second_left second_right near_second (λ i j l m. down_more (h j) (h i) far (less i j l m))

    -- on one side the second is lowered as far as the first is raised, on other sides by what is left of n steps
    parted_needs : (place : ℕ) → OneSide place x1 y1 x2 y2 ⊎ OtherSides place x1 y1 x2 y2 → (f g : Attr → Bool) → Reach ds x1 f → ReachedBy ds y2 g → (Leads ds x1 y2 → ⊥) → NeedsStates (written q)
    parted_needs place (inl o) f g rf rg away = needs-all (written q) (size place is.one + 4 * far) (λ n.
        one_side_at place n (parted f g rf rg away n (λ i. i * far)) (4 * far) (parted_course f g rf rg away n (λ i. i * far) (λ i l. gone-small far n i l) (λ i. steps_or_none far i)) x1 y1 x2 y2 t1 t2 o
        (parted_rises f g rf rg away n (λ i. i * far))
        (parted_falls f g rf rg away n (λ i. i * far) (λ i j l m. times_more far i j l)))
    parted_needs place (inr o) f g rf rg away = needs-all (written q) (size place is.one + 4 * far) (λ n.
        other_sides_at place n (parted f g rf rg away n (left_of n far)) (4 * far) (parted_course f g rf rg away n (left_of n far) (λ i l. left-small n far i) (λ i. steps_or_none far (n - i))) x1 y1 x2 y2 t1 t2 o
        (parted_rises f g rf rg away n (left_of n far))
        (parted_rises_too f g rf rg away n (left_of n far) (λ i j l m. left_less n far i j l m)))

    -- ---- both free at one end

    -- what the differences lead to from x2 is raised by less and less, and what they lead to from x1 alone by more and more
    module _ (f g : Attr → Bool) (rf : Reach ds x2 f) (rg : Reach ds x1 g) (away : Leads ds x2 y1 → ⊥) (n : ℕ) where
      abbrev raised : ℕ → Assignment
      raised = course is.one f g (λ i. pos (falls_by n far i)) (λ i. pos (i * far))

      raised_course : IsCourse n raised (4 * far)
      raised_course = record {
        solves = λ i. moved_solves ds is.one (two_blocks f g (pos (falls_by n far i)) (pos (i * far))) (base_solves q within ps ss is)
            (blocks_ahead ds f g (pos (falls_by n far i)) (pos (i * far)) rf.ahead rg.ahead (from_zero (i * far)) (falls_over (left_of n far i) (i * far)));
        apart = λ i. moved_apart q is.one (holds_apart q is.one is.holds) f g (pos (falls_by n far i)) (pos (i * far))
            (up_spaced far (falls_by n far i) (twice_or_none far (left_of n far i) (i * far) (steps_or_none far (n - i)) (steps_or_none far i)))
            (up_spaced far (i * far) (steps_or_none far i)) (twice_up_spaced far (left_of n far i) (i * far) (steps_or_none far (n - i)));
        near = course_near is.one f g (λ i. pos (falls_by n far i)) (λ i. pos (i * far)) n far
            (λ i l. size_up (falls_by n far i) (n * far + n * far + n * far) (falls_small n far i l))
            (λ i l. size_up (i * far) (n * far) (gone-small far n i l));
      }

      raised_alone : (z : Attr) → Leads ds z y1 → f z ≡ false
      raised_alone z p = false_if (f z) (λ e. away (leads_more ds x2 z y1 (rf.only z e) p))

      raised_rises : RiseTo n raised x1 y1
      raised_rises = rises_by n far is.one raised (λ i. pos (i * far)) x1 y1
          (λ i. in_second is.one f g (λ i. pos (falls_by n far i)) (λ i. pos (i * far)) i x1 (raised_alone x1 (step_leads ds x1 y1 s1)) (rg.all x1 here))
          (λ i. in_second is.one f g (λ i. pos (falls_by n far i)) (λ i. pos (i * far)) i y1 (raised_alone y1 here) (rg.all y1 (step_leads ds x1 y1 s1)))
          near_first (λ i j l m. up_more (i * far) (j * far) far (times_more far i j l))

      raised_falls : FallTo n raised x2 y2
      raised_falls = falls_to n far is.one raised (λ i. pos (falls_by n far i)) x2 y2
          (λ i. in_first is.one f g (λ i. pos (falls_by n far i)) (λ i. pos (i * far)) i x2 (rf.all x2 here))
          (λ i. in_first is.one f g (λ i. pos (falls_by n far i)) (λ i. pos (i * far)) i y2 (rf.all y2 (step_leads ds x2 y2 s2)))
          near_second (λ i j l m. up_more (falls_by n far j) (falls_by n far i) far (falls_less n far i j l m))

    -- what leads to y1 is lowered by less and less, and what leads to y2 alone by more and more
    module _ (f g : Attr → Bool) (rf : ReachedBy ds y1 f) (rg : ReachedBy ds y2 g) (away : Leads ds x2 y1 → ⊥) (n : ℕ) where
      abbrev lowered : ℕ → Assignment
      lowered = course is.one f g (λ i. neg_ℤ (pos (falls_by n far i))) (λ i. neg_ℤ (pos (i * far)))

      lowered_course : IsCourse n lowered (4 * far)
      lowered_course = record {
        solves = λ i. moved_solves ds is.one (two_blocks f g (neg_ℤ (pos (falls_by n far i))) (neg_ℤ (pos (i * far)))) (base_solves q within ps ss is)
            (blocks_behind ds f g (neg_ℤ (pos (falls_by n far i))) (neg_ℤ (pos (i * far))) rf.behind rg.behind (to_zero (i * far)) (falls_under (left_of n far i) (i * far)));
        apart = λ i. moved_apart q is.one (holds_apart q is.one is.holds) f g (neg_ℤ (pos (falls_by n far i))) (neg_ℤ (pos (i * far)))
            (down_spaced far (falls_by n far i) (twice_or_none far (left_of n far i) (i * far) (steps_or_none far (n - i)) (steps_or_none far i)))
            (down_spaced far (i * far) (steps_or_none far i)) (twice_down_spaced far (left_of n far i) (i * far) (steps_or_none far (n - i)));
        near = course_near is.one f g (λ i. neg_ℤ (pos (falls_by n far i))) (λ i. neg_ℤ (pos (i * far))) n far
            (λ i l. size_down (falls_by n far i) (n * far + n * far + n * far) (falls_small n far i l))
            (λ i l. size_down (i * far) (n * far) (gone-small far n i l));
      }

      lowered_second : (z : Attr) → Leads ds x2 z → f z ≡ false
      lowered_second z p = false_if (f z) (λ e. away (leads_more ds x2 z y1 p (rf.only z e)))

      lowered_rises : RiseTo n lowered x1 y1
      lowered_rises = rises_by n far is.one lowered (λ i. neg_ℤ (pos (falls_by n far i))) x1 y1
          (λ i. in_first is.one f g (λ i. neg_ℤ (pos (falls_by n far i))) (λ i. neg_ℤ (pos (i * far))) i x1 (rf.all x1 (step_leads ds x1 y1 s1)))
          (λ i. in_first is.one f g (λ i. neg_ℤ (pos (falls_by n far i))) (λ i. neg_ℤ (pos (i * far))) i y1 (rf.all y1 here))
          near_first (λ i j l m. down_more (falls_by n far j) (falls_by n far i) far (falls_less n far i j l m))

      lowered_falls : FallTo n lowered x2 y2
      lowered_falls = falls_to n far is.one lowered (λ i. neg_ℤ (pos (i * far))) x2 y2
          (λ i. in_second is.one f g (λ i. neg_ℤ (pos (falls_by n far i))) (λ i. neg_ℤ (pos (i * far))) i x2 (lowered_second x2 here) (rg.all x2 (step_leads ds x2 y2 s2)))
          (λ i. in_second is.one f g (λ i. neg_ℤ (pos (falls_by n far i))) (λ i. neg_ℤ (pos (i * far))) i y2 (lowered_second y2 (step_leads ds x2 y2 s2)) (rg.all y2 here))
          near_second (λ i j l m. down_more (i * far) (j * far) far (times_more far i j l))

    raised_needs : (place : ℕ) → OneSide place x1 y1 x2 y2 → (f g : Attr → Bool) → Reach ds x2 f → Reach ds x1 g → (Leads ds x2 y1 → ⊥) → NeedsStates (written q)
    raised_needs place o f g rf rg away = needs-all (written q) (size place is.one + 4 * far) (λ n.
        one_side_at place n (raised f g rf rg away n) (4 * far) (raised_course f g rf rg away n) x1 y1 x2 y2 t1 t2 o (raised_rises f g rf rg away n) (raised_falls f g rf rg away n))

    lowered_needs : (place : ℕ) → OneSide place x1 y1 x2 y2 → (f g : Attr → Bool) → ReachedBy ds y1 f → ReachedBy ds y2 g → (Leads ds x2 y1 → ⊥) → NeedsStates (written q)
    lowered_needs place o f g rf rg away = needs-all (written q) (size place is.one + 4 * far) (λ n.
        one_side_at place n (lowered f g rf rg away n) (4 * far) (lowered_course f g rf rg away n) x1 y1 x2 y2 t1 t2 o (lowered_rises f g rf rg away n) (lowered_falls f g rf rg away n))

  -- of two differences at a stream the first can be raised without the second, and the second lowered
  pub apart_need : (place : ℕ) (x1 y1 x2 y2 : Attr) → Step ds x1 y1 → Side place x1 y1 → Step ds x2 y2 → Side place x2 y2
      → NoTop ds x1 → NoBottom ds y2 → (Leads ds x1 y2 → ⊥) → NeedsStates (written q)
  apart_need place x1 y1 x2 y2 s1 p1 s2 p2 top bottom away m =
      raised_with (with_signs ps ss q) x1 top (λ f. lowered_with (with_signs ps ss q) y2 bottom (λ g.
      parted_needs x1 y1 x2 y2 s1 s2 (up top) (down bottom) place (sides_of_both place x1 y1 x2 y2 p1 p2) f.0 g.0 f.1 g.1 away m))

  -- of two differences on one side of a stream, free at one end, the second can be moved by more than the first
  pub beside_need : (place : ℕ) (x1 y1 x2 y2 : Attr) → Step ds x1 y1 → Step ds x2 y2 → OneSide place x1 y1 x2 y2
      → OneEnd ds x1 y1 x2 y2 → (Leads ds x2 y1 → ⊥) → NeedsStates (written q)
  beside_need place x1 y1 x2 y2 s1 s2 o (inl t) away m =
      raised_with (with_signs ps ss q) x2 t.1 (λ f. raised_with (with_signs ps ss q) x1 t.0 (λ g.
      raised_needs x1 y1 x2 y2 s1 s2 (up t.0) (up t.1) place o f.0 g.0 f.1 g.1 away m))
  beside_need place x1 y1 x2 y2 s1 s2 o (inr t) away m =
      lowered_with (with_signs ps ss q) y1 t.0 (λ f. lowered_with (with_signs ps ss q) y2 t.1 (λ g.
      lowered_needs x1 y1 x2 y2 s1 s2 (down t.0) (down t.1) place o f.0 g.0 f.1 g.1 away m))
