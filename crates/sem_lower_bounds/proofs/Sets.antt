-- With DISTINCT: two references of one stream give a family.
use Rattle.std.proofs.Common.{◌≡◌, ℕ, ◌+◌, ◌*◌, List, true, refl, sym, ap, ◌∙◌, subst, arith, nat_abs, ℤ, pos, ◌+ℤ◌, ◌-ℤ◌, ◌<ℤ◌, ◌≤ℤ◌, Contains, suc, ◌≤◌, ◌<◌}
use Rattle.std.proofs.lemmas.Int.{ints}
use Rattle.sem_query.specs.declared.atom.Attr.{Attr}
use Rattle.sem_query.specs.declared.part.Sign.{Sign}
use Rattle.sem_query.specs.Query.{QueryValue}
use Rattle.sem_query.specs.Assignment.{Assignment}
use Rattle.sem_query.specs.Parts.{InPart, IsPart}
use Rattle.sem_query.specs.Links.{IsInequality}
use Rattle.sem_query.specs.Laws.{ends_of}
use Rattle.sem_lower_bounds.specs.Plain.{IsPlain}
use Rattle.sem_lower_bounds.proofs.Formed.{IsFormed}
use Rattle.sem_lower_bounds.proofs.Separated.{NeedsAt}
use Rattle.sem_lower_bounds.proofs.Spreading.{raised_by, raised-inside, raised-value, raised-still, raised-near, lowered_by, lowered-inside, lowered-value, lowered-still, lowered-near}
use Rattle.sem_lower_bounds.proofs.Ranges.{size}
use Rattle.sem_lower_bounds.proofs.TwoLinks.{gone-small, left-small, thrice, near_left, near_right, times_more, left_of, falls_by, falls_less, MovedUp, MovedDown, rise-up, fall-up, rise-down, fall-down, SameSide, OtherSide, same-needs, other-rise, other-fall}

-- all ends are below z, or all above it
abbrev pub AllBelow : QueryValue → ℤ → Type 0
AllBelow q z = (k : ℤ) → Contains (ends_of q) k → k <ℤ z

abbrev pub AllAbove : QueryValue → ℤ → Type 0
AllAbove q z = (k : ℤ) → Contains (ends_of q) k → z <ℤ k

plus_more : (z : ℤ) (a b : ℕ) → (z +ℤ pos a) +ℤ pos b ≡ z +ℤ pos (a + b)
plus_more z a b = omega (arith, ints)

minus_more : (z : ℤ) (a b : ℕ) → (z -ℤ pos a) -ℤ pos b ≡ z -ℤ pos (a + b)
minus_more z a b = omega (arith, ints)

below_still : (c z : ℤ) (a : ℕ) → c <ℤ z → c <ℤ (z +ℤ pos a)
below_still c z a h = omega (arith, ints, h)

from_still : (c z : ℤ) (a : ℕ) → c ≤ℤ z → c ≤ℤ (z +ℤ pos a)
from_still c z a h = omega (arith, ints, h)

above_still : (c z : ℤ) (a : ℕ) → z <ℤ c → (z -ℤ pos a) <ℤ c
above_still c z a h = omega (arith, ints, h)

module _ (q : QueryValue) (s : List Sign) (u : Assignment) (inside : InPart q s u) where
  -- all that is above c moved up
  module _ (c : ℤ) (over : (k : ℤ) → Contains (ends_of q) k → k ≤ℤ c) (f : ℕ → ℕ) where
    pub ups : ℕ → Assignment
    ups i = raised_by q s u inside c over (f i)

    pub ups-inside : (i : ℕ) → InPart q s (ups i)
    unfolding ups
    ups-inside i = raised-inside q s u inside c over (f i)

    pub ups-value : (i : ℕ) (a : Attr) → c <ℤ u a → ups i a ≡ u a +ℤ pos (f i)
    unfolding ups
    ups-value i a h = raised-value q s u inside c over (f i) a h

    pub ups-still : (i : ℕ) (a : Attr) → u a ≤ℤ c → ups i a ≡ u a
    unfolding ups
    ups-still i a h = raised-still q s u inside c over (f i) a h

    pub ups-near : (i : ℕ) (a : Attr) → nat_abs (ups i a) ≤ nat_abs (u a) + f i
    unfolding ups
    ups-near i a = raised-near q s u inside c over (f i) a

  module _ (c : ℤ) (under : (k : ℤ) → Contains (ends_of q) k → c ≤ℤ k) (f : ℕ → ℕ) where
    pub downs : ℕ → Assignment
    downs i = lowered_by q s u inside c under (f i)

    pub downs-inside : (i : ℕ) → InPart q s (downs i)
    unfolding downs
    downs-inside i = lowered-inside q s u inside c under (f i)

    pub downs-value : (i : ℕ) (a : Attr) → u a <ℤ c → downs i a ≡ u a -ℤ pos (f i)
    unfolding downs
    downs-value i a h = lowered-value q s u inside c under (f i) a h

    pub downs-still : (i : ℕ) (a : Attr) → c ≤ℤ u a → downs i a ≡ u a
    unfolding downs
    downs-still i a h = lowered-still q s u inside c under (f i) a h

    pub downs-near : (i : ℕ) (a : Attr) → nat_abs (downs i a) ≤ nat_abs (u a) + f i
    unfolding downs
    downs-near i a = lowered-near q s u inside c under (f i) a

module _ (q : QueryValue) (within : IsFormed q) (plain : IsPlain q) (d : q.distinct ≡ true) (s : List Sign) (place n : ℕ)
    (x1 y1 x2 y2 : Attr) (i1 : IsInequality q s x1 y1) (i2 : IsInequality q s x2 y2) (p : IsPart q s) where
  abbrev pub u : Assignment
  u = p.one

  pub less1 : u x1 <ℤ u y1
  less1 = i1.less.less u p.inside

  pub less2 : u x2 <ℤ u y2
  less2 = i2.less.less u p.inside

  abbrev pub far : ℕ
  far = nat_abs (u y1 -ℤ u x1) + nat_abs (u y2 -ℤ u x2)

  pub near1 : u y1 ≤ℤ (u x1 +ℤ pos far)
  near1 = near_left (u x1) (u y1) far (nat_abs (u y2 -ℤ u x2)) refl

  pub near2 : u y2 ≤ℤ (u x2 +ℤ pos far)
  near2 = near_right (u x2) (u y2) far (nat_abs (u y1 -ℤ u x1)) refl

  abbrev pub grow : ℕ → ℕ
  grow i = i * far

  abbrev pub shrink : ℕ → ℕ
  shrink i = left_of n far i

  -- how far the values go
  abbrev pub limit : ℕ
  limit = (size place u + 3 * far) * suc n

  one_step : (z m j : ℕ) → j < n → z ≤ m + grow j → z ≤ m + (3 * far) * n
  one_step z m j l h = omega (arith, h, gone-small far n j l, thrice far n)

  three_steps : (z y m j : ℕ) → j < n → y ≤ m + (shrink j + shrink j) → z ≤ y + grow j → z ≤ m + (3 * far) * n
  three_steps z y m j l g h = omega (arith, g, h, gone-small far n j l, left-small n far j, thrice far n)

  pub two-steps : (z m j a b : ℕ) → a ≤ n * far → b ≤ n * far → z ≤ m + (a + b) → z ≤ m + (3 * far) * n
  two-steps z m j a b g h l = omega (arith, g, h, l, thrice far n)

  -- all from c on moved up
  pub all-up : (c : ℤ) → ((k : ℤ) → Contains (ends_of q) k → k ≤ℤ c) → c <ℤ u x1 → c <ℤ u x2 → OtherSide q within plain d s place n x1 y1 x2 y2 i1 i2 → NeedsAt q n limit
  all-up c over l m o =
      other-rise q within plain d s place n x1 y1 x2 y2 i1 i2 p w (ups-inside q s u p.inside c over grow) (3 * far) record { near = λ j l a. one_step _ (nat_abs (u a)) j l (ups-near q s u p.inside c over grow j a) } o
      (rise-up n w x1 y1 u grow far near1 record {
        left = λ i. ups-value q s u p.inside c over grow i x1 l;
        right = λ i. ups-value q s u p.inside c over grow i y1 (omega (arith, ints, l, less1));
      } (λ i j a b. times_more far i j a))
      (rise-up n w x2 y2 u grow far near2 record {
        left = λ i. ups-value q s u p.inside c over grow i x2 m;
        right = λ i. ups-value q s u p.inside c over grow i y2 (omega (arith, ints, m, less2));
      } (λ i j a b. times_more far i j a))
    where
      w : ℕ → Assignment
      w = ups q s u p.inside c over grow

  -- all up to c moved down
  pub all-down : (c : ℤ) → ((k : ℤ) → Contains (ends_of q) k → c ≤ℤ k) → u y1 <ℤ c → u y2 <ℤ c → OtherSide q within plain d s place n x1 y1 x2 y2 i1 i2 → NeedsAt q n limit
  all-down c under l m o =
      other-fall q within plain d s place n x1 y1 x2 y2 i1 i2 p w (downs-inside q s u p.inside c under grow) (3 * far) record { near = λ j l a. one_step _ (nat_abs (u a)) j l (downs-near q s u p.inside c under grow j a) } o
      (fall-down n w x1 y1 u grow far near1 record {
        left = λ i. downs-value q s u p.inside c under grow i x1 (omega (arith, ints, l, less1));
        right = λ i. downs-value q s u p.inside c under grow i y1 l;
      } (λ i j a b. times_more far i j a))
      (fall-down n w x2 y2 u grow far near2 record {
        left = λ i. downs-value q s u p.inside c under grow i x2 (omega (arith, ints, m, less2));
        right = λ i. downs-value q s u p.inside c under grow i y2 m;
      } (λ i j a b. times_more far i j a))
    where
      w : ℕ → Assignment
      w = downs q s u p.inside c under grow

  -- the first link below the second, and all above the constants: the first moved up by equal steps, the second up by ever less
  pub chain-up : AllBelow q (u x1) → u y1 <ℤ u x2 → SameSide q within plain d s place n x1 y1 x2 y2 i1 i2 → NeedsAt q n limit
  chain-up f l o =
      same-needs q within plain d s place n x1 y1 x2 y2 i1 i2 p w (λ i. raised-inside q s (v i) (v_inside i) c1 over1 (grow i)) (3 * far)
      record { near = λ j l a. three_steps _ (nat_abs (v j a)) (nat_abs (u a)) j l (ups-near q s u p.inside (u y1) over2 extra j a) (raised-near q s (v j) (v_inside j) (u x1 -ℤ pos 1) over1 (grow j) a) } o
      (rise-up n w x1 y1 u grow far near1 record {
        left = λ i. first_link i x1 (omega (arith, ints)) (omega (arith, ints, less1));
        right = λ i. first_link i y1 (omega (arith, ints, less1)) (omega (arith, ints));
      } (λ i j a b. times_more far i j a))
      (fall-up n w x2 y2 u (falls_by n far) far near2 record {
        left = λ i. second_link i x2 l;
        right = λ i. second_link i y2 (omega (arith, ints, l, less2));
      } (λ i j a b. falls_less n far i j a b))
    where
      c1 : ℤ
      c1 = u x1 -ℤ pos 1

      extra : ℕ → ℕ
      extra i = shrink i + shrink i

      over1 : (k : ℤ) → Contains (ends_of q) k → k ≤ℤ (u x1 -ℤ pos 1)
      over1 k h = let m : k <ℤ u x1 = f k h in omega (arith, ints, m)

      over2 : (k : ℤ) → Contains (ends_of q) k → k ≤ℤ u y1
      over2 k h = let m : k <ℤ u x1 = f k h in omega (arith, ints, m, less1)

      v : ℕ → Assignment
      v = ups q s u p.inside (u y1) over2 extra

      v_inside : (i : ℕ) → InPart q s (v i)
      v_inside i = ups-inside q s u p.inside (u y1) over2 extra i

      w : ℕ → Assignment
      w i = raised_by q s (v i) (v_inside i) (u x1 -ℤ pos 1) over1 (grow i)

      first_link : (i : ℕ) (a : Attr) → (u x1 -ℤ pos 1) <ℤ u a → u a ≤ℤ u y1 → w i a ≡ u a +ℤ pos (grow i)
      first_link i a g h =
          let e : v i a ≡ u a = ups-still q s u p.inside (u y1) over2 extra i a h in
          raised-value q s (v i) (v_inside i) (u x1 -ℤ pos 1) over1 (grow i) a (subst (λ z. (u x1 -ℤ pos 1) <ℤ z) (sym e) g)
          ∙ ap (λ z. z +ℤ pos (grow i)) e

      second_link : (i : ℕ) (a : Attr) → u y1 <ℤ u a → w i a ≡ u a +ℤ pos (falls_by n far i)
      second_link i a h =
          let e : v i a ≡ u a +ℤ pos (extra i) = ups-value q s u p.inside (u y1) over2 extra i a h in
          let g : (u x1 -ℤ pos 1) <ℤ u a = omega (arith, ints, h, less1) in
          raised-value q s (v i) (v_inside i) (u x1 -ℤ pos 1) over1 (grow i) a (subst (λ z. (u x1 -ℤ pos 1) <ℤ z) (sym e) (below_still (u x1 -ℤ pos 1) (u a) (extra i) g))
          ∙ ap (λ z. z +ℤ pos (grow i)) e ∙ plus_more (u a) (extra i) (grow i)

  -- the same below the constants
  pub chain-down : AllAbove q (u y2) → u y1 <ℤ u x2 → SameSide q within plain d s place n x1 y1 x2 y2 i1 i2 → NeedsAt q n limit
  chain-down f l o =
      same-needs q within plain d s place n x1 y1 x2 y2 i1 i2 p w (λ i. lowered-inside q s (v i) (v_inside i) (u y2 +ℤ pos 1) under1 (grow i)) (3 * far)
      record { near = λ j m a. three_steps _ (nat_abs (v j a)) (nat_abs (u a)) j m (downs-near q s u p.inside (u y1 +ℤ pos 1) under2 extra j a) (lowered-near q s (v j) (v_inside j) (u y2 +ℤ pos 1) under1 (grow j) a) } o
      (rise-down n w x1 y1 u (falls_by n far) far near1 record {
        left = λ i. first_link i x1 (omega (arith, ints, less1));
        right = λ i. first_link i y1 (omega (arith, ints));
      } (λ i j a b. falls_less n far i j a b))
      (fall-down n w x2 y2 u grow far near2 record {
        left = λ i. second_link i x2 (omega (arith, ints, l)) (omega (arith, ints, less2));
        right = λ i. second_link i y2 (omega (arith, ints, l, less2)) (omega (arith, ints));
      } (λ i j a b. times_more far i j a))
    where
      extra : ℕ → ℕ
      extra i = shrink i + shrink i

      under1 : (k : ℤ) → Contains (ends_of q) k → (u y2 +ℤ pos 1) ≤ℤ k
      under1 k h = let m : u y2 <ℤ k = f k h in omega (arith, ints, m)

      under2 : (k : ℤ) → Contains (ends_of q) k → (u y1 +ℤ pos 1) ≤ℤ k
      under2 k h = let m : u y2 <ℤ k = f k h in omega (arith, ints, m, l, less2)

      v : ℕ → Assignment
      v = downs q s u p.inside (u y1 +ℤ pos 1) under2 extra

      v_inside : (i : ℕ) → InPart q s (v i)
      v_inside i = downs-inside q s u p.inside (u y1 +ℤ pos 1) under2 extra i

      w : ℕ → Assignment
      w i = lowered_by q s (v i) (v_inside i) (u y2 +ℤ pos 1) under1 (grow i)

      first_link : (i : ℕ) (a : Attr) → u a <ℤ (u y1 +ℤ pos 1) → w i a ≡ u a -ℤ pos (falls_by n far i)
      first_link i a h =
          let e : v i a ≡ u a -ℤ pos (extra i) = downs-value q s u p.inside (u y1 +ℤ pos 1) under2 extra i a h in
          let g : u a <ℤ (u y2 +ℤ pos 1) = omega (arith, ints, h, l, less2) in
          lowered-value q s (v i) (v_inside i) (u y2 +ℤ pos 1) under1 (grow i) a (subst (λ z. z <ℤ (u y2 +ℤ pos 1)) (sym e) (above_still (u y2 +ℤ pos 1) (u a) (extra i) g))
          ∙ ap (λ z. z -ℤ pos (grow i)) e ∙ minus_more (u a) (extra i) (grow i)

      second_link : (i : ℕ) (a : Attr) → (u y1 +ℤ pos 1) ≤ℤ u a → u a <ℤ (u y2 +ℤ pos 1) → w i a ≡ u a -ℤ pos (grow i)
      second_link i a g h =
          let e : v i a ≡ u a = downs-still q s u p.inside (u y1 +ℤ pos 1) under2 extra i a g in
          lowered-value q s (v i) (v_inside i) (u y2 +ℤ pos 1) under1 (grow i) a (subst (λ z. z <ℤ (u y2 +ℤ pos 1)) (sym e) h)
          ∙ ap (λ z. z -ℤ pos (grow i)) e

-- a link above the constants moved up, and a link below them moved down
module _ (q : QueryValue) (s : List Sign) (p : IsPart q s) (a b c e : Attr) (f g : ℕ → ℕ)
    (over : AllBelow q (p.one a)) (under : AllAbove q (p.one e)) (apart : p.one e <ℤ p.one a)
    (upper : p.one a <ℤ p.one b) (lower : p.one c <ℤ p.one e) where
  over_cut : (k : ℤ) → Contains (ends_of q) k → k ≤ℤ (p.one a -ℤ pos 1)
  over_cut k h = let m : k <ℤ p.one a = over k h in omega (arith, ints, m)

  under_cut : (k : ℤ) → Contains (ends_of q) k → (p.one e +ℤ pos 1) ≤ℤ k
  under_cut k h = let m : p.one e <ℤ k = under k h in omega (arith, ints, m)

  first_up : ℕ → Assignment
  first_up = ups q s p.one p.inside (p.one a -ℤ pos 1) over_cut f

  first_inside : (i : ℕ) → InPart q s (first_up i)
  unfolding first_up
  first_inside i = ups-inside q s p.one p.inside (p.one a -ℤ pos 1) over_cut f i

  pub ends : ℕ → Assignment
  ends i = lowered_by q s (first_up i) (first_inside i) (p.one e +ℤ pos 1) under_cut (g i)

  pub ends-inside : (i : ℕ) → InPart q s (ends i)
  unfolding ends
  ends-inside i = lowered-inside q s (first_up i) (first_inside i) (p.one e +ℤ pos 1) under_cut (g i)

  pub ends-near : (i : ℕ) (x : Attr) → nat_abs (ends i x) ≤ nat_abs (p.one x) + (f i + g i)
  unfolding ends first_up
  ends-near i x =
      let h : nat_abs (ends i x) ≤ nat_abs (first_up i x) + g i = lowered-near q s (first_up i) (first_inside i) (p.one e +ℤ pos 1) under_cut (g i) x in
      let k : nat_abs (first_up i x) ≤ nat_abs (p.one x) + f i = ups-near q s p.one p.inside (p.one a -ℤ pos 1) over_cut f i x in
      omega (arith, h, k)

  high : (i : ℕ) (x : Attr) → (p.one a -ℤ pos 1) <ℤ p.one x → ends i x ≡ p.one x +ℤ pos (f i)
  unfolding ends first_up
  high i x h =
      let t : first_up i x ≡ p.one x +ℤ pos (f i) = ups-value q s p.one p.inside (p.one a -ℤ pos 1) over_cut f i x h in
      let o : (p.one e +ℤ pos 1) ≤ℤ p.one x = omega (arith, ints, h, apart) in
      lowered-still q s (first_up i) (first_inside i) (p.one e +ℤ pos 1) under_cut (g i) x
      (subst (λ z. (p.one e +ℤ pos 1) ≤ℤ z) (sym t) (from_still (p.one e +ℤ pos 1) (p.one x) (f i) o)) ∙ t

  low : (i : ℕ) (x : Attr) → p.one x <ℤ (p.one e +ℤ pos 1) → ends i x ≡ p.one x -ℤ pos (g i)
  unfolding ends first_up
  low i x h =
      let t : first_up i x ≡ p.one x = ups-still q s p.one p.inside (p.one a -ℤ pos 1) over_cut f i x (omega (arith, ints, h, apart)) in
      lowered-value q s (first_up i) (first_inside i) (p.one e +ℤ pos 1) under_cut (g i) x (subst (λ z. z <ℤ (p.one e +ℤ pos 1)) (sym t) h)
      ∙ ap (λ z. z -ℤ pos (g i)) t

  pub upper-moved : (n : ℕ) → MovedUp n ends a b p.one f
  upper-moved n = record { left = λ i. high i a (omega (arith, ints)); right = λ i. high i b (omega (arith, ints, upper)) }

  pub lower-moved : (n : ℕ) → MovedDown n ends c e p.one g
  lower-moved n = record { left = λ i. low i c (omega (arith, ints, lower)); right = λ i. low i e (omega (arith, ints)) }
