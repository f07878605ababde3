-- Two links of one stream, each an order between streams with both sides beyond all constants.
use Rattle.std.proofs.Common.{◌≡◌, ℕ, suc, ◌+◌, ◌*◌, ◌-◌, ◌<◌, ◌≤◌, List, length, true, sym, ap, ◌∙◌, subst, arith, nat_abs, ℤ, pos, ◌+ℤ◌, ◌-ℤ◌, ◌<ℤ◌, ◌≤ℤ◌}
use Rattle.std.proofs.lemmas.Int.{ints}
use Rattle.sem_query.specs.declared.atom.Attr.{Attr}
use Rattle.sem_query.specs.declared.part.Sign.{Sign}
use Rattle.sem_query.specs.Query.{QueryValue}
use Rattle.sem_query.specs.Assignment.{Assignment}
use Rattle.sem_query.specs.Parts.{InPart, IsPart}
use Rattle.sem_query.specs.Links.{IsInequality}
use Rattle.sem_lower_bounds.specs.Plain.{IsPlain}
use Rattle.sem_lower_bounds.proofs.Formed.{IsFormed}
use Rattle.sem_lower_bounds.proofs.Separated.{NeedsAt}
use Rattle.sem_lower_bounds.proofs.Families.{IsFamily, sets-need}
use Rattle.sem_lower_bounds.proofs.OneLong.{mixed}
use Rattle.sem_lower_bounds.proofs.Ranges.{size, IsNear}
use Rattle.sem_lower_bounds.proofs.Mixing.{score, score-fails, mixed-here, mixed-other, mixed-fails}
use Rattle.sem_lower_bounds.proofs.Refusals.{two_streams, named_place}

-- numbers
up_step : (x y : ℤ) (d s t : ℕ) → y ≤ℤ (x +ℤ pos d) → s + d ≤ t → (y +ℤ pos s) ≤ℤ (x +ℤ pos t)
up_step x y d s t h l = omega (arith, ints, h, l)

down_step : (x y : ℤ) (d s t : ℕ) → y ≤ℤ (x +ℤ pos d) → s + d ≤ t → (y -ℤ pos t) ≤ℤ (x -ℤ pos s)
down_step x y d s t h l = omega (arith, ints, h, l)

pub near_left : (a b : ℤ) (d e : ℕ) → d ≡ nat_abs (b -ℤ a) + e → b ≤ℤ (a +ℤ pos d)
near_left a b d e h = omega (arith, ints, h)

pub near_right : (a b : ℤ) (d e : ℕ) → d ≡ e + nat_abs (b -ℤ a) → b ≤ℤ (a +ℤ pos d)
near_right a b d e h = omega (arith, ints, h)

pub times_more : (d m n : ℕ) → m < n → m * d + d ≤ n * d
times_more d m n l = let e : suc m * d ≤ n * d = grind (arith, l) in omega (arith, e)

-- what is left of n turns
abbrev pub left_of : ℕ → ℕ → ℕ → ℕ
left_of n d i = (n - i) * d

pub left_less : (n d i j : ℕ) → i < j → j < n → left_of n d j + d ≤ left_of n d i
left_less n d i j l m = times_more d (n - j) (n - i) (omega (arith, l, m))

gone_and_left : (n d i : ℕ) → i < n → left_of n d i + i * d ≡ n * d
gone_and_left n d i l =
    let e : (n - i) + i ≡ n = omega (arith, l) in
    let f : ((n - i) + i) * d ≡ (n - i) * d + i * d = distribute (n - i) i d in
    let g : ((n - i) + i) * d ≡ n * d = ap (λ k. k * d) e in omega (arith, f, g)
  where
    distribute : (a b c : ℕ) → (a + b) * c ≡ a * c + b * c
    distribute a b c = grind arith

-- no step is longer than all of them
pub gone-small : (d n j : ℕ) → j < n → j * d ≤ n * d
gone-small d n j l = grind (arith, l)

pub left-small : (n d j : ℕ) → left_of n d j ≤ n * d
left-small n d j = let e : n - j ≤ n = omega arith in times_less d (n - j) n e
  where
    times_less : (d a b : ℕ) → a ≤ b → a * d ≤ b * d
    times_less d a b l = grind (arith, l)

pub thrice : (d n : ℕ) → (3 * d) * n ≡ n * d + n * d + n * d
thrice d n = grind arith

-- twice what is left, and what is gone
abbrev pub falls_by : ℕ → ℕ → ℕ → ℕ
falls_by n d i = (left_of n d i + left_of n d i) + i * d

pub falls_less : (n d i j : ℕ) → i < j → j < n → falls_by n d j + d ≤ falls_by n d i
falls_less n d i j l m = omega (arith, left_less n d i j l m, gone_and_left n d i (omega (arith, l, m)), gone_and_left n d j m)

module _ (n : ℕ) (w : ℕ → Assignment) (x y : Attr) where
  -- of the first n assignments the later ones have x at or above y of the earlier ones
  pub record Rise : Type 0 where
    pub rise : (i j : ℕ) → i < j → j < n → w i y ≤ℤ w j x

  -- and the earlier ones x at or above y of the later ones
  pub record Fall : Type 0 where
    pub fall : (i j : ℕ) → i < j → j < n → w j y ≤ℤ w i x

  -- each assignment is u with both moved up, or both moved down, by f
  pub record MovedUp (u : Assignment) (f : ℕ → ℕ) : Type 0 where
    pub left : (i : ℕ) → w i x ≡ u x +ℤ pos (f i)
    pub right : (i : ℕ) → w i y ≡ u y +ℤ pos (f i)

  pub record MovedDown (u : Assignment) (f : ℕ → ℕ) : Type 0 where
    pub left : (i : ℕ) → w i x ≡ u x -ℤ pos (f i)
    pub right : (i : ℕ) → w i y ≡ u y -ℤ pos (f i)

  module _ (u : Assignment) (f : ℕ → ℕ) (d : ℕ) (near : u y ≤ℤ (u x +ℤ pos d)) where
    step_up : MovedUp u f → (i j : ℕ) → f i + d ≤ f j → w i y ≤ℤ w j x
    step_up m i j h = subst (λ z. z ≤ℤ w j x) (sym (m.right i)) (subst (λ z. (u y +ℤ pos (f i)) ≤ℤ z) (sym (m.left j)) (up_step (u x) (u y) d (f i) (f j) near h))

    step_down : MovedDown u f → (i j : ℕ) → f i + d ≤ f j → w j y ≤ℤ w i x
    step_down m i j h = subst (λ z. z ≤ℤ w i x) (sym (m.right j)) (subst (λ z. (u y -ℤ pos (f j)) ≤ℤ z) (sym (m.left i)) (down_step (u x) (u y) d (f i) (f j) near h))

    pub rise-up : MovedUp u f → ((i j : ℕ) → i < j → j < n → f i + d ≤ f j) → Rise
    rise-up m g = record { rise = λ i j l o. step_up m i j (g i j l o) }

    pub fall-up : MovedUp u f → ((i j : ℕ) → i < j → j < n → f j + d ≤ f i) → Fall
    fall-up m g = record { fall = λ i j l o. step_up m j i (g i j l o) }

    pub rise-down : MovedDown u f → ((i j : ℕ) → i < j → j < n → f j + d ≤ f i) → Rise
    rise-down m g = record { rise = λ i j l o. step_down m j i (g i j l o) }

    pub fall-down : MovedDown u f → ((i j : ℕ) → i < j → j < n → f i + d ≤ f j) → Fall
    fall-down m g = record { fall = λ i j l o. step_down m i j (g i j l o) }

-- a mixture in which x is not below y fails
module _ (q : QueryValue) (plain : IsPlain q) (s : List Sign) (x y : Attr) (i : IsInequality q s x y) (v u : Assignment) (a : InPart q s v) (b : InPart q s u) (place : ℕ) where
  fails_if : mixed place v u y ≤ℤ mixed place v u x → score q place v u ≡ 0
  fails_if l = score-fails q place v u (mixed-fails q plain s place v u a b (λ m.
      let k : mixed place v u x <ℤ mixed place v u y = i.less.less (mixed place v u) m in omega (arith, ints, l, k)))

  fails_left : x.stream ≡ place → u y ≤ℤ v x → score q place v u ≡ 0
  fails_left e l = fails_if
      (subst (λ z. z ≤ℤ mixed place v u x) (sym (mixed-other place v u y (λ f. i.across.across (e ∙ sym f))))
      (subst (λ z. u y ≤ℤ z) (sym (mixed-here place v u x e)) l))

  fails_right : y.stream ≡ place → v y ≤ℤ u x → score q place v u ≡ 0
  fails_right e l = fails_if
      (subst (λ z. z ≤ℤ mixed place v u x) (sym (mixed-here place v u y e))
      (subst (λ z. v y ≤ℤ z) (sym (mixed-other place v u x (λ f. i.across.across (f ∙ sym e)))) l))

-- two links with one side each in the stream at the place
module _ (q : QueryValue) (within : IsFormed q) (plain : IsPlain q) (d : q.distinct ≡ true) (s : List Sign) (place n : ℕ)
    (x1 y1 x2 y2 : Attr) (i1 : IsInequality q s x1 y1) (i2 : IsInequality q s x2 y2) where
  -- the left sides of both are there, or the right sides of both
  pub data SameSide : Type 0 where
    lefts : x1.stream ≡ place → x2.stream ≡ place → SameSide
    rights : y1.stream ≡ place → y2.stream ≡ place → SameSide

  -- the left side of the first, and the right side of the second
  pub record OtherSide : Type 0 where
    pub left : x1.stream ≡ place
    pub right : y2.stream ≡ place

  module _ (p : IsPart q s) (w : ℕ → Assignment) (inside : (i : ℕ) → InPart q s (w i)) (c : ℕ) (near : IsNear p.one c n w) where
    family : place < length q.from → IsFamily q place w
    family l = record { at = l; each = λ i. (inside i).holds }

    two : 1 < length q.from
    two = two_streams q within plain.domains plain.compact s p x1 y1 i1.across

    pub same-needs : SameSide → Rise n w x1 y1 → Fall n w x2 y2 → NeedsAt q n ((size place p.one + c) * suc n)
    same-needs (lefts e f) r g =
        sets-need q within place w (family (subst (λ k. k < length q.from) e (named_place q within plain.domains plain.compact s p x1 i1.across.left))) two d n p.one c near
        (λ i j l o. fails_left q plain s x1 y1 i1 (w j) (w i) (inside j) (inside i) place e (r.rise i j l o))
        (λ i j l o. fails_left q plain s x2 y2 i2 (w j) (w i) (inside j) (inside i) place f (g.fall j i l o))
    same-needs (rights e f) r g =
        sets-need q within place w (family (subst (λ k. k < length q.from) e (named_place q within plain.domains plain.compact s p y1 i1.across.right))) two d n p.one c near
        (λ i j l o. fails_right q plain s x2 y2 i2 (w j) (w i) (inside j) (inside i) place f (g.fall i j l o))
        (λ i j l o. fails_right q plain s x1 y1 i1 (w j) (w i) (inside j) (inside i) place e (r.rise j i l o))

    pub other-rise : OtherSide → Rise n w x1 y1 → Rise n w x2 y2 → NeedsAt q n ((size place p.one + c) * suc n)
    other-rise o r g =
        sets-need q within place w (family (subst (λ k. k < length q.from) o.left (named_place q within plain.domains plain.compact s p x1 i1.across.left))) two d n p.one c near
        (λ i j l m. fails_left q plain s x1 y1 i1 (w j) (w i) (inside j) (inside i) place o.left (r.rise i j l m))
        (λ i j l m. fails_right q plain s x2 y2 i2 (w j) (w i) (inside j) (inside i) place o.right (g.rise j i l m))

    pub other-fall : OtherSide → Fall n w x1 y1 → Fall n w x2 y2 → NeedsAt q n ((size place p.one + c) * suc n)
    other-fall o r g =
        sets-need q within place w (family (subst (λ k. k < length q.from) o.left (named_place q within plain.domains plain.compact s p x1 i1.across.left))) two d n p.one c near
        (λ i j l m. fails_right q plain s x2 y2 i2 (w j) (w i) (inside j) (inside i) place o.right (g.fall i j l m))
        (λ i j l m. fails_left q plain s x1 y1 i1 (w j) (w i) (inside j) (inside i) place o.left (r.fall j i l m))
