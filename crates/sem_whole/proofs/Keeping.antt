-- A range that is cut to what is asked fits each window, and keeps to the own range.
use Rattle.std.proofs.Common.{◌≡◌, ℤ, ◌≤ℤ◌, int_lt, inl, inr, List, [], ◌∷◌, Bool, true, false, cond, Option, Some, None, refl, ap, ◌∙◌, arith}
use Rattle.std.proofs.lemmas.Int.{ints}
use Rattle.sem_query.proofs.Has.{Has, first, Has-nil}
use Rattle.sem_query.specs.Members as members
use Rattle.sem_whole.specs.Ranges.{Range, range, IsUnder, IsOver, IsFrom, IsTo, IsIn, raised, lowered, kept, lesser, greater, widest, later, sooner, cut, LowFits, HighFits, Fits}

-- the first end is none, or not beyond the second
abbrev pub LowTo : Option ℤ → Option ℤ → Type 0
LowTo None p = Unit {0}
LowTo (Some k) p = IsUnder k p

abbrev pub HighTo : Option ℤ → Option ℤ → Type 0
HighTo None p = Unit {0}
HighTo (Some k) p = IsOver k p

pub low_itself : (o : Option ℤ) → LowTo o o
low_itself None = tt
low_itself (Some k) = omega (arith, ints)

high_itself : (o : Option ℤ) → HighTo o o
high_itself None = tt
high_itself (Some k) = omega (arith, ints)

pub low_on : (o p r : Option ℤ) → LowTo o p → LowTo p r → LowTo o r
low_on None p r h k = tt
low_on (Some a) None r h k = absurd h
low_on (Some a) (Some b) None h k = absurd k
low_on (Some a) (Some b) (Some c) h k = omega (arith, ints, h, k)

pub high_on : (o p r : Option ℤ) → HighTo o p → HighTo p r → HighTo o r
high_on None p r h k = tt
high_on (Some a) None r h k = absurd h
high_on (Some a) (Some b) None h k = absurd k
high_on (Some a) (Some b) (Some c) h k = omega (arith, ints, h, k)

lesser_left : (a b : Option ℤ) → LowTo (lesser a b) a
lesser_left None b = tt
lesser_left (Some a) None = tt
lesser_left (Some a) (Some b) = by (int_lt a b) refl
  where
    by : (c : Bool) → int_lt a b ≡ c → LowTo (cond c (Some a) (Some b)) (Some a)
    by true e = omega (arith, ints)
    by false e = grind (arith, ints)

lesser_right : (a b : Option ℤ) → LowTo (lesser a b) b
lesser_right None b = tt
lesser_right (Some a) None = tt
lesser_right (Some a) (Some b) = by (int_lt a b) refl
  where
    by : (c : Bool) → int_lt a b ≡ c → LowTo (cond c (Some a) (Some b)) (Some b)
    by true e = grind (arith, ints)
    by false e = omega (arith, ints)

greater_left : (a b : Option ℤ) → HighTo (greater a b) a
greater_left None b = tt
greater_left (Some a) None = tt
greater_left (Some a) (Some b) = by (int_lt a b) refl
  where
    by : (c : Bool) → int_lt a b ≡ c → HighTo (cond c (Some b) (Some a)) (Some a)
    by true e = grind (arith, ints)
    by false e = omega (arith, ints)

greater_right : (a b : Option ℤ) → HighTo (greater a b) b
greater_right None b = tt
greater_right (Some a) None = tt
greater_right (Some a) (Some b) = by (int_lt a b) refl
  where
    by : (c : Bool) → int_lt a b ≡ c → HighTo (cond c (Some b) (Some a)) (Some b)
    by true e = omega (arith, ints)
    by false e = grind (arith, ints)

pub widest_low : (ws : List Range) (w : Range) → Has ws w → LowTo (widest ws).lo w.lo
widest_low [] w h = Has-nil h
widest_low (r ∷ []) w first = low_itself r.lo
widest_low (r ∷ []) w (members.later h) = Has-nil h
widest_low (r ∷ s ∷ rs) w first = lesser_left r.lo (widest (s ∷ rs)).lo
widest_low (r ∷ s ∷ rs) w (members.later h) = low_on _ _ _ (lesser_right r.lo (widest (s ∷ rs)).lo) (widest_low (s ∷ rs) w h)

pub widest_high : (ws : List Range) (w : Range) → Has ws w → HighTo (widest ws).hi w.hi
widest_high [] w h = Has-nil h
widest_high (r ∷ []) w first = high_itself r.hi
widest_high (r ∷ []) w (members.later h) = Has-nil h
widest_high (r ∷ s ∷ rs) w first = greater_left r.hi (widest (s ∷ rs)).hi
widest_high (r ∷ s ∷ rs) w (members.later h) = high_on _ _ _ (greater_right r.hi (widest (s ∷ rs)).hi) (widest_high (s ∷ rs) w h)

low_fits : (own w x : Option ℤ) → LowTo w x → LowFits (later own w) own x
low_fits None None x h = tt
low_fits None (Some b) x h = inr h
low_fits (Some a) None x h = inl (omega (arith, ints))
low_fits (Some a) (Some b) x h = by (int_lt a b)
  where
    by : (c : Bool) → LowFits (cond c (Some b) (Some a)) (Some a) x
    by true = inr h
    by false = inl (omega (arith, ints))

high_fits : (own w x : Option ℤ) → HighTo w x → HighFits (sooner own w) own x
high_fits None None x h = tt
high_fits None (Some b) x h = inr h
high_fits (Some a) None x h = inl (omega (arith, ints))
high_fits (Some a) (Some b) x h = by (int_lt a b)
  where
    by : (c : Bool) → HighFits (cond c (Some a) (Some b)) (Some a) x
    by true = inl (omega (arith, ints))
    by false = inr h

-- cut to the widest of some windows it fits each
pub cut_fits : (own : Range) (ws : List Range) (w : Range) → Has ws w → Fits (cut own (widest ws)) own w
cut_fits own ws w h = record { low = low_fits own.lo (widest ws).lo w.lo (widest_low ws w h); high = high_fits own.hi (widest ws).hi w.hi (widest_high ws w h) }

from_later : (a b : Option ℤ) (z : ℤ) → IsFrom (later a b) z → IsFrom a z
from_later None b z h = tt
from_later (Some a) None z h = h
from_later (Some a) (Some b) z h = by (int_lt a b) refl h
  where
    by : (c : Bool) → int_lt a b ≡ c → IsFrom (cond c (Some b) (Some a)) z → a ≤ℤ z
    by true e k = grind (arith, ints)
    by false e k = k

to_sooner : (a b : Option ℤ) (z : ℤ) → IsTo (sooner a b) z → IsTo a z
to_sooner None b z h = tt
to_sooner (Some a) None z h = h
to_sooner (Some a) (Some b) z h = by (int_lt a b) refl h
  where
    by : (c : Bool) → int_lt a b ≡ c → IsTo (cond c (Some a) (Some b)) z → z ≤ℤ a
    by true e k = k
    by false e k = grind (arith, ints)

-- the cut range keeps to the own range
pub cut_inside : (own w : Range) (z : ℤ) → IsIn (cut own w) z → IsIn own z
cut_inside own w z h = (from_later own.lo w.lo z h.0, to_sooner own.hi w.hi z h.1)

-- the ends are in order
abbrev pub InOrder : Option ℤ → Option ℤ → Type 0
InOrder None h = Unit {0}
InOrder (Some l) None = Unit {0}
InOrder (Some l) (Some h) = l ≤ℤ h

-- what is kept lies in the range
pub kept_inside : (l h : Option ℤ) (x : ℤ) → InOrder l h → IsIn (range l h) (kept (range l h) x)
kept_inside None None x o = (tt, tt)
kept_inside (Some l) None x o = (by (int_lt x l) refl, tt)
  where
    by : (c : Bool) → int_lt x l ≡ c → l ≤ℤ cond c l x
    by true e = omega (arith, ints)
    by false e = grind (arith, ints)
kept_inside None (Some h) x o = (tt, by (int_lt h x) refl)
  where
    by : (c : Bool) → int_lt h x ≡ c → cond c h x ≤ℤ h
    by true e = omega (arith, ints)
    by false e = grind (arith, ints)
kept_inside (Some l) (Some h) x o = at (cond (int_lt h x) h x) (low (int_lt h x) refl)
  where
    low : (c : Bool) → int_lt h x ≡ c → cond c h x ≤ℤ h
    low true e = omega (arith, ints)
    low false e = grind (arith, ints)

    by : (z : ℤ) → z ≤ℤ h → (c : Bool) → int_lt z l ≡ c → (l ≤ℤ cond c l z) × (cond c l z ≤ℤ h)
    by z k true e = (omega (arith, ints), o)
    by z k false e = (grind (arith, ints), k)

    at : (z : ℤ) → z ≤ℤ h → IsIn (range (Some l) (Some h)) (cond (int_lt z l) l z)
    at z k = by z k (int_lt z l) refl

-- a value in the range is kept as it is
pub kept_itself : (l h : Option ℤ) (x : ℤ) → IsIn (range l h) x → kept (range l h) x ≡ x
kept_itself l h x i = ap (raised l) (down h i.1) ∙ up l i.0
  where
    down : (h : Option ℤ) → IsTo h x → lowered h x ≡ x
    down None i = refl
    down (Some h) i = by (int_lt h x) refl
      where
        by : (c : Bool) → int_lt h x ≡ c → cond c h x ≡ x
        by true e = absurd (grind (arith, ints))
        by false e = refl

    up : (l : Option ℤ) → IsFrom l x → raised l x ≡ x
    up None i = refl
    up (Some l) i = by (int_lt x l) refl
      where
        by : (c : Bool) → int_lt x l ≡ c → cond c l x ≡ x
        by true e = absurd (grind (arith, ints))
        by false e = refl

pub kept_again : (l h : Option ℤ) (x : ℤ) → InOrder l h → kept (range l h) (kept (range l h) x) ≡ kept (range l h) x
kept_again l h x o = kept_itself l h _ (kept_inside l h x o)

order_low : (a b h : Option ℤ) → LowTo a b → InOrder b h → InOrder a h
order_low None b h k o = tt
order_low (Some a) None h k o = absurd k
order_low (Some a) (Some b) None k o = tt
order_low (Some a) (Some b) (Some c) k o = omega (arith, ints, k, o)

order_high : (l a b : Option ℤ) → HighTo a b → InOrder l b → InOrder l a
order_high None a b k o = tt
order_high (Some l) None b k o = tt
order_high (Some l) (Some a) None k o = absurd k
order_high (Some l) (Some a) (Some b) k o = omega (arith, ints, k, o)

order_later : (a b h : Option ℤ) → InOrder a h → InOrder b h → InOrder (later a b) h
order_later None b h i j = j
order_later (Some a) None h i j = i
order_later (Some a) (Some b) h i j = by (int_lt a b)
  where
    by : (c : Bool) → InOrder (cond c (Some b) (Some a)) h
    by true = j
    by false = i

order_sooner : (l a b : Option ℤ) → InOrder l a → InOrder l b → InOrder l (sooner a b)
order_sooner l None b i j = j
order_sooner l (Some a) None i j = i
order_sooner l (Some a) (Some b) i j = by (int_lt a b)
  where
    by : (c : Bool) → InOrder l (cond c (Some a) (Some b))
    by true = i
    by false = j

-- a range and a window that meet
pub record Meet (own w : Range) : Type 0 where
  pub alone : InOrder own.lo own.hi
  pub first : InOrder own.lo w.hi
  pub second : InOrder w.lo own.hi
  pub window : InOrder w.lo w.hi

-- cut to the widest of some windows it is not empty, where it meets one of them
pub cut_ordered : (own : Range) (ws : List Range) (w : Range) → Has ws w → Meet own w → InOrder (cut own (widest ws)).lo (cut own (widest ws)).hi
cut_ordered own ws w h m =
    order_later own.lo (widest ws).lo (sooner own.hi (widest ws).hi)
    (order_sooner own.lo own.hi (widest ws).hi m.alone (order_high own.lo (widest ws).hi w.hi (widest_high ws w h) m.first))
    (order_low (widest ws).lo w.lo (sooner own.hi (widest ws).hi) (widest_low ws w h)
    (order_sooner w.lo own.hi (widest ws).hi m.second (order_high w.lo (widest ws).hi w.hi (widest_high ws w h) m.window)))
