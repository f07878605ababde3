-- Ranges of integers that may be open, values kept within one, and the values that a comparison can tell apart.
use Rattle.std.specs.Prelude.{ℤ, pos, neg_ℤ, ◌+ℤ◌, ◌≤ℤ◌, int_lt, ◌⊎◌, if◌then◌else◌, List, [], ◌∷◌}
use Rattle.std.specs.declared.option.Option.{Option}
use Rattle.std.specs.declared.option.Option.TheVariants.{None, Some}
use Rattle.sem_query.specs.declared.atom.Op.{Op}

-- from the least to the greatest, where there is one
pub record Range : Type 0 where
  pub lo : Option ℤ
  pub hi : Option ℤ

abbrev pub range : Option ℤ → Option ℤ → Range
range l h = record { lo = l; hi = h }

-- all integers
abbrev pub whole : Range
whole = range None None

-- k is at most the end, which is there
abbrev pub IsUnder : ℤ → Option ℤ → Type 0
IsUnder k None = ⊥
IsUnder k (Some l) = k ≤ℤ l

-- k is at least the end, which is there
abbrev pub IsOver : ℤ → Option ℤ → Type 0
IsOver k None = ⊥
IsOver k (Some h) = h ≤ℤ k

-- the value is not below the least
abbrev pub IsFrom : Option ℤ → ℤ → Type 0
IsFrom None x = Unit {0}
IsFrom (Some l) x = l ≤ℤ x

-- the value is not above the greatest
abbrev pub IsTo : Option ℤ → ℤ → Type 0
IsTo None x = Unit {0}
IsTo (Some h) x = x ≤ℤ h

-- the value is in the range
abbrev pub IsIn : Range → ℤ → Type 0
IsIn r x = IsFrom r.lo x × IsTo r.hi x

abbrev pub raised : Option ℤ → ℤ → ℤ
raised None x = x
raised (Some l) x = if int_lt x l then l else x

abbrev pub lowered : Option ℤ → ℤ → ℤ
lowered None x = x
lowered (Some h) x = if int_lt h x then h else x

-- a value outside is kept as the nearest end
abbrev pub kept : Range → ℤ → ℤ
kept r x = raised r.lo (lowered r.hi x)

-- an end, moved
abbrev pub moved : ℤ → Option ℤ → Option ℤ
moved by None = None
moved by (Some k) = Some (k +ℤ by)

-- the values of the left side that a comparison can tell apart, where the right side has this range; of `=` all
abbrev pub window : Op → Range → Range
window Op.Lt r = range (moved (neg_ℤ (pos 1)) r.lo) r.hi
window Op.Le r = range r.lo (moved (pos 1) r.hi)
window Op.Gt r = range r.lo (moved (pos 1) r.hi)
window Op.Ge r = range (moved (neg_ℤ (pos 1)) r.lo) r.hi
window Op.Ne r = range (moved (neg_ℤ (pos 1)) r.lo) (moved (pos 1) r.hi)
window Op.Eq r = whole

-- the operator read from the right
abbrev pub flipped : Op → Op
flipped Op.Lt = Op.Gt
flipped Op.Le = Op.Ge
flipped Op.Gt = Op.Lt
flipped Op.Ge = Op.Le
flipped Op.Ne = Op.Ne
flipped Op.Eq = Op.Eq

abbrev pub lesser : Option ℤ → Option ℤ → Option ℤ
lesser None b = None
lesser (Some a) None = None
lesser (Some a) (Some b) = if int_lt a b then Some a else Some b

abbrev pub greater : Option ℤ → Option ℤ → Option ℤ
greater None b = None
greater (Some a) None = None
greater (Some a) (Some b) = if int_lt a b then Some b else Some a

-- the least range that holds all of some ranges
abbrev pub widest : List Range → Range
widest [] = range (Some (pos 0)) (Some (pos 0))
widest (r ∷ []) = r
widest (r ∷ s ∷ rs) = let w = widest (s ∷ rs) in range (lesser r.lo w.lo) (greater r.hi w.hi)

abbrev pub later : Option ℤ → Option ℤ → Option ℤ
later None b = b
later (Some a) None = Some a
later (Some a) (Some b) = if int_lt a b then Some b else Some a

abbrev pub sooner : Option ℤ → Option ℤ → Option ℤ
sooner None b = b
sooner (Some a) None = Some a
sooner (Some a) (Some b) = if int_lt a b then Some a else Some b

-- a range cut to another
abbrev pub cut : Range → Range → Range
cut own w = range (later own.lo w.lo) (sooner own.hi w.hi)

-- an end is no end, or not beyond one of these two
abbrev pub LowFits : Option ℤ → Option ℤ → Option ℤ → Type 0
LowFits None own w = Unit {0}
LowFits (Some k) own w = IsUnder k own ⊎ IsUnder k w

abbrev pub HighFits : Option ℤ → Option ℤ → Option ℤ → Type 0
HighFits None own w = Unit {0}
HighFits (Some k) own w = IsOver k own ⊎ IsOver k w

-- at each end the range reaches to that of the own range or of the window
pub record Fits (r own w : Range) : Type 0 where
  pub low : LowFits r.lo own.lo w.lo
  pub high : HighFits r.hi own.hi w.hi
