-- What shows the signs of the rows that a part admits, and what a sign says of a row.
use Rattle.std.specs.Prelude.{◌≡◌, ◌≢◌, ℕ, ℤ, ◌+ℤ◌, Bool, true, not, ◌||◌, Option, IfSome}
use Rattle.sem_query.specs.declared.atom.Attr.{Attr}
use Rattle.sem_query.specs.declared.atom.Op.{Op}
use Rattle.sem_query.specs.declared.part.Sign.{Sign}
use Rattle.sem_query.specs.declared.part.Pair.{Pair}
use Rattle.sem_query.specs.declared.plan.LocalCondition.{LocalCondition}
use Rattle.sem_query.specs.declared.plan.PartPlan.{PartPlan}
use Rattle.sem_query.specs.Query.{QueryValue}
use Rattle.sem_query.specs.Assignment.{Assignment, value, compares}
use Rattle.sem_query.specs.Parts.{sign, sign_at, is_within}
use Rattle.sem_query.specs.Admission.{alone, keeps_local, meets_local, admits}
use Rattle.plan_implied_signs.specs.declared.showing.PossibleSigns.{PossibleSigns}
use Rattle.plan_implied_signs.specs.declared.showing.Stated.{Stated}

-- a comparison with the second side moved by a number does not hold where the sides have this sign
abbrev pub Excludes : Op → ℤ → Sign → Type 0
Excludes o k s = (x y : ℤ) → compares o x (y +ℤ k) ≡ true → sign x y ≢ s

-- it holds where the sides have this sign
abbrev pub Says : Sign → Op → ℤ → Type 0
Says s o k = (x y : ℤ) → sign x y ≡ s → compares o x (y +ℤ k) ≡ true

-- a condition asks of a row that the sides of a pair compare so, the second one moved by a number
abbrev pub IsOver : Pair → LocalCondition → Op → ℤ → Type 0
IsOver p t o k = (v : ℕ → ℤ) → meets_local (alone v) t ≡ compares o (v p.left.column) (value p.right (alone v) +ℤ k)

-- a row that has this sign at a pair meets a condition
abbrev pub SaysCondition : Pair → Sign → LocalCondition → Type 0
SaysCondition p s t = (v : ℕ → ℤ) → sign_at (alone v) p ≡ s → meets_local (alone v) t ≡ true

-- the sides of a pair compare so, the second one moved by a number
abbrev pub Stands : Assignment → Pair → Op → ℤ → Type 0
Stands v p o k = compares o (v p.left) (value p.right v +ℤ k) ≡ true

-- what a condition asks of the rows of the stream at a place
abbrev pub keeps_condition : ℕ → Assignment → LocalCondition → Bool
keeps_condition place v t = not (is_within place t.left t.right) || meets_local v t

-- whether a sign is possible
abbrev pub may_be : PossibleSigns → Sign → Bool
may_be possible Sign.Lt = possible.less
may_be possible Sign.Eq = possible.equal
may_be possible Sign.Gt = possible.greater

-- in a row that meets the conditions of a part at a place the sides of a pair compare as is known of them, if something is
abbrev pub IsKnown : PartPlan → ℕ → Pair → Option Stated → Type 0
IsKnown part place p known = (v : ℕ → ℤ) → keeps_local place (alone v) part.local ≡ true → IfSome known (λ s. Stands (alone v) p s.op s.by)

-- a row that meets the conditions of a part at a place has one of the possible signs at a pair
abbrev pub HasPossible : PartPlan → ℕ → Pair → PossibleSigns → Type 0
HasPossible part place p possible = (v : ℕ → ℤ) → keeps_local place (alone v) part.local ≡ true → may_be possible (sign_at (alone v) p) ≡ true

-- in a row that meets the conditions of a part at a place two columns are equal
abbrev pub AreEqualIn : PartPlan → ℕ → Attr → Attr → Type 0
AreEqualIn part place a b = (v : ℕ → ℤ) → keeps_local place (alone v) part.local ≡ true → v a.column ≡ v b.column

-- in such a row two pairs have one sign
abbrev pub AreAlike : PartPlan → ℕ → Pair → Pair → Type 0
AreAlike part place p r = (v : ℕ → ℤ) → keeps_local place (alone v) part.local ≡ true → sign_at (alone v) p ≡ sign_at (alone v) r

-- in such a row a pair has this sign
abbrev pub HasSign : PartPlan → ℕ → Pair → Sign → Type 0
HasSign part place p s = (v : ℕ → ℤ) → keeps_local place (alone v) part.local ≡ true → sign_at (alone v) p ≡ s

-- each row that a part admits at a place has this sign at a pair
abbrev pub ShowsSign : QueryValue → PartPlan → ℕ → Pair → Sign → Type 0
ShowsSign q part place p s = (v : ℕ → ℤ) → admits q part place v ≡ true → sign_at (alone v) p ≡ s
