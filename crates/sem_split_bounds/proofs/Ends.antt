-- Columns without a greatest or without a least value.
use Rattle.std.proofs.Common.{◌≡◌, ℤ, neg_ℤ, ◌+ℤ◌, ◌⊎◌, inl, inr, List, refl, ap, arith}
use Rattle.std.proofs.lemmas.Int.{ints}
use Rattle.std.specs.declared.option.Option.{Option}
use Rattle.std.specs.declared.option.Option.TheVariants.{None, Some}
use Rattle.sem_query.specs.declared.atom.Attr.{Attr}
use Rattle.sem_query.specs.declared.atom.Element.TheVariants as element
use Rattle.sem_query.specs.Assignment.{value}
use Rattle.sem_query.proofs.Has.{Has}
use Rattle.sem_whole.specs.System.{Difference, Bound}
use Rattle.sem_whole.specs.Ranges.{Range}
use Rattle.sem_whole.specs.Kept.{IsLowest, IsHighest, IsRange}
use Rattle.sem_whole.specs.Whole.{IsFinite}
pub use Rattle.sem_split_bounds.specs.Steps.{NoTop, NoBottom}

-- what is bounded from below by a column without a greatest value has none
pub top_over : (ds : List Difference) (a b : Attr) (c : ℤ) → Bound ds (element.Attr a) (element.Attr b) c → NoTop ds a → NoTop ds b
top_over ds a b c h n k m = n (c +ℤ k) (λ v s. let x = h v s in let y = m v s in omega (arith, ints, x, y))

-- what is bounded from above by a column without a least value has none
pub bottom_under : (ds : List Difference) (a b : Attr) (c : ℤ) → Bound ds (element.Attr a) (element.Attr b) c → NoBottom ds b → NoBottom ds a
bottom_under ds a b c h n k m = n (k +ℤ neg_ℤ c) (λ v s. let x = h v s in let y = m v s in omega (arith, ints, x, y))

-- no difference puts a column without a greatest value under an integer
pub no_top_ends : (ds : List Difference) (a : Attr) (k : ℤ) (d : Difference) → Has ds d → d.left ≡ element.Attr a → d.right ≡ element.Const k → NoTop ds a → ⊥
no_top_ends ds a k d h l r n = n (d.by +ℤ k) (λ v s.
    let o = s d h in
    let x : value d.left v ≡ v a = ap (λ e. value e v) l in
    let y : value d.right v ≡ k = ap (λ e. value e v) r in
    omega (arith, ints, o, x, y))

-- no difference puts a column without a least value over an integer
pub no_bottom_ends : (ds : List Difference) (a : Attr) (k : ℤ) (d : Difference) → Has ds d → d.left ≡ element.Const k → d.right ≡ element.Attr a → NoBottom ds a → ⊥
no_bottom_ends ds a k d h l r n = n (k +ℤ neg_ℤ d.by) (λ v s.
    let o = s d h in
    let x : value d.left v ≡ k = ap (λ e. value e v) l in
    let y : value d.right v ≡ v a = ap (λ e. value e v) r in
    omega (arith, ints, o, x, y))

-- the first of two columns has no greatest value, or the second no least
pub data Free (ds : List Difference) (x y : Attr) : Type 0 where
  up : NoTop ds x → Free ds x y
  down : NoBottom ds y → Free ds x y

ends_by : (ds : List Difference) (a : Attr) (r : Range) (lo hi : Option ℤ) → r.lo ≡ lo → r.hi ≡ hi → IsLowest ds a lo → IsHighest ds a hi
    → (IsFinite r → ⊥) → NoTop ds a ⊎ NoBottom ds a
ends_by ds a r None hi x y l h n = inr l
ends_by ds a r (Some j) None x y l h n = inl h
ends_by ds a r (Some j) (Some k) x y l h n = absurd (n record { lo = j; hi = k; low = x; high = y })

-- a column of a range that is not finite has no greatest or no least value
pub open_ends : (ds : List Difference) (a : Attr) (r : Range) → IsRange ds a r → (IsFinite r → ⊥) → NoTop ds a ⊎ NoBottom ds a
open_ends ds a r is n = ends_by ds a r r.lo r.hi refl refl is.low is.high n
