-- Motions: what may be added to the columns of a solution so that it stays one, and what they prove of bounds.
use Rattle.std.proofs.Common.{◌≡◌, ◌+◌, ◌≤◌, ℤ, pos, nat_abs, ◌+ℤ◌, ◌-ℤ◌, ◌≤ℤ◌, ◌⊎◌, inl, inr, Bool, true, false, cond, List, refl, ◌∙◌, ap, arith}
use Rattle.std.proofs.lemmas.Int.{ints}
use Rattle.sem_query.specs.declared.atom.Attr.{Attr}
use Rattle.sem_query.specs.declared.atom.Element.{Element}
use Rattle.sem_query.specs.declared.atom.Element.TheVariants as element
use Rattle.sem_query.specs.Query.{QueryValue}
use Rattle.sem_query.specs.Assignment.{Assignment, value}
use Rattle.sem_query.proofs.Has.{Has}
use Rattle.sem_laws.proofs.Tests.{true_or_false, false_if}
use Rattle.sem_whole.specs.System.{Difference, system, Solves, Bound}
use Rattle.sem_lower_bounds.proofs.Possible.{Possible}
use Rattle.sem_split_bounds.proofs.Paths.{Leads, here}
use Rattle.sem_split_bounds.proofs.Ends.{Free, up, down}
use Rattle.sem_split_bounds.proofs.Reach.{inside, IsAhead, IsBehind, Reach, ReachedBy, raised_with, lowered_with}

-- what is added to an element: to an integer nothing
abbrev pub by_side : (Attr → ℤ) → Element → ℤ
by_side m (element.Attr a) = m a
by_side m (element.Const k) = pos 0

-- to the right side of no difference less is added than to its left side
pub record IsMotion (ds : List Difference) (m : Attr → ℤ) : Type 0 where
  pub rises : (d : Difference) → Has ds d → by_side m d.left ≤ℤ by_side m d.right

abbrev pub moved : Assignment → (Attr → ℤ) → Assignment
moved u m a = u a +ℤ m a

pub value_moved : (u : Assignment) (m : Attr → ℤ) (x : Element) → value x (moved u m) ≡ value x u +ℤ by_side m x
value_moved u m (element.Attr a) = refl
value_moved u m (element.Const k) = omega (arith, ints)

pub moved_solves : (ds : List Difference) (u : Assignment) (m : Attr → ℤ) → Solves ds u → IsMotion ds m → Solves ds (moved u m)
moved_solves ds u m s r d h =
    let a = s d h in
    let b = r.rises d h in
    let e = value_moved u m d.left in
    let f = value_moved u m d.right in
    omega (arith, ints, a, b, e, f)

-- ---- two blocks of columns, the first before the second

-- x in the first block, y in the second alone, nothing elsewhere
unfoldable pub two_blocks : (Attr → Bool) → (Attr → Bool) → ℤ → ℤ → Attr → ℤ
two_blocks f g x y a = cond (f a) x (cond (g a) y (pos 0))

pub blocks_first : (f g : Attr → Bool) (x y : ℤ) (a : Attr) → f a ≡ true → two_blocks f g x y a ≡ x
unfolding two_blocks
blocks_first f g x y a e = ap (λ b. cond b x (cond (g a) y (pos 0))) e

pub blocks_second : (f g : Attr → Bool) (x y : ℤ) (a : Attr) → f a ≡ false → g a ≡ true → two_blocks f g x y a ≡ y
unfolding two_blocks
blocks_second f g x y a e h = ap (λ b. cond b x (cond (g a) y (pos 0))) e ∙ ap (λ b. cond b y (pos 0)) h

pub blocks_neither : (f g : Attr → Bool) (x y : ℤ) (a : Attr) → f a ≡ false → g a ≡ false → two_blocks f g x y a ≡ pos 0
unfolding two_blocks
blocks_neither f g x y a e h = ap (λ b. cond b x (cond (g a) y (pos 0))) e ∙ ap (λ b. cond b y (pos 0)) h

-- of two blocks that are moved alike
pub blocks_either : (f g : Attr → Bool) (x : ℤ) (a : Attr) → (f a ≡ true) ⊎ (g a ≡ true) → two_blocks f g x x a ≡ x
blocks_either f g x a (inl e) = blocks_first f g x x a e
blocks_either f g x a (inr h) = elim (true_or_false (f a)) [
  | inl e ↦ blocks_first f g x x a e
  | inr e ↦ blocks_second f g x x a e h
]

blocks_at : (f g : Attr → Bool) (x y : ℤ) (e : Element) → by_side (two_blocks f g x y) e ≡ cond (inside f e) x (cond (inside g e) y (pos 0))
unfolding two_blocks
blocks_at f g x y (element.Attr a) = refl
blocks_at f g x y (element.Const k) = refl

rise_ahead : (a b c d : Bool) (x y : ℤ) → (a ≡ true → c ≡ true) → (b ≡ true → d ≡ true) → pos 0 ≤ℤ y → y ≤ℤ x
    → cond a x (cond b y (pos 0)) ≤ℤ cond c x (cond d y (pos 0))
rise_ahead true b true d x y f g h k = omega (arith, ints)
rise_ahead true b false d x y f g h k = let e : false ≡ true = f refl in absurd cc
rise_ahead false true true d x y f g h k = omega (arith, ints, h, k)
rise_ahead false true false true x y f g h k = omega (arith, ints)
rise_ahead false true false false x y f g h k = let e : false ≡ true = g refl in absurd cc
rise_ahead false false true d x y f g h k = omega (arith, ints, h, k)
rise_ahead false false false true x y f g h k = omega (arith, ints, h)
rise_ahead false false false false x y f g h k = omega (arith, ints)

rise_behind : (a b c d : Bool) (x y : ℤ) → (c ≡ true → a ≡ true) → (d ≡ true → b ≡ true) → y ≤ℤ pos 0 → x ≤ℤ y
    → cond a x (cond b y (pos 0)) ≤ℤ cond c x (cond d y (pos 0))
rise_behind true b true d x y f g h k = omega (arith, ints)
rise_behind true b false true x y f g h k = omega (arith, ints, k)
rise_behind true b false false x y f g h k = omega (arith, ints, h, k)
rise_behind false b true d x y f g h k = let e : false ≡ true = f refl in absurd cc
rise_behind false true false true x y f g h k = omega (arith, ints)
rise_behind false true false false x y f g h k = omega (arith, ints, h)
rise_behind false false false true x y f g h k = let e : false ≡ true = g refl in absurd cc
rise_behind false false false false x y f g h k = omega (arith, ints)

rise_apart : (a b c d : Bool) (x y : ℤ) → (a ≡ true → c ≡ true) → (d ≡ true → b ≡ true) → pos 0 ≤ℤ x → y ≤ℤ pos 0
    → cond a x (cond b y (pos 0)) ≤ℤ cond c x (cond d y (pos 0))
rise_apart true b true d x y f g h k = omega (arith, ints)
rise_apart true b false d x y f g h k = let e : false ≡ true = f refl in absurd cc
rise_apart false true true d x y f g h k = omega (arith, ints, h, k)
rise_apart false true false true x y f g h k = omega (arith, ints)
rise_apart false true false false x y f g h k = omega (arith, ints, k)
rise_apart false false true d x y f g h k = omega (arith, ints, h)
rise_apart false false false true x y f g h k = let e : false ≡ true = g refl in absurd cc
rise_apart false false false false x y f g h k = omega (arith, ints)

blocks_rise : (f g : Attr → Bool) (x y : ℤ) (l r : Element)
    → cond (inside f l) x (cond (inside g l) y (pos 0)) ≤ℤ cond (inside f r) x (cond (inside g r) y (pos 0))
    → by_side (two_blocks f g x y) l ≤ℤ by_side (two_blocks f g x y) r
blocks_rise f g x y l r h = let a = blocks_at f g x y l in let b = blocks_at f g x y r in omega (arith, ints, a, b, h)

-- both raised, the first by no less
pub blocks_ahead : (ds : List Difference) (f g : Attr → Bool) (x y : ℤ) → IsAhead ds f → IsAhead ds g → pos 0 ≤ℤ y → y ≤ℤ x → IsMotion ds (two_blocks f g x y)
blocks_ahead ds f g x y p r h k = record {
  rises = λ d i. blocks_rise f g x y d.left d.right (rise_ahead (inside f d.left) (inside g d.left) (inside f d.right) (inside g d.right) x y (p d i) (r d i) h k);
}

-- both lowered, the first by no less
pub blocks_behind : (ds : List Difference) (f g : Attr → Bool) (x y : ℤ) → IsBehind ds f → IsBehind ds g → y ≤ℤ pos 0 → x ≤ℤ y → IsMotion ds (two_blocks f g x y)
blocks_behind ds f g x y p r h k = record {
  rises = λ d i. blocks_rise f g x y d.left d.right (rise_behind (inside f d.left) (inside g d.left) (inside f d.right) (inside g d.right) x y (p d i) (r d i) h k);
}

-- the first raised, and of the second what is not in the first lowered
pub blocks_apart : (ds : List Difference) (f g : Attr → Bool) (x y : ℤ) → IsAhead ds f → IsBehind ds g → pos 0 ≤ℤ x → y ≤ℤ pos 0 → IsMotion ds (two_blocks f g x y)
blocks_apart ds f g x y p r h k = record {
  rises = λ d i. blocks_rise f g x y d.left d.right (rise_apart (inside f d.left) (inside g d.left) (inside f d.right) (inside g d.right) x y (p d i) (r d i) h k);
}

near_by : (b c : Bool) (z x y : ℤ) → nat_abs (z +ℤ cond b x (cond c y (pos 0))) ≤ nat_abs z + (nat_abs x + nat_abs y)
near_by true c z x y = omega (arith, ints)
near_by false true z x y = omega (arith, ints)
near_by false false z x y = omega (arith, ints)

pub moved_near : (u : Assignment) (f g : Attr → Bool) (x y : ℤ) (a : Attr) → nat_abs (moved u (two_blocks f g x y) a) ≤ nat_abs (u a) + (nat_abs x + nat_abs y)
unfolding two_blocks
moved_near u f g x y a = near_by (f a) (g a) (u a) x y

-- ---- bounds of columns without an end are paths

module _ (q : QueryValue) (u : Assignment) (s : Solves (system q) u) where
  raised : (a b : Attr) (c : ℤ) → Bound (system q) (element.Attr a) (element.Attr b) c → (Leads (system q) a b → ⊥) → (f : Attr → Bool) → Reach (system q) a f → ⊥
  raised a b c h none f r =
      let t : ℤ = ((c +ℤ u b) -ℤ u a) +ℤ pos 1 in
      let m : Attr → ℤ = two_blocks f f t (pos 0) in
      let k = h u s in
      let l = h (moved u m) (moved_solves (system q) u m s (blocks_ahead (system q) f f t (pos 0) r.ahead r.ahead (omega (arith, ints)) (omega (arith, ints, k)))) in
      let e : m a ≡ t = blocks_first f f t (pos 0) a (r.all a here) in
      let away : f b ≡ false = false_if (f b) (λ i. none (r.only b i)) in
      let g : m b ≡ pos 0 = blocks_neither f f t (pos 0) b away away in
      omega (arith, ints, k, l, e, g)

  lowered : (a b : Attr) (c : ℤ) → Bound (system q) (element.Attr a) (element.Attr b) c → (Leads (system q) a b → ⊥) → (f : Attr → Bool) → ReachedBy (system q) b f → ⊥
  lowered a b c h none f r =
      let t : ℤ = (u a -ℤ (c +ℤ u b)) -ℤ pos 1 in
      let m : Attr → ℤ = two_blocks f f t (pos 0) in
      let k = h u s in
      let l = h (moved u m) (moved_solves (system q) u m s (blocks_behind (system q) f f t (pos 0) r.behind r.behind (omega (arith, ints)) (omega (arith, ints, k)))) in
      let e : m b ≡ t = blocks_first f f t (pos 0) b (r.all b here) in
      let away : f a ≡ false = false_if (f a) (λ i. none (r.only a i)) in
      let g : m a ≡ pos 0 = blocks_neither f f t (pos 0) a away away in
      omega (arith, ints, k, l, e, g)

  pub tight : (a b : Attr) (c : ℤ) → Free (system q) a b → Bound (system q) (element.Attr a) (element.Attr b) c → Possible (Leads (system q) a b)
  tight a b c (up n) h = λ none. raised_with q a n (λ r. raised a b c h none r.0 r.1)
  tight a b c (down n) h = λ none. lowered_with q b n (λ r. lowered a b c h none r.0 r.1)
