-- Narrowed dims keep to the dims that they come from.
use Rattle.std.proofs.Common.{◌≡◌, ℕ, zero, suc, ◌+◌, ◌*◌, ◌<◌, ◌≤◌, Bool, true, false, cond, List, [], ◌∷◌, map, refl, sym, ap, ◌∙◌, arith, ℤ, pos, ◌≤ℤ◌, ◌+ℤ◌, ◌-ℤ◌, int_lt, if◌then◌else◌, ◌&&◌}
use Rattle.std.specs.Prelude.{Option, Some, None, int_le, nat_abs}
use Rattle.std.proofs.lemmas.Int.{ints}
use Rattle.std.proofs.Math.Nat.{mul-le-mul}
use Rattle.sem_query.specs.Boxes.{dim_size, range_size, box_size, AreNumbered, AreFull, AreInside}
use Rattle.sem_query.specs.declared.atom.Attr.{Attr}
use Rattle.sem_query.specs.declared.plan.Dim.{Dim}
use Rattle.sem_query.specs.declared.plan.Link.{Link}
use Rattle.sem_query.proofs.BoxLaws.{range-inside, range-below}
use Rattle.exec_ranges.specs.Lined.{IsFixed}
use Rattle.exec_synopsis.specs.Narrowing.{narrowed_to, below, above, clip_by, clip, narrowed_by, narrow, binding_column}
use Rattle.sem_query.specs.Query.{attr_eq}
use Rattle.sem_query.specs.Probing.{is_known}

-- what a narrowed dim keeps
pub record IsNarrower (n d : Dim) : Type 0 where
  pub size : dim_size n ≤ dim_size d
  pub inside : (v : ℤ) → n.lo ≤ℤ v → v ≤ℤ n.hi → (d.lo ≤ℤ v) × (v ≤ℤ d.hi)

pub one-value : (v : ℤ) → range_size v v ≡ 1
one-value v = by (int_lt v v) refl
  where
    by : (t : Bool) → int_lt v v ≡ t → cond t 0 (nat_abs (v -ℤ v) + 1) ≡ 1
    by true e = absurd (omega (arith, ints, e))
    by false e = omega (arith, ints)

to-one : (d : Dim) (v : ℤ) → (s t : Bool) → int_le d.lo v ≡ s → int_le v d.hi ≡ t →
    IsNarrower (if s && t then record { attr = d.attr; lo = v; hi = v } else record { attr = d.attr; lo = pos 1; hi = pos 0 }) d
to-one d v true true e g = let z = range-inside d.lo d.hi v (omega (arith, ints, e)) (omega (arith, ints, g)) in record {
  size = omega (arith, one-value v, z);
  inside = λ u a b. (omega (arith, ints, a, b, e, g), omega (arith, ints, a, b, e, g));
}
to-one d v true false e g = record { size = omega arith; inside = λ u a b. absurd (omega (arith, ints, a, b)) }
to-one d v false true e g = record { size = omega arith; inside = λ u a b. absurd (omega (arith, ints, a, b)) }
to-one d v false false e g = record { size = omega arith; inside = λ u a b. absurd (omega (arith, ints, a, b)) }

-- a range within another is no longer
range-within : (lo hi low high : ℤ) → lo ≤ℤ low → high ≤ℤ hi → range_size low high ≤ range_size lo hi
range-within lo hi low high a b = by (int_lt high low) (int_lt hi lo) refl refl
  where
    by : (s t : Bool) → int_lt high low ≡ s → int_lt hi lo ≡ t → cond s 0 (nat_abs (high -ℤ low) + 1) ≤ cond t 0 (nat_abs (hi -ℤ lo) + 1)
    by true t e f = omega arith
    by false true e f = absurd (omega (arith, ints, e, f, a, b))
    by false false e f = omega (arith, ints, e, f, a, b)

narrower-none : (d : Dim) → IsNarrower (record { attr = d.attr; lo = pos 1; hi = pos 0 }) d
narrower-none d = record { size = omega arith; inside = λ u a b. absurd (omega (arith, ints, a, b)) }

narrower-same : (d : Dim) → IsNarrower d d
narrower-same d = record { size = omega arith; inside = λ u a b. (a, b) }

pub below-narrower : (d : Dim) (v : ℤ) → IsNarrower (below d v) d
below-narrower d v = by (int_lt d.lo v) (int_lt d.hi v) refl refl
  where
    by : (s t : Bool) → int_lt d.lo v ≡ s → int_lt d.hi v ≡ t → IsNarrower (if s then (if t then d else record { attr = d.attr; lo = d.lo; hi = v -ℤ pos 1 }) else record { attr = d.attr; lo = pos 1; hi = pos 0 }) d
    by true true e f = narrower-same d
    by true false e f = record { size = range-within d.lo d.hi d.lo (v -ℤ pos 1) (omega (arith, ints)) (omega (arith, ints, f)); inside = λ u a b. (a, omega (arith, ints, b, f)) }
    by false t e f = narrower-none d

pub above-narrower : (d : Dim) (v : ℤ) → IsNarrower (above d v) d
above-narrower d v = by (int_lt v d.hi) (int_lt v d.lo) refl refl
  where
    by : (s t : Bool) → int_lt v d.hi ≡ s → int_lt v d.lo ≡ t → IsNarrower (if s then (if t then d else record { attr = d.attr; lo = v +ℤ pos 1; hi = d.hi }) else record { attr = d.attr; lo = pos 1; hi = pos 0 }) d
    by true true e f = narrower-same d
    by true false e f = record { size = range-within d.lo d.hi (v +ℤ pos 1) d.hi (omega (arith, ints, f)) (omega (arith, ints)); inside = λ u a b. (omega (arith, ints, a, f), b) }
    by false t e f = narrower-none d

clip-by-narrower : (arriving place : ℕ) (l : Link) (values : Attr → ℤ) (d : Dim) → IsNarrower (clip_by arriving place l values d) d
clip-by-narrower arriving place l values d = by (attr_eq l.left d.attr && is_known arriving place l.right) (attr_eq l.right d.attr && is_known arriving place l.left)
  where
    by : (s t : Bool) → IsNarrower (if s then below d (values l.right) else (if t then above d (values l.left) else d)) d
    by true t = below-narrower d (values l.right)
    by false true = above-narrower d (values l.left)
    by false false = narrower-same d

pub clip-narrower : (arriving place : ℕ) (links : List Link) (values : Attr → ℤ) (d : Dim) → IsNarrower (clip arriving place links values d) d
clip-narrower arriving place [] values d = narrower-same d
clip-narrower arriving place (l ∷ ls) values d =
    let a = clip-narrower arriving place ls values (clip_by arriving place l values d) in
    let b = clip-by-narrower arriving place l values d in
    record {
      size = (let x = a.size in let y = b.size in omega (arith, x, y));
      inside = λ v m n. (let i = a.inside v m n in b.inside v i.0 i.1);
    }

pub narrower-by : (d other : Dim) (values : Attr → ℤ) (a : Option Attr) → IsNarrower other d → IsNarrower (narrowed_by d other values a) d
narrower-by d other values None h = h
narrower-by d other values (Some a) h = to-one d (values a) (int_le d.lo (values a)) (int_le (values a) d.hi) refl refl

pub narrower : (arriving place : ℕ) (equal less : List Link) (values : Attr → ℤ) (d : Dim) → d.lo ≤ℤ d.hi → IsNarrower (narrow arriving place equal less values d) d
unfolding narrow
narrower arriving place equal less values d f = narrower-by d (clip arriving place less values d) values (binding_column arriving place d.attr equal) (clip-narrower arriving place less values d)

-- a dim that a known column fixes
pub fixed-narrow : (arriving place : ℕ) (equal less : List Link) (values : Attr → ℤ) (d : Dim) (a : Attr) (n : Dim) → binding_column arriving place d.attr equal ≡ Some a → n ≡ narrowed_to d (values a) → n.lo ≤ℤ n.hi → IsFixed d (narrow arriving place equal less values d) n
unfolding narrow
fixed-narrow arriving place equal less values d a n e is some = by (int_le d.lo (values a)) (int_le (values a) d.hi) refl refl is
  where
    by : (s t : Bool) → int_le d.lo (values a) ≡ s → int_le (values a) d.hi ≡ t
        → n ≡ (if s && t then record { attr = d.attr; lo = values a; hi = values a } else record { attr = d.attr; lo = pos 1; hi = pos 0 }) → IsFixed d (narrowed_by d (clip arriving place less values d) values (binding_column arriving place d.attr equal)) n
    by true true f g h = record {
      is = is ∙ ap (narrowed_by d (clip arriving place less values d) values) (sym e);
      one = ap dim_size h ∙ one-value (values a);
      low = (let l : n.lo ≡ values a = ap (λ x. x.lo) h in omega (arith, ints, l, f));
      high = (let l : n.lo ≡ values a = ap (λ x. x.lo) h in omega (arith, ints, l, g));
    }
    by true false f g h = absurd (let l : n.lo ≡ pos 1 = ap (λ x. x.lo) h in let m : n.hi ≡ pos 0 = ap (λ x. x.hi) h in omega (arith, ints, l, m, some))
    by false t f g h = absurd (let l : n.lo ≡ pos 1 = ap (λ x. x.lo) h in let m : n.hi ≡ pos 0 = ap (λ x. x.hi) h in omega (arith, ints, l, m, some))

module _ (f : Dim → Dim) (narrows : (d : Dim) → d.lo ≤ℤ d.hi → IsNarrower (f d) d) where
  pub map-size : (ds : List Dim) → AreFull ds → box_size (map f ds) ≤ box_size ds
  map-size [] h = omega arith
  map-size (d ∷ ds) h = mul-le-mul (narrows d h.0).size (map-size ds h.1)

  pub map-sound : (ds : List Dim) → AreFull ds → AreNumbered ds → AreNumbered (map f ds)
  map-sound [] h s = tt
  map-sound (d ∷ ds) h s = (omega (arith, (narrows d h.0).size, s.0), omega (arith, map-size (d ∷ ds) h, s.1), map-sound ds h.1 s.2)

  pub map-inside : (ds : List Dim) (vs : List ℤ) → AreFull ds → AreInside (map f ds) vs → AreInside ds vs
  map-inside [] [] h i = tt
  map-inside [] (v ∷ vs) h i = absurd i
  map-inside (d ∷ ds) [] h i = absurd i
  map-inside (d ∷ ds) (v ∷ vs) h i = let k = (narrows d h.0).inside v i.0 i.1 in (k.0, k.1, map-inside ds vs h.1 i.2)

  pub map-low : (ds : List Dim) → AreFull ds → 0 < box_size (map f ds) → AreInside ds (map (λ d. d.lo) (map f ds))
  map-low [] h l = tt
  map-low (d ∷ ds) h l =
      let s = both-some (dim_size (f d)) (box_size (map f ds)) l in
      let n : (f d).lo ≤ℤ (f d).hi = let b = range-below (f d).lo (f d).hi 0 s.0 in omega (arith, ints, b) in
      let i = (narrows d h.0).inside (f d).lo (omega (arith, ints)) n in
      (i.0, i.1, map-low ds h.1 s.1)
    where
      both-some : (x y : ℕ) → 0 < x * y → (0 < x) × (0 < y)
      both-some zero y l = absurd (omega (arith, l))
      both-some (suc x) zero l = absurd (omega (arith, l))
      both-some (suc x) (suc y) l = (omega arith, omega arith)
