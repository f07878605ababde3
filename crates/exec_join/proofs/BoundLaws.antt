-- The one value that a known column leaves of a dim.
use Rattle.std.proofs.Common.{◌≡◌, ℕ, ◌∙◌, List, refl, sym, ap, arith, ℤ, pos, ◌-ℤ◌, ◌≤ℤ◌}
use Rattle.std.specs.Prelude.{nat_abs, Some, int_le, Bool, true, false, if◌then◌else◌, ◌&&◌}
use Rattle.std.proofs.lemmas.Int.{ints}
use Rattle.sem_query.specs.Boxes.{dim_size}
use Rattle.sem_query.specs.declared.plan.Dim.{Dim}
use Rattle.sem_query.specs.declared.atom.Attr.{Attr}
use Rattle.sem_query.specs.declared.plan.Link.{Link}
use Rattle.exec_ranges.proofs.NarrowLaws.{one-value}
use Rattle.exec_synopsis.specs.Narrowing.{narrowed_to, clip, narrowed_by, narrow, binding_column}

-- it lies at one place
pub bound-one : (arriving place : ℕ) (equal less : List Link) (values : Attr → ℤ) (d : Dim) (a : Attr) (x : ℤ) → binding_column arriving place d.attr equal ≡ Some a → x ≡ values a → d.lo ≤ℤ x → x ≤ℤ d.hi
    → (v : ℤ) → (narrow arriving place equal less values d).lo ≤ℤ v → v ≤ℤ (narrow arriving place equal less values d).hi → nat_abs (v -ℤ d.lo) ≡ nat_abs (x -ℤ d.lo)
unfolding narrow
bound-one arriving place equal less values d a x e is low high v h k = by (int_le d.lo x) (int_le x d.hi) refl refl
    (ap (narrowed_by d (clip arriving place less values d) values) e ∙ ap (narrowed_to d) (sym is))
  where
    by : (s t : Bool) → int_le d.lo x ≡ s → int_le x d.hi ≡ t
        → narrowed_by d (clip arriving place less values d) values (binding_column arriving place d.attr equal) ≡ (if s && t then record { attr = d.attr; lo = x; hi = x } else record { attr = d.attr; lo = pos 1; hi = pos 0 })
        → nat_abs (v -ℤ d.lo) ≡ nat_abs (x -ℤ d.lo)
    by true true f g n = let l = ap (λ (z : Dim). z.lo) n in let m = ap (λ (z : Dim). z.hi) n in let same : v ≡ x = omega (arith, ints, h, k, l, m) in ap (λ (z : ℤ). nat_abs (z -ℤ d.lo)) same
    by true false f g n = absurd (omega (arith, ints, g, high))
    by false t f g n = absurd (omega (arith, ints, f, low))

-- there is one
pub bound-size : (arriving place : ℕ) (equal less : List Link) (values : Attr → ℤ) (d : Dim) (a : Attr) (x : ℤ) → binding_column arriving place d.attr equal ≡ Some a → x ≡ values a → d.lo ≤ℤ x → x ≤ℤ d.hi
    → dim_size (narrow arriving place equal less values d) ≡ 1
unfolding narrow
bound-size arriving place equal less values d a x e is low high = by (int_le d.lo x) (int_le x d.hi) refl refl
    (ap (narrowed_by d (clip arriving place less values d) values) e ∙ ap (narrowed_to d) (sym is))
  where
    by : (s t : Bool) → int_le d.lo x ≡ s → int_le x d.hi ≡ t
        → narrowed_by d (clip arriving place less values d) values (binding_column arriving place d.attr equal) ≡ (if s && t then record { attr = d.attr; lo = x; hi = x } else record { attr = d.attr; lo = pos 1; hi = pos 0 })
        → dim_size (narrowed_by d (clip arriving place less values d) values (binding_column arriving place d.attr equal)) ≡ 1
    by true true f g n = ap dim_size n ∙ one-value x
    by true false f g n = absurd (omega (arith, ints, g, high))
    by false t f g n = absurd (omega (arith, ints, f, low))
