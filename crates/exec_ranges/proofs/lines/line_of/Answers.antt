use Rattle.std.proofs.Common.{◌≡◌, ◌+◌, ◌-◌, ◌*◌, ◌/◌, ◌%◌, ◌<◌, ℕ, length, drop, sym, ap, ◌∙◌, subst, arith, get_or, pos, ◌-ℤ◌}
use Rattle.std.specs.Prelude.{nat_abs}
use Rattle.sem_query.specs.Boxes.{dim_size, box_size}
use Rattle.sem_query.specs.declared.plan.Dim.{Dim}
use Rattle.exec_ranges.proofs.LineLaws.{at-one, line-next, line-end, first-next, first-end, line-end-size, full-end-size, size-next-of, short-of}
use Rattle.exec_ranges.proofs.lines.line_of.Goals as goal

abbrev none : Dim
none = record { attr = record { stream = 0; column = 0 }; lo = pos 0; hi = pos 0 }

pub dims-init : goal.dims-init
dims-init c = record {
  within = omega arith;
  combinations = (let z = line-end-size c.args.dims.now in z);
  size = full-end-size c.args.full.now c.args.dims.now c.requires.inside;
  first = first-end c.args.full.now c.args.dims.now c.args.base c.requires.inside;
  line = line-end c.args.full.now c.args.dims.now c.args.base (length c.args.dims.now) c.requires.inside (let e : length c.args.dims.now ≡ length c.args.dims.now = omega arith in e);
}

pub bounds-full-i : goal.bounds-full-i
bounds-full-i c =
    let j = c.dims.i - 1 in
    let e : j + 1 ≡ c.dims.i = omega (arith, c.dims-test.true) in
    let l : j < length c.args.dims.now = omega (arith, c.dims-test.true, c.dims.invariant.within) in
    short-of c.args.full.now c.args.dims.now c.args.base c.requires.numbered c.requires.fits c.requires.sound c.requires.some c.requires.inside j l

pub dim_size-values-requires : goal.dim_size-values-requires
dim_size-values-requires c =
    let j = c.dims.i - 1 in
    let e : j + 1 ≡ c.dims.i = omega (arith, c.dims-test.true) in
    let l : j < length c.args.dims.now = omega (arith, c.dims-test.true, c.dims.invariant.within) in
    let a = at-one c.args.full.now c.args.dims.now c.args.base c.requires.numbered c.requires.fits c.requires.sound c.requires.some c.requires.inside c.dims.i j none e l in
    a.count

pub stride_with-requires : goal.stride_with-requires
stride_with-requires c =
    let j = c.dims.i - 1 in
    let e : j + 1 ≡ c.dims.i = omega (arith, c.dims-test.true) in
    let l : j < length c.args.dims.now = omega (arith, c.dims-test.true, c.dims.invariant.within) in
    let a = at-one c.args.full.now c.args.dims.now c.args.base c.requires.numbered c.requires.fits c.requires.sound c.requires.some c.requires.inside c.dims.i j none e l in
    let s = a.some in omega (arith, s, c.dims.invariant.combinations)

pub offset_of-requires-clause-low : goal.offset_of-requires-clause-low
offset_of-requires-clause-low c =
    let j = c.dims.i - 1 in
    let e : j + 1 ≡ c.dims.i = omega (arith, c.dims-test.true) in
    let l : j < length c.args.dims.now = omega (arith, c.dims-test.true, c.dims.invariant.within) in
    let a = at-one c.args.full.now c.args.dims.now c.args.base c.requires.numbered c.requires.fits c.requires.sound c.requires.some c.requires.inside c.dims.i j none e l in
    a.low

pub offset_of-requires-clause-high : goal.offset_of-requires-clause-high
offset_of-requires-clause-high c =
    let j = c.dims.i - 1 in
    let e : j + 1 ≡ c.dims.i = omega (arith, c.dims-test.true) in
    let l : j < length c.args.dims.now = omega (arith, c.dims-test.true, c.dims.invariant.within) in
    let a = at-one c.args.full.now c.args.dims.now c.args.base c.requires.numbered c.requires.fits c.requires.sound c.requires.some c.requires.inside c.dims.i j none e l in
    a.high

pub offset_of-requires-clause-few : goal.offset_of-requires-clause-few
offset_of-requires-clause-few c =
    let j = c.dims.i - 1 in
    let e : j + 1 ≡ c.dims.i = omega (arith, c.dims-test.true) in
    let l : j < length c.args.dims.now = omega (arith, c.dims-test.true, c.dims.invariant.within) in
    let a = at-one c.args.full.now c.args.dims.now c.args.base c.requires.numbered c.requires.fits c.requires.sound c.requires.some c.requires.inside c.dims.i j none e l in
    a.size

pub overflow_mul-first : goal.overflow_mul-first
overflow_mul-first c =
    let j = c.dims.i - 1 in
    let e : j + 1 ≡ c.dims.i = omega (arith, c.dims-test.true) in
    let l : j < length c.args.dims.now = omega (arith, c.dims-test.true, c.dims.invariant.within) in
    let a = at-one c.args.full.now c.args.dims.now c.args.base c.requires.numbered c.requires.fits c.requires.sound c.requires.some c.requires.inside c.dims.i j none e l in
    let m = first-next c.args.full.now c.args.dims.now c.args.base c.requires.numbered c.requires.fits c.requires.sound c.requires.some c.requires.inside c.dims.i j c.dims.first none e l c.dims.invariant.first in
    let p = a.place in
    let x : c.offset_of.result * c.dims.size ≡ nat_abs ((get_or c.args.dims.now j none).lo -ℤ (get_or c.args.full.now j none).lo) * box_size (drop c.dims.i c.args.full.now) = λ k. c.offset_of.ensures k * c.dims.invariant.size k in
    omega (arith, x, p, c.dims.invariant.first)

pub overflow_add-first : goal.overflow_add-first
overflow_add-first c =
    let j = c.dims.i - 1 in
    let e : j + 1 ≡ c.dims.i = omega (arith, c.dims-test.true) in
    let l : j < length c.args.dims.now = omega (arith, c.dims-test.true, c.dims.invariant.within) in
    let a = at-one c.args.full.now c.args.dims.now c.args.base c.requires.numbered c.requires.fits c.requires.sound c.requires.some c.requires.inside c.dims.i j none e l in
    let m = first-next c.args.full.now c.args.dims.now c.args.base c.requires.numbered c.requires.fits c.requires.sound c.requires.some c.requires.inside c.dims.i j c.dims.first none e l c.dims.invariant.first in
    let p = a.place in
    let x : c.offset_of.result * c.dims.size ≡ nat_abs ((get_or c.args.dims.now j none).lo -ℤ (get_or c.args.full.now j none).lo) * box_size (drop c.dims.i c.args.full.now) = λ k. c.offset_of.ensures k * c.dims.invariant.size k in
    omega (arith, x, p, c.dims.invariant.first)

pub overflow_mul-combinations : goal.overflow_mul-combinations
overflow_mul-combinations c =
    let j = c.dims.i - 1 in
    let e : j + 1 ≡ c.dims.i = omega (arith, c.dims-test.true) in
    let l : j < length c.args.dims.now = omega (arith, c.dims-test.true, c.dims.invariant.within) in
    let a = at-one c.args.full.now c.args.dims.now c.args.base c.requires.numbered c.requires.fits c.requires.sound c.requires.some c.requires.inside c.dims.i j none e l in
    let x : c.dims.combinations * c.dim_size-values.result ≡ box_size (drop c.dims.i c.args.dims.now) * dim_size (get_or c.args.dims.now j none) = λ k. c.dims.invariant.combinations k * c.dim_size-values.ensures k in
    let p = a.counts in omega (arith, x, p)

pub dim_size-size-requires : goal.dim_size-size-requires
dim_size-size-requires c =
    let j = c.dims.i - 1 in
    let e : j + 1 ≡ c.dims.i = omega (arith, c.dims-test.true) in
    let l : j < length c.args.dims.now = omega (arith, c.dims-test.true, c.dims.invariant.within) in
    let a = at-one c.args.full.now c.args.dims.now c.args.base c.requires.numbered c.requires.fits c.requires.sound c.requires.some c.requires.inside c.dims.i j none e l in
    a.size

pub overflow_mul-size : goal.overflow_mul-size
overflow_mul-size c =
    let j = c.dims.i - 1 in
    let e : j + 1 ≡ c.dims.i = omega (arith, c.dims-test.true) in
    let l : j < length c.args.dims.now = omega (arith, c.dims-test.true, c.dims.invariant.within) in
    let a = at-one c.args.full.now c.args.dims.now c.args.base c.requires.numbered c.requires.fits c.requires.sound c.requires.some c.requires.inside c.dims.i j none e l in
    let y : c.dims.size * c.dim_size-size.result ≡ box_size (drop c.dims.i c.args.full.now) * dim_size (get_or c.args.full.now j none) = λ k. c.dims.invariant.size k * c.dim_size-size.ensures k in
    let p = a.sizes in omega (arith, y, p)

pub dims-preserved : goal.dims-preserved
dims-preserved c =
    let j = c.dims.i - 1 in
    let e : j + 1 ≡ c.dims.i = omega (arith, c.dims-test.true) in
    let l : j < length c.args.dims.now = omega (arith, c.dims-test.true, c.dims.invariant.within) in
    let a = at-one c.args.full.now c.args.dims.now c.args.base c.requires.numbered c.requires.fits c.requires.sound c.requires.some c.requires.inside c.dims.i j none e l in
    let m = first-next c.args.full.now c.args.dims.now c.args.base c.requires.numbered c.requires.fits c.requires.sound c.requires.some c.requires.inside c.dims.i j c.dims.first none e l c.dims.invariant.first in
    let x : c.offset_of.result * c.dims.size ≡ nat_abs ((get_or c.args.dims.now j none).lo -ℤ (get_or c.args.full.now j none).lo) * box_size (drop c.dims.i c.args.full.now) = λ k. c.offset_of.ensures k * c.dims.invariant.size k in
    let y : c.dims.combinations * c.dim_size-values.result ≡ box_size (drop c.dims.i c.args.dims.now) * dim_size (get_or c.args.dims.now j none) = λ k. c.dims.invariant.combinations k * c.dim_size-values.ensures k in
    let z : c.dims.size * c.dim_size-size.result ≡ box_size (drop c.dims.i c.args.full.now) * dim_size (get_or c.args.full.now j none) = λ k. c.dims.invariant.size k * c.dim_size-size.ensures k in
    let m-size = size-next-of c.args.full.now c.args.dims.now c.args.base c.requires.numbered c.requires.fits c.requires.sound c.requires.some c.requires.inside c.args.dims.now c.dims.i j none e l in
    let w-size = size-next-of c.args.full.now c.args.dims.now c.args.base c.requires.numbered c.requires.fits c.requires.sound c.requires.some c.requires.inside c.args.full.now c.dims.i j none e (short-of c.args.full.now c.args.dims.now c.args.base c.requires.numbered c.requires.fits c.requires.sound c.requires.some c.requires.inside j l) in
    let even : (k : ℕ) → k < dim_size (get_or c.args.dims.now j none) * box_size (drop c.dims.i c.args.dims.now) → k / box_size (drop c.dims.i c.args.dims.now) * box_size (drop c.dims.i c.args.full.now) + k % box_size (drop c.dims.i c.args.dims.now) * c.dims.stride ≡ k * c.in-Some.apart
    = λ k h. (λ n. k / sym c.dims.invariant.combinations n * sym c.dims.invariant.size n + k % sym c.dims.invariant.combinations n * c.dims.stride)
    ∙ c.in-Some.ensures k (subst (λ n. k < n) (λ n. sym c.dim_size-values.ensures n * sym c.dims.invariant.combinations n) h) in
    let next = line-next c.args.full.now c.args.dims.now c.args.base c.requires.numbered c.requires.fits c.requires.sound c.requires.some c.requires.inside c.dims.i j c.dims.first c.dims.stride c.in-Some.apart none e l c.dims.invariant.line even in
    record {
      within = omega (arith, l);
      combinations = omega (arith, y, m-size);
      size = omega (arith, z, w-size);
      first = ap (λ n. c.dims.first + n) x ∙ m;
      line = λ k h. next k h ∙ ap (λ n. (c.dims.first + n) + k * c.in-Some.apart) (sym x);
    }
