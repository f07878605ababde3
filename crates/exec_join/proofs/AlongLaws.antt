-- Cells equally far apart that the links leave at a place, dim by dim.
use Rattle.std.proofs.Common.{◌≡◌, ℕ, zero, suc, ◌+◌, ◌*◌, ◌<◌, ◌≤◌, ◌⊎◌, inl, inr, List, [], ◌∷◌, length, drop, get_or, map, refl, sym, ap, ◌∙◌, arith, ℤ, pos, ◌-ℤ◌, ◌≤ℤ◌}
use Rattle.std.specs.Prelude.{nat_abs, Option, None, Some}
use Rattle.std.proofs.lemmas.List.{drop_more, drop_all}
use Rattle.std.proofs.Math.Nat.{mul-le-mul}
use Rattle.sem_query.specs.Boxes.{dim_size, box_size, place_of, values_at, AreInside, AreFull}
use Rattle.sem_query.specs.declared.atom.Attr.{Attr}
use Rattle.sem_query.specs.declared.plan.Dim.{Dim}
use Rattle.sem_query.specs.declared.plan.Link.{Link}
use Rattle.sem_query.proofs.BoxLaws.{size-at, range-inside, full-dim-size, values-inside, place-values}
use Rattle.sem_query.specs.declared.cell.Cell.{Cell}
use Rattle.exec_pool.specs.Strides.{Scanned}
use Rattle.exec_pool.specs.declared.scan.Occupied.{Occupied}
use Rattle.exec_join.specs.Along.{IsLongerLine}
use Rattle.exec_join.specs.declared.along.CellLine.{CellLine}
use Rattle.exec_synopsis.specs.Narrowing.{narrowed_by, clip, narrow, binding_column}

-- no column and no inequality says anything of a dim
pub left-whole : (arriving place : ℕ) (equal less : List Link) (values : Attr → ℤ) (d : Dim) → less ≡ [] → binding_column arriving place d.attr equal ≡ None → narrow arriving place equal less values d ≡ d
unfolding narrow
left-whole arriving place equal less values d e b = ap (λ (ls : List Link). narrowed_by d (clip arriving place ls values d) values (binding_column arriving place d.attr equal)) e ∙ ap (narrowed_by d d values) b

at-least : (x y : ℕ) → 1 ≤ x → 1 ≤ y → 1 ≤ x * y
at-least x y a b = let m = mul-le-mul a b in omega (arith, m)

-- all values of one dim more
pub all-longer : (left d : Dim) (line : CellLine) (first count : ℕ) → left ≡ d → d.lo ≤ℤ d.hi → 1 ≤ line.stride → (line.count ≡ 1) ⊎ (line.stride ≡ 1) → first ≡ line.first * dim_size d → count ≡ line.count * dim_size d
    → IsLongerLine left d line (record { first = first; stride = 1; count = count })
all-longer left d line first count same full some grows f n =
    let size : 1 ≤ dim_size d = full-dim-size d full in
    let alike : dim_size left ≡ dim_size d = ap dim_size same in
    let lo = ap (λ (x : Dim). x.lo) same in
    record {
      each = λ j v below low high.
          (let off : nat_abs (v -ℤ left.lo) ≡ nat_abs (v -ℤ d.lo) = ap (λ (z : ℤ). nat_abs (v -ℤ z)) lo in
          shape j (nat_abs (v -ℤ d.lo)) below grows ∙ (λ k. sym f k + (j * sym alike k + sym off k) * 1));
      count = n ∙ ap (λ s. line.count * s) (sym alike);
      few = omega (arith, n);
      low = omega (arith, f, size);
      some = omega arith;
      far = at-least line.stride (dim_size d) some size;
    }
  where
    shape : (j off : ℕ) → j < line.count → (line.count ≡ 1) ⊎ (line.stride ≡ 1) → (line.first + j * line.stride) * dim_size d + off ≡ line.first * dim_size d + (j * dim_size d + off) * 1
    shape j off below (inl one) =
        (let none : j ≡ 0 = omega (arith, below, one) in
        (λ k. (line.first + none k * line.stride) * dim_size d + off) ∙ (let r : (line.first + 0 * line.stride) * dim_size d + off ≡ line.first * dim_size d + (0 * dim_size d + off) * 1 = omega arith in r) ∙ (λ k. line.first * dim_size d + (sym none k * dim_size d + off) * 1))
    shape j off below (inr one) = (λ k. (line.first + j * one k) * dim_size d + off) ∙ (let r : (line.first + j * 1) * dim_size d + off ≡ line.first * dim_size d + (j * dim_size d + off) * 1 = omega arith in r)

-- one value of it
pub one-longer : (left d : Dim) (line : CellLine) (place first stride : ℕ) → dim_size left ≡ 1 → place < dim_size d → ((v : ℤ) → left.lo ≤ℤ v → v ≤ℤ left.hi → nat_abs (v -ℤ d.lo) ≡ place) → 1 ≤ line.stride
    → first ≡ line.first * dim_size d + place → stride ≡ line.stride * dim_size d → IsLongerLine left d line (record { first = first; stride = stride; count = line.count })
one-longer left d line place first stride one below at some f s =
    let size : 1 ≤ dim_size d = omega (arith, below) in
    let few = mul-le-mul (let r : line.count ≤ line.count = omega arith in r) size in
    record {
      each = λ j v l low high.
          (let off : nat_abs (v -ℤ left.lo) ≡ 0 = (let b = range-inside left.lo left.hi v low high in omega (arith, b, one)) in
          (λ k. (line.first + j * line.stride) * dim_size d + at v low high k)
          ∙ (let r : (line.first + j * line.stride) * dim_size d + place ≡ (line.first * dim_size d + place) + (j * 1 + 0) * (line.stride * dim_size d) = omega arith in r)
          ∙ (λ k. sym f k + (j * sym one k + sym off k) * sym s k));
      count = (let r : line.count ≡ line.count * 1 = omega arith in r) ∙ ap (λ n. line.count * n) (sym one);
      few = omega (arith, few);
      low = omega (arith, f, below);
      some = (let a = at-least line.stride (dim_size d) some size in omega (arith, a, s));
      far = omega (arith, s);
    }

-- the place of a combination in the whole box and among what is left, as far as the first dims tell it
pub record LineAt (full left : List Dim) (vs : List ℤ) (i : ℕ) (line : CellLine) : Type 0 where
  pub index : ℕ
  pub below : index < line.count
  pub whole : place_of full vs ≡ (line.first + index * line.stride) * box_size (drop i full) + place_of (drop i full) (drop i vs)
  pub among : place_of left vs ≡ index * box_size (drop i left) + place_of (drop i left) (drop i vs)

-- and of each that is left
pub record AreAlong (narrows : Dim → Dim) (full : List Dim) (i : ℕ) (line : CellLine) : Type 0 where
  pub holds : (vs : List ℤ) → AreInside (map narrows full) vs → LineAt full (map narrows full) vs i line
  pub all : line.count * box_size (drop i (map narrows full)) ≡ box_size (map narrows full)
  pub low : (line.first + 1) * box_size (drop i full) ≤ box_size full
  pub wide : line.count * box_size (drop i full) ≤ box_size full
  pub far : line.stride * box_size (drop i full) ≤ box_size full
  pub some : 1 ≤ line.stride

pub along-none : (narrows : Dim → Dim) (full : List Dim) → AreAlong narrows full 0 (record { first = 0; stride = 1; count = 1 })
along-none narrows full = record {
  holds = λ vs h. record { index = 0; below = omega arith; whole = omega arith; among = omega arith };
  all = omega arith;
  low = omega arith;
  wide = omega arith;
  far = omega arith;
  some = omega arith;
}

-- one dim more of a place
next-place : (ds : List Dim) (vs : List ℤ) (i at : ℕ) (o : Dim) → i < length ds → i < length vs → place_of ds vs ≡ at * box_size (drop i ds) + place_of (drop i ds) (drop i vs)
    → place_of ds vs ≡ (at * dim_size (get_or ds i o) + nat_abs (get_or vs i (pos 0) -ℤ (get_or ds i o).lo)) * box_size (drop (i + 1) ds) + place_of (drop (i + 1) ds) (drop (i + 1) vs)
next-place ds vs i at o l m e =
    let split : place_of (drop i ds) (drop i vs) ≡ nat_abs (get_or vs i (pos 0) -ℤ (get_or ds i o).lo) * box_size (drop (i + 1) ds) + place_of (drop (i + 1) ds) (drop (i + 1) vs) = λ k. place_of (drop_more ds i o l k) (drop_more vs i (pos 0) m k) in
    e ∙ shape at (box_size (drop i ds)) (dim_size (get_or ds i o)) (box_size (drop (i + 1) ds)) _ _ _ (size-at ds i o l) split
  where
    shape : (at size one later off rest here : ℕ) → size ≡ one * later → here ≡ off * later + rest → at * size + here ≡ (at * one + off) * later + rest
    shape at size one later off rest here s h = ap (λ n. at * n + here) s ∙ ap (λ n. at * (one * later) + n) h ∙ (let r : at * (one * later) + (off * later + rest) ≡ (at * one + off) * later + rest = omega arith in r)

record OneOf (d : Dim) (v : ℤ) : Type 0 where
  low : d.lo ≤ℤ v
  high : v ≤ℤ d.hi

inside-at : (f : Dim → Dim) (ds : List Dim) (vs : List ℤ) (i : ℕ) (o : Dim) → i < length ds → AreInside (map f ds) vs → (i < length vs) × OneOf (f (get_or ds i o)) (get_or vs i (pos 0))
inside-at f [] vs i o l h = absurd (omega (arith, l))
inside-at f (d ∷ ds) [] i o l h = absurd h
inside-at f (d ∷ ds) (v ∷ vs) zero o l h = (omega arith, record { low = h.0; high = h.1 })
inside-at f (d ∷ ds) (v ∷ vs) (suc i) o l h = let r = inside-at f ds vs i o (omega (arith, l)) h.2 in (omega (arith, r.0), r.1)

mapped-at : (f : Dim → Dim) (ds : List Dim) (i : ℕ) (o : Dim) → i < length ds → get_or (map f ds) i (f o) ≡ f (get_or ds i o)
mapped-at f [] i o l = absurd (omega (arith, l))
mapped-at f (d ∷ ds) zero o l = refl
mapped-at f (d ∷ ds) (suc i) o l = mapped-at f ds i o (omega (arith, l))

mapped-long : (f : Dim → Dim) (ds : List Dim) → length (map f ds) ≡ length ds
mapped-long f [] = refl
mapped-long f (d ∷ ds) = let e = mapped-long f ds in omega (arith, e)

full-at : (ds : List Dim) (i : ℕ) (o : Dim) → i < length ds → AreFull ds → (get_or ds i o).lo ≤ℤ (get_or ds i o).hi
full-at [] i o l h = absurd (omega (arith, l))
full-at (d ∷ ds) zero o l h = h.0
full-at (d ∷ ds) (suc i) o l h = full-at ds i o (omega (arith, l)) h.1

some-later : (ds : List Dim) (i : ℕ) → AreFull ds → 1 ≤ box_size (drop i ds)
some-later [] zero h = omega arith
some-later [] (suc i) h = omega arith
some-later (d ∷ ds) zero h = at-least (dim_size d) (box_size ds) (full-dim-size d h.0) (some-later ds 0 h.1)
some-later (d ∷ ds) (suc i) h = some-later ds i h.1

module _ (narrows : Dim → Dim) (full : List Dim) (whole : AreFull full) (i : ℕ) (line : CellLine) (so_far : AreAlong narrows full i line) (o : Dim) (l : i < length full) where
  abbrev d : Dim
  d = get_or full i o

  abbrev later : ℕ
  later = box_size (drop (i + 1) full)

  pub one-full : d.lo ≤ℤ d.hi
  one-full = full-at full i o l whole

  within : (x : ℕ) → x * box_size (drop i full) ≤ box_size full → (x * dim_size d) * later ≤ box_size full
  within x h = let e = ap (λ n. x * n) (size-at full i o l) in let r : x * (dim_size d * later) ≡ (x * dim_size d) * later = omega arith in omega (arith, h, e, r)

  fits : (x : ℕ) → x * box_size (drop i full) ≤ box_size full → x * dim_size d ≤ box_size full
  fits x h =
      let r = within x h in
      let t = mul-le-mul (let q : x * dim_size d ≤ x * dim_size d = omega arith in q) (some-later full (i + 1) whole) in
      omega (arith, r, t)

  pub low-fits : (line.first + 1) * dim_size d ≤ box_size full
  low-fits = fits (line.first + 1) so_far.low

  pub wide-fits : line.count * dim_size d ≤ box_size full
  wide-fits = fits line.count so_far.wide

  pub far-fits : line.stride * dim_size d ≤ box_size full
  far-fits = fits line.stride so_far.far

  less-than : (x y : ℕ) → y ≤ x * dim_size d → x * box_size (drop i full) ≤ box_size full → y * later ≤ box_size full
  less-than x y h k =
      let r = within x k in
      let t = mul-le-mul h (let q : later ≤ later = omega arith in q) in
      omega (arith, r, t)

  -- one dim more
  pub along-next : (longer : CellLine) → IsLongerLine (narrows d) d line longer → AreAlong narrows full (i + 1) longer
  along-next longer next = record {
    holds = λ vs h. (let f = so_far.holds vs h in
        let at = inside-at narrows full vs i o l h in
        let v = get_or vs i (pos 0) in
        let left = mapped-at narrows full i o l in
        let longs = mapped-long narrows full in
        let in_left = range-inside (narrows d).lo (narrows d).hi v at.1.low at.1.high in
        let off = nat_abs (v -ℤ (narrows d).lo) in
        record {
          index = f.index * dim_size (narrows d) + off;
          below = (let up : f.index + 1 ≤ line.count = omega (arith, f.below) in
              let m = mul-le-mul up (let q : dim_size (narrows d) ≤ dim_size (narrows d) = omega arith in q) in
              omega (arith, m, in_left, next.count));
          whole = next-place full vs i (line.first + f.index * line.stride) o l at.0 f.whole ∙ ap (λ n. n * later + place_of (drop (i + 1) full) (drop (i + 1) vs)) (next.each f.index v f.below at.1.low at.1.high);
          among = next-place (map narrows full) vs i f.index (narrows o) (omega (arith, l, longs)) at.0 f.among
              ∙ (λ k. (f.index * dim_size (left k) + nat_abs (v -ℤ (left k).lo)) * box_size (drop (i + 1) (map narrows full)) + place_of (drop (i + 1) (map narrows full)) (drop (i + 1) vs));
        });
    all =
        let longs = mapped-long narrows full in
        let e = size-at (map narrows full) i (narrows o) (omega (arith, l, longs)) in
        let left = ap dim_size (mapped-at narrows full i o l) in
        let rest = box_size (drop (i + 1) (map narrows full)) in
        (λ k. next.count k * rest)
        ∙ (let r : (line.count * dim_size (narrows d)) * rest ≡ line.count * (dim_size (narrows d) * rest) = omega arith in r)
        ∙ (λ k. line.count * (sym left k * rest))
        ∙ ap (λ n. line.count * n) (sym e)
        ∙ so_far.all;
    low = less-than (line.first + 1) (longer.first + 1) next.low so_far.low;
    wide = less-than line.count longer.count next.few so_far.wide;
    far = less-than line.stride longer.stride next.far so_far.far;
    some = next.some;
  }

-- at the end
pub along-line : (narrows : Dim → Dim) (full : List Dim) (i : ℕ) (line : CellLine) → AreAlong narrows full i line → length full ≤ i → (n : ℕ) → n < box_size (map narrows full)
    → place_of full (values_at (map narrows full) n) ≡ line.first + n * line.stride
along-line narrows full i line so_far done n l =
    let left = map narrows full in
    let vs = values_at left n in
    let f = so_far.holds vs (values-inside left n l) in
    let longs = mapped-long narrows full in
    let e : drop i full ≡ [] = drop_all i full done in
    let g : drop i left ≡ [] = drop_all i left (omega (arith, done, longs)) in
    let whole = f.whole ∙ ap (λ (ds : List Dim). (line.first + f.index * line.stride) * box_size ds + place_of ds (drop i vs)) e in
    let among = f.among ∙ ap (λ (ds : List Dim). f.index * box_size ds + place_of ds (drop i vs)) g in
    let is : f.index ≡ n = (let p = place-values left n l in omega (arith, among, p)) in
    whole ∙ (let r : (line.first + f.index * line.stride) * 1 + 0 ≡ line.first + f.index * line.stride = omega arith in r) ∙ ap (λ m. line.first + m * line.stride) is

pub along-count : (narrows : Dim → Dim) (full : List Dim) (i : ℕ) (line : CellLine) → AreAlong narrows full i line → length full ≤ i → line.count ≡ box_size (map narrows full)
along-count narrows full i line so_far done =
    let longs = mapped-long narrows full in
    let g : drop i (map narrows full) ≡ [] = drop_all i (map narrows full) (omega (arith, done, longs)) in
    (let r : line.count ≡ line.count * 1 = omega arith in r) ∙ ap (λ (ds : List Dim). line.count * box_size ds) (sym g) ∙ so_far.all

-- cells that agree are scanned alike
pub scanned-alike : (at other : ℕ → Cell) (count many before : ℕ) (found : Option Occupied) (after : ℕ) → count ≡ many → ((i : ℕ) → i < many → at i ≡ other i) → Scanned at 0 count before found after → Scanned other 0 many before found after
scanned-alike at other count many before None after e same s = (λ i a b. sym (same i b) ∙ s.0 i a (omega (arith, b, e)), (let r = s.1 in omega (arith, r, e)))
scanned-alike at other count many before (Some occupied) after e same s = (
  record {
    after = s.0.after;
    below = (let b = s.0.below in omega (arith, b, e));
    before = λ i a b. sym (same i (let l = s.0.below in omega (arith, b, l, e))) ∙ s.0.before i a b;
    cell = sym (same occupied.next (let l = s.0.below in omega (arith, l, e))) ∙ s.0.cell;
    some = s.0.some;
  },
  s.1,
)
