-- The place of one combination, dim by dim from the first.
use Rattle.std.proofs.Common.{◌≡◌, ℕ, zero, suc, ◌+◌, ◌*◌, ◌<◌, ◌≤◌, ◌^◌, List, [], ◌∷◌, ◌++◌, length, take, get_or, map, refl, sym, ap, ◌∙◌, subst, arith, ℤ, ◌-ℤ◌, ◌≤ℤ◌}
use Rattle.std.specs.Prelude.{nat_abs}
use Rattle.std.proofs.lemmas.List.{take_more, take_all}
use Rattle.sem_query.specs.Boxes.{dim_size, box_size, values_at, place_of, AreFull, AreInside}
use Rattle.sem_query.specs.declared.plan.Dim.{Dim}
use Rattle.sem_query.proofs.BoxLaws.{place-below, full-dim-size}
use Rattle.exec_ranges.specs.Lined.{IsLine}
use Rattle.exec_ranges.proofs.LeastLaws.{least-values}

box-more : (xs : List Dim) (d : Dim) → box_size (xs ++ d ∷ []) ≡ box_size xs * dim_size d
box-more [] d = omega arith
box-more (x ∷ xs) d = let h = box-more xs d in ap (λ n. dim_size x * n) h ∙ shape (dim_size x) (box_size xs) (dim_size d)
  where
    shape : (a b c : ℕ) → a * (b * c) ≡ a * b * c
    shape a b c = omega arith

inside-more : (fs : List Dim) (vs : List ℤ) (f : Dim) (v : ℤ) → AreInside fs vs → f.lo ≤ℤ v → v ≤ℤ f.hi → AreInside (fs ++ f ∷ []) (vs ++ v ∷ [])
inside-more [] [] f v h l m = (l, m, tt)
inside-more [] (x ∷ vs) f v h l m = absurd h
inside-more (g ∷ fs) [] f v h l m = absurd h
inside-more (g ∷ fs) (x ∷ vs) f v h l m = (h.0, h.1, inside-more fs vs f v h.2 l m)

place-more : (fs : List Dim) (vs : List ℤ) (f : Dim) (v : ℤ) → AreInside fs vs → place_of (fs ++ f ∷ []) (vs ++ v ∷ []) ≡ place_of fs vs * dim_size f + nat_abs (v -ℤ f.lo)
place-more [] [] f v h = omega arith
place-more [] (x ∷ vs) f v h = absurd h
place-more (g ∷ fs) [] f v h = absurd h
place-more (g ∷ fs) (x ∷ vs) f v h =
    let a = place-more fs vs f v h.2 in
    let b = box-more fs f in
    (λ k. nat_abs (x -ℤ g.lo) * b k + a k) ∙ shape (nat_abs (x -ℤ g.lo)) (box_size fs) (dim_size f) (place_of fs vs) (nat_abs (v -ℤ f.lo))
  where
    shape : (o b m p q : ℕ) → o * (b * m) + (p * m + q) ≡ (o * b + p) * m + q
    shape o b m p q = omega arith

lows-more : (xs : List Dim) (d : Dim) → map (λ (e : Dim). e.lo) (xs ++ d ∷ []) ≡ map (λ e. e.lo) xs ++ d.lo ∷ []
lows-more [] d = refl
lows-more (x ∷ xs) d = ap (λ vs. x.lo ∷ vs) (lows-more xs d)

map-more : (f : Dim → Dim) (xs : List Dim) (d : Dim) → map f (xs ++ d ∷ []) ≡ map f xs ++ f d ∷ []
map-more f [] d = refl
map-more f (x ∷ xs) d = ap (λ ys. f x ∷ ys) (map-more f xs d)

at-least-one : (x S : ℕ) → 0 < x → S ≤ x * S
at-least-one zero S l = absurd (omega (arith, l))
at-least-one (suc x) S l = omega arith

full-some : (fs : List Dim) → AreFull fs → 1 ≤ box_size fs
full-some [] h = omega arith
full-some (f ∷ fs) h = let a = at-least-one (dim_size f) (box_size fs) (full-dim-size f h.0) in let b = full-some fs h.1 in omega (arith, a, b)

times-more : (x a b : ℕ) → a ≤ b → x * a ≤ x * b
times-more zero a b l = omega arith
times-more (suc x) a b l = let h = times-more x a b l in omega (arith, h, l)

front-size : (fs : List Dim) (i : ℕ) → AreFull fs → box_size (take i fs) ≤ box_size fs
front-size fs zero h = full-some fs h
front-size [] (suc i) h = omega arith
front-size (f ∷ fs) (suc i) h = times-more (dim_size f) (box_size (take i fs)) (box_size fs) (front-size fs i h.1)

-- what is known of the dims so far
pub record SoFixed (narrows : Dim → Dim) (full fixed : List Dim) (i place : ℕ) : Type 0 where
  pub are : fixed ≡ map narrows (take i full)
  pub one : box_size fixed ≡ 1
  pub inside : AreInside (take i full) (map (λ d. d.lo) fixed)
  pub cell : place ≡ place_of (take i full) (map (λ d. d.lo) fixed)

module _ (narrows : Dim → Dim) (full fixed : List Dim) (i place : ℕ) (so_far : SoFixed narrows full fixed i place) (d o n : Dim) (l : i < length full) (here : d ≡ get_or full i o) (is : n ≡ narrows d) (one : dim_size n ≡ 1) (low : d.lo ≤ℤ n.lo) (high : n.lo ≤ℤ d.hi) where
  front : take (i + 1) full ≡ take i full ++ d ∷ []
  front = take_more full i o l ∙ ap (λ x. take i full ++ x ∷ []) (sym here)

  inside-next : AreInside (take i full ++ d ∷ []) (map (λ e. e.lo) fixed ++ n.lo ∷ [])
  inside-next = inside-more (take i full) (map (λ e. e.lo) fixed) d n.lo so_far.inside low high

  place-next : place * dim_size d + nat_abs (n.lo -ℤ d.lo) ≡ place_of (take i full ++ d ∷ []) (map (λ e. e.lo) fixed ++ n.lo ∷ [])
  place-next = ap (λ p. p * dim_size d + nat_abs (n.lo -ℤ d.lo)) so_far.cell ∙ sym (place-more (take i full) (map (λ e. e.lo) fixed) d n.lo so_far.inside)

  pub place-fits : AreFull full → box_size full < 2 ^ 32 → place * dim_size d + nat_abs (n.lo -ℤ d.lo) < 2 ^ 32
  place-fits whole few =
      let b = place-below (take i full ++ d ∷ []) (map (λ e. e.lo) fixed ++ n.lo ∷ []) inside-next in
      let c = front-size full (i + 1) whole in
      let f = ap box_size front in
      omega (arith, place-next, b, c, f, few)

  pub fixed-next : (more : List Dim) → more ≡ fixed ++ n ∷ [] → SoFixed narrows full more (i + 1) (place * dim_size d + nat_abs (n.lo -ℤ d.lo))
  fixed-next more e =
      let lows : map (λ x. x.lo) more ≡ map (λ x. x.lo) fixed ++ n.lo ∷ [] = ap (map (λ (x : Dim). x.lo)) e ∙ lows-more fixed n in
      record {
        are = e ∙ (λ k. so_far.are k ++ is k ∷ []) ∙ sym (map-more narrows (take i full) d) ∙ ap (map narrows) (sym front);
        one = ap box_size e ∙ box-more fixed n ∙ (λ k. so_far.one k * one k);
        inside = subst (λ fs. AreInside fs (map (λ x. x.lo) more)) (sym front) (subst (λ vs. AreInside (take i full ++ d ∷ []) vs) (sym lows) inside-next);
        cell = place-next ∙ (λ k. place_of (sym front k) (sym lows k));
      }

-- one combination alone is on every line that begins at its cell
pub line-one : (base first : ℕ) (full dims : List Dim) → box_size dims ≡ 1 → base + place_of full (map (λ d. d.lo) dims) ≡ first → IsLine base full dims (record { first = first; stride = 1 })
line-one base first full dims one e i l =
    let z : i ≡ 0 = omega (arith, l, one) in
    ap (λ k. base + place_of full (values_at dims k)) z ∙ ap (λ vs. base + place_of full vs) (least-values dims one) ∙ e
    ∙ (let s : first ≡ first + i * 1 = omega (arith, z) in s)

pub fixed-end : (narrows : Dim → Dim) (full fixed : List Dim) (i place : ℕ) → SoFixed narrows full fixed i place → length full ≤ i → (fixed ≡ map narrows full) × AreInside full (map (λ d. d.lo) fixed) × (place ≡ place_of full (map (λ d. d.lo) fixed))
fixed-end narrows full fixed i place so_far l =
    let e = take_all i full l in
    (so_far.are ∙ ap (map narrows) e, subst (λ fs. AreInside fs (map (λ d. d.lo) fixed)) e so_far.inside, so_far.cell ∙ ap (λ fs. place_of fs (map (λ d. d.lo) fixed)) e)
