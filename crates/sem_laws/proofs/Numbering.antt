-- The boxes of a plan follow each other: no two have a cell in common, and together they are the cells of the plan.
use Rattle.std.proofs.Common.{◌≡◌, ℕ, zero, suc, ◌+◌, ◌-◌, ◌<◌, ◌≤◌, ◌⊎◌, inl, inr, List, [], ◌∷◌, length, refl, sym, ap, ◌∙◌, subst, arith, Some, slice_get, slice_index_or}
use Rattle.std.specs.List.{sum_by}
use Rattle.std.proofs.lemmas.List.Sums.{sum_by-cons}
use Rattle.sem_query.specs.declared.plan.StreamPlan.{StreamPlan}
use Rattle.sem_query.specs.declared.plan.PartPlan.{PartPlan}
use Rattle.sem_query.specs.Plan.{stream_at, FollowIn, Follow}
use Rattle.sem_query.specs.Cells.{cell_of, upto, by_box, laid_out, synopsis}
use Rattle.sem_query.specs.Numbers.{cell_count}
use Rattle.sem_laws.specs.Places.{IsBox, BoxesAreApart, SynopsisHasCells, CellsAreRead}
use Rattle.sem_query.specs.declared.cell.Cell.{Cell}
use Rattle.sem_laws.proofs.LaidOut.{length-more, length-upto, no_stream}

-- the cells of some streams
abbrev sizes : List StreamPlan → ℕ
sizes = sum_by (λ s. s.size)

sizes-cons : (s : StreamPlan) (streams : List StreamPlan) → sizes (s ∷ streams) ≡ s.size + sizes streams
sizes-cons s streams = sum_by-cons (λ (s : StreamPlan). s.size) s streams

count-cons : (p : PartPlan) (plan : List PartPlan) → cell_count (p ∷ plan) ≡ sizes p.streams.items + cell_count plan
count-cons p plan = sum_by-cons (λ (p : PartPlan). sizes p.streams.items) p plan

-- where a box stands among those that follow from a number on
record Stands (next all : ℕ) (s : StreamPlan) : Type 0 where
  pub from : next ≤ s.base
  pub to : s.base + s.size ≤ next + all

stands-in : (next : ℕ) (streams : List StreamPlan) (rest : ℕ → Type 0) → FollowIn next streams rest → (m : ℕ) → m < length streams
    → Stands next (sizes streams) (slice_index_or streams m no_stream)
stands-in next [] rest f m l = absurd (omega (arith, l))
stands-in next (s ∷ streams) rest f zero l = record { from = omega (arith, f.0); to = omega (arith, f.0, sizes-cons s streams) }
stands-in next (s ∷ streams) rest f (suc m) l =
    let r = stands-in (next + s.size) streams rest f.1 m (omega (arith, l)) in
    record { from = omega (arith, r.from); to = omega (arith, r.to, sizes-cons s streams) }

rest-from : (next : ℕ) (streams : List StreamPlan) (rest : ℕ → Type 0) → FollowIn next streams rest → rest (next + sizes streams)
rest-from next [] rest f = subst rest (omega arith) f
rest-from next (s ∷ streams) rest f = subst rest (omega (arith, sizes-cons s streams)) (rest-from (next + s.size) streams rest f.1)

stands : (next : ℕ) (plan : List PartPlan) → Follow next plan → (k : ℕ) (p : PartPlan) → slice_get plan k ≡ Some p → (m : ℕ)
    → m < length p.streams.items → Stands next (cell_count plan) (stream_at p m)
stands next [] f k p e m l = absurd (nothing k e)
  where
    nothing : (k : ℕ) → slice_get {X = PartPlan} [] k ≡ Some p → ⊥
    nothing k e = cc
stands next (o ∷ plan) f zero p e m l =
    let same : o ≡ p = cc in
    let r
    = stands-in next o.streams.items (λ n. Follow n plan) f m (subst (λ (x : PartPlan). m < length x.streams.items) (sym same) l) in
    subst (λ (x : PartPlan). Stands next (cell_count (o ∷ plan)) (stream_at x m)) same record { from = r.from; to = omega (arith, r.to, count-cons o plan) }
stands next (o ∷ plan) f (suc k) p e m l =
    let r = stands (next + sizes o.streams.items) plan (rest-from next o.streams.items (λ n. Follow n plan) f) k p e m l in
    record { from = omega (arith, r.from); to = omega (arith, r.to, count-cons o plan) }

apart-in : (next : ℕ) (streams : List StreamPlan) (rest : ℕ → Type 0) → FollowIn next streams rest → (m n i j : ℕ)
    → m < length streams → n < length streams
    → i < (slice_index_or streams m no_stream).size → j < (slice_index_or streams n no_stream).size
    → (slice_index_or streams m no_stream).base + i ≡ (slice_index_or streams n no_stream).base + j → (m ≡ n) × (i ≡ j)
apart-in next [] rest f m n i j l k b c e = absurd (omega (arith, l))
apart-in next (s ∷ streams) rest f zero zero i j l k b c e = (refl, omega (arith, e))
apart-in next (s ∷ streams) rest f zero (suc n) i j l k b c e =
    absurd (let r = stands-in (next + s.size) streams rest f.1 n (omega (arith, k)) in omega (arith, f.0, r.from, b, e))
apart-in next (s ∷ streams) rest f (suc m) zero i j l k b c e =
    absurd (let r = stands-in (next + s.size) streams rest f.1 m (omega (arith, l)) in omega (arith, f.0, r.from, c, e))
apart-in next (s ∷ streams) rest f (suc m) (suc n) i j l k b c e =
    let r
    = apart-in (next + s.size) streams rest f.1 m n i j (omega (arith, l)) (omega (arith, k)) b c e in (ap (λ x. suc x) r.0, r.1)

apart : (next : ℕ) (plan : List PartPlan) → Follow next plan → (k l : ℕ) (p r : PartPlan) (m n i j : ℕ)
    → IsBox plan k p m i → IsBox plan l r n j → (stream_at p m).base + i ≡ (stream_at r n).base + j → (k ≡ l) × (m ≡ n) × (i ≡ j)
apart next [] f k l p r m n i j x y e = absurd (nothing k x.at)
  where
    nothing : (k : ℕ) → slice_get {X = PartPlan} [] k ≡ Some p → ⊥
    nothing k e = cc
apart next (o ∷ plan) f zero zero p r m n i j x y e =
    let P : PartPlan → PartPlan → Type 0
    = λ p r. (m < length p.streams.items) × (n < length r.streams.items) × (i < (stream_at p m).size) × (j < (stream_at r n).size) × ((stream_at p m).base + i ≡ (stream_at r n).base + j) in
    let a : o ≡ p = let h : slice_get (o ∷ plan) 0 ≡ Some p = x.at in cc in
    let b : o ≡ r = let h : slice_get (o ∷ plan) 0 ≡ Some r = y.at in cc in
    let g : P p r = (x.there, y.there, x.inside, y.inside, e) in
    let h : P o o = subst (λ z. P z o) (sym a) (subst (λ z. P p z) (sym b) g) in
    let t = apart-in next o.streams.items (λ n. Follow n plan) f m n i j h.0 h.1 h.2 h.3 h.4 in
    (refl, t.0, t.1)
apart next (o ∷ plan) f zero (suc l) p r m n i j x y e =
    let s : Stands next (sizes o.streams.items) (stream_at p m) = at-head x.at x.there in
    let t : Stands (next + sizes o.streams.items) (cell_count plan) (stream_at r n)
    = stands (next + sizes o.streams.items) plan (rest-from next o.streams.items (λ n. Follow n plan) f) l r y.at n y.there in
    absurd (omega (arith, s.to, t.from, x.inside, e))
  where
    at-head : slice_get (o ∷ plan) 0 ≡ Some p → m < length p.streams.items → Stands next (sizes o.streams.items) (stream_at p m)
    at-head h k =
        let a : o ≡ p = cc in subst (λ (z : PartPlan). Stands next (sizes o.streams.items) (stream_at z m)) a (stands-in next o.streams.items (λ n. Follow n plan) f m (subst (λ (z : PartPlan). m < length z.streams.items) (sym a) k))
apart next (o ∷ plan) f (suc k) zero p r m n i j x y e =
    let s : Stands next (sizes o.streams.items) (stream_at r n) = at-head y.at y.there in
    let t : Stands (next + sizes o.streams.items) (cell_count plan) (stream_at p m)
    = stands (next + sizes o.streams.items) plan (rest-from next o.streams.items (λ n. Follow n plan) f) k p x.at m x.there in
    absurd (omega (arith, s.to, t.from, y.inside, e))
  where
    at-head : slice_get (o ∷ plan) 0 ≡ Some r → n < length r.streams.items → Stands next (sizes o.streams.items) (stream_at r n)
    at-head h k =
        let a : o ≡ r = cc in subst (λ (z : PartPlan). Stands next (sizes o.streams.items) (stream_at z n)) a (stands-in next o.streams.items (λ n. Follow n plan) f n (subst (λ (z : PartPlan). n < length z.streams.items) (sym a) k))
apart next (o ∷ plan) f (suc k) (suc l) p r m n i j x y e =
    let t
    = apart (next + sizes o.streams.items) plan (rest-from next o.streams.items (λ n. Follow n plan) f) k l p r m n i j record { at = x.at; there = x.there; inside = x.inside } record { at = y.at; there = y.there; inside = y.inside } e in
    (ap (λ z. suc z) t.0, t.1, t.2)

pub boxes-are-apart : BoxesAreApart
boxes-are-apart plan f = (
  λ m part place e l. let s = stands 0 plan f m part e place l in omega (arith, s.to),
  λ m n part other place there i j x y e. apart 0 plan f m n part other place there i j x y e,
)

by-box-length : {X : Type 0} (f : ℕ → ℕ → X) (place : ℕ) (streams : List StreamPlan)
    → length (by_box f place streams) ≡ sizes streams
by-box-length f place [] = refl
by-box-length f place (s ∷ streams) =
    length-more (upto (f place) s.size) (by_box f (suc place) streams)
    ∙ (λ i. length-upto (f place) s.size i + by-box-length f (suc place) streams i)
    ∙ sym (sizes-cons s streams)

pub laid-out-length : {X : Type 0} (g : PartPlan → ℕ → ℕ → X) (plan : List PartPlan) → length (laid_out g plan) ≡ cell_count plan
laid-out-length g [] = refl
laid-out-length g (p ∷ plan) =
    length-more (by_box (g p) 0 p.streams.items) (laid_out g plan)
    ∙ (λ i. by-box-length (g p) 0 p.streams.items i + laid-out-length g plan i)
    ∙ sym (count-cons p plan)

pub synopsis-has-cells : SynopsisHasCells
unfolding synopsis
synopsis-has-cells q plan h = laid-out-length (cell_of q h) plan

-- the box that a number below the size lies in
record CoveredIn (next : ℕ) (streams : List StreamPlan) (n : ℕ) : Type 0 where
  pub place : ℕ
  pub i : ℕ
  pub there : place < length streams
  pub inside : i < (slice_index_or streams place no_stream).size
  pub at : (slice_index_or streams place no_stream).base + i ≡ next + n

cover-in : (next : ℕ) (streams : List StreamPlan) (rest : ℕ → Type 0) → FollowIn next streams rest → (n : ℕ) → n < sizes streams
    → CoveredIn next streams n
cover-in next [] rest f n l = absurd (omega (arith, l))
cover-in next (s ∷ streams) rest f n l = elim (below_or n s.size) [
  | inl b ↦ record { place = 0; i = n; there = omega arith; inside = b; at = omega (arith, f.0) }
  | inr b ↦ (
      let r = cover-in (next + s.size) streams rest f.1 (n - s.size) (omega (arith, b, l, sizes-cons s streams)) in
      record { place = suc r.place; i = r.i; there = omega (arith, r.there); inside = r.inside; at = omega (arith, r.at, b) })
]
  where
    below_or : (n m : ℕ) → (n < m) ⊎ (m ≤ n)
    below_or n m = grind arith

pub record Covered (next : ℕ) (plan : List PartPlan) (n : ℕ) : Type 0 where
  pub number : ℕ
  pub part : PartPlan
  pub place : ℕ
  pub i : ℕ
  pub box : IsBox plan number part place i
  pub at : (stream_at part place).base + i ≡ next + n

pub cover : (next : ℕ) (plan : List PartPlan) → Follow next plan → (n : ℕ) → n < cell_count plan → Covered next plan n
cover next [] f n l = absurd (omega (arith, l))
cover next (p ∷ plan) f n l = elim (below_or n (sizes p.streams.items)) [
  | inl b ↦ (
      let r = cover-in next p.streams.items (λ n. Follow n plan) f n b in
      record {
        number =
            0;
        part = p;
        place = r.place;
        i = r.i;
        box = record { at = refl; there = r.there; inside = r.inside };
        at = r.at;
      })
  | inr b ↦ (
      let r
      = cover (next + sizes p.streams.items) plan (rest-from next p.streams.items (λ n. Follow n plan) f) (n - sizes p.streams.items) (omega (arith, b, l, count-cons p plan)) in
      record {
        number =
            suc r.number;
        part = r.part;
        place = r.place;
        i = r.i;
        box = record { at = r.box.at; there = r.box.there; inside = r.box.inside };
        at = omega (arith, r.at, b);
      })
]
  where
    below_or : (n m : ℕ) → (n < m) ⊎ (m ≤ n)
    below_or n m = grind arith

pub same-lists : {X : Type 0} (xs ys : List X) (d : X) → length xs ≡ length ys
    → ((n : ℕ) → n < length xs → slice_index_or xs n d ≡ slice_index_or ys n d) → xs ≡ ys
same-lists [] [] d e f = refl
same-lists [] (y ∷ ys) d e f = absurd (omega (arith, e))
same-lists (x ∷ xs) [] d e f = absurd (omega (arith, e))
same-lists (x ∷ xs) (y ∷ ys) d e f =
    let h : x ≡ y = f 0 (omega arith) in
    let t : xs ≡ ys = same-lists xs ys d (omega (arith, e)) (λ n l. f (suc n) (omega (arith, l))) in
    λ i. h i ∷ t i

pub cells-are-read : CellsAreRead
cells-are-read plan f cells others a b same = same-lists cells others Cell.Empty (a ∙ sym b) (λ n l.
    let c = cover 0 plan f n (omega (arith, a, l)) in
    let e : (stream_at c.part c.place).base + c.i ≡ n = omega (arith, c.at) in
    ap (λ m. slice_index_or cells m Cell.Empty) (sym e) ∙ same c.number c.part c.place c.i c.box
    ∙ ap (λ m. slice_index_or others m Cell.Empty) e)
