-- Reading the synopsis at a base gives the cell of that box.
use Rattle.std.proofs.Common.{◌≡◌, ℕ, zero, suc, ◌+◌, ◌<◌, ◌⊎◌, inl, inr, List, [], ◌∷◌, ◌++◌, length, refl, sym, ap, ◌∙◌, subst, arith, slice_index_or}
use Rattle.std.proofs.lemmas.List.Elements.{All-contains}
use Rattle.sem_query.proofs.Has.{Has, first, later, Contains-from_has}
use Rattle.sem_laws.proofs.CountsGrow.{Stands}
use Rattle.sem_query.specs.Query.{QueryValue}
use Rattle.sem_query.specs.declared.cell.Cell.{Cell}
use Rattle.sem_query.specs.declared.plan.Kind.{Kind}
use Rattle.sem_query.specs.Meaning.{Arrival}
use Rattle.sem_query.specs.declared.plan.PartPlan.{PartPlan}
use Rattle.sem_query.specs.declared.plan.StreamPlan.{StreamPlan}
use Rattle.sem_query.specs.Plan.{IsPartPlan, IsPlan, Follow, FollowIn, stream_at}
use Rattle.sem_query.specs.Cells.{cell_of, by_box, laid_out, synopsis, upto}
use Rattle.sem_query.specs.Combinations.{read_from}

pub get-front : {X : Type 0} (xs ys : List X) (i : ℕ) (d : X) → i < length xs → slice_index_or (xs ++ ys) i d ≡ slice_index_or xs i d
get-front [] ys i d l = absurd (omega (arith, l))
get-front (x ∷ xs) ys zero d l = refl
get-front (x ∷ xs) ys (suc i) d l = get-front xs ys i d (omega (arith, l))

pub get-back : {X : Type 0} (xs ys : List X) (i j : ℕ) (d : X) → j ≡ length xs + i
    → slice_index_or (xs ++ ys) j d ≡ slice_index_or ys i d
get-back [] ys i j d e = let f : j ≡ i = omega (arith, e) in ap (λ k. slice_index_or ys k d) f
get-back (x ∷ xs) ys i zero d e = absurd (omega (arith, e))
get-back (x ∷ xs) ys i (suc j) d e = get-back xs ys i j d (omega (arith, e))

pub length-more : {X : Type 0} (xs ys : List X) → length (xs ++ ys) ≡ length xs + length ys
length-more [] ys = omega arith
length-more (x ∷ xs) ys = omega (arith, length-more xs ys)

pub length-upto : {X : Type 0} (f : ℕ → X) (n : ℕ) → length (upto f n) ≡ n
length-upto f zero = refl
length-upto f (suc n) = omega (arith, length-more (upto f n) (f n ∷ []), length-upto f n)

pub get-upto : {X : Type 0} (f : ℕ → X) (n i : ℕ) (d : X) → i < n → slice_index_or (upto f n) i d ≡ f i
get-upto f zero i d l = absurd (omega (arith, l))
get-upto f (suc n) i d l = elim (last i n l) [
  | inl e ↦ get-back (upto f n) (f n ∷ []) 0 i d (omega (arith, e, length-upto f n)) ∙ ap f (sym e)
  | inr m ↦ get-front (upto f n) (f n ∷ []) i d (omega (arith, m, length-upto f n)) ∙ get-upto f n i d m
]
  where
    last : (k n : ℕ) → k < suc n → (k ≡ n) ⊎ (k < n)
    last k n h = grind arith

abbrev pub no_stream : StreamPlan
no_stream = record { dims = record { items = [] }; kind = Kind.Present; base = 0; size = 0 }

-- where a list that begins at next has this member
pub record Found {X : Type 0} (xs : List X) (next at : ℕ) (x : X) : Type 0 where
  pub place : ℕ
  pub there : place + next ≡ at
  pub below : place < length xs
  pub is : (d : X) → slice_index_or xs place d ≡ x

found-front : {X : Type 0} (xs ys : List X) (next at : ℕ) (x : X) → Found xs next at x → Found (xs ++ ys) next at x
found-front xs ys next at x f =
    record { place = f.place; there = f.there; below = omega (arith, f.below, length-more xs ys); is = λ d. get-front xs ys f.place d f.below ∙ f.is d }

found-back : {X : Type 0} (xs ys : List X) (next at : ℕ) (x : X) → Found ys (next + length xs) at x → Found (xs ++ ys) next at x
found-back xs ys next at x f = record {
  place = length xs + f.place;
  there = omega (arith, f.there);
  below = omega (arith, f.below, length-more xs ys);
  is = λ d. get-back xs ys f.place (length xs + f.place) d refl ∙ f.is d;
}

module _ {X : Type 0} (g : PartPlan → ℕ → ℕ → X) where
  in_boxes : (part : PartPlan) (start next : ℕ) (streams : List StreamPlan) (rest : ℕ → Type 0) → FollowIn next streams rest
      → (k i m : ℕ) → m ≡ start + k → k < length streams → i < (slice_index_or streams k no_stream).size
      → Found (by_box (g part) start streams) next ((slice_index_or streams k no_stream).base + i) (g part m i)
  in_boxes part start next [] rest f k i m e l b = absurd (omega (arith, l))
  in_boxes part start next (s ∷ streams) rest f zero i m e l b =
      let same : start ≡ m = omega (arith, e) in
      found-front (upto (g part start) s.size) (by_box (g part) (suc start) streams) next (s.base + i) (g part m i) record {
        place = i;
        there = omega (arith, f.0);
        below = omega (arith, b, length-upto (g part start) s.size);
        is = λ d. get-upto (g part start) s.size i d b ∙ ap (λ n. g part n i) same;
      }
  in_boxes part start next (s ∷ streams) rest f (suc k) i m e l b =
      let o = in_boxes part (suc start) (next + s.size) streams rest f.1 k i m (omega (arith, e)) (omega (arith, l)) b in
      found-back (upto (g part start) s.size) (by_box (g part) (suc start) streams) next ((slice_index_or streams k no_stream).base + i) (g part m i)
      (subst (λ n. Found (by_box (g part) (suc start) streams) n ((slice_index_or streams k no_stream).base + i) (g part m i)) (omega (arith, length-upto (g part start) s.size)) o)

  after_boxes : (part : PartPlan) (start next : ℕ) (streams : List StreamPlan) (rest : ℕ → Type 0) → FollowIn next streams rest
      → rest (next + length (by_box (g part) start streams))
  after_boxes part start next [] rest f = subst rest (omega arith) f
  after_boxes part start next (s ∷ streams) rest f =
      subst rest (omega (arith, length-more (upto (g part start) s.size) (by_box (g part) (suc start) streams), length-upto (g part start) s.size)) (after_boxes part (suc start) (next + s.size) streams rest f.1)

  pub in_parts : (next : ℕ) (plan : List PartPlan) → Follow next plan → (p : PartPlan) → Has plan p → (place i : ℕ)
      → place < length p.streams.items → i < (stream_at p place).size
      → Found (laid_out g plan) next ((stream_at p place).base + i) (g p place i)
  in_parts next [] f p k place i l b = elim k [ ]
  in_parts next (p ∷ plan) f p' first place i l b =
      found-front (by_box (g p) 0 p.streams.items) (laid_out g plan) next _ _ (in_boxes p 0 next p.streams.items (λ n. Follow n plan) f place i place (omega arith) l b)
  in_parts next (o ∷ plan) f p (later k) place i l b =
      found-back (by_box (g o) 0 o.streams.items) (laid_out g plan) next _ _
      (in_parts (next + length (by_box (g o) 0 o.streams.items)) plan (after_boxes o 0 next o.streams.items (λ n. Follow n plan) f) p k place i l b)

  -- what is laid out is found again by the bases
  pub laid-out-at : (plan : List PartPlan) → Follow 0 plan → (p : PartPlan) → Has plan p → (place i : ℕ)
      → place < length p.streams.items → i < (stream_at p place).size
      → (d : X) → slice_index_or (laid_out g plan) ((stream_at p place).base + i) d ≡ g p place i
  laid-out-at plan f p k place i l b d =
      let o = in_parts 0 plan f p k place i l b in
      let e : o.place ≡ (stream_at p place).base + i = omega (arith, o.there) in
      ap (λ n. slice_index_or (laid_out g plan) n d) (sym e) ∙ o.is d

-- the synopsis stands for its history
pub synopsis-stands : (q : QueryValue) (plan : List PartPlan) (is : IsPlan q plan) (h : List Arrival)
    → Stands q plan h (read_from (synopsis q plan h))
unfolding synopsis
synopsis-stands q plan is h p k place i l b =
    let part : IsPartPlan q p = All-contains (IsPartPlan q) plan p is.plans (Contains-from_has plan p k) in
    laid-out-at (cell_of q h) plan is.bases p k place i (omega (arith, l, part.count)) b Cell.Empty
