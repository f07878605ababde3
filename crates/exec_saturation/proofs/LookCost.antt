-- A walk over two streams reads no more cells than the larger box has.
use Rattle.std.proofs.Common.{◌≡◌, ℕ, zero, suc, ◌+◌, ◌*◌, ◌<◌, ◌≤◌, max, not, nat_eq, cond, Bool, true, false, List, [], ◌∷◌, ◌++◌, map, filter, length, refl, sym, ap, ◌∙◌, subst, arith}
use Rattle.std.specs.List.{flat_map, range_with_len}
use Rattle.sem_query.specs.declared.plan.Dim.{Dim}
use Rattle.sem_query.specs.declared.plan.PartPlan.{PartPlan}
use Rattle.sem_query.specs.Query.{QueryValue}
use Rattle.sem_query.specs.Boxes.{dim_size, box_size, AreFull}
use Rattle.sem_query.specs.Plan.{stream_at, dims_at}
use Rattle.sem_query.specs.Serving.{KeepsStreams}
use Rattle.sem_query.specs.Numbers.{is_fixed, free_dims, greatest_of, share}
use Rattle.sem_query.proofs.BoxLaws as Boxes
use Rattle.exec_saturation.specs.Looking.{look_cost}

append-nil : (ds : List Dim) → ds ++ [] ≡ ds
append-nil [] = refl
append-nil (d ∷ ds) = ap (λ (es : List Dim). d ∷ es) (append-nil ds)

more : (n a b : ℕ) → 1 ≤ n → a ≤ b → a ≤ n * b
more zero a b h k = absurd (omega (arith, h))
more (suc n) a b h k = omega (arith, k)

times : (n a b : ℕ) → a ≤ b → n * a ≤ n * b
times zero a b h = omega arith
times (suc n) a b h = (let t = times n a b h in omega (arith, t, h))

-- fewer dims have no more combinations
fewer : (p : Dim → Bool) (dims : List Dim) → AreFull dims → box_size (filter p dims) ≤ box_size dims
fewer p [] f = omega arith
fewer p (d ∷ dims) f = by (p d) (fewer p dims f.1)
  where
    by : (b : Bool) → box_size (filter p dims) ≤ box_size dims → box_size (cond b (d ∷ filter p dims) (filter p dims)) ≤ dim_size d * box_size dims
    by true h = times (dim_size d) (box_size (filter p dims)) (box_size dims) h
    by false h = more (dim_size d) (box_size (filter p dims)) (box_size dims) (Boxes.full-dim-size d f.0) h

module _ (q : QueryValue) (part : PartPlan) (own : KeepsStreams q part) (two : length q.from ≡ 2) (full : (place : ℕ) → place < length q.from → AreFull (dims_at part place)) where
  left : ℕ → ℕ → List Dim
  left arriving place = filter (λ d. not (is_fixed part arriving place d)) (dims_at part place)

  within : (arriving place : ℕ) → place < length q.from → box_size (filter (λ d. not (is_fixed part arriving place d)) (dims_at part place)) ≤ (stream_at part place).size
  within arriving place l =
      let size = own.size place l ∙ ap (λ n. cond (nat_eq n 1) 0 (box_size (dims_at part place))) two in
      let few = fewer (λ d. not (is_fixed part arriving place d)) (dims_at part place) (full place l) in omega (arith, size, few)

  by-two : (n : ℕ) → n ≡ 2
      → greatest_of (map (λ a. box_size (flat_map (free_dims part a) (range_with_len 0 n))) (range_with_len 0 n)) ≤ max (stream_at part 0).size (stream_at part 1).size
  by-two n is = subst (λ (m : ℕ). greatest_of (map (λ a. box_size (flat_map (free_dims part a) (range_with_len 0 m))) (range_with_len 0 m)) ≤ max (stream_at part 0).size (stream_at part 1).size) (sym is)
      (let first : box_size (filter (λ d. not (is_fixed part 0 1 d)) (dims_at part 1) ++ []) ≤ (stream_at part 1).size
      = subst (λ (ds : List Dim). box_size ds ≤ (stream_at part 1).size) (sym (append-nil (filter (λ d. not (is_fixed part 0 1 d)) (dims_at part 1)))) (within 0 1 (omega (arith, two))) in
      let second : box_size (filter (λ d. not (is_fixed part 1 0 d)) (dims_at part 0) ++ []) ≤ (stream_at part 0).size
      = subst (λ (ds : List Dim). box_size ds ≤ (stream_at part 0).size) (sym (append-nil (filter (λ d. not (is_fixed part 1 0 d)) (dims_at part 0)))) (within 1 0 (omega (arith, two))) in
      largest _ _ (stream_at part 0).size (stream_at part 1).size first second)
    where
      largest : (a b s t : ℕ) → a ≤ t → b ≤ s → max a (max b 0) ≤ max s t
      largest a b s t h k = omega (arith, h, k)

  share-within : share part ≤ max (stream_at part 0).size (stream_at part 1).size
  share-within = by-two (length part.streams.items) (own.count ∙ two)

  -- a look costs no less than the cell and the share
  pub cost-within : (most : ℕ) → share part ≤ most → 1 + share part ≤ look_cost part most
  cost-within most few = (let s = share-within in omega (arith, s, few))
