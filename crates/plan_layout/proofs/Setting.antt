-- Boxes set one after the other: one more stream, one more part, and what setting them leaves as it is.
use Rattle.std.proofs.Common.{◌≡◌, ℕ, zero, suc, ◌+◌, ◌<◌, not, ◌&&◌, ◌||◌, ◌==◌, nat_lt, cond, List, [], ◌∷◌, ◌++◌, map, filter, length, refl, sym, ap, ap₂, ◌∙◌, subst, arith, slice_index_or}
use Rattle.std.specs.List.{sum_by, flat_map, list_any, range_with_len}
use Rattle.std.proofs.lemmas.List.Sums.{sum_by-cons}
use Rattle.sem_query.specs.declared.atom.Attr.{Attr}
use Rattle.sem_query.specs.declared.plan.Dim.{Dim}
use Rattle.sem_query.specs.declared.plan.Kind.{Kind}
use Rattle.sem_query.specs.declared.plan.StreamPlan.{StreamPlan}
use Rattle.sem_query.specs.declared.plan.PartPlan.{PartPlan}
use Rattle.sem_query.specs.Query.{QueryValue, attr_eq}
use Rattle.sem_query.specs.Boxes.{box_size}
use Rattle.sem_query.specs.Plan.{FollowIn, Follow, dims_at}
use Rattle.sem_query.specs.Combinations.{is_tied}
use Rattle.sem_query.specs.Ranges.{range_of, first_tied, selected_ranges, different}
use Rattle.sem_query.specs.Numbers.{cell_count, answer_bound, equals_some, is_earlier_dim, is_fixed, free_dims, places, share_of, greatest_of, share, work}
use Rattle.plan_layout.specs.Boxed.{size_for, boxed_streams, boxed_part, cells_for, boxed}
use Rattle.plan_layout.specs.Drafts.{signs_of}

module _ (q : QueryValue) where
  -- a stream, its box set
  abbrev pub set : ℕ → StreamPlan → StreamPlan
  set base s = record s { base = base; size = size_for q s }

  no_more : (next : ℕ) → next + 0 ≡ next
  no_more next = omega arith

  further : (next n m : ℕ) → (next + n) + m ≡ next + (n + m)
  further next n m = omega arith

  -- one more stream
  pub streams-push : (next : ℕ) (xs : List StreamPlan) (s : StreamPlan) → boxed_streams q next (xs ++ s ∷ []) ≡ boxed_streams q next xs ++ set (next + sum_by (size_for q) xs) s ∷ []
  streams-push next [] s = ap (λ n. set n s ∷ []) (sym (no_more next))
  streams-push next (x ∷ xs) s =
      ap (λ l. set next x ∷ l) (streams-push (next + size_for q x) xs s
      ∙ ap (λ n. boxed_streams q (next + size_for q x) xs ++ set n s ∷ []) (further next (size_for q x) (sum_by (size_for q) xs) ∙ ap (λ n. next + n) (sym (sum_by-cons (size_for q) x xs))))

  -- one more part
  pub parts-push : (next : ℕ) (xs : List PartPlan) (p : PartPlan) → boxed q next (xs ++ p ∷ []) ≡ boxed q next xs ++ boxed_part q (next + sum_by (cells_for q) xs) p ∷ []
  parts-push next [] p = ap (λ n. boxed_part q n p ∷ []) (sym (no_more next))
  parts-push next (x ∷ xs) p =
      ap (λ l. boxed_part q next x ∷ l) (parts-push (next + cells_for q x) xs p
      ∙ ap (λ n. boxed q (next + cells_for q x) xs ++ boxed_part q n p ∷ []) (further next (cells_for q x) (sum_by (cells_for q) xs) ∙ ap (λ n. next + n) (sym (sum_by-cons (cells_for q) x xs))))

  -- ---- the boxes follow each other

  streams-follow : (next : ℕ) (streams : List StreamPlan) (rest : ℕ → Type 0) → rest (next + sum_by (size_for q) streams) → FollowIn next (boxed_streams q next streams) rest
  streams-follow next [] rest h = subst rest (no_more next) h
  streams-follow next (s ∷ streams) rest h =
      (refl, streams-follow (next + size_for q s) streams rest (subst rest (ap (λ n. next + n) (sum_by-cons (size_for q) s streams) ∙ sym (further next (size_for q s) (sum_by (size_for q) streams))) h))

  pub parts-follow : (next : ℕ) (parts : List PartPlan) → Follow next (boxed q next parts)
  parts-follow next [] = tt
  parts-follow next (part ∷ parts) = streams-follow next part.streams.items (λ n. Follow n (boxed q (next + cells_for q part) parts)) (parts-follow (next + cells_for q part) parts)

  -- ---- what is left as it is

  pub signs-same : (next : ℕ) (parts : List PartPlan) → signs_of (boxed q next parts) ≡ signs_of parts
  signs-same next [] = refl
  signs-same next (part ∷ parts) = ap (λ l. part.signs.items ∷ l) (signs-same (next + cells_for q part) parts)

  pub as_many : (next : ℕ) (parts : List PartPlan) → length (boxed q next parts) ≡ length parts
  as_many next [] = refl
  as_many next (part ∷ parts) = ap suc (as_many (next + cells_for q part) parts)

  pub as_many-streams : (next : ℕ) (streams : List StreamPlan) → length (boxed_streams q next streams) ≡ length streams
  as_many-streams next [] = refl
  as_many-streams next (s ∷ streams) = ap suc (as_many-streams (next + size_for q s) streams)

  pub same_dims : (next : ℕ) (streams : List StreamPlan) (k : ℕ) (d : StreamPlan) → (slice_index_or (boxed_streams q next streams) k d).dims ≡ (slice_index_or streams k d).dims
  same_dims next [] k d = refl
  same_dims next (s ∷ streams) zero d = refl
  same_dims next (s ∷ streams) (suc k) d = same_dims (next + size_for q s) streams k d

  pub same_kind : (next : ℕ) (streams : List StreamPlan) (k : ℕ) (d : StreamPlan) → (slice_index_or (boxed_streams q next streams) k d).kind ≡ (slice_index_or streams k d).kind
  same_kind next [] k d = refl
  same_kind next (s ∷ streams) zero d = refl
  same_kind next (s ∷ streams) (suc k) d = same_kind (next + size_for q s) streams k d

  pub size_set : (next : ℕ) (streams : List StreamPlan) (k : ℕ) (d : StreamPlan) → k < length streams → (slice_index_or (boxed_streams q next streams) k d).size ≡ size_for q (slice_index_or streams k d)
  size_set next [] k d l = absurd (omega (arith, l))
  size_set next (s ∷ streams) zero d l = refl
  size_set next (s ∷ streams) (suc k) d l = size_set (next + size_for q s) streams k d (omega (arith, l))

  module _ (next : ℕ) (part : PartPlan) where
    pub dims-same : (k : ℕ) → dims_at (boxed_part q next part) k ≡ dims_at part k
    dims-same k = ap (λ d. d.items) (same_dims next part.streams.items k record { dims = record { items = [] }; kind = Kind.Present; base = 0; size = 0 })

    earlier-same : (place : ℕ) (b : Attr) → is_earlier_dim (boxed_part q next part) place b ≡ is_earlier_dim part place b
    earlier-same place b = ap (λ (ds : List Dim). nat_lt b.stream place && list_any (λ d. attr_eq d.attr b) ds) (dims-same b.stream)

    fixed-same : (arriving place : ℕ) (d : Dim) → is_fixed (boxed_part q next part) arriving place d ≡ is_fixed part arriving place d
    fixed-same arriving place d = λ i. equals_some part d.attr (λ b. (b.stream == arriving) || earlier-same place b i)

    free-same : (arriving place : ℕ) → free_dims (boxed_part q next part) arriving place ≡ free_dims part arriving place
    free-same arriving place = λ i. cond (place == arriving) [] (filter (λ d. not (fixed-same arriving place d i)) (dims-same place i))

    places-same : places (boxed_part q next part) ≡ places part
    places-same = ap (λ n. range_with_len 0 n) (as_many-streams next part.streams.items)

    share_of-same : (arriving : ℕ) → share_of (boxed_part q next part) arriving ≡ share_of part arriving
    share_of-same arriving = λ i. box_size (flat_map (λ k. free-same arriving k i) (places-same i))

    share-same : share (boxed_part q next part) ≡ share part
    share-same = λ i. greatest_of (map (λ a. share_of-same a i) (places-same i))

    pub range-same : (a : Attr) → range_of q (boxed_part q next part) a ≡ range_of q part a
    range-same a = ap (λ (ds : List Dim). first_tied (is_tied q part) ds a) (dims-same a.stream)

    ranges-same : selected_ranges q (boxed_part q next part) ≡ selected_ranges q part
    ranges-same = λ i. map (λ a. range-same a i) (different q.select)

    cells-same : sum_by (λ s. s.size) (boxed_streams q next part.streams.items) ≡ cells_for q part
    cells-same = by next part.streams.items
      where
        by : (next : ℕ) (streams : List StreamPlan) → sum_by (λ s. s.size) (boxed_streams q next streams) ≡ sum_by (size_for q) streams
        by next [] = refl
        by next (s ∷ streams) =
            sum_by-cons (λ (o : StreamPlan). o.size) (set next s) (boxed_streams q (next + size_for q s) streams)
            ∙ ap (λ n. size_for q s + n) (by (next + size_for q s) streams)
            ∙ sym (sum_by-cons (size_for q) s streams)

  -- a sum over the parts
  sums-same : (f g : PartPlan → ℕ) → ((next : ℕ) (p : PartPlan) → f (boxed_part q next p) ≡ g p) → (next : ℕ) (parts : List PartPlan) → sum_by f (boxed q next parts) ≡ sum_by g parts
  sums-same f g h next [] = refl
  sums-same f g h next (part ∷ parts) =
      sum_by-cons f (boxed_part q next part) (boxed q (next + cells_for q part) parts)
      ∙ ap₂ (λ a b. a + b) (h next part) (sums-same f g h (next + cells_for q part) parts)
      ∙ sym (sum_by-cons g part parts)

  pub cell_count-same : (parts : List PartPlan) → cell_count (boxed q 0 parts) ≡ sum_by (cells_for q) parts
  cell_count-same parts = sums-same (λ part. sum_by (λ s. s.size) part.streams.items) (cells_for q) cells-same 0 parts

  pub answers-same : (parts : List PartPlan) → answer_bound q (boxed q 0 parts) ≡ answer_bound q parts
  answers-same parts = sums-same (λ part. box_size (selected_ranges q part)) (λ part. box_size (selected_ranges q part)) (λ next p. ap box_size (ranges-same next p)) 0 parts

  pub work-same : (parts : List PartPlan) → work (boxed q 0 parts) ≡ work parts
  work-same parts = sums-same share share share-same 0 parts
