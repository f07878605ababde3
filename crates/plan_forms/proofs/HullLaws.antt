-- The hulls of the parts so far, joined with the ranges of one part more.
use Rattle.std.proofs.Common.{◌≡◌, ℕ, zero, suc, ◌+◌, ◌<◌, ◌≤◌, min, ℤ, int_lt, cond, List, [], ◌∷◌, ◌++◌, map, length, take, slice_get, slice_index_or, refl, sym, ap, ◌∙◌, arith}
use Rattle.std.proofs.lemmas.List.{take_all}
use Rattle.sem_query.specs.declared.atom.Attr.{Attr}
use Rattle.sem_query.specs.declared.plan.Dim.{Dim}
use Rattle.sem_query.specs.declared.plan.PartPlan.{PartPlan}
use Rattle.sem_query.specs.Query.{QueryValue}
use Rattle.sem_query.specs.Boxes.{box_size}
use Rattle.sem_query.specs.Numbers.{answer_bound}
use Rattle.sem_query.specs.Ranges.{different, range_of}
use Rattle.plan_whole_form.specs.Numbers.{capped}
use Rattle.plan_layout.specs.declared.draft.PlanDraft.{PlanDraft}
use Rattle.sem_forms.specs.Answers.{least_end, greatest_end, hull}
use Rattle.plan_forms.specs.Hulls.{AreHulls, wider, wider_with, joined}
use Rattle.plan_forms.specs.Drafts.{counted_once, AreSummed}

-- ---- column by column

first_next : (dims : List Dim) (i : ℕ) (d : Dim) → i < length dims → joined [] (take (suc i) dims) ≡ joined [] (take i dims) ++ slice_index_or dims i d ∷ []
first_next [] i d l = absurd (omega (arith, l))
first_next (e ∷ dims) zero d l = refl
first_next (e ∷ dims) (suc i) d l = ap (λ z. e ∷ z) (first_next dims i d (omega (arith, l)))

joined_next : (before dims : List Dim) (i : ℕ) (d : Dim) → i < length dims
    → joined before (take (suc i) dims) ≡ joined before (take i dims) ++ wider_with (slice_get before i) (slice_index_or dims i d) ∷ []
joined_next before [] i d l = absurd (omega (arith, l))
joined_next [] (e ∷ dims) zero d l = refl
joined_next (o ∷ before) (e ∷ dims) zero d l = refl
joined_next [] (e ∷ dims) (suc i) d l = ap (λ z. e ∷ z) (first_next dims i d (omega (arith, l)))
joined_next (o ∷ before) (e ∷ dims) (suc i) d l = ap (λ z. wider o e ∷ z) (joined_next before dims i d (omega (arith, l)))

-- the ranges so far
pub joined_more : (before dims list new : List Dim) (i : ℕ) (d e : Dim) → i < length dims → list ≡ joined before (take i dims) → e ≡ wider_with (slice_get before i) (slice_index_or dims i d) → new ≡ list ++ e ∷ []
    → new ≡ joined before (take (i + 1) dims)
joined_more before dims list new i d e l h w n =
    let more : suc i ≡ i + 1 = omega arith in
    n ∙ (λ k. h k ++ w k ∷ []) ∙ sym (joined_next before dims i d l) ∙ ap (λ m. joined before (take m dims)) more

joined_length : (before dims : List Dim) (i : ℕ) → i < length dims → length (joined before (take i dims)) ≡ i
joined_length before [] i l = absurd (omega (arith, l))
joined_length before (d ∷ dims) zero l = refl
joined_length [] (d ∷ dims) (suc i) l = ap suc (joined_length [] dims i (omega (arith, l)))
joined_length (o ∷ before) (d ∷ dims) (suc i) l = ap suc (joined_length before dims i (omega (arith, l)))

pub joined_room : (before dims list : List Dim) (i most : ℕ) → i < length dims → length dims ≤ most → list ≡ joined before (take i dims) → length list < most
joined_room before dims list i most l m h = (let n = joined_length before dims i l in let k = ap length h in omega (arith, l, m, n, k))

pub joined_whole : (before dims list : List Dim) (i : ℕ) → length dims ≤ i → list ≡ joined before (take i dims) → list ≡ joined before dims
joined_whole before dims list i l h = h ∙ ap (joined before) (take_all i dims l)

joined_alone : (dims : List Dim) → joined [] dims ≡ dims
joined_alone [] = refl
joined_alone (d ∷ dims) = ap (λ z. d ∷ z) (joined_alone dims)

-- ---- one part more

least_more : (q : QueryValue) (ps : List PartPlan) (p : PartPlan) (a : Attr) (z : ℤ)
    → cond (int_lt (range_of q p a).lo (least_end q ps a z)) (range_of q p a).lo (least_end q ps a z) ≡ least_end q (ps ++ p ∷ []) a z
least_more q [] p a z = refl
least_more q (o ∷ ps) p a z = least_more q ps p a (cond (int_lt (range_of q o a).lo z) (range_of q o a).lo z)

greatest_more : (q : QueryValue) (ps : List PartPlan) (p : PartPlan) (a : Attr) (z : ℤ)
    → cond (int_lt (greatest_end q ps a z) (range_of q p a).hi) (range_of q p a).hi (greatest_end q ps a z) ≡ greatest_end q (ps ++ p ∷ []) a z
greatest_more q [] p a z = refl
greatest_more q (o ∷ ps) p a z = greatest_more q ps p a (cond (int_lt z (range_of q o a).hi) (range_of q o a).hi z)

hulls_more : (q : QueryValue) (o : PartPlan) (ps : List PartPlan) (p : PartPlan) (columns : List Attr)
    → joined (map (hull q o ps) columns) (map (hull q p []) columns) ≡ map (hull q o (ps ++ p ∷ [])) columns
hulls_more q o ps p [] = refl
hulls_more q o ps p (a ∷ columns) =
    let r : joined (map (hull q o ps) columns) (map (hull q p []) columns) ≡ map (hull q o (ps ++ p ∷ [])) columns = hulls_more q o ps p columns in
    λ i. record { attr = a; lo = least_more q ps p a (range_of q o a).lo i; hi = greatest_more q ps p a (range_of q o a).hi i } ∷ r i

pub hulls_joined : (q : QueryValue) (plans : List PartPlan) (p : PartPlan) (before dims new : List Dim) → AreHulls q plans before → AreHulls q (p ∷ []) dims → new ≡ joined before dims
    → AreHulls q (plans ++ p ∷ []) new
hulls_joined q [] p before dims new h e n = n ∙ ap (λ z. joined z dims) h ∙ joined_alone dims ∙ e
hulls_joined q (o ∷ ps) p before dims new h e n = n ∙ (λ i. joined (h i) (e i)) ∙ hulls_more q o ps p (different q.select)

-- ---- the answers counted once

pub counted : (q : QueryValue) (plans : List PartPlan) (hulls : List Dim) (answers size least : ℕ) → AreHulls q plans hulls → answers ≡ capped (answer_bound q plans) → size ≡ capped (box_size hulls)
    → least ≡ min answers size → least ≡ capped (counted_once q plans)
counted q [] hulls answers size least h a s l = omega (arith, a, l)
counted q (p ∷ ps) hulls answers size least h a s l = both answers size least (answer_bound q (p ∷ ps)) (box_size hulls) a s l ∙ ap (λ n. capped (min (answer_bound q (p ∷ ps)) n)) (ap box_size h)
  where
    both : (answers size least m n : ℕ) → answers ≡ capped m → size ≡ capped n → least ≡ min answers size → least ≡ capped (min m n)
    both answers size least m n a s l = omega (arith, a, s, l)

-- so the numbers of the drafts are those of the plans, each answer counted once
pub summed_once : (q : QueryValue) (draft : PlanDraft) (hulls : List Dim) (size least : ℕ) → AreSummed q (answer_bound q) draft → AreHulls q draft.parts.items hulls → size ≡ capped (box_size hulls)
    → least ≡ min draft.answers size → AreSummed q (counted_once q) (record draft { answers = least })
summed_once q draft hulls size least s h e l = record {
  cells = s.cells;
  boxes = s.boxes;
  answers = counted q draft.parts.items hulls draft.answers size least h s.answers e l;
  work = s.work;
}
