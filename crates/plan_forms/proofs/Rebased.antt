-- The plan of the drafts of all parts, their boxes one after another, or each where the first one that is the same begins.
use Rattle.std.proofs.Common.{◌≡◌, ℕ, zero, suc, ◌+◌, ◌<◌, min, ℤ, int_lt, true, false, cond, IsTrue, List, [], ◌∷◌, map, length, slice_index_or, refl, sym, ap, ap₂, ◌∙◌, subst, arith}
use Rattle.std.specs.List.{AllZip}
use Rattle.std.proofs.lemmas.List.{length-map}
use Rattle.sem_query.specs.declared.atom.Attr.{Attr}
use Rattle.sem_query.specs.declared.part.Sign.{Sign}
use Rattle.sem_query.specs.declared.plan.Dim.{Dim}
use Rattle.sem_query.specs.declared.plan.PartPlan.{PartPlan}
use Rattle.sem_query.specs.declared.plan.StreamPlan.{StreamPlan}
use Rattle.sem_query.specs.Query.{QueryValue}
use Rattle.sem_query.specs.Boxes.{box_size}
use Rattle.sem_query.specs.Combinations.{is_tied}
use Rattle.sem_query.specs.Numbers.{answer_bound}
use Rattle.sem_query.specs.Ranges.{different, first_tied, range_of}
use Rattle.sem_query.specs.Plan.{stream_at, dims_at}
use Rattle.sem_query.specs.Serving.{AreBased}
use Rattle.sem_query.specs.Sharing.{Box, box_at, boxes, start_in}
use Rattle.sem_query.proofs.Has.{Has-from_contains}
use Rattle.plan_layout.specs.declared.draft.PlanDraft.{PlanDraft}
use Rattle.plan_layout.specs.Capped.{capped}
use Rattle.plan_layout.specs.Boxed.{cells_for, boxed}
use Rattle.plan_layout.specs.Layout.{numbers_in}
use Rattle.plan_layout.specs.Shared.{started_part, shared, IsSharedDraft}
use Rattle.plan_layout.proofs.Setting.{parts-follow, as_many, range-same, cell_count-same, answers-same, work-same}
use Rattle.plan_layout.proofs.Level.{from-map, length-started, stream-started, start-shared, shared_count, answers_shared, work_shared}
use Rattle.sem_forms.specs.Part.{AreEqualDims, IsOwnStream, IsWholePartPlan}
use Rattle.sem_forms.specs.Answers.{least_end, greatest_end, hull_bound, announced_answers}
use Rattle.sem_forms.specs.Parts.{form_numbers}
use Rattle.sem_forms.specs.Split.{part_query, IsSplitFor}
use Rattle.plan_forms.specs.Made.{capped_all}
use Rattle.plan_forms.specs.Drafts.{IsPartDraft, AreSplitDrafts, counted_once, AreSummed}

-- ---- a part whose boxes begin elsewhere

-- no more places than streams tell anything of their dims
no_dims : (streams others : List StreamPlan) (k : ℕ) (d : StreamPlan) → length streams ≡ length others
    → ((n : ℕ) → n < length streams → (slice_index_or streams n d).dims ≡ (slice_index_or others n d).dims) → (slice_index_or streams k d).dims ≡ (slice_index_or others k d).dims
no_dims [] [] k d e h = refl
no_dims [] (o ∷ others) k d e h = absurd (omega (arith, e))
no_dims (s ∷ streams) [] k d e h = absurd (omega (arith, e))
no_dims (s ∷ streams) (o ∷ others) zero d e h = h 0 (omega arith)
no_dims (s ∷ streams) (o ∷ others) (suc k) d e h = no_dims streams others k d (omega (arith, e)) (λ n l. h (suc n) (omega (arith, l)))

module _ (q r : QueryValue) (list : List Box) (part : PartPlan) where
  abbrev started : PartPlan
  started = started_part q list part

  started_count : length started.streams.items ≡ length part.streams.items
  started_count = length-started q list part 0 part.streams.items

  started_dims : dims_at started ≡ dims_at part
  started_dims = λ i k. (no_dims started.streams.items part.streams.items k _ started_count
      (λ n l. ap (λ (s : StreamPlan). s.dims) (stream-started q list part n (omega (arith, l, started_count)))) i).items

  -- it is the plan of the whole form still
  pub whole_started : IsWholePartPlan r part → IsWholePartPlan r started
  whole_started is = record {
    links = is.links;
    keeps = is.keeps;
    plan = is.plan;
    signs = is.signs;
    local = is.local;
    local_ascends = is.local_ascends;
    count = started_count ∙ is.count;
    streams =
        λ place l.
        let s = is.streams place l in
        subst (IsOwnStream r (is.keeps place)) (sym (stream-started q list part place (omega (arith, l, is.count)))) record { dims = s.dims; kind = s.kind; size = s.size };
    equal = λ a b. (
      (λ h. subst (λ ds. AreEqualDims r ds a b) (sym started_dims) ((is.equal a b).0 h)),
      (λ h. (is.equal a b).1 (subst (λ ds. AreEqualDims r ds a b) started_dims h)),
    );
    equal_ascends = is.equal_ascends;
    less = is.less;
    soft = is.soft;
  }

-- ---- the hulls read the ranges alone

-- the columns have the same ranges, part by part
abbrev HaveRanges : QueryValue → List PartPlan → List PartPlan → Type 0
HaveRanges q = AllZip (λ p o. (a : Attr) → range_of q p a ≡ range_of q o a)

module _ (q : QueryValue) where
  least_same : (ps os : List PartPlan) → HaveRanges q ps os → (a : Attr) (z : ℤ) → least_end q ps a z ≡ least_end q os a z
  least_same [] [] h a z = refl
  least_same [] (o ∷ os) h a z = absurd h
  least_same (p ∷ ps) [] h a z = absurd h
  least_same (p ∷ ps) (o ∷ os) h a z =
      least_same ps os h.1 a (cond (int_lt (range_of q p a).lo z) (range_of q p a).lo z)
      ∙ ap (λ (d : Dim). least_end q os a (cond (int_lt d.lo z) d.lo z)) (h.0 a)

  greatest_same : (ps os : List PartPlan) → HaveRanges q ps os → (a : Attr) (z : ℤ) → greatest_end q ps a z ≡ greatest_end q os a z
  greatest_same [] [] h a z = refl
  greatest_same [] (o ∷ os) h a z = absurd h
  greatest_same (p ∷ ps) [] h a z = absurd h
  greatest_same (p ∷ ps) (o ∷ os) h a z =
      greatest_same ps os h.1 a (cond (int_lt z (range_of q p a).hi) (range_of q p a).hi z)
      ∙ ap (λ (d : Dim). greatest_end q os a (cond (int_lt z d.hi) d.hi z)) (h.0 a)

  hulls_same : (ps os : List PartPlan) → HaveRanges q ps os → hull_bound q ps ≡ hull_bound q os
  hulls_same [] [] h = refl
  hulls_same [] (o ∷ os) h = absurd h
  hulls_same (p ∷ ps) [] h = absurd h
  hulls_same (p ∷ ps) (o ∷ os) h = λ i. box_size (map (λ a. record {
    attr = a;
    lo = (least_same ps os h.1 a (range_of q p a).lo ∙ ap (λ (d : Dim). least_end q os a d.lo) (h.0 a)) i;
    hi = (greatest_same ps os h.1 a (range_of q p a).hi ∙ ap (λ (d : Dim). greatest_end q os a d.hi) (h.0 a)) i;
  }) (different q.select))

  boxed_ranges : (next : ℕ) (plans : List PartPlan) → HaveRanges q (boxed q next plans) plans
  boxed_ranges next [] = tt
  boxed_ranges next (p ∷ plans) = (range-same q next p, boxed_ranges (next + cells_for q p) plans)

  shared_ranges : (list : List Box) (plan : List PartPlan) → HaveRanges q (map (started_part q list) plan) plan
  shared_ranges list [] = tt
  shared_ranges list (p ∷ plan) = (
    (λ a. ap (λ (dims : ℕ → List Dim). first_tied (is_tied q p) (dims a.stream) a) (started_dims q q list p)),
    shared_ranges list plan,
  )

-- ---- all parts

module _ (q : QueryValue) where
  boxed_plans : (next : ℕ) (parts : List (List Sign)) (plans : List PartPlan) → AllZip (IsPartDraft q) parts plans → AllZip (λ ss part. IsWholePartPlan (part_query q ss) part) parts (boxed q next plans)
  boxed_plans next [] [] h = tt
  boxed_plans next [] (p ∷ plans) h = absurd h
  boxed_plans next (s ∷ parts) [] h = absurd h
  boxed_plans next (s ∷ parts) (p ∷ plans) h = (h.0.plan next, boxed_plans (next + cells_for q p) parts plans h.1)

  started_plans : (list : List Box) (parts : List (List Sign)) (plan : List PartPlan) → AllZip (λ ss part. IsWholePartPlan (part_query q ss) part) parts plan
      → AllZip (λ ss part. IsWholePartPlan (part_query q ss) part) parts (map (started_part q list) plan)
  started_plans list [] [] h = tt
  started_plans list [] (p ∷ plan) h = absurd h
  started_plans list (s ∷ parts) [] h = absurd h
  started_plans list (s ∷ parts) (p ∷ plan) h = (whole_started q (part_query q s) list p h.0, started_plans list parts plan h.1)

  module _ (plans : List PartPlan) (drafts : AreSplitDrafts q plans) where
    pub plain_plan : IsSplitFor false q (boxed q 0 plans)
    plain_plan = (record { parts = drafts.parts; are = drafts.are; plans = boxed_plans 0 drafts.parts plans drafts.drafts }, parts-follow q 0 plans)

    shared_based : (plan : List PartPlan) → AreBased true q (shared q plan)
    shared_based plan part c place l =
        let o = from-map (started_part q (boxes q plan)) plan part (Has-from_contains (shared q plan) part c) in
        let m : place < length o.0.streams.items = omega (arith, l, ap (λ (p : PartPlan). length p.streams.items) o.2, length-started q (boxes q plan) o.0 0 o.0.streams.items) in
        ap (λ (p : PartPlan). (stream_at p place).base) o.2
        ∙ ap (λ (s : StreamPlan). s.base) (stream-started q (boxes q plan) o.0 place m)
        ∙ start-shared q plan o.0 place
        ∙ ap (λ (p : PartPlan). start_in q (boxes q (shared q plan)) (box_at p place)) (sym o.2)

    pub shared_plan : IsSplitFor true q (shared q (boxed q 0 plans))
    shared_plan =
        let plan : List PartPlan = boxed q 0 plans in
        (record { parts = drafts.parts; are = drafts.are; plans = started_plans (boxes q plan) drafts.parts plan (boxed_plans 0 drafts.parts plans drafts.drafts) }, shared_based plan)

  -- ---- and their numbers

  module _ (c : IsTrue q.compact) (draft : PlanDraft) (s : AreSummed q (counted_once q) draft) where
    announced : (plan : List PartPlan) → counted_once q plan ≡ announced_answers q plan
    announced plan = ap (λ b. cond b (counted_once q plan) (answer_bound q plan)) (sym c)

    pub split_numbers : numbers_in draft ≡ capped_all (form_numbers false q (boxed q 0 draft.parts.items))
    split_numbers = λ i. record {
      parts = sym (as_many q 0 draft.parts.items) i;
      cells = (s.cells ∙ ap capped (sym (cell_count-same q draft.parts.items))) i;
      answers =
          (s.answers ∙ ap capped (ap₂ min (sym (answers-same q draft.parts.items)) (sym (hulls_same q (boxed q 0 draft.parts.items) draft.parts.items (boxed_ranges q 0 draft.parts.items)))
          ∙ announced (boxed q 0 draft.parts.items))) i;
      work = (s.work ∙ ap capped (sym (work-same q draft.parts.items))) i;
    }

    pub shared_numbers : (new : PlanDraft) → IsSharedDraft q draft new → numbers_in new ≡ capped_all (form_numbers true q (shared q (boxed q 0 draft.parts.items)))
    shared_numbers new h =
        let plan : List PartPlan = boxed q 0 draft.parts.items in
        λ i. record {
          parts = (h.parts.size ∙ sym (length-map plan (started_part q (boxes q plan)) ∙ as_many q 0 draft.parts.items)) i;
          cells = (h.parts.cells ∙ ap capped (sym (shared_count q plan))) i;
          answers =
              (h.answers ∙ s.answers ∙ ap capped (ap₂ min (sym (answers_shared q plan ∙ answers-same q draft.parts.items))
              (sym (hulls_same q (shared q plan) plan (shared_ranges q (boxes q plan) plan) ∙ hulls_same q plan draft.parts.items (boxed_ranges q 0 draft.parts.items)))
              ∙ announced (shared q plan))) i;
          work = (h.work ∙ s.work ∙ ap capped (sym (work_shared q plan ∙ work-same q draft.parts.items))) i;
        }
