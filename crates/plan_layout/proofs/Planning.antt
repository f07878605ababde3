-- The plan that the drafts come to, with its numbers.
use Rattle.std.proofs.Common.{◌≡◌, ℕ, zero, suc, ◌+◌, ◌-◌, ◌^◌, ◌<◌, ◌≤◌, min, Bool, true, false, cond, nat_lt, List, [], ◌∷◌, ◌++◌, length, take, All, IsFalse, Result, Ok, Err, None, Some, Option, refl, sym, ap, ◌∙◌, subst, arith, slice_index_or, get_or}
use Rattle.std.proofs.lemmas.List.{take_more, take_all, length-map, get_or-map}
use Rattle.std.proofs.lemmas.List.Elements.{All-get_or}
use Rattle.std.proofs.lemmas.Bool.Decides.{nat_tests}
use Rattle.sem_query.specs.declared.part.Part.{Part}
use Rattle.sem_query.specs.declared.part.Sign.{Sign}
use Rattle.sem_query.specs.declared.decision.Which.{Which}
use Rattle.sem_query.specs.declared.decision.Which.TheVariants.{Parts, Cells, Answers, Work}
use Rattle.sem_query.specs.declared.plan.Numbers.{Numbers}
use Rattle.sem_query.specs.declared.plan.PartPlan.{PartPlan}
use Rattle.sem_query.specs.declared.plan.Plan.{Plan}
use Rattle.sem_query.specs.declared.plan.Plan.TheVariants as plan
use Rattle.sem_query.specs.Query.{QueryValue, is_filter}
use Rattle.sem_query.specs.Parts.{IsPart, AreParts, sign_lists}
use Rattle.sem_query.specs.Plan.{IsPartPlan, IsPlan}
use Rattle.sem_query.specs.Violation.{IsViolation}
use Rattle.sem_query.specs.Sharing.{boxes, IsPlanFor, numbers_for}
use Rattle.sem_query.specs.Verdict.{number_of, is_above, first_above}
use Rattle.plan_layout.specs.declared.error.LayoutError.{LayoutError}
use Rattle.plan_layout.specs.declared.error.LayoutError.TheVariants as why
use Rattle.plan_layout.specs.declared.draft.PlanDraft.{PlanDraft}
use Rattle.plan_layout.specs.Capped.{capped}
use Rattle.plan_layout.specs.Boxed.{cells_for, boxed}
use Rattle.plan_layout.specs.Drafts.{IsDraft, signs_of}
use Rattle.plan_layout.specs.Sums.{AreDrafted, IsDrafted}
use Rattle.plan_layout.specs.Shared.{started_part, shared, IsSharedDraft}
use Rattle.plan_layout.specs.Layout.{IsLayout, IsLimited, numbers_in, IsNumbered}
use Rattle.plan_layout.proofs.Setting.{parts-follow, signs-same, as_many, cell_count-same, answers-same, work-same}
use Rattle.plan_layout.proofs.Level.{is_shared, shared_count, answers_shared, work_shared}

-- a test on a small limit does not see the cap
above_same : (m n : ℕ) → m < 2 ^ 63 → nat_lt m (capped n) ≡ nat_lt m n
above_same m n l = by (2 ^ 64 - 1) m n (omega (arith, l))
  where
    by : (u m n : ℕ) → m < u → nat_lt m (min n u) ≡ nat_lt m n
    by u m n l = grind (arith, nat_tests)

not_above : (m n : ℕ) → nat_lt m n ≡ false → n ≤ m
not_above m n h = grind (arith, nat_tests)

-- the numbers as 64 bits keep them
pub kept : Numbers → Numbers
kept n = record { parts = n.parts; cells = capped n.cells; answers = capped n.answers; work = capped n.work }

above_kept : (n : Numbers) → first_above (kept n) ≡ first_above n
unfolding kept
above_kept n = λ i. first_of (above_same 262144 n.cells (omega arith) i) (above_same 65536 n.answers (omega arith) i) (above_same 4194304 n.work (omega arith) i)
  where
    first_of : Bool → Bool → Bool → Option Which
    first_of a b c = cond a (Some Cells) (cond b (Some Answers) (cond c (Some Work) None))

number_kept : (n : Numbers) (which : Which) → n.parts ≤ 4096 → number_of (kept n) which ≡ capped (number_of n which)
unfolding kept
number_kept n Parts l = by (2 ^ 64 - 1) n.parts (omega (arith, l))
  where
    by : (u n : ℕ) → n ≤ u → n ≡ min n u
    by u n l = omega arith
number_kept n Cells l = refl
number_kept n Answers l = refl
number_kept n Work l = refl

kept_parts : (n : Numbers) → (kept n).parts ≡ n.parts
unfolding kept
kept_parts n = refl

record AreFew (n : Numbers) : Type 0 where
  cells : n.cells ≤ 262144
  answers : n.answers ≤ 65536
  work : n.work ≤ 4194304

few_if : (n : Numbers) → first_above n ≡ None → AreFew n
few_if n h = by (is_above n Cells) (is_above n Answers) (is_above n Work) refl refl refl h
  where
    by : (a b c : Bool) → is_above n Cells ≡ a → is_above n Answers ≡ b → is_above n Work ≡ c → cond a (Some Cells) (cond b (Some Answers) (cond c (Some Work) None)) ≡ None → AreFew n
    by true b c e f g h = absurd cc
    by false true c e f g h = absurd cc
    by false false true e f g h = absurd cc
    by false false false e f g h = record { cells = not_above 262144 n.cells e; answers = not_above 65536 n.answers f; work = not_above 4194304 n.work g }

kept_few : (n : Numbers) → AreFew n → kept n ≡ n
unfolding kept
kept_few n f = λ i. record { parts = n.parts; cells = by (2 ^ 64 - 1) n.cells (omega (arith, f.cells)) i; answers = by (2 ^ 64 - 1) n.answers (omega (arith, f.answers)) i; work = by (2 ^ 64 - 1) n.work (omega (arith, f.work)) i }
  where
    by : (u n : ℕ) → n ≤ u → min n u ≡ n
    by u n l = omega arith

-- ---- the plan

-- the plan of the query, without shared cells or with them, with these numbers as 64 bits keep them; where the cells are few, it is that of the drafts
pub record IsWhole (shares : Bool) (q : QueryValue) (draft : PlanDraft) (whole : List PartPlan) : Type 0 where
  pub plan : IsPlanFor shares q whole
  pub numbers : numbers_in draft ≡ kept (numbers_for shares q whole)
  pub same : draft.cells < 2 ^ 32 → whole ≡ draft.parts.items

module _ (q : QueryValue) (draft : PlanDraft) (d : AreDrafted q draft) (parts : AreParts q (signs_of draft.parts.items)) where
  plans_are : (next : ℕ) (ps : List PartPlan) → All (IsDraft q) ps → All (IsPartPlan q) (boxed q next ps)
  plans_are next [] h k o l = absurd (omega (arith, l))
  plans_are next (p ∷ ps) h zero o l = (h 0 p (omega arith)).plan next
  plans_are next (p ∷ ps) h (suc k) o l = plans_are (next + cells_for q p) ps (λ j e m. h (suc j) e (omega (arith, m))) k o (omega (arith, l))

  is_plan : IsPlan q (boxed q 0 draft.parts.items)
  is_plan = record {
    parts = subst (AreParts q) (sym (signs-same q 0 draft.parts.items)) parts;
    plans = plans_are 0 draft.parts.items d.drafts;
    bases = parts-follow q 0 draft.parts.items;
  }

  -- what was added up is what the numbers of the plan are, as far as 64 bits keep them
  pub plain_whole : IsWhole false q draft (boxed q 0 draft.parts.items)
  unfolding kept
  plain_whole = record {
    plan = is_plan;
    numbers = λ i. record {
      parts = sym (as_many q 0 draft.parts.items) i;
      cells = (d.cells ∙ ap capped (sym (cell_count-same q draft.parts.items))) i;
      answers = (d.answers ∙ ap capped (sym (answers-same q draft.parts.items))) i;
      work = (d.work ∙ ap capped (sym (work-same q draft.parts.items))) i;
    };
    same = d.boxes;
  }

  pub shared_whole : (new : PlanDraft) → IsSharedDraft q draft new → IsWhole true q new (shared q (boxed q 0 draft.parts.items))
  unfolding kept
  shared_whole new h =
      let plan : List PartPlan = boxed q 0 draft.parts.items in
      record {
        plan = is_shared q plan is_plan;
        numbers = λ i. record {
          parts = (h.parts.size ∙ sym (length-map plan (started_part q (boxes q plan)) ∙ as_many q 0 draft.parts.items)) i;
          cells = (h.parts.cells ∙ ap capped (sym (shared_count q plan))) i;
          answers = (h.answers ∙ d.answers ∙ ap capped (sym (answers_shared q plan ∙ answers-same q draft.parts.items))) i;
          work = (h.work ∙ d.work ∙ ap capped (sym (work_shared q plan ∙ work-same q draft.parts.items))) i;
        };
        same = h.parts.boxes;
      }

module _ (shares : Bool) (q : QueryValue) (draft : PlanDraft) (whole : List PartPlan) (w : IsWhole shares q draft whole) (plain : IsFalse (is_filter q)) (fine : IsViolation q None) where
  first_same : first_above (numbers_in draft) ≡ first_above (numbers_for shares q whole)
  first_same = ap first_above w.numbers ∙ above_kept (numbers_for shares q whole)

  limit_told : (which : Which) (value : ℕ) → length draft.parts.items ≤ 4096 → IsLimited (numbers_in draft) (Err (why.Limit which value)) → IsLayout shares q (Err (why.Limit which value))
  limit_told which value l h = (
    record {
      plain = plain;
      parts = whole;
      plan = w.plan;
      first = sym first_same ∙ h.0;
      kept = h.1 ∙ ap (λ (z : Numbers). number_of z which) w.numbers
          ∙ number_kept (numbers_for shares q whole) which (omega (arith, l, ap (λ (z : Numbers). z.parts) w.numbers ∙ kept_parts (numbers_for shares q whole)));
    },
    fine,
  )

  plan_told : (numbers : Numbers) → IsLimited (numbers_in draft) (Ok numbers) → IsLayout shares q (Ok (plan.Parts draft.parts.items numbers))
  plan_told numbers h =
      let none : first_above (numbers_for shares q whole) ≡ None = sym first_same ∙ h.1 in
      let few : AreFew (numbers_for shares q whole) = few_if (numbers_for shares q whole) none in
      let all : numbers_in draft ≡ numbers_for shares q whole = w.numbers ∙ kept_few (numbers_for shares q whole) few in
      let cells : draft.cells ≡ (numbers_for shares q whole).cells = ap (λ (z : Numbers). z.cells) all in
      let e : whole ≡ draft.parts.items = w.same (omega (arith, cells, few.cells)) in
      let same : numbers ≡ numbers_for shares q whole = h.0 ∙ all in
      ((plain, subst (IsPlanFor shares q) e w.plan, same ∙ ap (numbers_for shares q) e), ap first_above same ∙ none, fine)

  -- what is told of the numbers of the drafts is told of the query
  pub layout_told : length draft.parts.items ≤ 4096 → (r : Result Plan LayoutError) → IsNumbered draft r → IsLayout shares q r
  layout_told l (Ok plan.Filter) h = absurd h
  layout_told l (Ok (plan.Parts ps numbers)) h = subst (λ (z : List PartPlan). IsLayout shares q (Ok (plan.Parts z numbers))) (sym h.0) (plan_told numbers h.1)
  layout_told l (Err (why.Violation part condition attr)) h = absurd h
  layout_told l (Err (why.Limit which value)) h = limit_told which value l h
  layout_told l (Err why.Memory) h = absurd h

-- ---- the list of parts

pub part_at : (q : QueryValue) (ps : List Part) (i : ℕ) (d : Part) → AreParts q (sign_lists ps) → i < length ps → IsPart q (slice_index_or ps i d).signs.items
part_at q ps i d h l =
    subst (IsPart q) (get_or-map (λ (p : Part). p.signs.items) ps i d [] l)
    (All-get_or (IsPart q) (sign_lists ps) i [] (omega (arith, l, length-map ps (λ (p : Part). p.signs.items))) h.each)

pub signs_next : (ps : List Part) (old new : List PartPlan) (i : ℕ) (d : Part) → i < length ps → signs_of old ≡ take i (sign_lists ps) → signs_of new ≡ signs_of old ++ (slice_index_or ps i d).signs.items ∷ [] → signs_of new ≡ take (i + 1) (sign_lists ps)
signs_next ps old new i d l e f =
    let m : i < length (sign_lists ps) = omega (arith, l, length-map ps (λ (p : Part). p.signs.items)) in
    let g : get_or (sign_lists ps) i [] ≡ (slice_index_or ps i d).signs.items = get_or-map (λ (p : Part). p.signs.items) ps i d [] l in
    f ∙ ap (λ z. z ++ (slice_index_or ps i d).signs.items ∷ []) e ∙ ap (λ z. take i (sign_lists ps) ++ z ∷ []) (sym g) ∙ sym (take_more (sign_lists ps) i [] m)

-- after the last part the sign vectors are all there
pub all_signs : (ps : List Part) (plans : List PartPlan) (i : ℕ) → length ps ≤ i → signs_of plans ≡ take i (sign_lists ps) → signs_of plans ≡ sign_lists ps
all_signs ps plans i l e = e ∙ take_all i (sign_lists ps) (omega (arith, l, length-map ps (λ (p : Part). p.signs.items)))

-- there are as many drafts as parts
pub few_drafts : (ps : List Part) (plans : List PartPlan) → length ps ≤ 4096 → signs_of plans ≡ sign_lists ps → length plans ≤ 4096
few_drafts ps plans l e = omega (arith, l, length-map ps (λ (p : Part). p.signs.items), length-map plans (λ (p : PartPlan). p.signs.items), ap length e)

-- why there are no drafts is why there is no plan
pub not_drafted : (shares : Bool) (q : QueryValue) (parts : List (List Sign)) (e : LayoutError) → IsFalse (is_filter q) → IsDrafted q parts (Err e) → IsLayout shares q (Err e)
not_drafted shares q parts (why.Violation part condition attr) f h = (f, h)
not_drafted shares q parts (why.Limit which value) f h = absurd h
not_drafted shares q parts why.Memory f h = f
