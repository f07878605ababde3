-- What is answered of the parts of a query: their plan, or why there is none.
use Rattle.std.proofs.Common.{◌≡◌, ℕ, ◌-◌, ◌^◌, ◌<◌, ◌≤◌, min, Bool, true, false, IsTrue, IsFalse, List, length, Result, Ok, Err, None, refl, sym, ap, ◌∙◌, subst, arith}
use Rattle.std.proofs.lemmas.List.{length-map}
use Rattle.sem_query.specs.declared.decision.Which.{Which}
use Rattle.sem_query.specs.declared.decision.Which.TheVariants.{Parts, Cells, Answers, Work}
use Rattle.sem_query.specs.declared.part.Part.{Part}
use Rattle.sem_query.specs.declared.plan.Numbers.{Numbers}
use Rattle.sem_query.specs.declared.plan.PartPlan.{PartPlan}
use Rattle.sem_query.specs.declared.plan.Plan.{Plan}
use Rattle.sem_query.specs.declared.plan.Plan.TheVariants as plan
use Rattle.sem_query.specs.Query.{QueryValue, is_filter}
use Rattle.sem_query.specs.Parts.{AreParts, sign_lists}
use Rattle.sem_query.specs.Verdict.{number_of, first_above}
use Rattle.sem_query.specs.Violation.{IsViolation}
use Rattle.sem_laws.proofs.CountedParts.{parts_are_counted}
use Rattle.plan_split_pairs.specs.Pairs.{split_pairs}
use Rattle.plan_split_parts.specs.declared.front.Front.{Front}
use Rattle.plan_split_parts.specs.Fronts.{fronts_of}
use Rattle.plan_split_pairs.specs.SplitParts.{AreSplitParts}
use Rattle.plan_layout.specs.declared.draft.PlanDraft.{PlanDraft}
use Rattle.plan_layout.specs.declared.error.LayoutError.{LayoutError}
use Rattle.plan_layout.specs.declared.error.LayoutError.TheVariants as layout
use Rattle.plan_layout.specs.Boxed.{boxed}
use Rattle.plan_layout.specs.Capped.{capped}
use Rattle.plan_layout.specs.Layout.{IsLayout, IsLimited, numbers_in, IsNumbered}
use Rattle.plan_layout.specs.Shared.{shared, IsSharedDraft}
use Rattle.plan_layout.specs.Unset.{AreUnset, IsPartFault}
use Rattle.sem_forms.specs.Parts.{HasTooManyParts, IsFormViolation, IsPartsFor, form_numbers}
use Rattle.sem_forms.specs.Parts as parts
use Rattle.sem_forms.proofs.SplitOne.{split_parts_are_counted}
use Rattle.sem_forms.proofs.PartsVerdicts.{parts_are_few}
use Rattle.plan_forms.specs.Made.{capped_all}
use Rattle.plan_forms.proofs.Capped.{first_capped, few_capped, few_cells}
use Rattle.plan_forms.specs.declared.error.PartsRefusal.{PartsRefusal}
use Rattle.plan_forms.specs.declared.error.PartsRefusal.TheVariants as why
use Rattle.plan_forms.specs.Drafts.{AreDrafted, IsSplitDrafted}
use Rattle.plan_forms.specs.Planned.{MeetsByParts, IsPlannedByParts, IsRefusedByParts, IsPartsPlan, AreDraftedByParts, refusal_of, IsSplitForm, IsNumberedSplit}
use Rattle.plan_forms.specs.Planned as planned
use Rattle.sem_forms.proofs.Counted.{plain_numbers}
use Rattle.plan_forms.proofs.Rebased.{plain_plan, shared_plan, split_numbers, shared_numbers}

both : {b : Bool} → IsTrue b → IsFalse b → ⊥
both {b} t f = cc

-- ---- there are not too many parts

pub few_plain : (q : QueryValue) (ps : List Part) → IsFalse q.compact → AreParts q (sign_lists ps) → length ps ≤ 4096 → HasTooManyParts q → ⊥
few_plain q ps f are few (parts.plain g more) =
    let same : length (sign_lists ps) ≡ length ps = length-map ps (λ (p : Part). p.signs.items) in
    omega (arith, few, same, (parts_are_counted q (sign_lists ps) 4096 are).0 more)
few_plain q ps f are few (parts.pairs c more) = both c f
few_plain q ps f are few (parts.split c more) = both c f

pub few_split : (q : QueryValue) (fronts : List Front) → IsTrue q.compact → length (split_pairs q) ≤ 114 → AreSplitParts q (fronts_of fronts) → length fronts ≤ 4096 → HasTooManyParts q → ⊥
few_split q fronts c room are few (parts.plain f more) = both c f
few_split q fronts c room are few (parts.pairs d more) = omega (arith, room, more)
few_split q fronts c room are few (parts.split d more) =
    let same : length (fronts_of fronts) ≡ length fronts = length-map fronts (λ (f : Front). f.signs.items) in
    omega (arith, few, same, (split_parts_are_counted q (fronts_of fronts) 4096 are).0 more)

-- ---- the parts of a query that is not compact

module _ (q : QueryValue) (f : IsFalse q.compact) (n : IsFalse (is_filter q)) (few : HasTooManyParts q → ⊥) where
  pub plain_told : (shares : Bool) (p : Plan) → IsLayout shares q (Ok p) → IsPartsPlan shares q (Ok p)
  plain_told shares plan.Filter h = both h.0 n
  plain_told shares (plan.Parts list numbers) h = record {
    plan = parts.plain f h.0.1;
    are = h.0.2 ∙ sym (plain_numbers shares q list f);
    within = h.1;
    count = parts_are_few shares q list few (parts.plain f h.0.1);
    meets = record { few = few; none = parts.plain n f h.2 };
  }

  pub plain_refused : (shares : Bool) (e : LayoutError) → IsLayout shares q (Err e) → IsPartsPlan shares q (Err (refusal_of e))
  plain_refused shares (layout.Violation part condition attr) h = (few, parts.plain n f h.1)
  plain_refused shares (layout.Limit which value) h = (
    record { few = few; none = parts.plain n f h.1 },
    record {
      plain = h.0.plain;
      parts = h.0.parts;
      plan = parts.plain f h.0.plan;
      first = ap first_above (plain_numbers shares q h.0.parts f) ∙ h.0.first;
      kept = h.0.kept ∙ ap (λ (z : Numbers). capped (number_of z which)) (sym (plain_numbers shares q h.0.parts f));
    },
  )
  plain_refused shares layout.Memory h = tt

  pub plain_fault : (e : LayoutError) → IsPartFault q e → IsRefusedByParts q (refusal_of e)
  plain_fault (layout.Violation part condition attr) h = (few, parts.plain n f h)
  plain_fault (layout.Limit which value) h = absurd h
  plain_fault layout.Memory h = tt

  pub plain_drafted : (plans : List PartPlan) → AreUnset q plans → length plans ≤ 4096 → IsViolation q None → AreDraftedByParts q plans
  plain_drafted plans are count none = record { drafts = planned.plain f are; count = count; meets = record { few = few; none = parts.plain n f none } }

-- ---- the parts of the split form

pub split_fault : (q : QueryValue) (e : LayoutError) → IsTrue q.compact → IsFalse (is_filter q) → (HasTooManyParts q → ⊥) → IsSplitDrafted q (Err e) → IsRefusedByParts q (refusal_of e)
split_fault q (layout.Violation part condition attr) c n few h = (few, parts.split n c h)
split_fault q (layout.Limit which value) c n few h = absurd h
split_fault q layout.Memory c n few h = tt

pub numbered_fault : (draft : PlanDraft) (e : LayoutError) → IsNumbered draft (Err e) → IsNumberedSplit draft (Err (refusal_of e))
numbered_fault draft (layout.Violation part condition attr) h = absurd h
numbered_fault draft (layout.Limit which value) h = h
numbered_fault draft layout.Memory h = absurd h

pub numbered_plan : (draft : PlanDraft) (p : Plan) → IsNumbered draft (Ok p) → IsNumberedSplit draft (Ok p)
numbered_plan draft plan.Filter h = h
numbered_plan draft (plan.Parts list numbers) h = h

-- no error is a limit where the parts are refused, and all else is told of the plan too
pub refused_told : (shares : Bool) (q : QueryValue) (e : PartsRefusal) → IsRefusedByParts q e → IsPartsPlan shares q (Err e)
refused_told shares q why.TooManyParts h = h
refused_told shares q (why.Violation part condition attr) h = h
refused_told shares q (why.Limit which value) h = absurd h
refused_told shares q why.Memory h = tt

-- the plan of the query by its parts has these numbers as 64 bits keep them; where the cells are few, it is that of the drafts
record IsWhole (shares : Bool) (q : QueryValue) (draft : PlanDraft) (whole : List PartPlan) : Type 0 where
  plan : IsPartsFor shares q whole
  numbers : numbers_in draft ≡ capped_all (form_numbers shares q whole)
  same : draft.cells < 2 ^ 32 → whole ≡ draft.parts.items

number_capped : (n : Numbers) (which : Which) → n.parts ≤ 4096 → number_of (capped_all n) which ≡ capped (number_of n which)
number_capped n Parts l = by (2 ^ 64 - 1) n.parts (omega (arith, l))
  where
    by : (u n : ℕ) → n ≤ u → n ≡ min n u
    by u n l = omega arith
number_capped n Cells l = refl
number_capped n Answers l = refl
number_capped n Work l = refl

module _ (shares : Bool) (q : QueryValue) (draft : PlanDraft) (whole : List PartPlan) (w : IsWhole shares q draft whole) (n : IsFalse (is_filter q)) (meets : MeetsByParts q) where
  first_same : first_above (numbers_in draft) ≡ first_above (form_numbers shares q whole)
  first_same = ap first_above w.numbers ∙ first_capped (form_numbers shares q whole)

  limit_told : (which : Which) (value : ℕ) → length draft.parts.items ≤ 4096 → IsLimited (numbers_in draft) (Err (layout.Limit which value)) → IsPartsPlan shares q (Err (why.Limit which value))
  limit_told which value l h = (
    meets,
    record {
      plain = n;
      parts = whole;
      plan = w.plan;
      first = sym first_same ∙ h.0;
      kept = h.1 ∙ ap (λ (z : Numbers). number_of z which) w.numbers
          ∙ number_capped (form_numbers shares q whole) which (omega (arith, l, ap (λ (z : Numbers). z.parts) w.numbers));
    },
  )

  plan_told : (numbers : Numbers) → length draft.parts.items ≤ 4096 → IsLimited (numbers_in draft) (Ok numbers) → IsPartsPlan shares q (Ok (plan.Parts draft.parts.items numbers))
  plan_told numbers l h =
      let none : first_above (form_numbers shares q whole) ≡ None = sym first_same ∙ h.1 in
      let kept : numbers_in draft ≡ form_numbers shares q whole = w.numbers ∙ few_capped (form_numbers shares q whole) none in
      let cells : draft.cells ≡ (form_numbers shares q whole).cells = ap (λ (z : Numbers). z.cells) kept in
      let e : whole ≡ draft.parts.items = w.same (omega (arith, cells, few_cells (form_numbers shares q whole).cells draft.cells (ap (λ (z : Numbers). z.cells) w.numbers) (numbers_in draft) refl h.1)) in
      let same : numbers ≡ form_numbers shares q whole = h.0 ∙ kept in
      record {
        plan = subst (IsPartsFor shares q) e w.plan;
        are = same ∙ ap (form_numbers shares q) e;
        within = ap first_above same ∙ none;
        count = l;
        meets = meets;
      }

  numbers_told : length draft.parts.items ≤ 4096 → (r : Result Plan PartsRefusal) → IsNumberedSplit draft r → IsPartsPlan shares q r
  numbers_told l (Ok plan.Filter) h = absurd h
  numbers_told l (Ok (plan.Parts list numbers)) h = subst (λ (z : List PartPlan). IsPartsPlan shares q (Ok (plan.Parts z numbers))) (sym h.0) (plan_told numbers l h.1)
  numbers_told l (Err why.TooManyParts) h = absurd h
  numbers_told l (Err (why.Violation part condition attr)) h = absurd h
  numbers_told l (Err (why.Limit which value)) h = limit_told which value l h
  numbers_told l (Err why.Memory) h = absurd h

module _ (q : QueryValue) (draft : PlanDraft) (c : IsTrue q.compact) (n : IsFalse (is_filter q)) (d : AreDrafted q draft) (few : HasTooManyParts q → ⊥) where
  split_meets : MeetsByParts q
  split_meets = record { few = few; none = parts.split n c d.meets }

  -- what is told of the numbers of the drafts is told of the query
  pub split_told : (r : Result Plan PartsRefusal) → IsNumberedSplit draft r → IsPartsPlan false q r
  split_told r h = numbers_told false q draft (boxed q 0 draft.parts.items) record {
    plan = parts.split c (plain_plan q draft.parts.items d.drafts);
    numbers = split_numbers q c draft d.numbers;
    same = d.numbers.boxes;
  } n split_meets d.few r h

  -- and of those with shared cells
  pub shared_told : (new : PlanDraft) → IsSharedDraft q draft new → (r : Result Plan PartsRefusal) → IsNumberedSplit new r → IsPartsPlan true q r
  shared_told new s r h = numbers_told true q new (shared q (boxed q 0 draft.parts.items)) record {
    plan = parts.split c (shared_plan q draft.parts.items d.drafts);
    numbers = shared_numbers q c draft d.numbers new s;
    same = s.parts.boxes;
  } n split_meets (omega (arith, d.few, s.parts.size)) r h

  pub split_drafted : (plans : List PartPlan) → plans ≡ draft.parts.items → AreDraftedByParts q plans
  split_drafted plans e = subst (AreDraftedByParts q) (sym e) record { drafts = planned.split c d.drafts; count = d.few; meets = split_meets }
