-- When rows of a compact query are cheaper by its parts than as its whole form.
use Rattle.std.proofs.Common.{◌≡◌, ◌≢◌, ◌↔◌, ◌∷◌, [], Bool, false, List, Option, Some, None, Result, Ok, Err, inl, inr, refl, sym, ap, ◌∙◌, subst}
use Rattle.std.specs.Prelude.{IsTrue, IsFalse}
use Rattle.sem_query.specs.declared.plan.Numbers.{Numbers}
use Rattle.sem_query.specs.declared.plan.PartPlan.{PartPlan}
use Rattle.sem_query.specs.declared.decision.Which.{Which}
use Rattle.sem_query.specs.declared.plan.Plan.{Plan}
use Rattle.sem_query.specs.declared.plan.Plan.TheVariants as plans
use Rattle.sem_query.specs.Query.{QueryValue, IsWithinLimits, is_filter}
use Rattle.sem_query.specs.Numbers.{numbers_of}
use Rattle.sem_query.specs.Verdict.{number_of, first_above}
use Rattle.plan_layout.specs.declared.draft.PlanDraft.{PlanDraft}
use Rattle.plan_layout.specs.Layout.{numbers_in}
use Rattle.sem_laws.proofs.Tests.{not_both}
use Rattle.sem_forms.specs.Fitting.{has_unlike_link, AreCheaper, HasCheaperParts}
use Rattle.sem_forms.specs.Parts.{IsPartsFor, form_numbers, IsOverLimit}
use Rattle.sem_forms.specs.Parts as by_parts
use Rattle.sem_forms.specs.Split.{IsSplitFor}
use Rattle.sem_forms.specs.Forms.{HasWholeForm, IsWholeFormOr}
use Rattle.sem_forms.proofs.Forms.{whole_is}
use Rattle.sem_forms.proofs.One.{one_whole_part}
use Rattle.sem_forms.proofs.PartBreaks.{split_plans_meet}
use Rattle.sem_forms.proofs.PartsVerdicts.{one_form_violation}
use Rattle.sem_forms.proofs.SplitOne.{one_split_plan}
use Rattle.plan_forms.specs.declared.error.PartsRefusal.{PartsRefusal}
use Rattle.plan_forms.specs.declared.error.PartsRefusal.TheVariants as why
use Rattle.plan_forms.specs.declared.fitting.WholePlan.{WholePlan}
use Rattle.plan_forms.specs.Fitting.{IsFitted, AreCheaperWithin}
use Rattle.plan_forms.specs.Planned.{IsPartsPlan, IsPlannedByParts, IsSplitForm, IsFormAnswer}
use Rattle.plan_forms.proofs.Told.{split_told}

module _ (q : QueryValue) (part : PartPlan) (compact : IsTrue q.compact) (plain : IsFalse (is_filter q)) where
  -- the plan by parts of a compact query is that of its split form
  split_of : (list : List PartPlan) → IsPartsFor false q list → IsSplitFor false q list
  split_of list (by_parts.plain c is) = absurd (not_both q.compact compact c)
  split_of list (by_parts.split c is) = is

  -- where there is a plan, its numbers are compared
  pub by_plan : (list : List PartPlan) (numbers own : Numbers) → IsPlannedByParts false q list numbers → IsTrue (has_unlike_link part) → own ≡ numbers_of q (part ∷ [])
      → AreCheaper numbers own ↔ HasCheaperParts q part
  by_plan list numbers own is linked e = (into, from)
    where
      into : AreCheaper numbers own → HasCheaperParts q part
      into l = record {
        linked = linked;
        few = is.meets.few;
        plan = list;
        is = split_of list is.plan;
        within = ap first_above (sym is.are) ∙ is.within;
        cheaper = subst (λ (n : Numbers). AreCheaper n (numbers_of q (part ∷ []))) is.are (subst (AreCheaper numbers) e l);
      }

      from : HasCheaperParts q part → AreCheaper numbers own
      from h =
          let same : h.plan ≡ list = one_split_plan false q h.plan list h.is (split_of list is.plan) in
          let a : form_numbers false q h.plan ≡ numbers = ap (form_numbers false q) same ∙ sym is.are in
          subst (AreCheaper numbers) (sym e) (subst (λ (n : Numbers). AreCheaper n (numbers_of q (part ∷ []))) a h.cheaper)

  -- where there is none, but for want of memory, they are not
  pub none_by : IsWithinLimits q → (w : PartsRefusal) → w ≢ why.Memory → IsPartsPlan false q (Err w) → ¬ HasCheaperParts q part
  none_by within why.TooManyParts n is h = h.few is
  none_by within (why.Violation number condition attr) n is h = absurd (some_none (one_form_violation q _ _ is.1 (by_parts.split plain compact (split_plans_meet q h.plan within h.is.0))))
    where
      some_none : {X : Type 0} {x : X} → Some x ≡ None → ⊥
      some_none e = cc
  none_by within (why.Limit which value) n is h = above (sym (over.first) ∙ ap (λ (l : List PartPlan). first_above (form_numbers false q l)) same ∙ h.within)
    where
      over : IsOverLimit false q which value
      over = is.1

      same : over.parts ≡ h.plan
      same = one_split_plan false q over.parts h.plan (split_of over.parts over.plan) h.is

      above : {X : Type 0} {x : X} → Some x ≡ None → ⊥
      above e = cc
  none_by within why.Memory n is h = absurd (n (λ i. why.Memory))

  -- so what the parts come to is compared
  pub by_drafts : IsWithinLimits q → (parts : PlanDraft) (own : Numbers) → IsSplitForm q (Ok parts) → IsTrue (has_unlike_link part) → own ≡ numbers_of q (part ∷ [])
      → AreCheaperWithin (numbers_in parts) own ↔ HasCheaperParts q part
  by_drafts within parts own form linked e = (into, λ h. from h (first_above (numbers_in parts)) refl)
    where
      planned : first_above (numbers_in parts) ≡ None → IsPlannedByParts false q parts.parts.items (numbers_in parts)
      planned w = split_told q parts compact plain form.0 form.1 (Ok (plans.Parts parts.parts.items (numbers_in parts))) (refl, (refl, w))

      into : AreCheaperWithin (numbers_in parts) own → HasCheaperParts q part
      into c = (by_plan parts.parts.items (numbers_in parts) own (planned c.0) linked e).0 c.1

      from : HasCheaperParts q part → (o : Option Which) → first_above (numbers_in parts) ≡ o → AreCheaperWithin (numbers_in parts) own
      from h None w = (w, (by_plan parts.parts.items (numbers_in parts) own (planned w) linked e).1 h)
      from h (Some which) w =
          absurd (none_by within (why.Limit which (number_of (numbers_in parts) which)) (λ f. cc)
          (split_told q parts compact plain form.0 form.1 (Err (why.Limit which (number_of (numbers_in parts) which))) (w, refl)) h)

-- a query whose whole form is within the limits has it exactly where rows are not cheaper by the parts
module _ (q : QueryValue) (p : WholePlan) (fitted : IsFitted q (Some p)) where
  pub none_whole : HasCheaperParts q p.part → ¬ HasWholeForm q
  none_whole less h =
      let fits = h.2 in
      fits.dear (subst (HasCheaperParts q) (one_whole_part q p.part h.1 fitted.0.plan fits.plan fitted.1 fits.follow) less)

  pub is_whole : IsTrue q.compact → IsFalse (is_filter q) → ¬ HasCheaperParts q p.part → IsWholeFormOr q (Some (plans.Parts (p.part ∷ []) p.numbers))
  is_whole compact plain none = whole_is q p.part p.numbers compact plain record { plan = fitted.0.plan; follow = fitted.1; few = fitted.0.few; dear = none } fitted.1 fitted.2

-- what is answered of the parts of a query whose whole form does not fit is its answer
pub parts_answer : (shared : Bool) (q : QueryValue) → ¬ HasWholeForm q → (r : Result Plan PartsRefusal) → IsPartsPlan shared q r → IsFormAnswer shared q r
parts_answer shared q none (Ok p) h = inr (none, h)
parts_answer shared q none (Err why.TooManyParts) h = (none, h)
parts_answer shared q none (Err (why.Violation part condition attr)) h = (none, h)
parts_answer shared q none (Err (why.Limit which value)) h = (none, h)
parts_answer shared q none (Err why.Memory) h = tt

-- one that is not compact has no whole form
pub plain_answer : (shared : Bool) (q : QueryValue) → IsFalse q.compact → (r : Result Plan PartsRefusal) → IsPartsPlan shared q r → IsFormAnswer shared q r
plain_answer shared q f r h = parts_answer shared q (λ w. not_both q.compact w.0 f) r h
