-- The verdict on a compact query is exact.
use Rattle.std.proofs.Common.{◌≡◌, ◌≢◌, ℕ, Bool, true, false, nat_lt, cond, [], ◌∷◌, Option, None, Some, refl, sym, ◌∙◌}
use Rattle.sem_query.specs.declared.decision.Which.{Which}
use Rattle.sem_query.specs.declared.decision.Which.TheVariants as which
use Rattle.sem_query.specs.declared.plan.Numbers.{Numbers}
use Rattle.sem_query.specs.Numbers.{page_count, numbers_of}
use Rattle.sem_query.specs.Query.{QueryValue, IsWithinLimits}
use Rattle.sem_query.specs.Verdict.{Verdict, first_above, verdict_after, verdict_by}
use Rattle.sem_query.specs.Verdict as verdicts
use Rattle.sem_query.specs.Violation.{Failure}
use Rattle.sem_laws.specs.Sufficiency.{nothing, anywhere}
use Rattle.sem_whole.proofs.Formed.{well_formed}
use Rattle.sem_forms.specs.Forms.{IsFormVerdict}
use Rattle.sem_forms.specs.Forms as forms
use Rattle.sem_forms.specs.Parts.{IsFormViolation, IsPartsVerdict}
use Rattle.sem_forms.specs.Parts as by_parts
use Rattle.sem_forms.proofs.WholeServes.{whole_parts_serve}
use Rattle.sem_lower_bounds.specs.Within.{NeedsStatesWithin}
use Rattle.sem_split_bounds.specs.Split.{HasToldUnlikes}
use Rattle.sem_split_bounds.specs.Verdicts.{CompactVerdictsAreExact}
use Rattle.sem_split_bounds.proofs.Exact.{refused-forms-need-states}
use Rattle.sem_split_bounds.proofs.Unbroken.{serving_refutes, unbroken-parts-need-few-states}

-- numbers give no violation
no_violation : (numbers : Numbers) (free : ℕ) (f : Failure) → verdicts.violation f ≡ verdict_by numbers free → ⊥
no_violation numbers free f e = by (first_above numbers) e
  where
    pages : (b : Bool) → verdicts.violation f ≡ cond b verdicts.pool (verdicts.accepted numbers) → ⊥
    pages true e = cc
    pages false e = cc

    by : (w : Option Which) → verdicts.violation f ≡ verdict_after w numbers free → ⊥
    by (Some w) e = cc
    by None e = pages (nat_lt free (page_count numbers.cells)) e

module _ (q : QueryValue) (within : IsWithinLimits q) (compact : q.compact ≡ true) where
  -- of a compact query whose parts violate nothing
  meets_few : IsFormViolation q None → ¬ NeedsStatesWithin q
  meets_few (by_parts.filter i e) = serving_refutes q [] within (nothing i refl) tt
  meets_few (by_parts.plain joins c v) = let k : true ≡ false = sym compact ∙ c in absurd cc
  meets_few (by_parts.split joins c v) = unbroken-parts-need-few-states q within v

  module _ (shared : Bool) (free : ℕ) (verdict : Verdict) (few_parts : verdict ≢ verdicts.limit which.Parts) where
    needs_parts : IsPartsVerdict shared q free verdict → NeedsStatesWithin q → (f : Failure) × (verdict ≡ verdicts.violation f)
    needs_parts (by_parts.of_filter i e) needs = absurd (serving_refutes q [] within (nothing i refl) tt needs)
    needs_parts (by_parts.of_many_parts joins m e) needs = absurd (few_parts e)
    needs_parts (by_parts.of_violation joins m f v e) needs = (f, e)
    needs_parts (by_parts.of_plan joins m v parts p e) needs = absurd (meets_few v needs)

    needs_violates : IsFormVerdict shared q free verdict → NeedsStatesWithin q → (f : Failure) × (verdict ≡ verdicts.violation f)
    needs_violates (forms.whole joins c part fits follow e) needs =
        absurd (serving_refutes q (part ∷ []) within (anywhere joins (whole_parts_serve q (well_formed q within) part fits.plan)) follow needs)
    needs_violates (forms.parts o is) needs = needs_parts is needs

  module _ (told : HasToldUnlikes q) (shared : Bool) (free : ℕ) (verdict : Verdict) (f : Failure) (is : verdict ≡ verdicts.violation f) where
    violates_parts : IsPartsVerdict shared q free verdict → NeedsStatesWithin q
    violates_parts (by_parts.of_filter i e) = let k : verdicts.violation f ≡ verdicts.filter = sym is ∙ e in absurd cc
    violates_parts (by_parts.of_many_parts joins m e) = let k : verdicts.violation f ≡ verdicts.limit which.Parts = sym is ∙ e in absurd cc
    violates_parts (by_parts.of_violation joins m g v e) = refused-forms-need-states q within compact told g v
    violates_parts (by_parts.of_plan joins m v parts p e) = absurd (no_violation (by_parts.form_numbers shared q parts) free f (sym is ∙ e))

    violates_needs : IsFormVerdict shared q free verdict → NeedsStatesWithin q
    violates_needs (forms.whole joins c part fits follow e) = absurd (no_violation (numbers_of q (part ∷ [])) free f (sym is ∙ e))
    violates_needs (forms.parts o p) = violates_parts p

pub compact-verdicts-are-exact : CompactVerdictsAreExact
compact-verdicts-are-exact q within compact told shared free verdict is few_parts = (
  needs_violates q within compact shared free verdict few_parts is,
  λ o. violates_needs q within compact told shared free verdict o.0 o.1 is,
)
