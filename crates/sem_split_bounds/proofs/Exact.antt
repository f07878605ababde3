-- The split form breaks a condition exactly where the query needs many states.
use Rattle.std.specs.Prelude.{IsFalse}
use Rattle.std.proofs.Common.{◌≡◌, true, false, Some, sym, ◌∙◌}
use Rattle.sem_query.specs.Query.{QueryValue, IsWithinLimits, is_filter}
use Rattle.sem_query.specs.Violation.{Failure}
use Rattle.sem_forms.specs.Parts as by_parts
use Rattle.sem_forms.specs.SplitBreaks.{IsSplitViolation}
use Rattle.sem_lower_bounds.specs.Within.{NeedsStatesWithin}
use Rattle.sem_split_bounds.specs.Split.{HasToldUnlikes, RefusedFormsNeedStates, SplitConditionsAreExact}
use Rattle.sem_split_bounds.proofs.Deciding.{violation_needs, violations_decide}
use Rattle.sem_split_bounds.proofs.PartsNeed.{broken-parts-need-states}

failures_need : (q : QueryValue) → IsWithinLimits q → IsFalse (is_filter q) → HasToldUnlikes q → (f : Failure) → IsSplitViolation q (Some f) → NeedsStatesWithin q
failures_need q within joins told f v =
    violation_needs q f (λ ss is links are. broken-parts-need-states q within joins told ss is links are f.condition f.attr) v within

pub refused-forms-need-states : RefusedFormsNeedStates
refused-forms-need-states q within compact told f (by_parts.filter i e) = absurd cc
refused-forms-need-states q within compact told f (by_parts.plain joins c v) = let k : true ≡ false = sym compact ∙ c in absurd cc
refused-forms-need-states q within compact told f (by_parts.split joins c v) = failures_need q within joins told f v

pub split-conditions-are-exact : SplitConditionsAreExact
split-conditions-are-exact q within joins told = violations_decide q within (failures_need q within joins told)
