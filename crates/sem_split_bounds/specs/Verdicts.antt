-- The verdict on a compact query is exact.
use Rattle.std.specs.Prelude.{◌≡◌, ◌≢◌, ◌↔◌, ℕ, Bool, IsTrue}
use Rattle.sem_query.specs.declared.decision.Which.TheVariants as which
use Rattle.sem_query.specs.Query.{QueryValue, IsWithinLimits}
use Rattle.sem_query.specs.Verdict.{Verdict}
use Rattle.sem_query.specs.Verdict as verdicts
use Rattle.sem_query.specs.Violation.{Failure}
use Rattle.sem_forms.specs.Forms.{IsFormVerdict}
use Rattle.sem_lower_bounds.specs.Within.{NeedsStatesWithin}
use Rattle.sem_split_bounds.specs.Split.{HasToldUnlikes}

-- unless it has too many parts, a compact query needs many states on rows within its domains exactly where its verdict is that it violates a condition
abbrev pub CompactVerdictsAreExact : Type 0
CompactVerdictsAreExact =
    (q : QueryValue) → IsWithinLimits q → IsTrue q.compact → HasToldUnlikes q
    → (shared : Bool) (free : ℕ) (verdict : Verdict) → IsFormVerdict shared q free verdict → verdict ≢ verdicts.limit which.Parts
    → NeedsStatesWithin q ↔ ((f : Failure) × (verdict ≡ verdicts.violation f))
