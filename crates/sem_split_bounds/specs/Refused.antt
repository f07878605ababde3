-- Which parts of the split form tell that many states are needed, whatever the integers are.
use Rattle.std.specs.Prelude.{◌≡◌, ◌≢◌, ◌⊎◌, IsFalse, List}
use Rattle.std.specs.declared.option.Option.TheVariants.{Some}
use Rattle.sem_query.specs.declared.atom.Atom.{Atom}
use Rattle.sem_query.specs.declared.atom.Attr.{Attr}
use Rattle.sem_query.specs.declared.condition.Condition.{Condition}
use Rattle.sem_query.specs.declared.condition.Condition.TheVariants.{C1, C3}
use Rattle.sem_query.specs.declared.part.Sign.{Sign}
use Rattle.sem_query.specs.Query.{QueryValue, is_filter, IsWithinLimits}
use Rattle.sem_query.specs.Violation.{Failure}
use Rattle.plan_split_pairs.specs.SplitParts.{IsSplitPart}
use Rattle.sem_whole.specs.Links.{AreLinks}
use Rattle.sem_whole.specs.Whole.{WholeBreaks}
use Rattle.sem_forms.specs.Split.{part_query}
use Rattle.sem_forms.specs.SplitBreaks.{IsSplitViolation}
use Rattle.sem_lower_bounds.specs.Within.{NeedsStatesWithin}
use Rattle.sem_split_bounds.specs.Split.{HasToldUnlikes}

-- where a part fails first and by C1, the query needs many states on rows within its domains
abbrev pub FirstConditionTells : Type 0
FirstConditionTells =
    (q : QueryValue) → IsWithinLimits q → IsFalse (is_filter q)
    → (f : Failure) → IsSplitViolation q (Some f) → f.condition ≡ C1 → NeedsStatesWithin q

-- where some part breaks C1 or C2, and each `<>` between streams has a side with both ends by the text, or without DISTINCT any condition
abbrev pub BrokenPartsTell : Type 0
BrokenPartsTell =
    (q : QueryValue) → IsWithinLimits q → IsFalse (is_filter q) → HasToldUnlikes q
    → (ss : List Sign) → IsSplitPart q ss → (links : List Atom) → AreLinks (part_query q ss) links
    → (c : Condition) (a : Attr) → WholeBreaks (part_query q ss) links c a → (c ≢ C3) ⊎ IsFalse q.distinct → NeedsStatesWithin q

-- without DISTINCT each part that breaks a condition tells, whatever stands between streams
abbrev pub CountedPartsTell : Type 0
CountedPartsTell =
    (q : QueryValue) → IsWithinLimits q → IsFalse (is_filter q) → IsFalse q.distinct
    → (ss : List Sign) → IsSplitPart q ss → (links : List Atom) → AreLinks (part_query q ss) links
    → (c : Condition) (a : Attr) → WholeBreaks (part_query q ss) links c a → NeedsStatesWithin q
