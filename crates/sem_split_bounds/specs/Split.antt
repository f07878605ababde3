-- Refused means many states, of the split form of any query: with domains and soft comparisons or without, with DISTINCT or without.
use Rattle.std.specs.Prelude.{◌≡◌, ◌≢◌, ◌↔◌, ◌⊎◌, IsTrue, IsFalse, List}
use Rattle.std.specs.declared.option.Option.{Option}
use Rattle.std.specs.declared.option.Option.TheVariants.{None, Some}
use Rattle.sem_query.specs.declared.atom.Atom.{Atom}
use Rattle.sem_query.specs.declared.atom.Attr.{Attr}
use Rattle.sem_query.specs.declared.atom.Element.TheVariants as element
use Rattle.sem_query.specs.declared.atom.Op.{Op}
use Rattle.sem_query.specs.declared.condition.Condition.{Condition}
use Rattle.sem_query.specs.declared.part.Sign.{Sign}
use Rattle.sem_query.specs.Members.{Has}
use Rattle.sem_query.specs.Query.{QueryValue, is_filter, IsWithinLimits}
use Rattle.sem_query.specs.Violation.{Failure}
use Rattle.plan_split_pairs.specs.Ends.{has_both_ends}
use Rattle.plan_split_pairs.specs.SplitParts.{IsSplitPart}
use Rattle.sem_whole.specs.Links.{AreLinks}
use Rattle.sem_whole.specs.Whole.{WholeBreaks}
use Rattle.sem_forms.specs.Split.{part_query}
use Rattle.sem_forms.specs.SplitBreaks.{IsSplitViolation}
use Rattle.sem_forms.specs.Parts.{IsFormViolation}
use Rattle.sem_lower_bounds.specs.Within.{NeedsStatesWithin}

-- of each `<>` between columns of two streams one side has both ends by the text
abbrev pub HasClosedUnlikes : QueryValue → Type 0
HasClosedUnlikes q =
    (t : Atom) → Has q.atoms t → t.op ≡ Op.Ne → (a b : Attr) → t.left ≡ element.Attr a → t.right ≡ element.Attr b → a.stream ≢ b.stream
    → IsTrue (has_both_ends q a) ⊎ IsTrue (has_both_ends q b)

-- with DISTINCT that is asked, without it nothing: each combination is counted
abbrev pub HasToldUnlikes : QueryValue → Type 0
HasToldUnlikes q = HasClosedUnlikes q ⊎ IsFalse q.distinct

-- a query of which some split part breaks a condition needs many states on rows within its domains
abbrev pub BrokenPartsNeedStates : Type 0
BrokenPartsNeedStates =
    (q : QueryValue) → IsWithinLimits q → IsFalse (is_filter q) → HasToldUnlikes q
    → (ss : List Sign) → IsSplitPart q ss → (links : List Atom) → AreLinks (part_query q ss) links
    → (c : Condition) (a : Attr) → WholeBreaks (part_query q ss) links c a → NeedsStatesWithin q

-- a compact query that is refused by a condition needs many states on rows within its domains
abbrev pub RefusedFormsNeedStates : Type 0
RefusedFormsNeedStates =
    (q : QueryValue) → IsWithinLimits q → IsTrue q.compact → HasToldUnlikes q
    → (f : Failure) → IsFormViolation q (Some f) → NeedsStatesWithin q

-- the conditions of the split form are exact for each query that is no filter, whether or not it is compact
abbrev pub SplitConditionsAreExact : Type 0
SplitConditionsAreExact =
    (q : QueryValue) → IsWithinLimits q → IsFalse (is_filter q) → HasToldUnlikes q
    → (violation : Option Failure) → IsSplitViolation q violation → NeedsStatesWithin q ↔ (violation ≢ None)
