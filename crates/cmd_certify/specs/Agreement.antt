-- What certificates of compact queries say beside the parts by which CREATE QUERY judges them.
use Rattle.std.specs.Prelude.{◌≡◌, ℕ, IsTrue, List}
use Rattle.std.specs.declared.option.Option.{Option}
use Rattle.sem_query.specs.declared.atom.Attr.{Attr}
use Rattle.sem_query.specs.declared.decision.Decision.{Decision}
use Rattle.sem_query.specs.declared.decision.Decision.TheVariants as decision
use Rattle.sem_query.specs.declared.part.Sign.{Sign}
use Rattle.sem_query.specs.Query.{QueryValue, IsWithinLimits}
use Rattle.sem_query.specs.Violation.{Failure}
use Rattle.plan_split_pairs.specs.SplitParts.{IsSplitPart}
use Rattle.sem_whole.specs.Whole.{Form}
use Rattle.sem_whole.specs.Plan.{IsWholePlan}
use Rattle.sem_forms.specs.Split.{part_query}
use Rattle.sem_forms.specs.SplitBreaks.{IsOpenDim}
use Rattle.sem_forms.specs.Parts.{IsFormViolation}
use Rattle.cert_format.specs.Nodes.{Node}
use Rattle.cert_checker.specs.declared.shown.Shown.{Shown}
use Rattle.cert_checker.specs.Branching.{whole_branching, split_branching}
use Rattle.cert_checker.specs.Reading.{IsGood}
use Rattle.cert_checker.specs.Shown.{goes_by_form, first_shows, shown_by, branching_of, failure_of, IsShownDecision}
use Rattle.cmd_certify.specs.Judged.{IsJudgedBy}

-- a good tree of the split form whose first node shows the whole form is a good tree of the whole form
abbrev pub RootIsAlike : Type 0
RootIsAlike = (q : QueryValue) (nodes : List Node) → IsGood (split_branching q) nodes → first_shows nodes ≡ Shown.Whole → IsGood (whole_branching q) nodes

-- a good tree of the form by which the query is judged is a good tree of the form that it shows
abbrev pub CertifiedAreChecked : Type 0
CertifiedAreChecked = (q : QueryValue) (s : Shown) (nodes : List Node) → IsJudgedBy q s → IsGood (branching_of s q) nodes → IsGood (branching_of (shown_by q nodes) q) nodes

-- what shows the whole form of a query that is judged by it decides that no condition is broken
abbrev pub WholeDecision : Type 0
WholeDecision = (q : QueryValue) → IsWithinLimits q → IsJudgedBy q Shown.Whole → (d : Decision) (n : ℕ) → IsShownDecision q Shown.Whole d n → d ≡ decision.Bounded

-- each dim of the form of a part has both ends of its own range
abbrev pub HasNoOpenDim : QueryValue → Type 0
HasNoOpenDim q = (ss : List Sign) → IsSplitPart q ss → (f : Form) → IsWholePlan (part_query q ss) f → (a : Attr) → ¬ IsOpenDim (part_query q ss) f a

-- what shows the split form of a query without open dims decides as the parts by which it is judged
abbrev pub CertificatesAgree : Type 0
CertificatesAgree =
    (q : QueryValue) → IsTrue (goes_by_form q) → HasNoOpenDim q → (d : Decision) (n : ℕ) → IsShownDecision q Shown.Split d n
    → (r : Option Failure) → IsFormViolation q r → r ≡ failure_of d
