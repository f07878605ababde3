-- Which form a certificate shows, what its tree branches on, and what a good one decides.
use Rattle.std.specs.Prelude.{◌≡◌, ℕ, ◌<◌, ◌-◌, Bool, not, ◌&&◌, if◌then◌else◌, IsTrue, List, [], ◌∷◌, length, slice_get}
use Rattle.std.specs.declared.option.Option.{Option}
use Rattle.std.specs.declared.option.Option.TheVariants.{None, Some}
use Rattle.sem_query.specs.declared.atom.Attr.{Attr}
use Rattle.sem_query.specs.declared.atom.Atom.{Atom}
use Rattle.sem_query.specs.declared.condition.Condition.{Condition}
use Rattle.sem_query.specs.declared.decision.Decision.{Decision}
use Rattle.sem_query.specs.declared.decision.Decision.TheVariants as decision
use Rattle.sem_query.specs.declared.first_break.Break.{Break}
use Rattle.sem_query.specs.declared.part.Pair.{Pair}
use Rattle.sem_query.specs.declared.part.Sign.{Sign}
use Rattle.sem_query.specs.Query.{QueryValue, attr_lt, is_filter}
use Rattle.sem_query.specs.Verdict.{IsDecision}
use Rattle.sem_query.specs.Violation as violation
use Rattle.sem_query.specs.Violation.{Failure, failure_lt, condition_lt}
use Rattle.plan_split_pairs.specs.Pairs.{split_pairs}
use Rattle.plan_split_pairs.specs.SplitParts.{AreSplitParts}
use Rattle.sem_whole.specs.Links.{AreLinks}
use Rattle.sem_whole.specs.Signed.{with_signs}
use Rattle.sem_whole.specs.Whole.{WholeBreaks}
use Rattle.cert_format.specs.declared.line.Line.{Line}
use Rattle.cert_format.specs.declared.line.Line.TheVariants as line
use Rattle.cert_format.specs.Nodes as nodes
use Rattle.cert_format.specs.Nodes.{Node}
use Rattle.cert_checker.specs.declared.answer.CheckAnswer.{CheckAnswer}
use Rattle.cert_checker.specs.declared.answer.CheckAnswer.TheVariants.{Yes, No}
use Rattle.cert_checker.specs.declared.shown.Shown.{Shown}
use Rattle.cert_checker.specs.Branching.{Branching, plain_branching, whole_branching, split_branching}
use Rattle.cert_checker.specs.Branches.{AreAll, IsWholePart}
use Rattle.cert_checker.specs.Reading.{IsGood, IsFirstFault, HasParts}

-- compact and no filter: such a query is judged by its form
abbrev pub goes_by_form : QueryValue → Bool
goes_by_form q = q.compact && not (is_filter q)

-- the form of the first node: a split, or a comparison that closes the tree, shows the split form
abbrev pub first_shows : List Node → Shown
first_shows [] = Shown.Whole
first_shows (nodes.split pair ∷ behind) = Shown.Split
first_shows (nodes.against number ∷ behind) = Shown.Split
first_shows (nodes.infeasible numbers ∷ behind) = Shown.Whole
first_shows (nodes.leaf paths ∷ behind) = Shown.Whole

-- the same of the node of a line. A path begins no node
abbrev pub form_at : Line → Option Shown
form_at (line.Split pair) = Some Shown.Split
form_at (line.Infeasible numbers) = Some Shown.Whole
form_at (line.Against number) = Some Shown.Split
form_at line.Leaf = Some Shown.Whole
form_at (line.Path path) = None

-- the form that a certificate of the query shows
abbrev pub shown_by : QueryValue → List Node → Shown
shown_by q listed = if goes_by_form q then first_shows listed else Shown.Plain

-- what a tree of that form branches on
abbrev pub branching_of : Shown → QueryValue → Branching
branching_of Shown.Plain q = plain_branching q
branching_of Shown.Whole q = whole_branching q
branching_of Shown.Split q = split_branching q

-- the whole form of a query with signs breaks the condition, and the column shows it
pub record FormBreaks (ps : List Pair) (q : QueryValue) (ss : List Sign) (c : Condition) (a : Attr) : Type 0 where
  pub links : List Atom
  pub are : AreLinks (with_signs ps ss q) links
  pub breaks : WholeBreaks (with_signs ps ss q) links c a

-- what breaks a condition at the leaf with these signs
abbrev pub breaks_by : Shown → QueryValue → List Sign → Condition → Attr → Type 0
breaks_by Shown.Plain q = violation.Breaks q
breaks_by Shown.Whole q = FormBreaks [] q
breaks_by Shown.Split q = FormBreaks (split_pairs q) q

-- the part of that number breaks that condition at that column, by what breaks one
pub record FailsBy (B : List Sign → Condition → Attr → Type 0) (parts : List (List Sign)) (f : Failure) : Type 0 where
  pub signs : List Sign
  pub number : 0 < f.part
  pub at : slice_get parts (f.part - 1) ≡ Some signs
  pub breaks : B signs f.condition f.attr

-- the first failure among the parts, or none where no part fails
abbrev pub IsFirstFailureBy : (List Sign → Condition → Attr → Type 0) → List (List Sign) → Option Failure → Type 0
IsFirstFailureBy B parts None = (f : Failure) → ¬ FailsBy B parts f
IsFirstFailureBy B parts (Some f) = FailsBy B parts f × ((g : Failure) → IsTrue (failure_lt g f) → ¬ FailsBy B parts g)

-- the first condition that is broken and the first column that shows it, or none
abbrev pub IsFirstBreakBy : (Condition → Attr → Type 0) → Option Break → Type 0
IsFirstBreakBy B None = (c : Condition) (a : Attr) → ¬ B c a
IsFirstBreakBy B (Some b) =
    B b.condition b.attr
    × ((c : Condition) (a : Attr) → IsTrue (condition_lt c b.condition) → ¬ B c a)
    × ((a : Attr) → IsTrue (attr_lt a b.attr) → ¬ B b.condition a)

-- the failure that a decision names
abbrev pub failure_of : Decision → Option Failure
failure_of decision.Bounded = None
failure_of (decision.Violation part condition attr) = Some record { part = part; condition = condition; attr = attr }

-- what a good certificate decides of a query with so many parts
pub data IsShownDecision (q : QueryValue) : Shown → Decision → ℕ → Type 0 where
  plain : {d : Decision} {n : ℕ} → IsDecision q d → HasParts q n → IsShownDecision q Shown.Plain d n
  whole : {d : Decision} {n : ℕ} (parts : List (List Sign)) → AreAll (IsWholePart q) parts → IsFirstFailureBy (FormBreaks [] q) parts (failure_of d) → n ≡ length parts → IsShownDecision q Shown.Whole d n
  split : {d : Decision} {n : ℕ} (parts : List (List Sign)) → AreSplitParts q parts → IsFirstFailureBy (FormBreaks (split_pairs q) q) parts (failure_of d) → n ≡ length parts → IsShownDecision q Shown.Split d n

-- what the nodes are answered with as those of a tree of that form: the decision and the number of parts, or the first fault
abbrev pub IsAnswerOf : Shown → QueryValue → List Node → CheckAnswer → Type 0
IsAnswerOf shown q listed (Yes decision parts) = IsGood (branching_of shown q) listed × IsShownDecision q shown decision parts
IsAnswerOf shown q listed (No place why) = IsFirstFault (branching_of shown q) listed place why

-- the same of the form that the nodes show
abbrev pub IsCheckAnswer : QueryValue → List Node → CheckAnswer → Type 0
IsCheckAnswer q listed answer = IsAnswerOf (shown_by q listed) q listed answer
