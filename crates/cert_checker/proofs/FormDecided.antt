-- What the form of a leaf breaks, by the one list of its links, and what a good certificate of a form decides.
use Rattle.std.proofs.Common.{◌≡◌, ℕ, List, [], length, subst}
use Rattle.std.specs.declared.option.Option.{Option}
use Rattle.std.specs.declared.option.Option.TheVariants.{None, Some}
use Rattle.sem_query.specs.declared.atom.Attr.{Attr}
use Rattle.sem_query.specs.declared.atom.Atom.{Atom}
use Rattle.sem_query.specs.declared.condition.Condition.{Condition}
use Rattle.sem_query.specs.declared.decision.Decision.{Decision}
use Rattle.sem_query.specs.declared.first_break.Break.{Break}
use Rattle.sem_query.specs.declared.part.Pair.{Pair}
use Rattle.sem_query.specs.declared.part.Sign.{Sign}
use Rattle.sem_query.specs.Query.{QueryValue, IsWithinLimits}
use Rattle.plan_split_pairs.specs.Pairs.{split_pairs}
use Rattle.sem_whole.specs.Failing.{IsFirstWholeBreak}
use Rattle.sem_whole.specs.Links.{AreLinks}
use Rattle.sem_whole.specs.Signed.{with_signs}
use Rattle.sem_whole.specs.Whole.{WholeBreaks}
use Rattle.sem_whole.proofs.Suffice.{one_list_of_links}
use Rattle.cert_format.specs.Nodes.{Node}
use Rattle.cert_checker.specs.declared.shown.Shown.{Shown}
use Rattle.cert_checker.specs.Branching.{whole_branching, split_branching}
use Rattle.cert_checker.specs.Leaves.{leaves_of}
use Rattle.cert_checker.specs.Reading.{IsGood}
use Rattle.cert_checker.specs.Shown.{FormBreaks, IsFirstFailureBy, IsFirstBreakBy, failure_of, IsShownDecision, whole, split}
use Rattle.cert_checker.proofs.LeavesInOrder.{whole_leaves, split_leaves}

module _ (q : QueryValue) (ps : List Pair) (ss : List Sign) (links : List Atom) (are : AreLinks (with_signs ps ss q) links) where
  -- what the form breaks it breaks by these links
  by_links : (c : Condition) (a : Attr) → FormBreaks ps q ss c a → WholeBreaks (with_signs ps ss q) links c a
  by_links c a b = subst (λ (z : List Atom). WholeBreaks (with_signs ps ss q) z c a) (one_list_of_links (with_signs ps ss q) b.links links b.are are) b.breaks

  first_by_links : (o : Option Break) → IsFirstWholeBreak (with_signs ps ss q) links o → IsFirstBreakBy (FormBreaks ps q ss) o
  first_by_links None h = λ c a b. h c a (by_links c a b)
  first_by_links (Some b) h = (
    record { links = links; are = are; breaks = h.0 },
    λ c a l k. h.1 c a l (by_links c a k),
    λ a l k. h.2 a l (by_links b.condition a k),
  )

-- the first break of the query with signs is the first of its form
pub first_form_break : (q : QueryValue) (ps : List Pair) (ss : List Sign) (r : QueryValue) (links : List Atom) (o : Option Break)
    → r ≡ with_signs ps ss q → AreLinks r links → IsFirstWholeBreak r links o → IsFirstBreakBy (FormBreaks ps q ss) o
first_form_break q ps ss r links o e are h =
    first_by_links q ps ss links (subst (λ (z : QueryValue). AreLinks z links) e are) o (subst (λ (z : QueryValue). IsFirstWholeBreak z links o) e h)

-- the first failure among the leaves of a good tree of the whole form is what it decides
pub whole_decided : (q : QueryValue) → IsWithinLimits q → (nodes : List Node) (d : Decision) (n : ℕ) → IsGood (whole_branching q) nodes → IsFirstFailureBy (FormBreaks [] q) (leaves_of (Some []) nodes) (failure_of d)
    → n ≡ length (leaves_of (Some []) nodes) → IsShownDecision q Shown.Whole d n
whole_decided q w nodes d n g f e = whole (leaves_of (Some []) nodes) (whole_leaves q w nodes g) f e

-- and of the split form
pub split_decided : (q : QueryValue) → IsWithinLimits q → (nodes : List Node) (d : Decision) (n : ℕ) → IsGood (split_branching q) nodes → IsFirstFailureBy (FormBreaks (split_pairs q) q) (leaves_of (Some []) nodes) (failure_of d)
    → n ≡ length (leaves_of (Some []) nodes) → IsShownDecision q Shown.Split d n
split_decided q w nodes d n g f e = split (leaves_of (Some []) nodes) (split_leaves q w nodes g) f e
