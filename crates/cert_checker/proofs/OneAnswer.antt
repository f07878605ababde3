-- The nodes of a certificate have one answer at most.
use Rattle.std.proofs.Common.{◌≡◌, ℕ, List, [], refl, sym, ◌∙◌, ap, ap₂, subst, length}
use Rattle.std.proofs.lemmas.List.Elements.{All-contains}
use Rattle.std.specs.declared.option.Option.{Option}
use Rattle.std.specs.declared.option.Option.TheVariants.{None, Some}
use Rattle.sem_query.specs.declared.decision.Decision.{Decision}
use Rattle.sem_query.specs.declared.decision.Decision.TheVariants as decision
use Rattle.sem_query.specs.Query.{QueryValue}
use Rattle.sem_query.specs.Verdict.{IsDecision}
use Rattle.sem_query.specs.Violation.{Failure, IsViolation}
use Rattle.sem_query.proofs.Unique.{one_list_of_parts}
use Rattle.sem_query.proofs.Violation.{one_violation}
use Rattle.sem_query.specs.declared.atom.Attr.{Attr}
use Rattle.sem_query.specs.declared.condition.Condition.{Condition}
use Rattle.sem_query.specs.declared.part.Sign.{Sign}
use Rattle.sem_query.specs.Parts.{signs_lt}
use Rattle.sem_query.proofs.Has.{Has, Has-from_contains, Contains-from_has}
use Rattle.sem_query.proofs.Unique.{same_members, ascends_from, signs_strict}
use Rattle.plan_split_pairs.specs.Pairs.{split_pairs}
use Rattle.plan_split_pairs.specs.SplitParts.{IsSplitPart}
use Rattle.cert_format.specs.Nodes.{Node}
use Rattle.cert_checker.specs.declared.answer.CheckAnswer.{CheckAnswer}
use Rattle.cert_checker.specs.declared.answer.CheckAnswer.TheVariants.{Yes, No}
use Rattle.cert_checker.specs.declared.answer.Reason.{Reason}
use Rattle.cert_checker.specs.declared.shown.Shown.{Shown}
use Rattle.cert_checker.specs.Branches.{AreAll, IsWholePart}
use Rattle.cert_checker.specs.Shown.{shown_by, branching_of, FormBreaks, IsFirstFailureBy, failure_of, IsShownDecision, plain, whole, split, IsAnswerOf}
use Rattle.cert_checker.specs.TreeLaws.{HasOneAnswer}
use Rattle.cert_checker.proofs.FirstFaults.{one_first_fault, good_or_fault}
use Rattle.cert_checker.proofs.OneFailure.{one_failure}

-- the decision of a failure, or of none
abbrev pub decision_of : Option Failure → Decision
decision_of None = decision.Bounded
decision_of (Some f) = decision.Violation f.part f.condition f.attr

decision_back : (d : Decision) → decision_of (failure_of d) ≡ d
decision_back decision.Bounded = refl
decision_back (decision.Violation part condition attr) = refl

-- a query has one decision
pub one_decision : (q : QueryValue) (d e : Decision) → IsDecision q d → IsDecision q e → d ≡ e
one_decision q d e h k = sym (decision_back d) ∙ ap decision_of (one_violation q (failure_of d) (failure_of e) (violation d h) (violation e k)) ∙ decision_back e
  where
    violation : (d : Decision) → IsDecision q d → IsViolation q (failure_of d)
    violation decision.Bounded h = h
    violation (decision.Violation part condition attr) h = h

decides_one : (B : List Sign → Condition → Attr → Type 0) (parts : List (List Sign)) (d e : Decision) → IsFirstFailureBy B parts (failure_of d) → IsFirstFailureBy B parts (failure_of e) → d ≡ e
decides_one B parts d e h k = sym (decision_back d) ∙ ap decision_of (one_failure B parts (failure_of d) (failure_of e) h k) ∙ decision_back e

-- one list of all, ascending
one_list : (P : List Sign → Type 0) (xs ys : List (List Sign)) → AreAll P xs → AreAll P ys → xs ≡ ys
one_list P xs ys a b = same_members signs_lt signs_strict xs ys (ascends_from signs_lt xs a.ascending) (ascends_from signs_lt ys b.ascending)
    (λ z h. Has-from_contains ys z (b.all z (holds_of P xs a z h))) (λ z h. Has-from_contains xs z (a.all z (holds_of P ys b z h)))
  where
    holds_of : (P : List Sign → Type 0) (zs : List (List Sign)) → AreAll P zs → (z : List Sign) → Has zs z → P z
    holds_of P zs a z h = All-contains P zs z a.each (Contains-from_has zs z h)

-- what a form decides is one decision with one number of parts
pub record AreOne (d e : Decision) (m n : ℕ) : Type 0 where
  pub decisions : d ≡ e
  pub numbers : m ≡ n

one_shown : (q : QueryValue) (shown : Shown) (d e : Decision) (m n : ℕ) → IsShownDecision q shown d m → IsShownDecision q shown e n → AreOne d e m n
one_shown q Shown.Plain d e m n (plain h a) (plain k b) = record {
  decisions = one_decision q d e h k;
  numbers = sym a.count_is ∙ ap length (one_list_of_parts q a.parts b.parts a.are b.are) ∙ b.count_is;
}
one_shown q Shown.Whole d e m n (whole xs a f l) (whole ys b g k) =
    let same : ys ≡ xs = one_list (IsWholePart q) ys xs b a in
    record {
      decisions = decides_one (FormBreaks [] q) xs d e f (subst (λ z. IsFirstFailureBy (FormBreaks [] q) z (failure_of e)) same g);
      numbers = l ∙ ap length (sym same) ∙ sym k;
    }
one_shown q Shown.Split d e m n (split xs a f l) (split ys b g k) =
    let same : ys ≡ xs = one_list (IsSplitPart q) ys xs record { ascending = b.ascending; each = b.each; all = b.all } record { ascending = a.ascending; each = a.each; all = a.all } in
    record {
      decisions = decides_one (FormBreaks (split_pairs q) q) xs d e f (subst (λ z. IsFirstFailureBy (FormBreaks (split_pairs q) q) z (failure_of e)) same g);
      numbers = l ∙ ap length (sym same) ∙ sym k;
    }

-- nodes have one answer at most
one_of_form : (q : QueryValue) (shown : Shown) (nodes : List Node) (answer other : CheckAnswer) → IsAnswerOf shown q nodes answer → IsAnswerOf shown q nodes other → answer ≡ other
one_of_form q shown nodes (Yes d parts) (Yes e others) h k =
    let one : AreOne d e parts others = one_shown q shown d e parts others h.1 k.1 in
    ap₂ (λ (x : Decision) (n : ℕ). let r : CheckAnswer = Yes x n in r) one.decisions one.numbers
one_of_form q shown nodes (Yes d parts) (No place why) h k = absurd (good_or_fault (branching_of shown q) nodes place why h.0 k)
one_of_form q shown nodes (No place why) (Yes d parts) h k = absurd (good_or_fault (branching_of shown q) nodes place why k.0 h)
one_of_form q shown nodes (No place why) (No other because) h k =
    let e : (place ≡ other) × (why ≡ because) = one_first_fault (branching_of shown q) nodes place other why because h k in
    ap₂ (λ (n : ℕ) (r : Reason). let a : CheckAnswer = No n r in a) e.0 e.1

pub one_answer : HasOneAnswer
one_answer q nodes answer other h k = one_of_form q (shown_by q nodes) nodes answer other h k
