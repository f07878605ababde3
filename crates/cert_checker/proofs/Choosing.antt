-- The first condition that a part breaks, the decision on one leaf more, and that on all leaves.
use Rattle.std.proofs.Common.{◌≡◌, ℕ, suc, Bool, true, false, if◌then◌else◌, List, [], ◌∷◌, ◌++◌, length, Option, None, Some, refl, subst, sym}
use Rattle.sem_query.specs.declared.atom.Attr.{Attr}
use Rattle.sem_query.specs.declared.part.Sign.{Sign}
use Rattle.sem_query.specs.declared.condition.Condition.{Condition}
use Rattle.sem_query.specs.declared.condition.Condition.TheVariants.{C1, C2, C3}
use Rattle.sem_query.specs.declared.decision.Decision.{Decision}
use Rattle.sem_query.specs.declared.decision.Decision.TheVariants as decision
use Rattle.sem_query.specs.Query.{QueryValue, attrs_of, is_filter, IsWithinLimits}
use Rattle.sem_query.specs.Violation.{Breaks, IsViolation, filter, first}
use Rattle.sem_query.specs.Verdict.{IsDecision}
use Rattle.sem_query.specs.declared.first_break.Break.{Break}
use Rattle.cert_checker.specs.declared.decision.DecisionSoFar.{DecisionSoFar}
use Rattle.cert_format.specs.Nodes.{Node}
use Rattle.cert_checker.specs.Reading.{IsGood}
use Rattle.cert_checker.specs.Leaves.{leaves_of}
use Rattle.sem_query.specs.FirstBreak.{IsFirstAmong, first_of_three, IsFirstBreak}
use Rattle.cert_checker.specs.SoFar.{decision_at, plain_decision, IsSoFar, TakesLeaf}
use Rattle.cert_checker.specs.declared.shown.Shown.{Shown}
use Rattle.cert_checker.specs.Branching.{plain_branching}
use Rattle.cert_checker.specs.Shown.{IsFirstFailureBy, IsFirstBreakBy, failure_of, IsShownDecision, plain}
use Rattle.sem_query.proofs.FirstColumns.{first_of_all}
use Rattle.sem_query.proofs.FirstBreaks.{selected, named_in_equality, named_as_reference, first_of_firsts}
use Rattle.cert_checker.proofs.FailuresSoFar.{none_fails_yet, none_fails_more, first_fails_now, first_fails_still, plain_failures}
use Rattle.cert_checker.proofs.LeavesInOrder.{leaves_are_parts, has_parts}

module _ (q : QueryValue) (s : List Sign) where
  -- the first of the selected columns and of the attributes are the first of all
  pub chosen_is_first : (x y z : Option Attr) (r : Option Break) → IsFirstAmong (Breaks q s C1) q.select x → IsFirstAmong (Breaks q s C2) (attrs_of q.atoms) y → IsFirstAmong (Breaks q s C3) (attrs_of q.atoms) z → r ≡ first_of_three x y z → IsFirstBreak q s r
  chosen_is_first x y z r f g h e = subst (IsFirstBreak q s) (sym e) (first_of_firsts q s x y z (first_of_all (Breaks q s C1) q.select x (selected q s) f) (first_of_all (Breaks q s C2) (attrs_of q.atoms) y (named_in_equality q s) g) (first_of_all (Breaks q s C3) (attrs_of q.atoms) z (named_as_reference q s) h))

-- ---- one leaf more

-- before the first leaf no condition is broken
pub begins_bounded : (B : List Sign → Condition → Attr → Type 0) (d : DecisionSoFar) → d.decision ≡ decision.Bounded → IsSoFar B [] d
begins_bounded B d e = subst (λ (x : Decision). IsFirstFailureBy B [] (failure_of x)) (sym e) (none_fails_yet B)

module _ (B : List Sign → Condition → Attr → Type 0) (s : List Sign) where
  -- where no leaf so far breaks a condition
  pub decided_now : (xs : List (List Sign)) (number : ℕ) (r : Option Break) → number ≡ suc (length xs) → IsFirstBreakBy (B s) r → IsFirstFailureBy B xs None → IsFirstFailureBy B (xs ++ s ∷ []) (failure_of (decision_at number r))
  decided_now xs number None e b h = none_fails_more B xs s h b
  decided_now xs number (Some r) e b h =
      subst (λ (n : ℕ). IsFirstFailureBy B (xs ++ s ∷ []) (Some record { part = n; condition = r.condition; attr = r.attr })) (sym e)
      (first_fails_now B xs s r.condition r.attr h b.0 b.1 b.2)

  pub takes_now : (number : ℕ) (old new : DecisionSoFar) (r : Option Break) → old.decision ≡ decision.Bounded → IsFirstBreakBy (B s) r → new.decision ≡ decision_at number r → TakesLeaf B s number old new
  takes_now number old new r o b e = λ xs n h.
      subst (λ (d : Decision). IsFirstFailureBy B (xs ++ s ∷ []) (failure_of d)) (sym e)
      (decided_now xs number r n b (subst (λ (d : Decision). IsFirstFailureBy B xs (failure_of d)) o h))

  -- where some leaf so far breaks one
  still : (d : Decision) (xs : List (List Sign)) → ¬ (d ≡ decision.Bounded) → IsFirstFailureBy B xs (failure_of d) → IsFirstFailureBy B (xs ++ s ∷ []) (failure_of d)
  still decision.Bounded xs n h = absurd (n refl)
  still (decision.Violation part condition attr) xs n h = first_fails_still B xs (s ∷ []) record { part = part; condition = condition; attr = attr } h

  pub takes_none : (number : ℕ) (old : DecisionSoFar) → ¬ (old.decision ≡ decision.Bounded) → TakesLeaf B s number old old
  takes_none number old n = λ xs e h. still old.decision xs n h

-- ---- where all leaves were read

by_violation : (q : QueryValue) (d : Decision) → IsViolation q (failure_of d) → IsDecision q d
by_violation q decision.Bounded h = h
by_violation q (decision.Violation part condition attr) h = h

module _ (q : QueryValue) (l : IsWithinLimits q) (nodes : List Node) where
  -- a filter is bounded, and else the first failure among the parts decides
  pub plain_decided : (d : Decision) → IsGood (plain_branching q) nodes → IsFirstFailureBy (Breaks q) (leaves_of (Some []) nodes) (failure_of d) → IsShownDecision q Shown.Plain (plain_decision q d) (length (leaves_of (Some []) nodes))
  plain_decided d g h = plain (by (is_filter q) refl) (has_parts q l nodes g)
    where
      by : (f : Bool) → is_filter q ≡ f → IsDecision q (if f then decision.Bounded else d)
      by true e = filter e refl
      by false e = by_violation q d (first e (leaves_of (Some []) nodes) (leaves_are_parts q l nodes g) (plain_failures q (leaves_of (Some []) nodes) (failure_of d) h))
