-- Whether a query meets all conditions, by its parts.
use Rattle.std.proofs.Common.{◌≡◌, ℕ, ◌≤◌, List, length, true, false, IsFalse, inl, inr, refl, arith}
use Rattle.std.proofs.lemmas.List.{length-map}
use Rattle.std.specs.declared.option.Option.TheVariants.{None, Some}
use Rattle.sem_query.specs.declared.part.Part.{Part}
use Rattle.sem_query.specs.Query.{QueryValue, is_filter}
use Rattle.sem_query.specs.Parts.{AreParts, HasMoreParts, sign_lists}
use Rattle.sem_query.specs.Violation.{Failure, IsViolation, filter, first}
use Rattle.sem_query.specs.declared.decision.Decision.{Decision}
use Rattle.sem_query.specs.declared.decision.Decision.TheVariants as decision
use Rattle.sem_query.specs.Verdict.{IsDecision}
use Rattle.sem_laws.proofs.CountedParts.{parts_are_counted}
use Rattle.sem_laws.proofs.Tests.{true_or_false, not_both}
use Rattle.sem_forms.specs.Parts.{HasTooManyParts, IsFormViolation}
use Rattle.sem_forms.specs.Parts as parts
use Rattle.sem_forms.proofs.PartsVerdicts.{one_form_violation}
use Rattle.adv_mends.specs.Meeting.{Meets}

-- a query with few parts has no more
pub few_parts : (q : QueryValue) (parts : List Part) (n : ℕ) → AreParts q (sign_lists parts) → length parts ≤ n → ¬ HasMoreParts q n
few_parts q parts n are few more =
    let same : length (sign_lists parts) ≡ length parts = length-map parts _ in
    omega (arith, few, same, (parts_are_counted q (sign_lists parts) n are).0 more)

-- of a query that is not compact there are too many where there are more than 4,096
pub many_plain : (q : QueryValue) → IsFalse q.compact → HasTooManyParts q → HasMoreParts q 4096
many_plain q n (parts.plain c more) = more
many_plain q n (parts.pairs c more) = absurd (not_both q.compact c n)
many_plain q n (parts.split c more) = absurd (not_both q.compact c n)

-- of a query that is not compact the violation is that of its plain parts
pub violation_plain : (q : QueryValue) → IsFalse q.compact → IsViolation q None → IsFormViolation q None
violation_plain q n v = elim (true_or_false (is_filter q)) [
  | inl e ↦ parts.filter e refl
  | inr e ↦ parts.plain e n v
]

-- with few parts, of which none breaks a condition, it meets all
pub meets_by : (q : QueryValue) (parts : List Part) → IsFalse q.compact → AreParts q (sign_lists parts) → length parts ≤ 4096 → IsViolation q None → Meets q
meets_by q parts n are few v = record { few = λ f more. few_parts q parts 4096 are few (many_plain q n more); violation = violation_plain q n v }

-- a query that shows a violation shows not none
pub no_fault : (q : QueryValue) (f : Failure) → IsFormViolation q (Some f) → IsFormViolation q None → ⊥
no_fault q f v n = let e : None ≡ Some f = one_form_violation q None (Some f) n v in absurd cc

-- so it does not meet all
pub violated : (q : QueryValue) (f : Failure) → IsFormViolation q (Some f) → Meets q → ⊥
violated q f v m = no_fault q f v m.violation

-- a filter shows none
no_filter : (q : QueryValue) (f : Failure) → is_filter q ≡ true → IsViolation q (Some f) → ⊥
no_filter q f e (filter t s) = absurd cc
no_filter q f e (first plain list are fails) = not_both (is_filter q) e plain

fails_plain : (q : QueryValue) (f : Failure) → IsFalse q.compact → IsViolation q (Some f) → IsFormViolation q (Some f)
fails_plain q f n v = elim (true_or_false (is_filter q)) [
  | inl e ↦ absurd (no_filter q f e v)
  | inr e ↦ parts.plain e n v
]

-- nor does one that is decided not to be bounded
pub not_met : (q : QueryValue) (d : Decision) → IsFalse q.compact → IsDecision q d → (d ≡ decision.Bounded → ⊥) → Meets q → ⊥
not_met q decision.Bounded c v n m = n refl
not_met q (decision.Violation part condition attr) c v n m =
    let f : Failure = record { part = part; condition = condition; attr = attr } in
    violated q f (fails_plain q f c v) m

-- nor one with too many parts
pub too_many : (q : QueryValue) → is_filter q ≡ false → HasTooManyParts q → Meets q → ⊥
too_many q e more m = m.few e more

-- a filter meets all
pub filter_meets : (q : QueryValue) → is_filter q ≡ true → Meets q
filter_meets q e = record { few = λ f. absurd cc; violation = parts.filter e refl }
