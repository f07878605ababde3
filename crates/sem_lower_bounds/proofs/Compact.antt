-- A compact query is judged by the query without COMPACT.
use Rattle.std.proofs.Common.{◌≡◌, ◌≢◌, ◌↔◌, List, refl, ◌∙◌, sym, None}
use Rattle.sem_query.specs.Query.{QueryValue}
use Rattle.sem_query.specs.Meaning.{Arrival, new_answers}
use Rattle.sem_lower_bounds.specs.States.{NeedsStates}
use Rattle.sem_lower_bounds.specs.Within.{NeedsStatesWithin}
use Rattle.sem_lower_bounds.specs.Compact.{plainly, CompactIsJudgedPlainly}
use Rattle.sem_lower_bounds.proofs.Skipping.{domain-conditions-are-exact}

alike : (q : QueryValue) (h : List Arrival) (r : Arrival) → new_answers (plainly q) h r ≡ new_answers q h r
unfolding new_answers
alike q h r = refl

same-needs : (q : QueryValue) → NeedsStates q ↔ NeedsStates (plainly q)
same-needs q = (
  (λ n none. n (λ b all. none b (λ e right m most has. all e (λ h r. right h r ∙ alike q h r) m most has))),
  (λ n none. n (λ b all. none b (λ e right m most has. all e (λ h r. right h r ∙ sym (alike q h r)) m most has))),
)

within-needs : (q : QueryValue) → NeedsStatesWithin q ↔ NeedsStatesWithin (plainly q)
within-needs q = (
  (λ n none. n (λ b all. none b (λ e right m most has. all e (λ h r k i. right h r k i ∙ alike q h r) m most has))),
  (λ n none. n (λ b all. none b (λ e right m most has. all e (λ h r k i. right h r k i ∙ sym (alike q h r)) m most has))),
)

pub compact-is-judged-plainly : CompactIsJudgedPlainly
compact-is-judged-plainly = record {
  same = same-needs;
  within = within-needs;
  exact = λ q within o violation is. (
      let same : NeedsStatesWithin q ↔ NeedsStatesWithin (plainly q) = within-needs q in
      let exact : NeedsStatesWithin (plainly q) ↔ (violation ≢ None) = domain-conditions-are-exact (plainly q) within refl o violation is in
      ((λ n. exact.0 (same.0 n)), (λ n. same.1 (exact.1 n))));
}
