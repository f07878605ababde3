use Rattle.plan_links.proofs.Gathered.{not_from}
use Rattle.adv_key_choices.proofs.order.is_at_most.Goals as goal

pub returns-then-broadcasts_no_more : goal.returns-then-broadcasts_no_more
returns-then-broadcasts_no_more c = (
  (λ h. (c.are_no_worse.ensures.0 h, c.broadcasts_no_more.ensures.0 c.if-broadcasts_no_more.true)),
  (λ w. c.are_no_worse.ensures.1 w.0),
)

pub returns-else-broadcasts_no_more : goal.returns-else-broadcasts_no_more
returns-else-broadcasts_no_more c = ((λ h. cc), (λ w. absurd (not_from _ c.broadcasts_no_more.ensures.1 c.if-broadcasts_no_more.false w.1)))
