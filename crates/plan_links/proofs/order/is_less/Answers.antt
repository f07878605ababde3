use Rattle.plan_links.proofs.AtNodes.{less_when, above_when_less}
use Rattle.plan_links.proofs.InPartFacts.{as_known}
use Rattle.plan_links.proofs.order.is_less.Goals as goal

pub returns : goal.returns
returns c = ((λ h. less_when _ _ _ (as_known _ _ _ c.requires.known) _ _ c.requires.left c.requires.right (c.keeps.ensures.0 h)), (λ a. c.keeps.ensures.1 (above_when_less _ _ _ (as_known _ _ _ c.requires.known) _ _ c.requires.left c.requires.right a)))
