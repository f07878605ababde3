use Rattle.plan_links.proofs.AtNodes.{named_is}
use Rattle.plan_links.proofs.placed.named_at.Goals as goal

pub returns-clause-named : goal.returns-clause-named
returns-clause-named c = named_is _ _ _ _ c.attrs-attrs.ensures.value c.requires
