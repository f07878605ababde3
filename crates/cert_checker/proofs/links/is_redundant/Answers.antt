use Rattle.cert_checker.proofs.Searching.{not_from}
use Rattle.cert_checker.proofs.LeafRefs.{redundant_by_attr, redundant_by_const, const_where_no_attr}
use Rattle.cert_checker.proofs.links.is_redundant.Goals as goal

pub returns-then-some_attr_between : goal.returns-then-some_attr_between
returns-then-some_attr_between c = ((λ h. redundant_by_attr _ _ _ _ (c.some_attr_between.ensures.0 c.if-some_attr_between.true)), (λ r. c.if-some_attr_between.true))

pub returns-else-some_attr_between : goal.returns-else-some_attr_between
returns-else-some_attr_between c = (
  (λ h. redundant_by_const _ _ _ _ (c.some_const_apart.ensures.0 h)),
  (λ r. c.some_const_apart.ensures.1 (const_where_no_attr _ _ _ _ (not_from _ c.some_attr_between.ensures.1 c.if-some_attr_between.false) r)),
)
