use Rattle.plan_parts.proofs.tree.is_implied.Goals as goal

pub returns : goal.returns
returns c = λ t n ks h. rw c.by.ensures at ((c.implies_each.ensures n ks h).0 t)
