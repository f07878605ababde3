use Rattle.std.proofs.Common.{subst, List, Contains}
use Rattle.sem_query.specs.declared.atom.Attr.{Attr}
use Rattle.cert_checker.proofs.Searching.{not_from}
use Rattle.cert_checker.proofs.LeafOrder.{unnamed_told}
use Rattle.cert_checker.proofs.order.is_bounded.Goals as goal

pub is_enclosed-requires-clause-among : goal.is_enclosed-requires-clause-among
is_enclosed-requires-clause-among c = subst (λ (z : List Attr). Contains z c.args.attr) c.attrs.ensures.value (c.is_among.ensures.0 c.if-is_among.true)

pub returns-else-is_among : goal.returns-else-is_among
returns-else-is_among c = unnamed_told c.args.leaf.now.query.now c.args.leaf.now.signs.now c.args.leaf.now.bounds.now c.requires.leaf _ c.domains.ensures.value c.args.attr (subst (λ (z : List Attr). ¬ Contains z c.args.attr) c.attrs.ensures.value (not_from _ c.is_among.ensures.1 c.if-is_among.false)) _ c.has_domain.ensures
