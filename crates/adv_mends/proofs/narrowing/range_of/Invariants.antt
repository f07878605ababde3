use Rattle.std.proofs.Common.{◌≡◌, drop}
use Rattle.adv_mends.specs.Narrowed.{range_by, domain_or}
use Rattle.adv_mends.proofs.narrowing.range_of.Given as goal

abbrev pub invariant-atoms : goal.invariant-atoms
invariant-atoms l = range_by l.range (drop l.atom-index l.atom-items) ≡ range_by (domain_or l.query.domains l.fn.column) l.query.atoms
