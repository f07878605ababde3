use Rattle.std.proofs.Common.{subst}
use Rattle.adv_mends.specs.Sets.{IsMendOf}
use Rattle.adv_mends.proofs.MoreAtoms.{bounds-are}
use Rattle.adv_mends.proofs.writing.written.Goals as goal

pub with_atoms-requires-clause-bounds : goal.with_atoms-requires-clause-bounds
with_atoms-requires-clause-bounds c =
    let h = subst (IsMendOf c.args.query.now) c.in-Bounds.is c.requires in
    rw (c.as_slice.ensures.value, c.bounds_on.ensures, c.columns-in-Bounds.ensures.value) (bounds-are c.args.query.now c.in-Bounds.ends c.in-Bounds.set h.1 h.0)

pub like-requires-in-Compact-clause-domains : goal.like-requires-in-Compact-clause-domains
like-requires-in-Compact-clause-domains c = rw c.domains-in-Compact.ensures.value c.domains-in-Compact.ensures.limits.domains

pub like-requires-in-Shared-clause-domains : goal.like-requires-in-Shared-clause-domains
like-requires-in-Shared-clause-domains c = rw c.domains-in-Shared.ensures.value c.domains-in-Shared.ensures.limits.domains
