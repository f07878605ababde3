use Rattle.std.proofs.Common.{take}
use Rattle.adv_mends.specs.Narrowed.{AreNarrowed}
use Rattle.adv_mends.proofs.narrowing.narrowings.Given as goal

abbrev pub invariant-columns : goal.invariant-columns
invariant-columns l = AreNarrowed l.base.shared l.base.query.now l.base.own (take l.column-index l.column-items) l.best.items
