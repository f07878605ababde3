use Rattle.std.proofs.Common.{arith}
use Rattle.plan_links.proofs.InPartFacts.{as_known, solvable}
use Rattle.plan_links.proofs.Extent.{range_told}
use Rattle.plan_links.proofs.range.range_at.Goals as goal

pub lo-requires-clause-satisfiable : goal.lo-requires-clause-satisfiable
lo-requires-clause-satisfiable c = solvable _ _ _ c.requires.known

pub hi-requires-clause-satisfiable : goal.hi-requires-clause-satisfiable
hi-requires-clause-satisfiable c = solvable _ _ _ c.requires.known

pub returns : goal.returns
returns c = range_told _ _ _ c.args.i _ _ _ _ (as_known _ _ _ c.requires.known) c.requires.place (omega arith) (c.lo.ensures.answer _ _ c.requires.known.distances) (c.hi.ensures.answer _ _ c.requires.known.distances) c.range_between.ensures
