use Rattle.std.proofs.Common.{arith}
use Rattle.cmd_advise_split.proofs.Progress.{begins, few, counts, goes-on, ends-all, ends-fault, ends-limit}
use Rattle.cmd_advise_split.proofs.reading.read_all.Goals as goal

pub reading-init : goal.reading-init
reading-init g c = record {
  progress = begins _ _ _ c.requires.reader c.requires.state;
  later = omega arith;
}

pub take_given-requires : goal.take_given-requires
take_given-requires g c = few c.in-Given.long _ _ _ _ _ _ c.reading.invariant.progress c.in-Given.ensures

pub reading-smaller : goal.reading-smaller
reading-smaller g c =
    let n = counts c.in-Given.long _ _ _ _ _ _ c.reading.invariant.progress c.in-Given.ensures in
    omega (arith, n.0, n.1)

pub reading-preserved : goal.reading-preserved
reading-preserved g c = record {
  progress = goes-on c.in-Given.long _ _ _ _ _ _ _ c.reading.invariant.progress c.in-Given.ensures (rw c.line.ensures at c.in-Ok.ensures);
  later = omega (arith, c.reading.invariant.later, c.in-Given.ensures.later);
}

pub returns-in-End-clause-reads : goal.returns-in-End-clause-reads
returns-in-End-clause-reads g c = ends-all _ _ _ _ _ _ c.reading.invariant.progress c.in-End.ensures

pub returns-in-ReadFault-clause-reads : goal.returns-in-ReadFault-clause-reads
returns-in-ReadFault-clause-reads g c = ends-fault _ _ _ _ _ _ c.reading.invariant.progress c.in-ReadFault.ensures

pub returns-in-ByteLimit-clause-reads : goal.returns-in-ByteLimit-clause-reads
returns-in-ByteLimit-clause-reads g c = ends-limit _ _ _ _ _ _ c.reading.invariant.progress c.in-ByteLimit.ensures
