use Rattle.std.proofs.Common.{ap, arith}
use Rattle.io_streams.specs.Memory.{MemSinkState}
use Rattle.cmd_advise.proofs.Progress.{begins, few, counts, short, goes-on, ends-all, ends-fault, ends-limit}
use Rattle.cmd_advise.proofs.report.read_told.Goals as goal

pub reading-init : goal.reading-init
reading-init g c = record {
  progress = begins _ _ _ _ c.in-Ok.ensures (ap (λ (m : MemSinkState). m.bytes) c.in-Ok-new-2.ensures) c.in-Ok-new.ensures;
  later = omega arith;
}

pub take_given-requires-clause-lines : goal.take_given-requires-clause-lines
take_given-requires-clause-lines g c = few c.in-Given.long _ _ _ _ _ _ _ c.reading.invariant.progress c.in-Given.ensures

pub take_given-requires-clause-short : goal.take_given-requires-clause-short
take_given-requires-clause-short g c = rw c.line.ensures (short c.in-Given.long _ _ _ _ c.in-Given.ensures)

pub reading-smaller : goal.reading-smaller
reading-smaller g c =
    let n = counts c.in-Given.long _ _ _ _ _ _ _ c.reading.invariant.progress c.in-Given.ensures in
    omega (arith, n.0, n.1)

pub reading-preserved : goal.reading-preserved
reading-preserved g c = record {
  progress = goes-on c.in-Given.long _ _ _ _ _ _ _ _ _ c.reading.invariant.progress c.in-Given.ensures (rw c.line.ensures at c.in-Ok-take_given.ensures);
  later = omega (arith, c.reading.invariant.later, c.in-Given.ensures.later);
}

pub returns-in-End-clause-reads : goal.returns-in-End-clause-reads
returns-in-End-clause-reads g c = ends-all _ _ _ _ _ _ _ c.reading.invariant.progress c.in-End.ensures

pub returns-in-ReadFault-clause-reads : goal.returns-in-ReadFault-clause-reads
returns-in-ReadFault-clause-reads g c = ends-fault _ _ _ _ _ _ _ c.reading.invariant.progress c.in-ReadFault.ensures

pub returns-in-ByteLimit-clause-reads : goal.returns-in-ByteLimit-clause-reads
returns-in-ByteLimit-clause-reads g c = ends-limit _ _ _ _ _ _ _ c.reading.invariant.progress c.in-ByteLimit.ensures
