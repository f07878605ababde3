use Rattle.std.proofs.Common.{arith}
use Rattle.sql_script.proofs.Progress.{begins, counts, goes-on, ends-query, ends-refused, ends-long, ends-before, ends-fault, ends-limit}
use Rattle.sql_script.proofs.script.read_query.Goals as goal

pub reading-init : goal.reading-init
reading-init g c = record {
  progress = begins _ _ _ c.requires.reader c.requires.none;
  later = omega arith;
}

pub reading-smaller : goal.reading-smaller
reading-smaller g c =
    let p = c.reading.invariant.progress in
    let n = counts _ _ _ _ _ _ _ p (c.in-Text.ensures.gives _ _ _ p.lines) in
    omega (arith, n.0, n.1)

pub reading-preserved : goal.reading-preserved
reading-preserved g c =
    let p = c.reading.invariant.progress in
    record {
      progress = goes-on _ _ _ _ _ _ _ p (c.in-Text.ensures.gives _ _ _ p.lines) (rw c.in-Ok-Stream.field-0-is at (rw c.line.ensures at c.in-Ok-Stream.ensures));
      later = omega (arith, c.reading.invariant.later, c.in-Text.ensures.later);
    }

pub returns-in-Ok-Query-clause-reads : goal.returns-in-Ok-Query-clause-reads
returns-in-Ok-Query-clause-reads g c =
    let p = c.reading.invariant.progress in
    ends-query _ _ _ _ _ _ _ c.in-Ok-Query.asked p (c.in-Text.ensures.gives _ _ _ p.lines) (rw c.in-Ok-Query.field-0-is at (rw c.line.ensures at c.in-Ok-Query.ensures))

pub returns-in-Err-clause-reads : goal.returns-in-Err-clause-reads
returns-in-Err-clause-reads g c =
    let p = c.reading.invariant.progress in
    ends-refused _ _ _ _ _ _ _ c.in-Err.word c.refused.result p (c.in-Text.ensures.gives _ _ _ p.lines) (rw c.line.ensures at c.in-Err.ensures) c.refused.ensures

pub returns-in-TooLong-clause-reads : goal.returns-in-TooLong-clause-reads
returns-in-TooLong-clause-reads g c =
    let p = c.reading.invariant.progress in
    ends-long _ _ _ _ _ _ c.refused-in-TooLong.result p (c.in-TooLong.ensures.gives _ _ _ p.lines) c.refused-in-TooLong.ensures

pub ended-requires : goal.ended-requires
ended-requires g c =
    let p = c.reading.invariant.progress in
    let t = c.in-End.ensures.gives _ _ _ p.lines in
    t.lines.room

pub returns-in-End-clause-reads : goal.returns-in-End-clause-reads
returns-in-End-clause-reads g c =
    let p = c.reading.invariant.progress in
    ends-before _ _ _ _ _ _ c.ended.result p (c.in-End.ensures.gives _ _ _ p.lines) c.ended.ensures

pub returns-in-ReadFault-clause-reads : goal.returns-in-ReadFault-clause-reads
returns-in-ReadFault-clause-reads g c =
    let p = c.reading.invariant.progress in
    ends-fault _ _ _ _ _ _ p (c.in-ReadFault.ensures.gives _ _ _ p.lines)

pub returns-in-ByteLimit-clause-reads : goal.returns-in-ByteLimit-clause-reads
returns-in-ByteLimit-clause-reads g c =
    let p = c.reading.invariant.progress in
    ends-limit _ _ _ _ _ _ p (c.in-ByteLimit.ensures.gives _ _ _ p.lines)
