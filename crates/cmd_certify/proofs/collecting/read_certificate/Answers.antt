use Rattle.std.proofs.Common.{arith}
use Rattle.cmd_certify.proofs.Collected.{collected-none, counts, goes-on, ends-refused, ends-long, ends-whole, ends-fault, ends-limit}
use Rattle.cmd_certify.proofs.collecting.read_certificate.Goals as goal

pub reading-init : goal.reading-init
reading-init g c = record {
  collected = λ source front given lines. collected-none source _ _ front given _ c.new-certificate.ensures lines;
  later = omega arith;
}

pub reading-smaller : goal.reading-smaller
reading-smaller g c =
    let s = c.requires.stands in
    let p = c.reading.invariant.collected s.source s.front s.given s.lines in
    let n = counts _ _ _ _ _ _ _ _ p (c.in-Text.ensures.gives _ _ _ p.lines) in
    omega (arith, n.0, n.1)

pub reading-preserved : goal.reading-preserved
reading-preserved g c = record {
  collected = λ source front given lines.
      let p = c.reading.invariant.collected source front given lines in
      goes-on source _ _ _ _ given _ _ p (c.in-Text.ensures.gives _ _ _ p.lines) (rw c.text.ensures at c.in-Ok.ensures);
  later = omega (arith, c.reading.invariant.later, c.in-Text.ensures.later);
}

pub returns-in-Err-clause-reads : goal.returns-in-Err-clause-reads
returns-in-Err-clause-reads g c = λ source front given lines.
    let p = c.reading.invariant.collected source front given lines in
    ends-refused source _ _ _ _ given _ _ c.in-Err.error c.end_at.result p (c.in-Text.ensures.gives _ _ _ p.lines) (rw c.text.ensures at c.in-Err.ensures) c.end_at.ensures

pub returns-in-TooLong-clause-reads : goal.returns-in-TooLong-clause-reads
returns-in-TooLong-clause-reads g c = λ source front given lines.
    let p = c.reading.invariant.collected source front given lines in
    ends-long source _ _ _ _ given _ c.refused.result p (c.in-TooLong.ensures.gives _ _ _ p.lines) c.refused.ensures

pub returns-in-End-clause-reads : goal.returns-in-End-clause-reads
returns-in-End-clause-reads g c = λ source front given lines.
    let p = c.reading.invariant.collected source front given lines in
    ends-whole source _ _ _ _ given _ p (c.in-End.ensures.gives _ _ _ p.lines)

pub returns-in-ReadFault-clause-reads : goal.returns-in-ReadFault-clause-reads
returns-in-ReadFault-clause-reads g c = λ source front given lines.
    let p = c.reading.invariant.collected source front given lines in
    ends-fault source _ _ _ _ given _ p (c.in-ReadFault.ensures.gives _ _ _ p.lines)

pub returns-in-ByteLimit-clause-reads : goal.returns-in-ByteLimit-clause-reads
returns-in-ByteLimit-clause-reads g c = λ source front given lines.
    let p = c.reading.invariant.collected source front given lines in
    ends-limit source _ _ _ _ given _ p (c.in-ByteLimit.ensures.gives _ _ _ p.lines)
