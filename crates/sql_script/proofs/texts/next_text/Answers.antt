use Rattle.std.proofs.Common.{refl, sym, subst, arith}
use Rattle.std.proofs.lemmas.Bool.{false≢true}
use Rattle.sql_script.specs.Script.{SaysNothing}
use Rattle.sql_script.proofs.Skipping.{skipped-none, skipped-line, gives-text, gives-long, gives-end, gives-fault, gives-limit}
use Rattle.sql_script.proofs.texts.next_text.Goals as goal

pub skipping-init : goal.skipping-init
skipping-init g c = record {
  skipped = λ source front given lines. skipped-none source _ _ front given lines;
  later = omega arith;
}

pub skipping-preserved : goal.skipping-preserved
skipping-preserved g c = record {
  skipped = λ source front given lines.
      skipped-line source _ _ _ _ given (c.skipping.invariant.skipped source front given lines) c.in-Line.ensures.next
      (subst SaysNothing c.line.ensures (c.if-not-says_nothing.ensures.0 refl));
  later = omega (arith, c.skipping.invariant.later, c.in-Line.ensures.next.later);
}

pub returns-then-not-says_nothing-clause-gives : goal.returns-then-not-says_nothing-clause-gives
returns-then-not-says_nothing-clause-gives g c = λ source front given lines.
    gives-text source _ _ _ _ given (c.skipping.invariant.skipped source front given lines) c.in-Line.ensures.next
    (λ nothing. false≢true (c.if-not-says_nothing.ensures.1 (subst SaysNothing (sym c.line.ensures) nothing)))

pub returns-in-TooLong-clause-gives : goal.returns-in-TooLong-clause-gives
returns-in-TooLong-clause-gives g c = λ source front given lines. gives-long source _ _ _ _ given (c.skipping.invariant.skipped source front given lines) c.in-TooLong.ensures.next

pub returns-in-End-clause-gives : goal.returns-in-End-clause-gives
returns-in-End-clause-gives g c = λ source front given lines. gives-end source _ _ _ _ given (c.skipping.invariant.skipped source front given lines) c.in-End.ensures.next

pub returns-in-ReadFault-clause-gives : goal.returns-in-ReadFault-clause-gives
returns-in-ReadFault-clause-gives g c = λ source front given lines. gives-fault source _ _ _ _ given (c.skipping.invariant.skipped source front given lines) c.in-ReadFault.ensures.next

pub returns-in-ByteLimit-clause-gives : goal.returns-in-ByteLimit-clause-gives
returns-in-ByteLimit-clause-gives g c = λ source front given lines. gives-limit source _ _ _ _ given (c.skipping.invariant.skipped source front given lines) c.in-ByteLimit.ensures.next
