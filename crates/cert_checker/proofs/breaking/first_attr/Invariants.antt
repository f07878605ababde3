use Rattle.std.proofs.Common.{take}
use Rattle.sem_query.specs.Query.{attrs_of}
use Rattle.sem_query.specs.Violation.{Breaks}
use Rattle.sem_query.specs.FirstBreak.{IsFirstAmong}
use Rattle.cert_checker.proofs.breaking.first_attr.Given as goal

abbrev pub invariant-loop-i : goal.invariant-loop-i
invariant-loop-i l = IsFirstAmong (Breaks l.leaf.query.now l.leaf.signs.now l.condition) (take l.i (attrs_of l.leaf.query.now.atoms)) l.found
