use Rattle.std.proofs.Common.{take}
use Rattle.sem_query.specs.declared.condition.Condition.TheVariants.{C1}
use Rattle.sem_query.specs.Violation.{Breaks}
use Rattle.sem_query.specs.FirstBreak.{IsFirstAmong}
use Rattle.cert_checker.proofs.breaking.first_selected.Given as goal

abbrev pub invariant-loop-i : goal.invariant-loop-i
invariant-loop-i l = IsFirstAmong (Breaks l.leaf.query.now l.leaf.signs.now C1) (take l.i l.leaf.query.now.select) l.found
