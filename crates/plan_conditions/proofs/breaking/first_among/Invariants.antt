use Rattle.std.proofs.Common.{take}
use Rattle.sem_query.specs.Violation.{Breaks}
use Rattle.sem_query.specs.FirstBreak.{IsFirstAmong}
use Rattle.plan_conditions.proofs.breaking.first_among.Given as goal

abbrev pub invariant-loop-i : goal.invariant-loop-i
invariant-loop-i l = IsFirstAmong (Breaks l.q l.p.signs.items l.condition) (take l.i l.columns) l.found
