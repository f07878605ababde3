use Rattle.std.proofs.Common.{arith}
use Rattle.plan_parts.proofs.Steps.{before_root, not_feasible_root, denied_root}
use Rattle.plan_parts.proofs.Walks.{no_parts, parts_from, too_many}
use Rattle.plan_parts.proofs.parts.split.Goals as goal

pub returns-then-has_denial-clause-parts : goal.returns-then-has_denial-clause-parts
returns-then-has_denial-clause-parts c =
    rw c.new-parts.ensures.items (no_parts c.args.q.now (denied_root c.args.q.now (rw c.has_denial.ensures at c.if-has_denial.true)))

pub returns-then-not-satisfiable-clause-parts : goal.returns-then-not-satisfiable-clause-parts
returns-then-not-satisfiable-clause-parts c =
    rw c.new-parts.ensures.items (no_parts c.args.q.now (not_feasible_root c.args.q.now (λ s. let y = (c.satisfiable.ensures _ _ c.of_query-distances.ensures.distances).1 s in cc)))

pub walk-requires-clause-before : goal.walk-requires-clause-before
walk-requires-clause-before c =
    rw c.new.ensures (before_root c.args.q.now _ _ c.of_query-distances.ensures.limits (rw c.as_slice-2.ensures.value c.choices-choices.ensures) (omega (arith, c.as_slice-2.ensures.fits)) (rw c.has_denial.ensures at c.if-has_denial.false) c.of_query-distances.ensures.distances
    ((c.satisfiable.ensures _ _ c.of_query-distances.ensures.distances).0 c.if-not-satisfiable.false))

pub returns-in-Ok-clause-parts : goal.returns-in-Ok-clause-parts
returns-in-Ok-clause-parts c = parts_from c.args.q.now _ (rw (c.new.ensures, c.new-parts.ensures.items) at c.in-Ok.ensures)

pub returns-in-Err-clause-over : goal.returns-in-Err-clause-over
returns-in-Err-clause-over c = too_many c.in-Err.why (Unit {0}) c.args.q.now _ (rw (c.new.ensures, c.new-parts.ensures.items) at c.in-Err.ensures)
