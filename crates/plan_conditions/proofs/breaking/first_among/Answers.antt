use Rattle.sem_query.specs.Violation.{Breaks}
use Rattle.sem_query.proofs.FirstColumns.{first_more, first_end}
use Rattle.plan_conditions.proofs.breaking.first_among.Goals as goal

pub loop-i-preserved : goal.loop-i-preserved
loop-i-preserved c = first_more (Breaks c.args.q.now c.args.p.now.signs.items c.args.condition) c.args.columns.now c.loop-i.i _ c.breaks-counts.result c.loop-i.found _ c.loop-i-test.true c.loop-i.invariant c.breaks-counts.ensures.0 c.breaks-counts.ensures.1 c.sooner_if-first.ensures

pub returns : goal.returns
returns c = first_end (Breaks c.args.q.now c.args.p.now.signs.items c.args.condition) c.args.columns.now c.loop-i.i c.loop-i.found c.loop-i-test.false c.loop-i.invariant
