use Rattle.sem_query.specs.declared.condition.Condition.TheVariants.{C1}
use Rattle.sem_query.specs.Violation.{Breaks}
use Rattle.sem_query.proofs.FirstColumns.{first_more_at, first_end_at}
use Rattle.cert_checker.proofs.breaking.first_selected.Goals as goal

pub loop-i-preserved : goal.loop-i-preserved
loop-i-preserved c = first_more_at (Breaks c.args.leaf.now.query.now c.args.leaf.now.signs.now C1) c.args.leaf.now.query.now.select _ c.loop-i.i _ c.breaks_first-counts.result c.loop-i.found _ c.select-columns.ensures.value c.loop-i-test.true c.loop-i.invariant c.breaks_first-counts.ensures.0 c.breaks_first-counts.ensures.1 c.sooner_if-first.ensures

pub returns : goal.returns
returns c = first_end_at (Breaks c.args.leaf.now.query.now c.args.leaf.now.signs.now C1) c.args.leaf.now.query.now.select _ c.loop-i.i c.loop-i.found c.select-columns.ensures.value c.loop-i-test.false c.loop-i.invariant
