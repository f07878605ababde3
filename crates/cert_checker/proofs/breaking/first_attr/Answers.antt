use Rattle.sem_query.specs.Query.{attrs_of}
use Rattle.sem_query.specs.Violation.{Breaks}
use Rattle.sem_query.proofs.FirstColumns.{first_more_at, first_end_at}
use Rattle.cert_checker.proofs.breaking.first_attr.Goals as goal

pub loop-i-preserved : goal.loop-i-preserved
loop-i-preserved c = first_more_at (Breaks c.args.leaf.now.query.now c.args.leaf.now.signs.now c.args.condition) (attrs_of c.args.leaf.now.query.now.atoms) _ c.loop-i.i _ c.breaks_at-counts.result c.loop-i.found _ c.attrs-columns.ensures.value c.loop-i-test.true c.loop-i.invariant c.breaks_at-counts.ensures.0 c.breaks_at-counts.ensures.1 c.sooner_if-first.ensures

pub returns : goal.returns
returns c = first_end_at (Breaks c.args.leaf.now.query.now c.args.leaf.now.signs.now c.args.condition) (attrs_of c.args.leaf.now.query.now.atoms) _ c.loop-i.i c.loop-i.found c.attrs-columns.ensures.value c.loop-i-test.false c.loop-i.invariant
