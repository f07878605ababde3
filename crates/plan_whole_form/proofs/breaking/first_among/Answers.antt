use Rattle.std.proofs.Common.{map}
use Rattle.sem_query.proofs.FirstColumns.{first_more, first_end}
use Rattle.sem_whole.specs.Whole.{WholeBreaks}
use Rattle.plan_whole.specs.Columns.{atom_of}
use Rattle.plan_whole_form.proofs.breaking.first_among.Goals as goal

pub loop-i-preserved : goal.loop-i-preserved
loop-i-preserved c = first_more (WholeBreaks c.args.closed.now (map atom_of c.args.links.now) c.args.condition) c.args.columns.now c.loop-i.i _ c.breaks-counts.result c.loop-i.found _ c.loop-i-test.true c.loop-i.invariant c.breaks-counts.ensures.0 c.breaks-counts.ensures.1 c.sooner_if-first.ensures

pub returns : goal.returns
returns c = first_end (WholeBreaks c.args.closed.now (map atom_of c.args.links.now) c.args.condition) c.args.columns.now c.loop-i.i c.loop-i.found c.loop-i-test.false c.loop-i.invariant
