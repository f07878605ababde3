use Rattle.exec_synopsis.proofs.PrepareLaws.{pushed-length}
use Rattle.exec_part_index.proofs.TestsLaws.{asking_more}
use Rattle.exec_part_index.proofs.tests.askings_of.Goals as goal

pub pairs-preserved : goal.pairs-preserved
pairs-preserved c = record {
  many = pushed-length c.pairs.askings.items c.asking_of.result c.push.new.self.items c.pairs.pair-index c.in_ok-push.ensures.items c.pairs.invariant.many;
  are = asking_more c.args.pairs.now c.args.place c.args.tested.now c.pairs.askings.items c.push.new.self.items c.asking_of.result c.pairs.pair-index _ c.pairs.invariant.many c.in_ok-push.ensures.items c.pairs.invariant.are c.asking_of.ensures;
}
