use Rattle.io_streams.proofs.Writing.{Underway-more}
use Rattle.io_streams.proofs.write.write_all.Goals as goal

pub writing-preserved : goal.writing-preserved
writing-preserved g c = Underway-more _ _ _ _ _ _ c.writing.invariant c.in-Took.ensures.2
