use Rattle.std.proofs.Common.{arith, length-drop}
use Rattle.io_streams.proofs.Gathering.{Wrote-further}
use Rattle.io_streams.proofs.gathered.write_front.Goals as goal

pub writing-preserved : goal.writing-preserved
writing-preserved g c =
    let text = c.args.text.now in
    let took = c.in-Took.ensures in
    record {
      within = omega (arith, took.1, length-drop c.writing.written text, c.writing-test.true);
      wrote = Wrote-further _ _ _ text c.writing.written c.in-Took.n c.writing.invariant.wrote took.2;
    }
