use Rattle.std.proofs.Common.{arith, refl}
use Rattle.cert_maker.proofs.AtLeaf.{next_path}
use Rattle.cert_maker.proofs.PathSteps.{adds_path}
use Rattle.cert_maker.proofs.leaf.add_path.Goals as goal

pub add-requires : goal.add-requires
add-requires c =
    let h = c.in-Some.ensures in
    rw c.path_line.ensures.is (next_path c.args.bounds.now.constraints _ record { from = c.args.from; to = c.args.to; numbers = c.in-Some.numbers } c.requires.takes c.requires.few (omega arith) (omega arith) c.requires.differ c.path_line.ensures.few h.0 h.2)

pub returns-in-Some : goal.returns-in-Some
returns-in-Some c =
    let h = c.in-Some.ensures in
    adds_path c.add.result c.args.bounds.now.constraints c.args.from c.args.to record { from = c.args.from; to = c.args.to; numbers = c.in-Some.numbers } _ _
    record { from = refl; to = refl; least = record { sum = h.0; least = h.1; chain = h.2 } } (rw c.path_line.ensures.is at c.add.ensures)
