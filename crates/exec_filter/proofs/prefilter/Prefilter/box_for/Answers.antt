use Rattle.std.proofs.Common.{◌∷◌, refl, arith}
use Rattle.exec_filter.proofs.PassingOn.{box_first}
use Rattle.exec_filter.proofs.prefilter.Prefilter.box_for.Goals as goal

pub returns-then-self-stream : goal.returns-then-self-stream
returns-then-self-stream c =
    box_first (c.args.self.now.front ∷ c.args.self.now.others.items) c.args.self.now.front c.args.stream c.box_of.result (omega arith) refl c.if-self-stream.true c.box_of.ensures
