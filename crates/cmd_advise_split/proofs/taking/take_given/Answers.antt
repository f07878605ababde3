use Rattle.std.proofs.Common.{Bool, sym, subst}
use Rattle.cmd_advise_split.specs.Steps.{TakesGiven}
use Rattle.cmd_advise_split.proofs.Taken.{long_taken}
use Rattle.cmd_advise_split.proofs.taking.take_given.Goals as goal

pub returns-then-long : goal.returns-then-long
returns-then-long c =
    subst (λ (b : Bool). TakesGiven b c.args.line.now c.args.state.now c.stop_at.new.self) (sym c.if-long.true) (long_taken c.args.state.now _ (sym c.in-None.ensures) c.stop_at.ensures)
