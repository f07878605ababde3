use Rattle.std.proofs.Common.{ap, ◌∙◌}
use Rattle.cmd_advise_split.specs.State.{stopped}
use Rattle.cmd_advise_split.proofs.Taken.{asks_taken, fault_taken}
use Rattle.cmd_advise_split.proofs.taking.take_looked.Goals as goal

pub returns-in-Ok : goal.returns-in-Ok
returns-in-Ok c = asks_taken c.take_asks.result c.args.state.now _ c.args.line.now c.in-Ok.asks c.requires.stop c.in-Ok.ensures.found c.take_asks.ensures

pub returns-in-Err : goal.returns-in-Err
returns-in-Err c = fault_taken c.args.state.now _ c.args.line.now c.in-Err.fault c.requires.stop c.in-Err.ensures.found (c.stop_at.ensures ∙ ap (stopped c.args.state.now) c.word_of.ensures)
