use Rattle.cmd_advise_split.proofs.Taken.{live_taken}
use Rattle.cmd_advise_split.proofs.taking.take_query.Goals as goal

pub returns-in-Ok : goal.returns-in-Ok
returns-in-Ok c = live_taken c.add_query.result c.args.state.now _ c.args.name c.args.query c.args.shared c.in-Ok.keyed c.in-Ok.ensures.query c.in-Ok.ensures.shared c.in-Ok.ensures.known
    c.add_query.ensures
