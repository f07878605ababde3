use Rattle.cmd_advise_split.proofs.Ended.{stops-at}
use Rattle.cmd_advise_split.proofs.command.found_in.Goals as goal

pub returns-in-Some : goal.returns-in-Some
returns-in-Some c = stops-at c.args.state c.in-Some.stop c.refused.result c.refused.ensures c.in-Some.ensures
