use Rattle.std.proofs.Common.{◌∙◌}
use Rattle.cmd_session.proofs.Named.{any_name}
use Rattle.cmd_session.proofs.create_query.is_live.Goals as goal

pub returns-clause-names : goal.returns-clause-names
returns-clause-names c = c.has.ensures ∙ any_name c.args.registry.now.live c.args.name.now
