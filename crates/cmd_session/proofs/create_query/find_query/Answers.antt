use Rattle.std.proofs.Common.{sym, ◌∙◌}
use Rattle.sql_parser.proofs.NamedAgain.{names_back}
use Rattle.cmd_session.proofs.create_query.find_query.Goals as goal

pub returns-in-Ok-clause-back : goal.returns-in-Ok-clause-back
returns-in-Ok-clause-back c = names_back c.args.catalog.now c.args.select.now c.in-Ok.query (sym c.resolve.ensures.query ∙ c.in-Ok.is)
