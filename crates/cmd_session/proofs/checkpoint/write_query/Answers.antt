use Rattle.cmd_session.proofs.Explaining.{query_is_named}
use Rattle.cmd_session.proofs.checkpoint.write_query.Goals as goal

pub write_query_line-requires : goal.write_query_line-requires
write_query_line-requires g c = query_is_named c.args.catalog.now c.query.result.now c.args.registry.now.live c.args.place c.requires.there c.requires.named c.query.ensures
