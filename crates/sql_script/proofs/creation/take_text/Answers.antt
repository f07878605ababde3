use Rattle.std.proofs.Common.{refl}
use Rattle.sql_script.specs.Script.{statement_line, refused, stated}
use Rattle.sql_script.proofs.creation.take_text.Goals as goal

pub returns-in-Ok : goal.returns-in-Ok
returns-in-Ok c = record {
  line = statement_line c.args.catalog.now c.in-Ok.statement;
  is_line = stated c.in-Ok.statement c.in-Ok.ensures.0 c.in-Ok.ensures.1 refl;
  takes = c.take_statement.ensures;
}

pub returns-in-Err : goal.returns-in-Err
returns-in-Err c = record {
  line = refused c.refusal_of.result;
  is_line = c.refusal_of.ensures c.args.catalog.now;
  takes = (refl, refl);
}
