use Rattle.sql_explain.proofs.NamedParts.{form_named}
use Rattle.sql_explain.proofs.plan.write_plan.Goals as goal

pub write_parts-requires-clause-parts : goal.write_parts-requires-clause-parts
write_parts-requires-clause-parts g c = let plan = rw c.in-Parts.is at c.requires.plan in form_named c.args.catalog.now plan.0 c.args.query.now c.in-Parts.parts c.from-from.ensures.limits c.requires.named plan.1.1
