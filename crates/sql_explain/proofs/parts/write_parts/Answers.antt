use Rattle.std.proofs.Common.{◌+◌, subst, sym, arith}
use Rattle.sql_explain.specs.Named.{HasPart}
use Rattle.sql_explain.specs.Text.{part_text}
use Rattle.sql_explain.proofs.Numbered.{numbered_broke, numbered_wrote, all_numbered_wrote}
use Rattle.sql_explain.proofs.parts.write_parts.Goals as goal

pub write_part-requires-clause-part : goal.write_part-requires-clause-part
write_part-requires-clause-part g c = subst (HasPart c.args.catalog.now c.args.query.now) (sym (c.get.ensures c.get.result.now)) (c.requires.parts c.loop-i.i c.get.result.now (omega arith))

pub returns-in_err-write_part : goal.returns-in_err-write_part
returns-in_err-write_part g c = numbered_broke (part_text c.args.catalog.now c.args.query.now) 1 (c.loop-i.i + 1) c.args.parts.now c.loop-i.i c.get.result.now c.from_residual.result _ _ _ (c.get.ensures c.get.result.now) (omega arith) c.from_residual.ensures.0 (omega arith) c.loop-i.invariant c.in_err-write_part.ensures

pub loop-i-preserved : goal.loop-i-preserved
loop-i-preserved g c = numbered_wrote (part_text c.args.catalog.now c.args.query.now) 1 (c.loop-i.i + 1) c.args.parts.now c.loop-i.i c.get.result.now _ _ _ (c.get.ensures c.get.result.now) (omega arith) (omega arith) c.loop-i.invariant c.in_ok-write_part.ensures

pub returns : goal.returns
returns g c = all_numbered_wrote (part_text c.args.catalog.now c.args.query.now) 1 c.args.parts.now c.loop-i.i _ _ (omega arith) c.loop-i.invariant
