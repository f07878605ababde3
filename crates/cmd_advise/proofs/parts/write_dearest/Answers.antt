use Rattle.sql_explain.proofs.Writers.{read_broke, read_wrote}
use Rattle.cmd_advise.specs.Parts.{kept_line}
use Rattle.cmd_advise.proofs.parts.write_dearest.Goals as goal

pub returns-in_err-write_part_kept : goal.returns-in_err-write_part_kept
returns-in_err-write_part_kept g c = read_broke (kept_line c.args.names.now.catalog.now c.args.names.now.from.now) c.args.parts.now c.loop-part.part-index c.part-item.result c.from_residual.result _ _ _ c.part-item.is c.from_residual.ensures.0 c.loop-part-test.true c.loop-part.invariant c.in_err-write_part_kept.ensures

pub loop-part-preserved : goal.loop-part-preserved
loop-part-preserved g c = read_wrote (kept_line c.args.names.now.catalog.now c.args.names.now.from.now) c.args.parts.now c.loop-part.part-index c.part-item.result _ _ _ c.part-item.is c.loop-part-test.true c.loop-part.invariant c.in_ok-write_part_kept.ensures
