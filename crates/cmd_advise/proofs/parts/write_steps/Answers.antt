use Rattle.sql_explain.proofs.Writers.{broke}
use Rattle.sql_printer.proofs.WritesBehind.{writes_then, writes_stop}
use Rattle.cmd_advise.specs.Parts.{first_step, next_step}
use Rattle.adv_lines.proofs.Texts.{headed_item}
use Rattle.cmd_advise.proofs.parts.write_steps.Goals as goal

pub returns-in_err-write_element-in-len1-up : goal.returns-in_err-write_element-in-len1-up
returns-in_err-write_element-in-len1-up g c = broke _ _ _ _ c.from_residual.ensures.0 (writes_stop _ _ _ _ _ (headed_item (first_step c.args.names.now.catalog.now c.args.names.now.from.now) (next_step c.args.names.now.catalog.now c.args.names.now.from.now) c.args.steps.now _ c.in-len1-up.len_at_least) c.in_err-write_element-in-len1-up.ensures)

pub returns-in_ok-write_element-in-len1-up : goal.returns-in_ok-write_element-in-len1-up
returns-in_ok-write_element-in-len1-up g c = writes_then c.write_more_steps.result _ _ _ _ _ _ (headed_item (first_step c.args.names.now.catalog.now c.args.names.now.from.now) (next_step c.args.names.now.catalog.now c.args.names.now.from.now) c.args.steps.now _ c.in-len1-up.len_at_least) c.in_ok-write_element-in-len1-up.ensures c.write_more_steps.ensures
