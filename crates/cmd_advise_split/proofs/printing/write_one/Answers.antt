use Rattle.std.proofs.Common.{refl}
use Rattle.sql_explain.proofs.Writers.{broke}
use Rattle.sql_printer.proofs.WritesBehind.{writes_then, writes_stop}
use Rattle.cmd_advise_split.specs.Text.{query_text, judgement_text, ranges_text}
use Rattle.cmd_advise_split.proofs.printing.write_one.Goals as goal

pub returns-in_err-write_query : goal.returns-in_err-write_query
returns-in_err-write_query g c =
    broke _ _ _ _ c.from_residual.ensures.0 (writes_stop _ _ (query_text c.args.name.now (judgement_text c.args.how)) (ranges_text c.args.ranges.now) _ refl c.in_err-write_query.ensures)

pub returns : goal.returns
returns g c = writes_then c.write_ranges.result _ _ _ (query_text c.args.name.now (judgement_text c.args.how)) (ranges_text c.args.ranges.now) _ refl c.in_ok-write_query.ensures c.write_ranges.ensures
