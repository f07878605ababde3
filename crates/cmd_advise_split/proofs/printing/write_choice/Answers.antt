use Rattle.std.proofs.Common.{refl}
use Rattle.io_streams.proofs.Writing.{BrokeOff-then}
use Rattle.sql_explain.proofs.Writers.{broke}
use Rattle.sql_printer.proofs.WritesBehind.{writes_then, writes_stop}
use Rattle.cmd_advise_split.specs.Text.{deal_text, queries_text}
use Rattle.cmd_advise_split.proofs.printing.write_choice.Goals as goal

pub returns-in_err-write_all : goal.returns-in_err-write_all
returns-in_err-write_all g c =
    broke _ _ _ _ c.from_residual-in_err-write_all.ensures.0
    (BrokeOff-then _ _ _ (deal_text c.args.catalog.now c.args.told.now.choice) _ c.in_ok-write_deal.ensures
    (writes_stop _ _ _ (queries_text c.args.names.now c.args.told.now.judgements.items c.args.told.now.ranges.items) _ refl c.in_err-write_all.ensures))

pub returns : goal.returns
returns g c =
    let queries = rw (c.as_slice.ensures.value, c.as_slice-2.ensures.value) at c.write_queries.ensures in
    writes_then c.write_queries.result _ _ _ (deal_text c.args.catalog.now c.args.told.now.choice) _ _ refl c.in_ok-write_deal.ensures
    (writes_then c.write_queries.result _ _ _ _ (queries_text c.args.names.now c.args.told.now.judgements.items c.args.told.now.ranges.items) _ refl c.in_ok-write_all.ensures queries)
